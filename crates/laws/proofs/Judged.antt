-- The pieces of the verdict, put together: the one equation that lets code judge by steps.
use Rattle.std.specs.Prelude.{Option, Some, None, is_some}
use mathlib.Core.Path.{◌≡◌, refl, ap}
use mathlib.Core.Bool.{Bool, not}
use mathlib.Core.List.{List}
use Prim.Native.Nat.{ℕ}
use lib.ListN.{length, get_or}
use Rattle.lists.specs.Choice.{if◌then◌otherwise◌, ◌=?◌}
use Rattle.rules.specs.declared.Regs.{Regs}
use Rattle.rules.specs.declared.Kind.{Kind}
use Rattle.rules.specs.declared.Kind.TheVariants.{WriteEnable, WriteDisable, ReadStatusLow, ReadStatusHigh, Read, FastRead, Sleep, Wake, ReadMakerDevice, ReadJedec, Writes}
use Rattle.rules.specs.declared.Verdict.{Verdict}
use Rattle.rules.specs.declared.Reason.TheVariants.{Busy, Asleep, NoCommand, Misshapen, NotEnabled, Locked, Protected}
use Rattle.rules.specs.declared.Verdict.TheVariants.{CarriedOut, Ignored}
use Rattle.rules.specs.Kinds.{of_write, of_known}
use Rattle.rules.specs.Part.{Part, command_of, shaped}
use Rattle.rules.specs.Protection.{first_protected, some_protected}
use Rattle.rules.specs.Writes.{reach_start, reach_length, locked_out}
use Rattle.rules.specs.Verdict.{address_of, is_unknown, not_enabled, status_locked, touches_protected, carried_out, unheard_asleep, unheard_busy, verdict_of}
use Rattle.laws.specs.Judged.{protection_verdict, write_verdict, kind_verdict, judge_of}

-- the tests from 12, unknown command, on
abbrev from_unknown : Part → Regs → Bool → Bool → ℕ → Option Kind → Verdict
from_unknown p r fit high a c =
    if is_unknown c then Ignored NoCommand otherwise
    if not fit then Ignored Misshapen otherwise
    if not_enabled r c then Ignored NotEnabled otherwise
    if status_locked r high c then Ignored Locked otherwise
    if touches_protected p r a c then Ignored Protected otherwise
    carried_out c

-- .. of a found byte or none
by_found : (k : Kind) (f : Option ℕ) → (if is_some f then Ignored Protected otherwise CarriedOut k) ≡ protection_verdict k f
unfolding if◌then◌otherwise◌
by_found k (Some x) = refl
by_found k None = refl

module _ (p : Part) (r : Regs) (fit high : Bool) (a : ℕ) where
  -- a kind that writes nothing passes 14, 15 and 16
  pieces : (c : Option Kind) → from_unknown p r fit high a c ≡ of_known c (Ignored NoCommand) (kind_verdict p r fit high a)
  unfolding of_known of_write kind_verdict write_verdict some_protected if◌then◌otherwise◌
  pieces None = refl
  pieces (Some WriteEnable) = refl
  pieces (Some WriteDisable) = refl
  pieces (Some ReadStatusLow) = refl
  pieces (Some ReadStatusHigh) = refl
  pieces (Some Read) = refl
  pieces (Some FastRead) = refl
  pieces (Some Sleep) = refl
  pieces (Some Wake) = refl
  pieces (Some ReadMakerDevice) = refl
  pieces (Some ReadJedec) = refl
  pieces (Some (Writes w)) =
      ap
      (λ (v : Verdict). if not fit then Ignored Misshapen otherwise if not r.wel then Ignored NotEnabled otherwise if locked_out w r high then Ignored Locked otherwise v)
      (by_found (Writes w) (first_protected p r.setting (reach_start w a) (reach_length p w)))

pub verdict_judged : (p : Part) (r : Regs) (b : List ℕ) (x : ℕ) (high : Bool)
    → verdict_of p r b x high ≡ judge_of p r (length b) (shaped p (get_or b 0 0) (length b) x) high (get_or b 0 0) (address_of p b) (command_of p (get_or b 0 0))
unfolding verdict_of judge_of
verdict_judged p r b x high =
    let op = get_or b 0 0 in
    ap
    (λ (v : Verdict). if length b =? 0 then Ignored NoCommand otherwise if unheard_asleep p r op then Ignored Asleep otherwise if unheard_busy p r op then Ignored Busy otherwise v)
    (pieces p r (shaped p op (length b) x) high (address_of p b) (command_of p op))
