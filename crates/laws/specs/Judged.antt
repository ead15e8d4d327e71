-- The verdict in pieces, each the tests that one function of the code makes. `proofs/Judged` shows that they are `verdict_of`.
use Rattle.std.specs.Prelude.{ℕ, Bool, not, Option, Some, None}
use Rattle.lists.specs.Choice.{if◌then◌otherwise◌, ◌=?◌}
use Rattle.rules.specs.declared.Regs.{Regs}
use Rattle.rules.specs.declared.Kind.{Kind}
use Rattle.rules.specs.declared.Write.{Write}
use Rattle.rules.specs.declared.Verdict.{Verdict}
use Rattle.rules.specs.declared.Reason.TheVariants.{Busy, Asleep, NoCommand, Misshapen, NotEnabled, Locked, Protected}
use Rattle.rules.specs.declared.Verdict.TheVariants.{CarriedOut, Ignored}
use Rattle.rules.specs.Kinds.{of_write, of_known}
use Rattle.rules.specs.Part.{Part}
use Rattle.rules.specs.Protection.{first_protected}
use Rattle.rules.specs.Writes.{reach_start, reach_length, locked_out}
use Rattle.rules.specs.Verdict.{unheard_asleep, unheard_busy}

-- 16, or carried out
abbrev pub protection_verdict : Kind → Option ℕ → Verdict
protection_verdict k (Some x) = Ignored Protected
protection_verdict k None = CarriedOut k

-- 14, 15, 16, or carried out: a write of kind k at address a
unfoldable pub write_verdict : Part → Regs → Bool → ℕ → Kind → Write → Verdict
write_verdict p r high a k w =
    if not r.wel then Ignored NotEnabled otherwise
    if locked_out w r high then Ignored Locked otherwise
    protection_verdict k (first_protected p r.setting (reach_start w a) (reach_length p w))

-- 13, or what the kind asks: its bytes and bits fit, or they do not
unfoldable pub kind_verdict : Part → Regs → Bool → Bool → ℕ → Kind → Verdict
kind_verdict p r fit high a k =
    if not fit then Ignored Misshapen otherwise
    of_write k (CarriedOut k) (write_verdict p r high a k)

-- 12, 11, 10, 12, or what a known command asks: op, the first of n bytes, says c to the chip
unfoldable pub judge_of : Part → Regs → ℕ → Bool → Bool → ℕ → ℕ → Option Kind → Verdict
judge_of p r n fit high op a c =
    if n =? 0 then Ignored NoCommand otherwise
    if unheard_asleep p r op then Ignored Asleep otherwise
    if unheard_busy p r op then Ignored Busy otherwise
    of_known c (Ignored NoCommand) (kind_verdict p r fit high a)
