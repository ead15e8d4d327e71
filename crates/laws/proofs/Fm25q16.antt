-- The FM25Q16 keeps the laws of a chip.
use Rattle.std.specs.Prelude.{Some}
use mathlib.Core.Path.{◌≡◌, refl}
use mathlib.Core.Bool.{Bool, true, ◌&&◌}
use mathlib.Core.List.{List, [], ◌∷◌}
use mathlib.Core.Logic.{◌⊎◌, ⊎_elim, ⊎_map, ◌↔◌}
use Prim.Native.Nat.{ℕ, zero, suc, ◌*◌, ◌/◌, ◌%◌, ◌≤◌, ◌<◌}
use native.Mathlib.Omega.{arith}
use lib.Dec.{lit≤}
use lib.ListN.{length, get_or}
use borrow.Author.Tests.{eqb-true, eq-eqb, leb-true, le-leb}
use Rattle.lists.specs.Choice.{if◌then◌otherwise◌, ◌=?◌, ◌≤?◌}
use Rattle.lists.proofs.Choice.{both_true, either_true, by_choice}
use Rattle.rules.specs.declared.EraseUnit.{EraseUnit}
use Rattle.rules.specs.declared.EraseUnit.TheVariants.{Sector, Block32, Block64, Chip}
use Rattle.rules.specs.declared.Write.{Write}
use Rattle.rules.specs.declared.Write.TheVariants.{Erase}
use Rattle.rules.specs.declared.Kind.{Kind}
use Rattle.rules.specs.declared.Kind.TheVariants.{ReadStatusLow, ReadStatusHigh, Wake, Writes}
use Rattle.rules.specs.declared.Regs.{Regs}
use Rattle.rules.specs.Kinds.{code_of}
use Rattle.rules.specs.Units.{page}
use Rattle.rules.specs.Part.{row_in, row_of, takes, leaves, command_of}
use Rattle.rules.specs.Status.{status_of}
use Rattle.rules.specs.Fm25q16.{fm_size, fm_commands, fm_heard_asleep, fm_heard_busy, fm_sec0, fm_sec1, fm_area, fm_lo, fm_hi, fm_first, fm_second, fm_status_written, fm_guard_bytes, fm25q16}
use Rattle.rules.specs.Transaction.{regs_done}
use Rattle.rules.specs.Job.{guarded}
use Rattle.rules.specs.Records.{erase_bytes}
use Rattle.rules.proofs.Apart.{code_back}
use Rattle.laws.proofs.Rows.{byte_codes, unlisted_in, distinct_codes}
use Rattle.laws.proofs.Flags.{flag_small}
use Rattle.laws.proofs.Sound.{Sound}
use Rattle.laws.proofs.Tapeable.{Offers, Tapeable}
use Rattle.laws.proofs.Steady.{Steady}

-- ---- sound

-- a whole number of pages within the chip: a record, so that the number is found at a use
record Area (n : ℕ) : Type 0 where
  whole : n % page ≡ 0
  small : n ≤ fm_size

area : {n : ℕ} → n % page ≡ 0 → n ≤ fm_size → Area n
area h k = record { whole = h; small = k }

-- a test of a whole table, which is computed, and what it says of each place
tested : List ℕ → Bool
tested [] = true
tested (n ∷ ns) = (n % page =? 0) && (n ≤? fm_size) && tested ns

tested_at : (ns : List ℕ) → tested ns ≡ true → (i : ℕ) → Area (get_or ns i 0)
unfolding tested
tested_at [] e i = area refl (lit≤ tt)
tested_at (n ∷ ns) e zero =
    let b = both_true (n % page =? 0) (n ≤? fm_size) (both_true ((n % page =? 0) && (n ≤? fm_size)) (tested ns) e).0 in
    area (eqb-true _ _ b.0) (leb-true _ _ b.1)
tested_at (n ∷ ns) e (suc i) = tested_at ns (both_true ((n % page =? 0) && (n ≤? fm_size)) (tested ns) e).1 i

fm_area_lem : (s : ℕ) → Area (fm_area s)
unfolding fm_area fm_sec0 fm_sec1 tested
fm_area_lem s = by_choice Area _ _ _ (tested_at fm_sec0 refl (s % 8)) (tested_at fm_sec1 refl (s % 8))

fm_lo_lem : (s : ℕ) → Area (fm_lo s)
unfolding fm_lo
fm_lo_lem s =
    let a = fm_area_lem s in
    let w = a.whole in
    let k = a.small in
    by_choice Area _ _ _ (area (omega arith) (omega arith)) (area refl (lit≤ tt))

fm_hi_lem : (s : ℕ) → Area (fm_hi s)
unfolding fm_hi
fm_hi_lem s = by_choice Area _ _ _ (area refl (lit≤ tt)) (fm_area_lem s)

pub fm_area_small : (s : ℕ) → fm_area s ≤ fm_size
fm_area_small s = (fm_area_lem s).small

pub fm_sound : Sound fm25q16
unfolding fm25q16 fm_commands byte_codes unlisted_in distinct_codes
fm_sound =
    record {
      blocks = 32;
      size_is = refl;
      not_empty = lit≤ tt;
      few = lit≤ tt;
      lo_page = λ s. (fm_lo_lem s).whole;
      hi_page = λ s. (fm_hi_lem s).whole;
      settings = lit≤ tt;
      has_byte_codes = refl;
      has_distinct_codes = refl;
    }

-- ---- tapeable

unit_erased : (u : EraseUnit) (a : ℕ) → Offers fm25q16 (Writes (Erase u)) (length (erase_bytes u a))
unfolding fm25q16 row_of row_in fm_commands takes leaves if◌then◌otherwise◌
unit_erased Sector a = record { known = refl; shape = refl }
unit_erased Block32 a = record { known = refl; shape = refl }
unit_erased Block64 a = record { known = refl; shape = refl }
unit_erased Chip a = record { known = refl; shape = refl }

guard_written : (r : Regs) (g : ℕ) → g ≤ 31 → fm_status_written r (fm_guard_bytes g) ≡ guarded fm25q16 r g
unfolding fm25q16 fm_status_written fm_guard_bytes fm_first fm_second if◌then◌otherwise◌
guard_written r g h =
    let s : 4 * g / 4 % 32 ≡ g = omega arith in
    let z : 4 * g / 128 % 2 ≡ 0 = omega arith in
    rw (s, z)

pub fm_tapeable : Tapeable fm25q16
unfolding fm25q16 row_of row_in fm_commands takes leaves fm_guard_bytes if◌then◌otherwise◌
fm_tapeable =
    record {
      sound = fm_sound;
      enables = record { known = refl; shape = refl };
      programs = λ n h. record { known = refl; shape = rw (le-leb 5 n h) };
      unit_erased = λ u a e. unit_erased u a;
      guards = λ g h. record { known = refl; shape = refl };
      guard_code = λ g. refl;
      guard_some = λ g. lit≤ tt;
      guard_short = λ g. lit≤ tt;
      guard_written = guard_written;
    }

-- ---- steady

-- "asleep and not AB", "busy and neither 05 nor 35"
pub heard_asleep_lem : (op : ℕ) → fm_heard_asleep op ≡ true ↔ op ≡ 0xAB
unfolding fm_heard_asleep
heard_asleep_lem op = (eqb-true op 0xAB, eq-eqb op 0xAB)

pub heard_busy_lem : (op : ℕ) → fm_heard_busy op ≡ true ↔ (op ≡ 0x05) ⊎ (op ≡ 0x35)
unfolding fm_heard_busy ⊎_map
heard_busy_lem op =
    let h = either_true (op =? 0x05) (op =? 0x35) in
    (λ e. ⊎_map (eqb-true op 0x05) (eqb-true op 0x35) (h.0 e), λ e. h.1 (⊎_map (eq-eqb op 0x05) (eq-eqb op 0x35) e))

-- a code of the kind j says no other kind
says : (op : ℕ) (j k : Kind) → op ≡ code_of j → command_of fm25q16 op ≡ Some k → j ≡ k
unfolding fm25q16 row_of
says op j k e q = let c = code_back j in cc

busy_quiet : (op : ℕ) (k : Kind) → fm_heard_busy op ≡ true → command_of fm25q16 op ≡ Some k → (r : Regs) (b : List ℕ) → regs_done fm25q16 r b k ≡ r
busy_quiet op k h e r b =
    ⊎_elim (λ q. rw (← says op ReadStatusLow k q e)) (λ q. rw (← says op ReadStatusHigh k q e)) ((heard_busy_lem op).0 h)

asleep_quiet : (op : ℕ) (w : Write) → fm_heard_asleep op ≡ true → command_of fm25q16 op ≡ Some (Writes w) → ⊥
asleep_quiet op w h e =
    let q = says op Wake (Writes w) ((heard_asleep_lem op).0 h) e in
    let z : ◌≡◌ {A = ℕ} 0 1 = cc in
    omega arith

-- a status write, whether it has a second byte or not
record StatusKept (r after : Regs) : Type 0 where
  small : after.setting < 32
  wel : after.wel ≡ r.wel
  awake : after.awake ≡ r.awake

fm_written : (r : Regs) (b : List ℕ) → StatusKept r (fm_status_written r b)
unfolding fm_status_written fm_first fm_second
fm_written r b =
    by_choice (StatusKept r) (length b =? 3) _ _
    (record { small = omega arith; wel = refl; awake = refl })
    (record { small = omega arith; wel = refl; awake = refl })

-- S10 to S15 are 0 whatever the registers
word_small : (r : Regs) → r.setting < 32 → status_of r < 1024
unfolding status_of
word_small r h =
    omega (arith, flag_small r.busy, flag_small r.wel, flag_small r.srp0, flag_small r.srp1, flag_small r.qe)

pub fm_steady : Steady fm25q16
unfolding fm25q16
fm_steady =
    record {
      ends = lit≤ tt;
      low_bits = refl;
      busy_quiet = busy_quiet;
      asleep_quiet = asleep_quiet;
      sleepless = λ e. let z : ◌≡◌ {A = ℕ} 0 1 = cc in absurd (omega arith);
      status_held = λ r b h. word_small (fm_status_written r b) (fm_written r b).small;
      status_small = λ r b. (fm_written r b).small;
      status_wel = λ r b. (fm_written r b).wel;
      status_awake = λ r b. (fm_written r b).awake;
    }
