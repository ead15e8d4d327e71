-- Document 01: "erase the 4, 32, 64 KB unit holding the address"; "erase all".
use mathlib.Core.Path.{◌≡◌}
use mathlib.Core.Bool.{Bool}
use mathlib.Core.List.{List}
use Prim.Native.Nat.{ℕ, ◌<◌}
use native.Mathlib.Omega.{arith}
use lib.ListN.{length, get_or}
use Rattle.lists.proofs.Patched.{patched_inside}
use Rattle.rules.specs.declared.EraseUnit.{EraseUnit}
use Rattle.rules.specs.declared.EraseUnit.TheVariants.{Sector, Block32, Block64, Chip}
use Rattle.rules.specs.declared.Kept.{Kept}
use Rattle.rules.specs.declared.Meter.{Meter}
use Rattle.rules.specs.declared.Regs.{Regs}
use Rattle.rules.specs.declared.Write.TheVariants.{Erase}
use Rattle.rules.specs.declared.Kind.TheVariants.{Writes}
use Rattle.rules.specs.declared.Verdict.TheVariants.{CarriedOut}
use Rattle.rules.specs.Units.{unit_start, unit_length}
use Rattle.rules.specs.Part.{Part}
use Rattle.rules.specs.Parts.{part_of}
use Rattle.rules.specs.Status.{regs_of}
use Rattle.rules.specs.Cells.{erased}
use Rattle.rules.specs.Verdict.{address_of, verdict_of}
use Rattle.rules.specs.Transaction.{turn_of}
use Rattle.rules.specs.Transact.{is_high, transact_of}
use Rattle.laws.proofs.Sound.{Sound, unit_end}
use Rattle.laws.proofs.Parts.{part_sound}
use Rattle.claims.proofs.Reach.{In, written, address_inside, outside_reach, written_length}
use Rattle.claims.proofs.Entry.{FirstSays, answered_0, carried_as}

-- y is a byte of the unit u that holds address a
abbrev pub InUnit : Part → EraseUnit → ℕ → ℕ → Type 0
InUnit p u a y = In (unit_start u a) (unit_length p.size u) y

pub record UnitErased (p : Part) (u : EraseUnit) (a : ℕ) (l after : List ℕ) : Type 0 where
  pub holds : InUnit p u a a
  pub inside : (y : ℕ) → InUnit p u a y → get_or after y 0 ≡ 0xFF
  pub outside : (y : ℕ) → (InUnit p u a y → ⊥) → get_or after y 0 ≡ get_or l y 0
  pub long : length after ≡ length l

in_unit : (p : Part) (u : EraseUnit) (a : ℕ) → a < p.size → InUnit p u a a
in_unit p Sector a h = omega arith
in_unit p Block32 a h = omega arith
in_unit p Block64 a h = omega arith
in_unit p Chip a h = omega arith

pub erase_is_its_unit : (p : Part) → Sound p → (r : Regs) (l b : List ℕ) (x : ℕ) (high : Bool) (u : EraseUnit) → length l ≡ p.size
    → verdict_of p r b x high ≡ CarriedOut (Writes (Erase u))
    → UnitErased p u (address_of p b) l (turn_of p r l b x high).array
unfolding erased
erase_is_its_unit p sound r l b x high u long e =
    let a = address_of p b in
    let here = address_inside p sound b in
    rw (written p r l b x high (Erase u) e)
    (record {
      holds = in_unit p u a here;
      inside = λ y h. patched_inside l (unit_start u a) (unit_length p.size u) _ y (omega (arith, unit_end p sound u a here)) h.0 h.1;
      outside = outside_reach p sound l b a long here (Erase u);
      long = written_length p sound l b a long here (Erase u);
    })

-- .. and so in what a caller of the entry is left with: a transaction whose first byte says an erase, and which answers 0
pub erase_is_its_unit_lent : (part : ℕ) (kept : Kept) (m : Meter) (l o b : List ℕ) (x wp : ℕ) (u : EraseUnit)
    → FirstSays part b (Writes (Erase u)) → (transact_of part kept m l o b x wp).answer.number ≡ 0
    → UnitErased (part_of part) u (address_of (part_of part) b) l (transact_of part kept m l o b x wp).array
erase_is_its_unit_lent part kept m l o b x wp u says n =
    let h = answered_0 part kept m l o b x wp n in
    let e = carried_as part kept m l o b x wp (Writes (Erase u)) h.0 says h.1.carried in
    rw h.1.array-is
    (erase_is_its_unit (part_of part) (part_sound part) (regs_of kept) l b x (is_high wp) u h.1.unrefused.begun.long e)
