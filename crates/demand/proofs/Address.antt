-- The address that a tape sends comes back at the chip.
use mathlib.Core.Path.{◌≡◌, refl, ap}
use mathlib.Core.List.{List, [], ◌∷◌, ◌++◌}
use Prim.Native.Nat.{ℕ, ◌+◌, ◌*◌, ◌/◌, ◌%◌, ◌<◌}
use native.Mathlib.Omega.{arith}
use native.Mathlib.Nat.{mod-eq_of_lt}
use Rattle.rules.specs.declared.EraseUnit.{EraseUnit}
use Rattle.rules.specs.declared.EraseUnit.TheVariants.{Sector, Block32, Block64, Chip}
use Rattle.rules.specs.Part.{Part}
use Rattle.rules.specs.Units.{unit_start}
use Rattle.rules.specs.Verdict.{address_of}
use Rattle.rules.specs.Records.{address_bytes, erase_bytes}
use Rattle.laws.proofs.Sound.{Sound, size_small}

-- three bytes, high first
pub address_back : (p : Part) → Sound p → (o a : ℕ) (bs : List ℕ) → a < p.size → address_of p (o ∷ address_bytes a ++ bs) ≡ a
unfolding address_of
address_back p h o a bs l =
    let e : a / 65536 % 256 * 65536 + a / 256 % 256 * 256 + a % 256 ≡ a = omega (arith, size_small p h) in
    rw e (mod-eq_of_lt l)

-- "the unit holding the address"
pub unit_back : (p : Part) → Sound p → (u : EraseUnit) (a : ℕ) → a < p.size → unit_start u (address_of p (erase_bytes u a)) ≡ unit_start u a
unit_back p h Sector a l = ap (unit_start Sector) (address_back p h _ a [] l)
unit_back p h Block32 a l = ap (unit_start Block32) (address_back p h _ a [] l)
unit_back p h Block64 a l = ap (unit_start Block64) (address_back p h _ a [] l)
unit_back p h Chip a l = refl
