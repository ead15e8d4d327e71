-- A write touches the bytes of its page or unit, and no other.
use mathlib.Core.Path.{◌≡◌, refl, ap}
use mathlib.Core.Bool.{Bool}
use mathlib.Core.List.{List}
use Prim.Native.Nat.{ℕ, ◌+◌, ◌-◌, ◌≤◌, ◌<◌}
use native.Mathlib.Omega.{arith}
use native.Mathlib.Nat.{mod-lt}
use lib.ListN.{length, get_or}
use Rattle.lists.specs.Choice.{if◌then◌otherwise◌}
use Rattle.lists.specs.Places.{patched}
use Rattle.lists.proofs.Patched.{by_place, patched_at, patched-length}
use Rattle.rules.specs.declared.Regs.{Regs}
use Rattle.rules.specs.declared.Write.{Write}
use Rattle.rules.specs.declared.Write.TheVariants.{Program, Erase, WriteStatus}
use Rattle.rules.specs.declared.Kind.TheVariants.{Writes}
use Rattle.rules.specs.declared.Verdict.TheVariants.{CarriedOut}
use Rattle.rules.specs.Kinds.{of_write}
use Rattle.rules.specs.Part.{Part}
use Rattle.rules.specs.Cells.{programmed, erased}
use Rattle.rules.specs.Writes.{reach_start, reach_length, array_written}
use Rattle.rules.specs.Verdict.{address_of, verdict_of}
use Rattle.rules.specs.Transaction.{Turn, turn_of}
use Rattle.laws.proofs.Sound.{Sound, reach_end, size_some}
use Rattle.laws.proofs.CarriedOut.{turn_is}

-- y is one of the n places from a on
abbrev pub In : ℕ → ℕ → ℕ → Type 0
In a n y = (a ≤ y) × (y < a + n)

-- a place of a patched list, whatever is said of it: it lies in the patch, or it holds what it held
pub patched_either : (P : ℕ → Type 0) (l : List ℕ) (a n : ℕ) (f : ℕ → ℕ) (y : ℕ) → a ≤ length l
    → (In a n y → P (f (y - a))) → ((In a n y → ⊥) → P (get_or l y 0)) → P (get_or (patched l a n f) y 0)
unfolding if◌then◌otherwise◌
patched_either P l a n f y h inside outside =
    rw (patched_at l a n f y h)
    (by_place (λ (t : Bool). P (if t then f (y - a) otherwise get_or l y 0)) a n y (λ p q. inside (p, q)) (λ p. outside (λ w. omega arith)) (λ p. outside (λ w. omega arith)))

pub patched-outside : (l : List ℕ) (a n : ℕ) (f : ℕ → ℕ) (y : ℕ) → a ≤ length l → (In a n y → ⊥) → get_or (patched l a n f) y 0 ≡ get_or l y 0
patched-outside l a n f y h out = patched_either (λ v. v ≡ get_or l y 0) l a n f y h (λ w. absurd (out w)) (λ w. refl)

-- the array after a write that is carried out
pub written : (p : Part) (r : Regs) (l b : List ℕ) (x : ℕ) (high : Bool) (w : Write) → verdict_of p r b x high ≡ CarriedOut (Writes w)
    → (turn_of p r l b x high).array ≡ array_written p l b (address_of p b) w
unfolding of_write
written p r l b x high w e = ap (λ (t : Turn). t.array) (turn_is p r l b x high (CarriedOut (Writes w)) e)

module _ (p : Part) (sound : Sound p) where
  pub address_inside : (b : List ℕ) → address_of p b < p.size
  unfolding address_of
  address_inside b = mod-lt _ (omega (arith, size_some p sound))

  module _ (l b : List ℕ) (a : ℕ) (long : length l ≡ p.size) (here : a < p.size) where
    pub outside_reach : (w : Write) (y : ℕ) → (In (reach_start w a) (reach_length p w) y → ⊥) → get_or (array_written p l b a w) y 0 ≡ get_or l y 0
    unfolding programmed erased
    outside_reach Program y out = patched-outside l _ _ _ y (omega (arith, reach_end p sound Program a here)) out
    outside_reach (Erase u) y out = patched-outside l _ _ _ y (omega (arith, reach_end p sound (Erase u) a here)) out
    outside_reach WriteStatus y out = refl

    pub written_length : (w : Write) → length (array_written p l b a w) ≡ length l
    unfolding programmed erased
    written_length Program = patched-length l _ _ _ (omega (arith, reach_end p sound Program a here))
    written_length (Erase u) = patched-length l _ _ _ (omega (arith, reach_end p sound (Erase u) a here))
    written_length WriteStatus = refl
