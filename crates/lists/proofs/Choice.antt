-- Laws of choices and of tests.
use mathlib.Core.Path.{◌≡◌, refl}
use mathlib.Core.Bool.{Bool, true, false, ◌&&◌, ◌||◌}
use mathlib.Core.Logic.{◌⊎◌, inl, inr, ⊎_elim, ◌↔◌}
use Prim.Native.Nat.{ℕ}
use native.Mathlib.Omega.{arith}
use Rattle.lists.specs.Choice.{if◌then◌otherwise◌}

-- a choice whose test is known; the sides are found from the goal
pub if-true {ℓ} : {A : Type ℓ} (t : Bool) (a b : A) → t ≡ true → (if t then a otherwise b) ≡ a
unfolding if◌then◌otherwise◌
if-true t a b e = rw e

pub if-false {ℓ} : {A : Type ℓ} (t : Bool) (a b : A) → t ≡ false → (if t then a otherwise b) ≡ b
unfolding if◌then◌otherwise◌
if-false t a b e = rw e

-- for a `#[tactic]`, which names no lemma with a dash
pub ruleset choices = (if-true, if-false)

-- what holds of both sides of a choice holds of the choice
pub by_choice {ℓ} : {A : Type 0} (P : A → Type ℓ) (t : Bool) (a b : A) → P a → P b → P (if t then a otherwise b)
unfolding if◌then◌otherwise◌
by_choice P true a b h k = h
by_choice P false a b h k = k

-- what holds of a choice, but not of its first side, holds of its other
pub took_other : {A : Type 0} (P : A → Type 0) (t : Bool) (a b : A) → (P a → ⊥) → P (if t then a otherwise b) → (t ≡ false) × P b
unfolding if◌then◌otherwise◌
took_other P true a b h e = absurd (h e)
took_other P false a b h e = (refl, e)

pub both_true : (s t : Bool) → (s && t) ≡ true → (s ≡ true) × (t ≡ true)
both_true true t e = (refl, e)
both_true false t e = let z : ◌≡◌ {A = ℕ} 0 1 = cc in absurd (omega arith)

pub and_true : (t : Bool) → (t && true) ≡ t
and_true true = refl
and_true false = refl

pub both_left : (s t : Bool) → s ≡ false → (s && t) ≡ false
both_left s t e = rw e

pub either_true : (s t : Bool) → (s || t) ≡ true ↔ (s ≡ true) ⊎ (t ≡ true)
either_true true t = (inl, λ h. refl)
either_true false t = (inr, ⊎_elim (λ e. cc) (λ e. e))

pub either_false : (s t : Bool) → (s || t) ≡ false → (s ≡ false) × (t ≡ false)
either_false true t e = let z : ◌≡◌ {A = ℕ} 0 1 = cc in absurd (omega arith)
either_false false t e = (refl, e)
