-- Laws of joined tests and of checks that the theorems share.
use Rattle.std.specs.Prelude.{Ok, Err}
use mathlib.Core.Path.{◌≡◌, refl, sym}
use mathlib.Core.Bool.{Bool, true, false, not, ◌&&◌, ◌||◌}
use mathlib.Core.Logic.{◌⊎◌, inl, inr, ⊎_elim, ◌↔◌}
use Prim.Native.Nat.{ℕ, ◌≤◌, ◌<◌}
use native.Mathlib.Omega.{arith}
use borrow.Author.Tests.{eqb-true, eq-eqb, leb-true, le-leb, ltb-true, lt-ltb}
use Rattle.lists.specs.Choice.{◌=?◌, ◌<?◌, ◌≤?◌}
use Rattle.rules.specs.declared.Refusal.{Refusal}
use Rattle.rules.specs.Refusals.{number_of, index_of, Checked, passes, refused, answered}
use Rattle.claims.specs.TurnedAway.{Refuses}

-- true is not false
pub never : {A : Type 0} → ◌≡◌ {A = Bool} true false → A
never q = let c : ◌≡◌ {A = ℕ} 0 1 = cc in absurd (omega arith)

-- what holds of both answers of an entry holds of the one that it gives
pub by_check : {A : Type 0} (P : A → Type 0) (c : Checked) (a : A) (b : Refusal → A) → P a → ((z : Refusal) → P (b z)) → P (answered c a b)
unfolding answered
by_check P (Ok u) a b h k = h
by_check P (Err z) a b h k = k z

-- a refusal is one with its own number and index
pub refuses_told : (c : Checked) (z : Refusal) → c ≡ refused z → Refuses c (number_of z) (index_of z)
refuses_told c z e = rw e (refl, refl)

-- what passes is refused with none
pub refuses_not : (c : Checked) (n i : ℕ) → c ≡ passes → Refuses c n i → ⊥
refuses_not c n i e = rw e (λ h. h)

pub both_false : (s t : Bool) → (s && t) ≡ false ↔ (s ≡ false) ⊎ (t ≡ false)
both_false true t = (inr, ⊎_elim (λ e. cc) (λ e. e))
both_false false t = (inl, λ h. refl)

-- ---- tests and what they say

pub =?-is : (a b : ℕ) → (a =? b) ≡ true ↔ a ≡ b
=?-is a b = (eqb-true a b, eq-eqb a b)

pub ≤?-is : (a b : ℕ) → (a ≤? b) ≡ true ↔ a ≤ b
≤?-is a b = (leb-true a b, le-leb a b)

pub <?-is : (a b : ℕ) → (a <? b) ≡ true ↔ a < b
<?-is a b = (ltb-true a b, lt-ltb a b)

pub not_is : (t : Bool) (A : Type 0) → t ≡ true ↔ A → not t ≡ true ↔ (A → ⊥)
not_is true A h = (λ e. never (sym e), λ f. absurd (f (h.0 refl)))
not_is false A h = (λ e a. never (sym (h.1 a)), λ f. refl)

-- .. and what they say where they fail
pub fails_is : (t : Bool) (A : Type 0) → t ≡ true ↔ A → t ≡ false ↔ (A → ⊥)
fails_is true A h = (λ e. never e, λ f. absurd (f (h.0 refl)))
fails_is false A h = (λ e a. never (sym (h.1 a)), λ f. refl)

pub or_is : (s t : Bool) (A B : Type 0) → s ≡ true ↔ A → t ≡ true ↔ B → (s || t) ≡ true ↔ A ⊎ B
or_is true t A B h k = (λ e. inl (h.0 refl), λ e. refl)
or_is false t A B h k = (λ e. inr (k.0 e), ⊎_elim (λ a. never (sym (h.1 a))) k.1)

pub or_or_is : (s t u : Bool) (A B C : Type 0) → s ≡ true ↔ A → t ≡ true ↔ B → u ≡ true ↔ C → (s || t || u) ≡ true ↔ A ⊎ B ⊎ C
or_or_is true t u A B C h k i = (λ e. inl (h.0 refl), λ e. refl)
or_or_is false t u A B C h k i =
    let q = or_is t u B C k i in
    (λ e. inr (q.0 e), ⊎_elim (λ a. never (sym (h.1 a))) q.1)

pub or_or_or_is : (s t u v : Bool) (A B C D : Type 0) → s ≡ true ↔ A → t ≡ true ↔ B → u ≡ true ↔ C → v ≡ true ↔ D
    → (s || t || u || v) ≡ true ↔ A ⊎ B ⊎ C ⊎ D
or_or_or_is true t u v A B C D h k i j = (λ e. inl (h.0 refl), λ e. refl)
or_or_or_is false t u v A B C D h k i j =
    let q = or_or_is t u v B C D k i j in
    (λ e. inr (q.0 e), ⊎_elim (λ a. never (sym (h.1 a))) q.1)
