-- Loops that look at one place after the other.
use mathlib.Core.Path.{◌≡◌, refl, sym, ap, ◌∙◌}
use mathlib.Core.Bool.{Bool, true, false, ◌&&◌, and_assoc}
use Prim.Native.Nat.{ℕ, zero, suc, ◌+◌, ◌<◌}
use native.Mathlib.Omega.{arith}
use native.Mathlib.Nat.{add-zero}
use lib.Bits.{bit_or, or_add_and, and_le_r, or_zero_l}
use lib.Dec.{eqb}
use borrow.Author.Tests.{eqb-true, eqb-false, ne_eqb}
use Rattle.lists.specs.Choice.{◌=?◌}
use Rattle.lists.specs.Places.{every_in}
use Rattle.lists.proofs.Choice.{and_true}

-- ---- a test at every place

-- one place more
pub every_more : (f : ℕ → Bool) (a n : ℕ) → every_in f a (n + 1) ≡ (every_in f a n && f (a + n))
unfolding every_in
every_more f a zero = rw add-zero (and_true (f a))
every_more f a (suc n) =
    let e : suc n + 1 ≡ suc (n + 1) = omega arith in
    let d : suc a + n ≡ a + suc n = omega arith in
    rw e (ap (λ (t : Bool). f a && t) (every_more f (suc a) n ∙ ap (λ (x : ℕ). every_in f (suc a) n && f x) d)
    ∙ sym (and_assoc (f a) (every_in f (suc a) n) (f (a + suc n))))

-- two tests that agree, each at its own places
pub every_same : (f g : ℕ → Bool) (a b n : ℕ) → ((j : ℕ) → j < n → f (a + j) ≡ g (b + j)) → every_in f a n ≡ every_in g b n
unfolding every_in
every_same f g a b zero h = refl
every_same f g a b (suc n) h =
    let ih = every_same f g (suc a) (suc b) n
    (λ j k. let d : suc a + j ≡ a + suc j = omega arith in
    let e : suc b + j ≡ b + suc j = omega arith in
    rw (d, e) (h (suc j) (omega arith))) in
    let z = rw (add-zero a, add-zero b) at (h 0 (omega arith)) in
    λ i. z i && ih i

-- numbers joined by OR are 0 exactly where each is
pub or_zero : (a b : ℕ) → (bit_or a b =? 0) ≡ ((a =? 0) && (b =? 0))
or_zero a b = go (eqb a 0) refl
  where
    go : (t : Bool) → eqb a 0 ≡ t → eqb (bit_or a b) 0 ≡ (t && eqb b 0)
    go true e = rw (eqb-true a 0 e, or_zero_l b)
    go false e =
        let h = eqb-false a 0 e in
        ne_eqb (bit_or a b) 0 (λ q. h (omega (arith, or_add_and a b, and_le_r a b)))
