-- Searches say what they should: none where no place passes the test, else the lowest that does.
use Rattle.std.specs.Prelude.{Option, Some, None}
use mathlib.Core.Path.{◌≡◌, refl, sym, ap, ◌∙◌, subst}
use mathlib.Core.Bool.{Bool, true, false, ◌&&◌}
use mathlib.Core.Logic.{⊎_elim}
use Prim.Native.Nat.{ℕ, zero, suc, ◌+◌, ◌≤◌, ◌<◌, min, max}
use native.Mathlib.Omega.{arith}
use native.Mathlib.Nat.{eq-or-lt_of_le}
use lib.Dec.{ltb, leb}
use borrow.Author.Tests.{lt-ltb, le-ltb, ltb-true, ltb-false, leb-true, leb-false}
use Rattle.lists.specs.Choice.{if◌then◌otherwise◌, ◌<?◌, ◌≤?◌}
use Rattle.lists.specs.Places.{first_in, every_in}
use Rattle.lists.proofs.Choice.{both_true}

-- x is the lowest of the n numbers from a on at which the test holds
pub record Lowest (f : ℕ → Bool) (a n x : ℕ) : Type 0 where
  pub from : a ≤ x
  pub below : x < a + n
  pub holds : f x ≡ true
  pub before : (y : ℕ) → a ≤ y → y < x → f y ≡ false

pub first_none : (f : ℕ → Bool) (a n : ℕ) → first_in f a n ≡ None → (y : ℕ) → a ≤ y → y < a + n → f y ≡ false
unfolding first_in if◌then◌otherwise◌
first_none f a zero e y h k = absurd (omega arith)
first_none f a (suc n) e y h k = go (f a) refl e (first_none f (suc a) n)
  where
    go : (t : Bool) → f a ≡ t → (if t then Some a otherwise first_in f (suc a) n) ≡ None
        → (first_in f (suc a) n ≡ None → (z : ℕ) → suc a ≤ z → z < suc a + n → f z ≡ false) → f y ≡ false
    go true q e ih = let z : ◌≡◌ {A = ℕ} 0 1 = cc in absurd (omega arith)
    go false q e ih = ⊎_elim (λ s. subst (λ (z : ℕ). f z ≡ false) s q) (λ l. ih e y l (omega arith)) (eq-or-lt_of_le h)

pub first_at : (f : ℕ → Bool) (a n x : ℕ) → first_in f a n ≡ Some x → Lowest f a n x
unfolding first_in if◌then◌otherwise◌
first_at f a zero x e = let z : ◌≡◌ {A = ℕ} 0 1 = cc in absurd (omega arith)
first_at f a (suc n) x e = go (f a) refl e (first_at f (suc a) n x)
  where
    go : (t : Bool) → f a ≡ t → (if t then Some a otherwise first_in f (suc a) n) ≡ Some x → (first_in f (suc a) n ≡ Some x → Lowest f (suc a) n x) → Lowest f a (suc n) x
    go true q e ih =
        let s : a ≡ x = cc in
        record { from = omega arith; below = omega arith; holds = subst (λ (z : ℕ). f z ≡ true) s q; before = λ y h k. absurd (omega arith) }
    go false q e ih =
        let l = ih e in
        let h1 = l.from in
        let h2 = l.below in
        record {
          from = omega arith;
          below = omega arith;
          holds = l.holds;
          before = λ y h k. ⊎_elim (λ s. subst (λ (z : ℕ). f z ≡ false) s q) (λ m. l.before y m k) (eq-or-lt_of_le h);
        }

-- where no place passes the test, nothing is found
pub none_first : (f : ℕ → Bool) (a n : ℕ) → ((y : ℕ) → a ≤ y → y < a + n → f y ≡ false) → first_in f a n ≡ None
unfolding first_in if◌then◌otherwise◌
none_first f a zero h = refl
none_first f a (suc n) h =
    let ih = none_first f (suc a) n (λ y p q. h y (omega arith) (omega arith)) in
    rw (h a (omega arith) (omega arith)) ih

-- ---- the first number of a stretch that lies in another

-- the first of the n numbers from a on that lies in [lo, hi)
abbrev pub overlap : ℕ → ℕ → ℕ → ℕ → Option ℕ
overlap lo hi a n = if max a lo <? min (a + n) hi then Some (max a lo) otherwise None

abbrev inside : ℕ → ℕ → ℕ → Bool
inside lo hi x = (lo ≤? x) && (x <? hi)

pub overlap_yes : (lo hi a n x : ℕ) → max a lo ≡ x → x < min (a + n) hi → overlap lo hi a n ≡ Some x
unfolding if◌then◌otherwise◌
overlap_yes lo hi a n x e h = rw (lt-ltb (max a lo) (min (a + n) hi) (omega arith)) (ap Some e)

pub overlap_no : (lo hi a n : ℕ) → min (a + n) hi ≤ max a lo → overlap lo hi a n ≡ None
unfolding if◌then◌otherwise◌
overlap_no lo hi a n h = rw (le-ltb (max a lo) (min (a + n) hi) h)

pub first_overlap : (lo hi a n : ℕ) → first_in (inside lo hi) a n ≡ overlap lo hi a n
unfolding first_in if◌then◌otherwise◌
first_overlap lo hi a zero = sym (overlap_no lo hi a 0 (omega arith))
first_overlap lo hi a (suc n) = go (leb lo a) (ltb a hi) refl refl (first_overlap lo hi (suc a) n)
  where
    go : (t u : Bool) → leb lo a ≡ t → ltb a hi ≡ u → first_in (inside lo hi) (suc a) n ≡ overlap lo hi (suc a) n
        → (if t && u then Some a otherwise first_in (inside lo hi) (suc a) n) ≡ overlap lo hi a (suc n)
    go true true e f ih =
        let h : lo ≤ a = leb-true lo a e in
        let k : a < hi = ltb-true a hi f in
        sym (overlap_yes lo hi a (suc n) a (omega arith) (omega arith))
    go true false e f ih =
        let h : lo ≤ a = leb-true lo a e in
        let k : hi ≤ a = ltb-false a hi f in
        ih ∙ overlap_no lo hi (suc a) n (omega arith) ∙ sym (overlap_no lo hi a (suc n) (omega arith))
    go false u e f ih =
        let h : a < lo = leb-false lo a e in
        let m : max (suc a) lo ≡ max a lo = omega arith in
        let k : min (suc a + n) hi ≡ min (a + suc n) hi = omega arith in
        ih ∙ rw (m, k)

-- ---- a test at every place

pub every_at : (f : ℕ → Bool) (a n : ℕ) → every_in f a n ≡ true → (y : ℕ) → a ≤ y → y < a + n → f y ≡ true
unfolding every_in
every_at f a zero e y h k = absurd (omega arith)
every_at f a (suc n) e y h k =
    let b = both_true (f a) (every_in f (suc a) n) e in
    ⊎_elim (λ s. subst (λ (z : ℕ). f z ≡ true) s b.0) (λ l. every_at f (suc a) n b.1 y l (omega arith)) (eq-or-lt_of_le h)

pub at_every : (f : ℕ → Bool) (a n : ℕ) → ((y : ℕ) → a ≤ y → y < a + n → f y ≡ true) → every_in f a n ≡ true
unfolding every_in
at_every f a zero h = refl
at_every f a (suc n) h =
    let ih = at_every f (suc a) n (λ y p q. h y (omega arith) (omega arith)) in
    rw (h a (omega arith) (omega arith)) ih
