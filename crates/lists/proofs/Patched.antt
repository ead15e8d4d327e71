-- What stands at a place of a patched list, and what a lent part makes of the whole.
use mathlib.Core.Path.{◌≡◌, refl, ap, ◌∙◌, subst}
use mathlib.Core.Bool.{Bool, true, false, ◌&&◌}
use mathlib.Core.List.{List, ◌++◌}
use Prim.Native.Nat.{ℕ, ◌+◌, ◌-◌, ◌≤◌, ◌<◌}
use native.Mathlib.Omega.{arith}
use lib.Dec.{leb, ltb}
use lib.ListN.{length, get_or, take, drop, length-append, length-take, length-drop, get_or-append}
use lib.Seq.{get_or-append-add, get_or-take, get_or-drop, length-take-le}
use borrow.Author.Tests.{lt-ltb, le-leb, lt-leb, leb-true, leb-false, ltb-true, ltb-false}
use borrow.Rule.Slice.PartMut.{put_mid, mid_of, Post-is, mid_len}
use Rattle.lists.specs.Choice.{if◌then◌otherwise◌, ◌<?◌, ◌≤?◌}
use Rattle.lists.specs.Places.{tabulate, patched}
use Rattle.lists.proofs.Tabulate.{tab_length, tab_at, tab_same}

-- x is one of the n numbers from a on
abbrev pub within : ℕ → ℕ → ℕ → Bool
within a n x = (a ≤? x) && (x <? a + n)

-- a choice by whether x is within goes by three cases
pub by_place : (P : Bool → Type 0) (a n x : ℕ) → (a ≤ x → x < a + n → P true) → (x < a → P false) → (a + n ≤ x → P false) → P (within a n x)
by_place P a n x f g h = go (leb a x) (ltb x (a + n)) refl refl
  where
    go : (s t : Bool) → leb a x ≡ s → ltb x (a + n) ≡ t → P (s && t)
    go true true e k = f (leb-true a x e) (ltb-true x (a + n) k)
    go true false e k = h (ltb-false x (a + n) k)
    go false t e k = g (leb-false a x e)

pub within_yes : (a n x : ℕ) → a ≤ x → x < a + n → within a n x ≡ true
within_yes a n x h k = rw (le-leb a x h) (lt-ltb x (a + n) k)

pub within_below : (a n x : ℕ) → x < a → within a n x ≡ false
within_below a n x h = rw (lt-leb a x h)

pub within_above : (a n x : ℕ) → a + n ≤ x → within a n x ≡ false
within_above a n x h = by_place (λ (t : Bool). t ≡ false) a n x (λ p q. absurd (omega arith)) (λ p. refl) (λ p. refl)

pub patched-length : (l : List ℕ) (a n : ℕ) (f : ℕ → ℕ) → a + n ≤ length l → length (patched l a n f) ≡ length l
unfolding patched
patched-length l a n f h = simp (length-append, length-take, length-drop, tab_length) (omega arith)

before : (l : List ℕ) (a n : ℕ) (f : ℕ → ℕ) (x : ℕ) → a ≤ length l → x < a → get_or (patched l a n f) x 0 ≡ get_or l x 0
unfolding patched
before l a n f x h k =
    get_or-append (take a l) (tabulate n f ++ drop (a + n) l) 0 x (omega (arith, length-take-le a l h)) ∙ get_or-take a l x 0 k

inside : (l : List ℕ) (a n : ℕ) (f : ℕ → ℕ) (y : ℕ) → a ≤ length l → y < n → get_or (patched l a n f) (a + y) 0 ≡ f y
unfolding patched
inside l a n f y h k =
    let e : a + y ≡ length (take a l) + y = omega (arith, length-take-le a l h) in
    ap (λ (z : ℕ). get_or (take a l ++ (tabulate n f ++ drop (a + n) l)) z 0) e
    ∙ get_or-append-add (take a l) (tabulate n f ++ drop (a + n) l) y 0
    ∙ get_or-append (tabulate n f) (drop (a + n) l) 0 y (omega (arith, tab_length n f))
    ∙ tab_at n f y k

after : (l : List ℕ) (a n : ℕ) (f : ℕ → ℕ) (y : ℕ) → a ≤ length l → get_or (patched l a n f) (a + (n + y)) 0 ≡ get_or l (a + (n + y)) 0
unfolding patched
after l a n f y h =
    let e : a + (n + y) ≡ length (take a l) + (n + y) = omega (arith, length-take-le a l h) in
    let d : n + y ≡ length (tabulate n f) + y = omega (arith, tab_length n f) in
    let q : a + n + y ≡ a + (n + y) = omega arith in
    ap (λ (z : ℕ). get_or (take a l ++ (tabulate n f ++ drop (a + n) l)) z 0) e
    ∙ get_or-append-add (take a l) (tabulate n f ++ drop (a + n) l) (n + y) 0
    ∙ ap (λ (z : ℕ). get_or (tabulate n f ++ drop (a + n) l) z 0) d
    ∙ get_or-append-add (tabulate n f) (drop (a + n) l) y 0
    ∙ get_or-drop (a + n) l y 0
    ∙ ap (λ (z : ℕ). get_or l z 0) q

-- a place of a patched list: the patch within, the old elsewhere
pub patched_at : (l : List ℕ) (a n : ℕ) (f : ℕ → ℕ) (x : ℕ) → a ≤ length l
    → get_or (patched l a n f) x 0 ≡ (if within a n x then f (x - a) otherwise get_or l x 0)
unfolding if◌then◌otherwise◌
patched_at l a n f x h =
    by_place (λ (t : Bool). get_or (patched l a n f) x 0 ≡ (if t then f (x - a) otherwise get_or l x 0)) a n x
    (λ p q. let e : a + (x - a) ≡ x = omega arith in
    subst (λ (z : ℕ). get_or (patched l a n f) z 0 ≡ f (x - a)) e (inside l a n f (x - a) h (omega arith)))
    (λ p. before l a n f x h p)
    (λ p. let e : a + (n + (x - (a + n))) ≡ x = omega arith in
    subst (λ (z : ℕ). get_or (patched l a n f) z 0 ≡ get_or l z 0) e (after l a n f (x - (a + n)) h))

pub patched_inside : (l : List ℕ) (a n : ℕ) (f : ℕ → ℕ) (x : ℕ) → a ≤ length l → a ≤ x → x < a + n → get_or (patched l a n f) x 0 ≡ f (x - a)
unfolding if◌then◌otherwise◌
patched_inside l a n f x h p q = patched_at l a n f x h ∙ rw (within_yes a n x p q)

pub patched_below : (l : List ℕ) (a n : ℕ) (f : ℕ → ℕ) (x : ℕ) → a ≤ length l → x < a → get_or (patched l a n f) x 0 ≡ get_or l x 0
patched_below = before

pub patched_above : (l : List ℕ) (a n : ℕ) (f : ℕ → ℕ) (x : ℕ) → a ≤ length l → a + n ≤ x → get_or (patched l a n f) x 0 ≡ get_or l x 0
unfolding if◌then◌otherwise◌
patched_above l a n f x h p = patched_at l a n f x h ∙ rw (within_above a n x p)

-- two patches of the same stretch that agree at its places are the same
pub patched_same : (l : List ℕ) (a n : ℕ) (f g : ℕ → ℕ) → ((j : ℕ) → j < n → f j ≡ g j) → patched l a n f ≡ patched l a n g
unfolding patched
patched_same l a n f g h = ap (λ (m : List ℕ). take a l ++ (m ++ drop (a + n) l)) (tab_same n f g h)

-- ---- a part that is lent

-- a callee left the n places from a on as tabulate n f: so the whole is patched
pub put_patched : (xs ys : List ℕ) (a n : ℕ) (f : ℕ → ℕ) → a + n ≤ length xs → ys ≡ tabulate n f → put_mid a (a + n - a) xs ys ≡ patched xs a n f
unfolding patched
put_patched xs ys a n f h e =
    ap (λ (l : List ℕ). take a xs ++ (ys ++ l)) (Post-is a (a + n) xs (omega arith)) ∙ ap (λ (l : List ℕ). take a xs ++ (l ++ drop (a + n) xs)) e

pub part_long : (xs : List ℕ) (a n : ℕ) → a + n ≤ length xs → length (mid_of a (a + n - a) xs) ≡ n
part_long xs a n h = mid_len a (a + n) xs (omega arith) ∙ omega arith
