-- What is read of a list from a place on, where its first comes after its last.
use mathlib.Core.Path.{◌≡◌, sym, ap, ◌∙◌}
use mathlib.Core.Bool.{Bool}
use mathlib.Core.List.{List, ◌++◌}
use Prim.Native.Nat.{ℕ, ◌+◌, ◌-◌, ◌%◌, ◌≤◌}
use native.Mathlib.Omega.{arith}
use native.Mathlib.Nat.{mod-eq_of_lt, add-mod_left}
use lib.ListN.{length, get_or, take, length-append, get_or-append}
use lib.Seq.{get_or-append-add}
use borrow.Rule.Slice.PartMut.{mid_of}
use Rattle.lists.specs.Places.{tabulate}
use Rattle.lists.proofs.Tabulate.{tab_length, tab_at, tab_ext, tab_same}
use Rattle.lists.proofs.Patched.{by_place, part_long}
use Rattle.lists.proofs.Lent.{mid_at}

-- place j of what is read of l from a on
abbrev pub wrapped_at : List ℕ → ℕ → ℕ → ℕ
wrapped_at l a j = get_or l ((a + j) % length l) 0

-- a list by its places, in two pieces
tab_split : (m n : ℕ) (f : ℕ → ℕ) → tabulate m f ++ tabulate n (λ j. f (m + j)) ≡ tabulate (m + n) f
tab_split m n f =
    let g : ℕ → ℕ = λ j. f (m + j) in
    tab_ext (m + n) f (tabulate m f ++ tabulate n g) (simp (length-append, tab_length))
    (λ j h. by_place (λ (t : Bool). get_or (tabulate m f ++ tabulate n g) j 0 ≡ f j) 0 m j
    (λ p q. get_or-append (tabulate m f) (tabulate n g) 0 j (omega (arith, tab_length m f)) ∙ tab_at m f j (omega arith))
    (λ p. absurd (omega arith))
    (λ p. let d : j ≡ length (tabulate m f) + (j - m) = omega (arith, tab_length m f) in
    let e : m + (j - m) ≡ j = omega arith in
    ap (λ (x : ℕ). get_or (tabulate m f ++ tabulate n g) x 0) d
    ∙ get_or-append-add (tabulate m f) (tabulate n g) (j - m) 0 ∙ tab_at n g (j - m) (omega arith) ∙ ap f e))

-- a part that ends within the list
pub straight : (l : List ℕ) (a n : ℕ) → a + n ≤ length l → mid_of a (a + n - a) l ≡ tabulate n (wrapped_at l a)
straight l a n h =
    tab_ext n (wrapped_at l a) (mid_of a (a + n - a) l) (part_long l a n h)
    (λ j k. mid_at l a n j k ∙ ap (λ (x : ℕ). get_or l x 0) (sym (mod-eq_of_lt (omega arith))))

-- the list's end, and then its start
pub wrapped : (l : List ℕ) (a n : ℕ) → a ≤ length l → length l ≤ a + n → n ≤ length l
    → mid_of a (length l - a) l ++ take (n - (length l - a)) l ≡ tabulate n (wrapped_at l a)
wrapped l a n p q r =
    let m : ℕ = length l - a in
    let e : a + m - a ≡ m = omega arith in
    let d : 0 + (n - m) - 0 ≡ n - m = omega arith in
    let s : m + (n - m) ≡ n = omega arith in
    ap (λ (k : ℕ). mid_of a k l ++ take (n - m) l) (sym e)
    ∙ ap (λ (x : List ℕ). x ++ take (n - m) l) (straight l a m (omega arith))
    ∙ ap (λ (k : ℕ). tabulate m (wrapped_at l a) ++ take k l) (sym d)
    ∙ ap (λ (x : List ℕ). tabulate m (wrapped_at l a) ++ x)
    (straight l 0 (n - m) (omega arith) ∙ tab_same (n - m) _ _ (λ j h. ap (λ (x : ℕ). get_or l x 0) (again j)))
    ∙ tab_split m (n - m) (wrapped_at l a)
    ∙ ap (λ (k : ℕ). tabulate k (wrapped_at l a)) s
  where
    again : (j : ℕ) → (0 + j) % length l ≡ (a + (length l - a + j)) % length l
    again j =
        let e : a + (length l - a + j) ≡ length l + j = omega arith in
        let d : 0 + j ≡ j = omega arith in
        rw (e, d, add-mod_left)
