-- Splices: a lent part put back, one splice after another, and none.
use mathlib.Core.Path.{◌≡◌, sym, ap, ◌∙◌}
use mathlib.Core.List.{List, [], ◌++◌, append_assoc}
use Prim.Native.Nat.{ℕ, ◌+◌, ◌-◌, ◌*◌, ◌≤◌}
use native.Mathlib.Omega.{arith}
use lib.ListN.{length, take, drop, length-append, take-append-drop}
use lib.Seq.{take_at, length-take-le, drop-append-add, drop-drop}
use borrow.Rule.Slice.PartMut.{put_mid, Post-is}
use Rattle.translate.specs.Spliced.{spliced}

-- the part from a to b was lent, and left as ys
pub lent_spliced : (l ys : List ℕ) (a b : ℕ) → a ≤ b → b ≤ length l → length ys ≡ b - a → put_mid a (b - a) l ys ≡ spliced l a ys
unfolding spliced
lent_spliced l ys a b h k e =
    let end : b ≡ a + length ys = omega (arith, e) in
    ap (λ (w : List ℕ). take a l ++ (ys ++ w)) (Post-is a b l (omega arith) ∙ ap (λ (n : ℕ). drop n l) end)

pub splice_none : (l : List ℕ) (a : ℕ) → spliced l a [] ≡ l
unfolding spliced
splice_none l a = let e : a + 0 ≡ a = omega arith in rw e (take-append-drop a l)

-- one splice after another is one of both
pub splice_on : (l : List ℕ) (a : ℕ) (xs ys : List ℕ) → a + length xs ≤ length l → spliced (spliced l a xs) (a + length xs) ys ≡ spliced l a (xs ++ ys)
unfolding spliced
splice_on l a xs ys h =
    let t : length (take a l) ≡ a = length-take-le a l (omega arith) in
    let front : length (take a l ++ xs) ≡ a + length xs = length-append (take a l) xs ∙ ap (λ (n : ℕ). n + length xs) t in
    let d = drop (a + length xs) l in
    let whole : take a l ++ (xs ++ d) ≡ (take a l ++ xs) ++ d = sym (append_assoc (take a l) xs d) in
    let p : take (a + length xs) (take a l ++ (xs ++ d)) ≡ take a l ++ xs = ap (take (a + length xs)) whole ∙ take_at (take a l ++ xs) d (a + length xs) front in
    let n : a + length xs + length ys ≡ length (take a l ++ xs) + length ys = ap (λ (k : ℕ). k + length ys) (sym front) in
    let m : a + length xs + length ys ≡ a + length (xs ++ ys) = omega (arith, length-append xs ys) in
    let q : drop (a + length xs + length ys) (take a l ++ (xs ++ d)) ≡ drop (a + length (xs ++ ys)) l =
    ap (drop (a + length xs + length ys)) whole ∙ ap (λ (k : ℕ). drop k ((take a l ++ xs) ++ d)) n
    ∙ drop-append-add (take a l ++ xs) d (length ys) ∙ drop-drop (length ys) (a + length xs) l ∙ ap (λ (k : ℕ). drop k l) m in
    (λ i. p i ++ (ys ++ q i))
    ∙ append_assoc (take a l) xs (ys ++ drop (a + length (xs ++ ys)) l)
    ∙ ap (λ (r : List ℕ). take a l ++ r) (sym (append_assoc xs ys (drop (a + length (xs ++ ys)) l)))

-- n records, then more: the places are counted in records
pub splice_recs : (l : List ℕ) (k n : ℕ) (xs ys : List ℕ) → length xs ≡ 264 * n → 264 * (k + n) ≤ length l
    → spliced (spliced l (264 * k) xs) (264 * (k + n)) ys ≡ spliced l (264 * k) (xs ++ ys)
splice_recs l k n xs ys e h =
    let q : 264 * (k + n) ≡ 264 * k + length xs = omega (arith, e) in
    ap (λ (a : ℕ). spliced (spliced l (264 * k) xs) a ys) q ∙ splice_on l (264 * k) xs ys (omega (arith, e))

pub splice_front : (l ys : List ℕ) → spliced l 0 ys ≡ ys ++ drop (length ys) l
unfolding spliced
splice_front l ys = let e : 0 + length ys ≡ length ys = omega arith in ap (λ (k : ℕ). ys ++ drop k l) e
