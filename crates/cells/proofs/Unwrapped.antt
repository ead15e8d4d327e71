-- Data that end within the page: no place is sent twice.
use mathlib.Core.Path.{◌≡◌, refl, sym, ap, ◌∙◌}
use mathlib.Core.Bool.{Bool}
use mathlib.Core.List.{List, [], ◌∷◌}
use Prim.Native.Nat.{ℕ, zero, suc, ◌+◌, ◌-◌, ◌%◌, ◌<◌, ◌≤◌}
use native.Mathlib.Omega.{arith}
use lib.Bits.{bit_and}
use lib.ListN.{length, get_or}
use borrow.Author.Tests.{eq-eqb, ne_eqb}
use borrow.Rule.Slice.PartMut.{put_mid, mid_of}
use Rattle.lists.specs.Places.{tabulate, patched}
use Rattle.lists.proofs.Choice.{if-true, if-false}
use Rattle.lists.proofs.Tabulate.{tab_ext}
use Rattle.lists.proofs.Patched.{by_place, patched-length, patched_inside, patched_below, patched_above}
use Rattle.rules.specs.Cells.{cell}
use Rattle.cells.specs.Page.{programmed_at}
use Rattle.lists.proofs.Lent.{mid_at, part_patched}

-- a place that none of the data goes to keeps what it has
cell_missed : (off : ℕ) (bs : List ℕ) (j old kept : ℕ) → ((i : ℕ) → i < length bs → (off + i) % 256 ≡ j → ⊥)
    → cell off bs j old kept ≡ kept
unfolding cell
cell_missed off [] j old kept h = refl
cell_missed off (b ∷ bs) j old kept h =
    cell_missed (suc off) bs j old _ (λ i k q. h (suc i) (omega arith) (omega arith))
    ∙ if-false _ _ _ (ne_eqb (off % 256) j (λ q. h 0 (omega arith) (omega arith)))

-- the place that byte i goes to
cell_hit : (off : ℕ) (bs : List ℕ) (i old kept : ℕ) → off + length bs ≤ 256 → i < length bs
    → cell off bs (off + i) old kept ≡ bit_and old (get_or bs i 0)
unfolding cell
cell_hit off [] i old kept h k = absurd (omega arith)
cell_hit off (b ∷ bs) zero old kept h k =
    cell_missed (suc off) bs (off + 0) old _ (λ i m q. omega arith) ∙ if-true _ _ _ (eq-eqb (off % 256) (off + 0) (omega arith))
cell_hit off (b ∷ bs) (suc i) old kept h k =
    let e : off + suc i ≡ suc off + i = omega arith in
    rw e (cell_hit (suc off) bs i old _ (omega arith) (omega arith))

-- the places of the data hold old AND new, the others what they had
patched-page : (l : List ℕ) (off : ℕ) (bs : List ℕ) → length l ≡ 256 → off + length bs ≤ 256
    → patched l off (length bs) (λ j. bit_and (get_or l (off + j) 0) (get_or bs j 0)) ≡ tabulate 256 (programmed_at l off bs)
patched-page l off bs e h =
    let n : ℕ = length bs in
    let f : ℕ → ℕ = λ j. bit_and (get_or l (off + j) 0) (get_or bs j 0) in
    let kept : (j : ℕ) → ((i : ℕ) → i < n → (off + i) % 256 ≡ j → ⊥) → get_or l j 0 ≡ programmed_at l off bs j = λ j m. sym (cell_missed off bs j _ _ m) in
    tab_ext 256 (programmed_at l off bs) (patched l off n f) (patched-length l off n f (omega arith) ∙ e)
    (λ j k. by_place (λ (t : Bool). get_or (patched l off n f) j 0 ≡ programmed_at l off bs j) off n j
    (λ p q. let d : off + (j - off) ≡ j = omega arith in
    patched_inside l off n f j (omega arith) p q
    ∙ ap (λ (x : ℕ). bit_and (get_or l x 0) (get_or bs (j - off) 0)) d
    ∙ sym (cell_hit off bs (j - off) (get_or l j 0) (get_or l j 0) h (omega arith))
    ∙ ap (λ (x : ℕ). cell off bs x (get_or l j 0) (get_or l j 0)) d)
    (λ p. patched_below l off n f j (omega arith) p ∙ kept j (λ i m q. omega arith))
    (λ p. patched_above l off n f j (omega arith) p ∙ kept j (λ i m q. omega arith)))

-- the places of the data were lent and ANDed: so the page is programmed
pub unwrapped : (l ys : List ℕ) (off : ℕ) (bs : List ℕ) → length l ≡ 256 → off + length bs ≤ 256
    → (let m = mid_of off (off + length bs - off) l in ys ≡ tabulate (length m) (λ j. bit_and (get_or m j 0) (get_or bs j 0)))
    → put_mid off (off + length bs - off) l ys ≡ tabulate 256 (programmed_at l off bs)
unwrapped l ys off bs e h d =
    part_patched l ys off (length bs) _ (λ j. bit_and (get_or l (off + j) 0) (get_or bs j 0)) (omega arith) d
    (λ j k. ap (λ (x : ℕ). bit_and x (get_or bs j 0)) (mid_at l off (length bs) j k))
    ∙ patched-page l off bs e h
