-- What a page holds after data, by the last byte that goes to each place.
use mathlib.Core.Path.{◌≡◌, refl, sym, ap, ◌∙◌}
use mathlib.Core.Bool.{Bool, true, false}
use mathlib.Core.List.{List, [], ◌∷◌}
use Prim.Native.Nat.{ℕ, suc, ◌+◌, ◌%◌, ◌<◌}
use native.Mathlib.Omega.{arith}
use native.Mathlib.Nat.{mod-eq_of_lt}
use native.Mathlib.Numerals.{add-one}
use lib.Bits.{bit_and, and_mask}
use lib.ListN.{length, get_or, drop, set}
use lib.Seq.{drop-cons, drop-length}
use Rattle.lists.specs.Choice.{if◌then◌otherwise◌, ◌=?◌}
use Rattle.lists.specs.Places.{tabulate}
use Rattle.lists.proofs.Tabulate.{set_if, tab_at, tab_same}
use Rattle.rules.specs.Cells.{cell}
use Rattle.cells.specs.Page.{last_sent, programmed_at}

if_and : (t : Bool) (old b d : ℕ) → (if t then bit_and old b otherwise bit_and old d) ≡ bit_and old (if t then b otherwise d)
unfolding if◌then◌otherwise◌
if_and true old b d = refl
if_and false old b d = refl

cell_and : (off : ℕ) (bs : List ℕ) (j old d : ℕ) → cell off bs j old (bit_and old d) ≡ bit_and old (last_sent off bs j d)
unfolding cell last_sent
cell_and off [] j old d = refl
cell_and off (b ∷ bs) j old d =
    ap (cell (suc off) bs j old) (if_and (off % 256 =? j) old b d) ∙ cell_and (suc off) bs j old (if off % 256 =? j then b otherwise d)

and_ff : (old : ℕ) → old < 256 → bit_and old 255 ≡ old
and_ff old h = and_mask old 8 ∙ mod-eq_of_lt h

-- a place of a page is old AND the last byte sent to it, FF where none is
pub cell_last : (off : ℕ) (bs : List ℕ) (j old : ℕ) → old < 256 → cell off bs j old old ≡ bit_and old (last_sent off bs j 255)
cell_last off bs j old h = ap (cell off bs j old) (sym (and_ff old h)) ∙ cell_and off bs j old 255

-- ---- the latch's loop: what is still to be sent, into what is latched

-- one byte more is latched
pub latch_more : (off i : ℕ) (bs buf : List ℕ) (j : ℕ) → i < length bs → (off + i) % 256 < length buf
    → last_sent (off + (i + 1)) (drop (i + 1) bs) j (get_or (set buf ((off + i) % 256) (get_or bs i 0)) j 0)
    ≡ last_sent (off + i) (drop i bs) j (get_or buf j 0)
unfolding last_sent
latch_more off i bs buf j h k =
    let e : off + (i + 1) ≡ suc (off + i) = omega arith in
    rw (e, add-one i, drop-cons bs i 0, set_if buf ((off + i) % 256) j (get_or bs i 0) k)

-- nothing is left to be sent
pub latch_all : (off i : ℕ) (bs : List ℕ) (j d : ℕ) → i ≡ length bs → last_sent off (drop i bs) j d ≡ d
unfolding last_sent
latch_all off i bs j d e = rw (e, drop-length)

-- a page ANDed with its latch is programmed
pub latched : (l sent : List ℕ) (off : ℕ) (bs : List ℕ) → ((j : ℕ) → get_or l j 0 < 256) → length l ≡ 256
    → sent ≡ tabulate 256 (λ j. last_sent off bs j 255)
    → tabulate (length l) (λ j. bit_and (get_or l j 0) (get_or sent j 0)) ≡ tabulate 256 (programmed_at l off bs)
latched l sent off bs h e s =
    rw e
    (tab_same 256 _ _
    (λ j k. ap (λ (x : List ℕ). bit_and (get_or l j 0) (get_or x j 0)) s ∙ ap (bit_and (get_or l j 0)) (tab_at 256 _ j k)
    ∙ sym (cell_last off bs j (get_or l j 0) (h j))))
