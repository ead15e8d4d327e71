-- A program that stays inside its page is what a lay means; two lays end to end are one.
use mathlib.Core.Path.{◌≡◌, refl, ap, ◌∙◌}
use mathlib.Core.Bool.{Bool}
use mathlib.Core.List.{List, [], ◌∷◌}
use mathlib.Core.Logic.{⊎_elim}
use Prim.Native.Nat.{ℕ, suc, ◌+◌, ◌-◌, ◌%◌, ◌≤◌}
use native.Mathlib.Omega.{arith}
use native.Mathlib.Nat.{mod-eq_of_lt, eq-or-lt_of_le}
use lib.Bits.{bit_and}
use lib.ListN.{length, get_or, take, drop, length-drop}
use lib.Seq.{get_or-take, get_or-drop, length-take-le}
use borrow.Author.Tests.{eq-eqb, ne_eqb}
use Rattle.lists.specs.Choice.{if◌then◌otherwise◌, ◌=?◌}
use Rattle.lists.proofs.Patched.{within, by_place, within_yes, within_below, within_above, patched-length, patched_above}
use Rattle.rules.specs.Units.{page, page_start}
use Rattle.rules.specs.Cells.{cell, programmed}
use Rattle.rules.specs.Job.{laid}
use Rattle.demand.proofs.Patches.{patched_narrow, patched_twice}

-- a place of the page, where the data do not run past the page's end: sent once or not at all
cell_at : (off : ℕ) (bs : List ℕ) (j old kept : ℕ) → off + length bs ≤ page
    → cell off bs j old kept ≡ (if within off (length bs) j then bit_and old (get_or bs (j - off) 0) otherwise kept)
unfolding cell if◌then◌otherwise◌
cell_at off [] j old kept h =
    by_place (λ (t : Bool). kept ≡ (if t then bit_and old 0 otherwise kept)) off 0 j (λ p q. absurd (omega arith)) (λ p. refl) (λ p. refl)
cell_at off (b ∷ bs) j old kept h =
    let n = length bs in
    let m : off % page ≡ off = mod-eq_of_lt (omega arith) in
    let ih = cell_at (suc off) bs j old (if off % page =? j then bit_and old b otherwise kept) (omega arith) in
    by_place
    (λ (t : Bool). cell (suc off) bs j old (if off % page =? j then bit_and old b otherwise kept) ≡ (if t then bit_and old (get_or (b ∷ bs) (j - off) 0) otherwise kept))
    off (suc n) j
    (λ p q. ⊎_elim
    (λ e. ih ∙ rw (within_below (suc off) n j (omega arith), m, eq-eqb off j e) (let z : j - off ≡ 0 = omega arith in rw z))
    (λ l. ih ∙ rw (within_yes (suc off) n j (omega arith) (omega arith)) (let z : j - off ≡ suc (j - suc off) = omega arith in rw z))
    (eq-or-lt_of_le p))
    (λ p. ih ∙ rw (within_below (suc off) n j (omega arith), m, ne_eqb off j (λ e. omega arith)))
    (λ p. ih ∙ rw (within_above (suc off) n j (omega arith), m, ne_eqb off j (λ e. omega arith)))

-- each byte of the span becomes old AND new; no other byte changes
pub program_is_lay : (l : List ℕ) (a : ℕ) (bs : List ℕ) → a % page + length bs ≤ page → page_start a + page ≤ length l → programmed l a bs ≡ laid l a bs
unfolding programmed laid if◌then◌otherwise◌
program_is_lay l a bs room fits =
    patched_narrow l (page_start a) page a (length bs) _ _ (omega arith) (omega arith) fits
    (λ x q r.
    let p : ℕ = page_start a in
    let e : p + (x - p) ≡ x = omega arith in
    rw (e, cell_at (a % page) bs (x - p) (get_or l x 0) (get_or l x 0) room)
    (by_place
    (λ (t : Bool). (if within (a % page) (length bs) (x - p) then bit_and (get_or l x 0) (get_or bs (x - p - a % page) 0) otherwise get_or l x 0)
    ≡ (if t then bit_and (get_or l (a + (x - a)) 0) (get_or bs (x - a) 0) otherwise get_or l x 0)) a (length bs) x
    (λ s t. let d : x - p - a % page ≡ x - a = omega arith in
    let f : a + (x - a) ≡ x = omega arith in
    rw (within_yes (a % page) (length bs) (x - p) (omega arith) (omega arith), d, f))
    (λ s. rw (within_below (a % page) (length bs) (x - p) (omega arith)))
    (λ s. rw (within_above (a % page) (length bs) (x - p) (omega arith)))))

pub laid-length : (l : List ℕ) (a : ℕ) (bs : List ℕ) → a + length bs ≤ length l → length (laid l a bs) ≡ length l
unfolding laid
laid-length l a bs h = patched-length l a (length bs) _ h

-- the first k bytes, then the others after them
pub lay-lay : (l : List ℕ) (a k : ℕ) (bs : List ℕ) → k ≤ length bs → a + length bs ≤ length l
    → laid (laid l a (take k bs)) (a + k) (drop k bs) ≡ laid l a bs
unfolding laid
lay-lay l a k bs cut fits =
    let t : length (take k bs) ≡ k = length-take-le k bs cut in
    let d : length (drop k bs) ≡ length bs - k = length-drop k bs in
    let w : k + (length bs - k) ≡ length bs = omega arith in
    rw (t, d)
    (patched_twice l a k (length bs - k) _ _ (λ j. bit_and (get_or l (a + j) 0) (get_or bs j 0)) (omega arith)
    (λ j h. ap (λ (v : ℕ). bit_and (get_or l (a + j) 0) v) (get_or-take k bs j 0 h))
    (λ j h. let e : a + k + j ≡ a + (k + j) = omega arith in
    rw (patched_above l a k _ (a + k + j) (omega arith) (omega arith), get_or-drop k bs j 0, e))
    ∙ rw w)
