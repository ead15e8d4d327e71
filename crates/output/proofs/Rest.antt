-- FF up to a place, and from there on the rest.
use mathlib.Core.Path.{◌≡◌, refl, sym, ap, ◌∙◌}
use mathlib.Core.Bool.{Bool, true, false}
use mathlib.Core.List.{List, ◌++◌}
use Prim.Native.Nat.{ℕ, ◌+◌, ◌-◌, ◌%◌, ◌≤◌, ◌<◌, min}
use native.Mathlib.Omega.{arith}
use lib.ListN.{length, get_or, length-append, get_or-append}
use lib.Seq.{get_or-append_right}
use lib.Dec.{leb, eqb}
use borrow.Author.Tests.{le-leb, lt-leb, leb-true, leb-false, eqb-true, eqb-false, ne_eqb}
use Rattle.lists.specs.Choice.{if◌then◌otherwise◌}
use Rattle.lists.specs.Places.{tabulate}
use Rattle.lists.proofs.Tabulate.{tab_length, tab_at, tab_same, tab_ext}
use Rattle.rules.specs.Cells.{ff}
use Rattle.rules.specs.Part.{Part}
use Rattle.rules.specs.declared.Regs.{Regs}
use Rattle.rules.specs.declared.Kind.{Kind}
use Rattle.rules.specs.declared.Kind.TheVariants.{WriteEnable, WriteDisable, ReadStatusLow, ReadStatusHigh, Read, FastRead, Sleep, Wake, ReadMakerDevice, ReadJedec, Writes}
use Rattle.rules.specs.declared.Verdict.{Verdict}
use Rattle.rules.specs.declared.Verdict.TheVariants.{CarriedOut, Ignored}
use Rattle.rules.specs.Verdict.{kind_of}
use Rattle.rules.specs.Transaction.{from_place, maker_device, driven_at, out_at}
use Rattle.cells.specs.InTurn.{in_turn}
use Rattle.output.specs.Rest.{first_place, rest_at, shown_at}

-- before its place nothing is driven
below_place : (k : ℕ) (f : ℕ → ℕ) (i : ℕ) → i < k → from_place k f i ≡ 0xFF
unfolding from_place if◌then◌otherwise◌
below_place k f i h = rw (lt-leb k i h)

from_place_lem : (k : ℕ) (f : ℕ → ℕ) (i : ℕ) → k ≤ i → from_place k f i ≡ f (i - k)
unfolding from_place if◌then◌otherwise◌
from_place_lem k f i h = rw (le-leb k i h)

-- what a command drives is its rest, from its first place on
rest_driven : (p : Part) (r : Regs) (l b : List ℕ) (k : Kind) (i : ℕ) → from_place (first_place k) (rest_at p r l b k) i ≡ driven_at p r l b k i
unfolding from_place if◌then◌otherwise◌
rest_driven p r l b WriteEnable i = from_place_lem 0 (λ j. 0xFF) i (omega arith)
rest_driven p r l b WriteDisable i = from_place_lem 0 (λ j. 0xFF) i (omega arith)
rest_driven p r l b ReadStatusLow i = refl
rest_driven p r l b ReadStatusHigh i = refl
rest_driven p r l b Read i = refl
rest_driven p r l b FastRead i = refl
rest_driven p r l b Sleep i = from_place_lem 0 (λ j. 0xFF) i (omega arith)
rest_driven p r l b Wake i = refl
rest_driven p r l b ReadMakerDevice i = refl
rest_driven p r l b ReadJedec i = refl
rest_driven p r l b (Writes w) i = from_place_lem 0 (λ j. 0xFF) i (omega arith)

-- the output in two, the first filled with FF
from_rest : (n k m : ℕ) (f : ℕ → ℕ) (before rest : List ℕ) → m ≡ min k n → before ≡ tabulate m ff → rest ≡ tabulate (n - m) f
    → before ++ rest ≡ tabulate n (from_place k f)
from_rest n k m f before rest c e q =
    tab_ext n (from_place k f) (before ++ rest)
    (length-append before rest ∙ omega (arith, long, left))
    (λ j h. go j h (leb m j) refl)
  where
    long : length before ≡ m
    long = ap length e ∙ tab_length m ff

    left : length rest ≡ n - m
    left = ap length q ∙ tab_length (n - m) f

    go : (j : ℕ) → j < n → (t : Bool) → leb m j ≡ t → get_or (before ++ rest) j 0 ≡ from_place k f j
    go j h true o =
        let g : m ≤ j = leb-true m j o in
        let d : m ≡ k = omega arith in
        get_or-append_right before rest j 0 (omega (arith, long))
        ∙ ap (λ (i : ℕ). get_or rest (j - i) 0) (long ∙ d)
        ∙ ap (λ (w : List ℕ). get_or w (j - k) 0) q
        ∙ tab_at (n - m) f (j - k) (omega (arith, d))
        ∙ sym (from_place_lem k f j (omega (arith, d)))
    go j h false o =
        let g : j < m = leb-false m j o in
        get_or-append before rest 0 j (omega (arith, long))
        ∙ ap (λ (w : List ℕ). get_or w j 0) e
        ∙ tab_at m ff j g
        ∙ sym (below_place k f j (omega arith))

-- what a command drives is its first part and its rest
pub driven : (p : Part) (r : Regs) (l b : List ℕ) (k : Kind) (n m o : ℕ) (before rest : List ℕ) → before ≡ tabulate m ff → rest ≡ tabulate o (rest_at p r l b k)
    → m ≡ min (first_place k) n → o + m ≡ n → before ++ rest ≡ tabulate n (driven_at p r l b k)
driven p r l b k n m o before rest e q c d =
    let s : o ≡ n - m = omega arith in
    from_rest n (first_place k) m (rest_at p r l b k) before rest c e (q ∙ ap (λ (i : ℕ). tabulate i (rest_at p r l b k)) s)
    ∙ tab_same n _ (driven_at p r l b k) (λ i h. rest_driven p r l b k i)

-- what is shown by what a verdict carries out is what the verdict shows
pub shown_out : (p : Part) (r : Regs) (l b : List ℕ) (v : Verdict) (n : ℕ) → tabulate n (shown_at p r l b (kind_of v)) ≡ tabulate n (out_at p r l b v)
shown_out p r l b (CarriedOut k) n = refl
shown_out p r l b (Ignored w) n = refl

-- maker and device in turn, by the lowest address bit
pub even_turn : (p : Part) (b : List ℕ) (maker device n : ℕ) → maker ≡ p.maker → device ≡ p.device → get_or b 3 0 % 2 ≡ 0
    → tabulate n (in_turn maker device) ≡ tabulate n (maker_device p b)
unfolding maker_device if◌then◌otherwise◌
even_turn p b maker device n em ed h =
    tab_same n (in_turn maker device) (maker_device p b)
    (λ j l. let q : (get_or b 3 0 + j) % 2 ≡ j % 2 = omega arith in rw (q, em, ed))

pub odd_turn : (p : Part) (b : List ℕ) (maker device n : ℕ) → maker ≡ p.maker → device ≡ p.device → (get_or b 3 0 % 2 ≡ 0 → ⊥)
    → tabulate n (in_turn device maker) ≡ tabulate n (maker_device p b)
unfolding maker_device if◌then◌otherwise◌
odd_turn p b maker device n em ed h = tab_same n (in_turn device maker) (maker_device p b) (λ j l. go j (eqb (j % 2) 0) refl)
  where
    go : (j : ℕ) (t : Bool) → eqb (j % 2) 0 ≡ t → (if t then device otherwise maker) ≡ maker_device p b j
    go j true e =
        let z : j % 2 ≡ 0 = eqb-true (j % 2) 0 e in
        ed ∙ sym (rw (ne_eqb ((get_or b 3 0 + j) % 2) 0 (λ q. h (omega arith))))
    go j false e =
        let q = eqb-false (j % 2) 0 e in
        let w : (get_or b 3 0 + j) % 2 ≡ 0 = omega (arith, q, h) in
        em ∙ sym (rw w)
