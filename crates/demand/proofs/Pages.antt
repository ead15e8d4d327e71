-- A lay, page by page.
use mathlib.Core.Path.{◌≡◌, refl, ap, ◌∙◌}
use mathlib.Core.Bool.{false}
use mathlib.Core.List.{List, ◌∷◌, ◌++◌}
use Prim.Native.Nat.{ℕ, zero, suc, ◌+◌, ◌-◌, ◌%◌, ◌≤◌, ◌<◌}
use native.Mathlib.Omega.{arith}
use lib.ListN.{length, take, drop, length-drop}
use lib.Seq.{take_all, length-take-le}
use Rattle.rules.specs.declared.Write.TheVariants.{Program}
use Rattle.rules.specs.declared.Kind.TheVariants.{Writes}
use Rattle.rules.specs.declared.Bill.{Bill}
use Rattle.rules.specs.Kinds.{code_of}
use Rattle.rules.specs.Units.{page, page_start}
use Rattle.rules.specs.Part.{Part}
use Rattle.rules.specs.Cells.{programmed}
use Rattle.rules.specs.Status.{with_wel}
use Rattle.rules.specs.Verdict.{address_of}
use Rattle.rules.specs.Tape.{Rec}
use Rattle.rules.specs.Play.{State, state, play}
use Rattle.rules.specs.Job.{laid}
use Rattle.rules.specs.Records.{three_recs, address_bytes, left_in_page, page_recs}
use Rattle.rules.specs.Bill.{pages_touched, tape_length}
use Rattle.demand.specs.Raised.{raised}
use Rattle.demand.proofs.Lay.{program_is_lay, laid-length, lay-lay}
use Rattle.laws.proofs.Tapeable.{Tapeable}
use Rattle.demand.proofs.Fit.{Fit, calm_wel}
use Rattle.demand.proofs.Three.{Says, settled_plain, three_play}
use Rattle.demand.proofs.Bare.{Bare, bare_part, bare_page}
use Rattle.demand.proofs.Address.{address_back}
use Rattle.demand.proofs.Rise.{counted-raised, raised_plus}

-- a span that a lay may name: not 23, not 25
pub record Layable (p : Part) (s : State) (a n : ℕ) : Type 0 where
  pub not_empty : 0 < n
  pub ends : a + n ≤ p.size
  pub bare : Bare p s.regs.setting a n

abbrev pub pages_bill : ℕ → Bill
pages_bill n = record { programs = n; erases = 0; register_writes = 0; length = tape_length n }

-- the state after a lay of n pages
abbrev pub after_lay : State → ℕ → List ℕ → ℕ → State
after_lay s a bs n = state (with_wel s.regs false) (laid s.array a bs) (raised s.meter (pages_bill n))

-- the command for a page
abbrev program_bytes : ℕ → List ℕ → List ℕ
program_bytes a bs = code_of (Writes Program) ∷ address_bytes a ++ bs

-- ---- the records of the pages, in ascending order

pages_one : (a : ℕ) (bs : List ℕ) → length bs ≤ left_in_page a → (es : List Rec) → page_recs 1 a bs ++ es ≡ three_recs (program_bytes a bs) ++ es
unfolding page_recs
pages_one a bs h es = rw (take_all (left_in_page a) bs h)

pages_more : (n a : ℕ) (bs : List ℕ) (es : List Rec)
    → page_recs (suc n) a bs ++ es ≡ three_recs (program_bytes a (take (left_in_page a) bs)) ++ (page_recs n (a + left_in_page a) (drop (left_in_page a) bs) ++ es)
unfolding page_recs
pages_more n a bs es = refl

-- ---- played

module _ (p : Part) (law : Tapeable p) where
  program_says : (a : ℕ) (bs : List ℕ) → 0 < length bs → Says p (Writes Program) (program_bytes a bs)
  program_says a bs not_empty = record { not_empty = omega arith; code = refl; offers = law.programs (length (program_bytes a bs)) (omega arith) }

  page-play : (s : State) → Fit p s → (a : ℕ) (bs : List ℕ) → Layable p s a (length bs) → a % page + length bs ≤ page → (es : List Rec)
      → play p (three_recs (program_bytes a bs) ++ es) s ≡ play p es (after_lay s a bs 1)
  page-play s f a bs q room es =
      let not_empty = q.not_empty in
      let ends = q.ends in
      let long = f.long in
      let size = law.sound.size_is in
      let back : address_of p (program_bytes a bs) ≡ a = address_back p law.sound _ a bs (omega arith) in
      let free : Bare p s.regs.setting (page_start (address_of p (program_bytes a bs))) page =
      rw back (bare_page p law.sound s.regs.setting a (length bs) not_empty q.bare) in
      let array : programmed s.array (address_of p (program_bytes a bs)) bs ≡ laid s.array a bs =
      rw back (program_is_lay s.array a bs room (omega arith)) in
      three_play p law s f.calm Program (program_bytes a bs) (program_says a bs not_empty) free es
      ∙ (λ i. play p es (state (settled_plain s.regs f.calm i) (array i) (counted-raised s.meter Program i)))

  pub pages_play : (n : ℕ) (s : State) → Fit p s → (a : ℕ) (bs : List ℕ) → Layable p s a (length bs) → pages_touched a (length bs) ≡ suc n → (es : List Rec)
      → play p (page_recs (suc n) a bs ++ es) s ≡ play p es (after_lay s a bs (suc n))
  pages_play zero s f a bs q e es =
      let not_empty = q.not_empty in
      rw (pages_one a bs (omega arith) es) (page-play s f a bs q (omega arith) es)
  pages_play (suc n) s f a bs q e es =
      let not_empty = q.not_empty in
      let ends = q.ends in
      let long = f.long in
      let k : ℕ = left_in_page a in
      let c : k ≤ length bs = omega arith in
      let t : length (take k bs) ≡ k = length-take-le k bs c in
      let d : length (drop k bs) ≡ length bs - k = length-drop k bs in
      let s2 : State = after_lay s a (take k bs) 1 in
      let f2 : Fit p s2 = record { calm = calm_wel s.regs f.calm false; long = laid-length s.array a (take k bs) (omega arith) ∙ long } in
      let part : (b m : ℕ) → a ≤ b → b + m ≤ a + length bs → Bare p s.regs.setting b m = λ b m h g. bare_part p s.regs.setting a (length bs) b m h g q.bare in
      let q1 : Layable p s a (length (take k bs)) = record { not_empty = omega arith; ends = omega arith; bare = part a _ (omega arith) (omega arith) } in
      let q2 : Layable p s2 (a + k) (length (drop k bs)) = record { not_empty = omega arith; ends = omega arith; bare = part (a + k) _ (omega arith) (omega arith) } in
      let e2 : pages_touched (a + k) (length (drop k bs)) ≡ suc n = omega arith in
      let sum : 1 + suc n ≡ suc (suc n) = omega arith in
      ap (λ (w : List Rec). play p w s) (pages_more (suc n) a bs es)
      ∙ page-play s f a (take k bs) q1 (omega arith) (page_recs (suc n) (a + k) (drop k bs) ++ es)
      ∙ pages_play n s2 f2 (a + k) (drop k bs) q2 e2 es
      ∙ (λ i. play p es (state (with_wel s.regs false) (lay-lay s.array a k bs c (omega arith) i) (raised_plus s.meter (pages_bill 1) (pages_bill (suc n)) i)))
      ∙ ap (λ (m : ℕ). play p es (after_lay s a bs m)) sum
