-- Document 01, "Program": "Data go to the page of the address"; "Each place sent becomes old AND new; no other byte changes."
use mathlib.Core.Path.{◌≡◌, refl, ap, ◌∙◌}
use mathlib.Core.Bool.{Bool}
use mathlib.Core.List.{List, [], ◌∷◌}
use Prim.Native.Nat.{ℕ, suc, ◌+◌, ◌-◌, ◌/◌, ◌%◌, ◌≤◌}
use native.Mathlib.Omega.{arith}
use lib.Arith.{bin_ind}
use lib.Bits.{bit_and, and_step, and_zero_l, and_self, and_le_r}
use lib.ListN.{length, get_or, drop}
use Rattle.lists.specs.Choice.{◌=?◌}
use Rattle.lists.proofs.Choice.{by_choice}
use Rattle.rules.specs.declared.Kept.{Kept}
use Rattle.rules.specs.declared.Meter.{Meter}
use Rattle.rules.specs.declared.Regs.{Regs}
use Rattle.rules.specs.declared.Write.TheVariants.{Program}
use Rattle.rules.specs.declared.Kind.TheVariants.{Writes}
use Rattle.rules.specs.declared.Verdict.TheVariants.{CarriedOut}
use Rattle.rules.specs.Units.{page, page_start}
use Rattle.rules.specs.Part.{Part}
use Rattle.rules.specs.Parts.{part_of}
use Rattle.rules.specs.Status.{regs_of}
use Rattle.rules.specs.Cells.{cell, programmed}
use Rattle.rules.specs.Verdict.{address_of, verdict_of}
use Rattle.rules.specs.Transaction.{turn_of}
use Rattle.rules.specs.Transact.{is_high, transact_of}
use Rattle.laws.proofs.Sound.{Sound, reach_end}
use Rattle.laws.proofs.Parts.{part_sound}
use Rattle.claims.proofs.Reach.{In, patched_either, written, address_inside, outside_reach}
use Rattle.claims.proofs.Entry.{FirstSays, by_array, carried_as}

-- ---- AND only clears

-- a AND c has no bit that a lacks
and_clears : (a c : ℕ) → bit_and (bit_and a c) a ≡ bit_and a c
and_clears = bin_ind (λ (a : ℕ). (c : ℕ) → bit_and (bit_and a c) a ≡ bit_and a c) (λ c. rw (and_zero_l c)) step
  where
    step : (a : ℕ) → ((c : ℕ) → bit_and (bit_and (a / 2) c) (a / 2) ≡ bit_and (a / 2) c) → (c : ℕ) → bit_and (bit_and a c) a ≡ bit_and a c
    step a ih c =
        let d : ℕ = bit_and a c in
        let s = and_step a c in
        let k = and_step d a in
        let h : d / 2 ≡ bit_and (a / 2) (c / 2) = omega arith in
        let j : bit_and (d / 2) (a / 2) ≡ bit_and (a / 2) (c / 2) = ap (λ (z : ℕ). bit_and z (a / 2)) h ∙ ih (c / 2) in
        omega arith

-- new has no bit that old lacks
abbrev pub Cleared : ℕ → ℕ → Type 0
Cleared new old = bit_and new old ≡ new

cell_clears : (off : ℕ) (bs : List ℕ) (j old kept : ℕ) → Cleared kept old → Cleared (cell off bs j old kept) old
unfolding cell
cell_clears off [] j old kept h = h
cell_clears off (b ∷ bs) j old kept h =
    cell_clears (suc off) bs j old _ (by_choice (λ v. Cleared v old) (off % page =? j) (bit_and old b) kept (and_clears old b) h)

-- ---- a program that is carried out

-- y is a byte of the page of address a
abbrev pub InPage : ℕ → ℕ → Type 0
InPage a y = In (page_start a) page y

module _ (p : Part) (sound : Sound p) (r : Regs) (l b : List ℕ) (x : ℕ) (high : Bool) (long : length l ≡ p.size)
    (done : verdict_of p r b x high ≡ CarriedOut (Writes Program)) where
  pub program_stays_in_its_page : (y : ℕ) → (InPage (address_of p b) y → ⊥) → get_or (turn_of p r l b x high).array y 0 ≡ get_or l y 0
  program_stays_in_its_page y out =
      rw (written p r l b x high Program done)
      (outside_reach p sound l b (address_of p b) long (address_inside p sound b) Program y out)

  -- in the page too: "old AND new" has no bit that old lacks
  pub program_only_clears : (y : ℕ) → Cleared (get_or (turn_of p r l b x high).array y 0) (get_or l y 0)
  unfolding programmed
  program_only_clears y =
      let a = address_of p b in
      let old = get_or l y 0 in
      rw (written p r l b x high Program done)
      (patched_either (λ v. Cleared v old) l (page_start a) page _ y (omega (arith, reach_end p sound Program a (address_inside p sound b)))
      (λ h. let e : page_start a + (y - page_start a) ≡ y = omega arith in
      rw e (cell_clears (a % page) (drop 4 b) (y - page_start a) old old (and_self old)))
      (λ h. and_self old))

  -- so no byte grows
  pub program_only_lowers : (y : ℕ) → get_or (turn_of p r l b x high).array y 0 ≤ get_or l y 0
  program_only_lowers y =
      let new = get_or (turn_of p r l b x high).array y 0 in
      omega (arith, program_only_clears y, and_le_r new (get_or l y 0))

-- .. and so in what a caller of the entry is left with, for any part number, registers, meter, array, output, bytes and level: of
-- a transaction whose first byte says a program, whatever it answers (ignored or refused, it leaves the whole array)
module _ (part : ℕ) (kept : Kept) (m : Meter) (l o b : List ℕ) (x wp : ℕ) (says : FirstSays part b (Writes Program)) where
  pub program_stays_in_its_page_lent : (y : ℕ) → (InPage (address_of (part_of part) b) y → ⊥) → get_or (transact_of part kept m l o b x wp).array y 0 ≡ get_or l y 0
  program_stays_in_its_page_lent y out =
      by_array part kept m l o b x wp (λ a. get_or a y 0 ≡ get_or l y 0)
      (λ c k e. program_stays_in_its_page (part_of part) (part_sound part) (regs_of kept) l b x (is_high wp) c.begun.long
      (carried_as part kept m l o b x wp (Writes Program) k says e) y out)
      refl

  pub program_only_clears_lent : (y : ℕ) → Cleared (get_or (transact_of part kept m l o b x wp).array y 0) (get_or l y 0)
  program_only_clears_lent y =
      by_array part kept m l o b x wp (λ a. Cleared (get_or a y 0) (get_or l y 0))
      (λ c k e. program_only_clears (part_of part) (part_sound part) (regs_of kept) l b x (is_high wp) c.begun.long
      (carried_as part kept m l o b x wp (Writes Program) k says e) y)
      (and_self (get_or l y 0))
