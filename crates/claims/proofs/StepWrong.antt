-- What is wrong with a step, in document 01's words: it is refused with n exactly where the table's line for n says so, at its own
-- index, and passes where no line does.
use Rattle.std.specs.Prelude.{Option, Some, None, Ok, Err}
use mathlib.Core.Path.{◌≡◌, refl, sym, ◌∙◌, subst}
use mathlib.Core.Bool.{Bool, true, false, not}
use mathlib.Core.List.{List}
use mathlib.Core.Logic.{◌↔◌}
use Prim.Native.Nat.{ℕ, ◌+◌, ◌*◌, ◌≤◌, ◌<◌}
use native.Mathlib.Omega.{arith}
use borrow.Author.Tests.{not-true}
use Rattle.lists.specs.Choice.{if◌then◌otherwise◌, ◌=?◌, ◌<?◌, ◌≤?◌}
use Rattle.lists.proofs.Search.{first_at}
use Rattle.rules.specs.declared.EraseUnit.{EraseUnit}
use Rattle.rules.specs.declared.EraseUnit.TheVariants.{Sector, Block32, Block64, Chip}
use Rattle.rules.specs.declared.Step.{Step}
use Rattle.rules.specs.declared.Step.TheVariants.{EraseAt, Lay, Guard}
use Rattle.rules.specs.declared.Refusal.TheVariants.{StepOutside, StepBeyond}
use Rattle.rules.specs.Part.{Part}
use Rattle.rules.specs.Protection.{is_protected, first_protected}
use Rattle.rules.specs.Refusals.{number_of, index_of, Checked, refused}
use Rattle.rules.specs.Job.{step_at}
use Rattle.rules.specs.JobRefusals.{lay_limit, chip_not_at_zero, outside, beyond, step_start, step_reach, first_shielded, shielded, step_refusal, decoded_refusal}
use Rattle.laws.proofs.Protection.{none_protected}
use Rattle.claims.specs.TurnedAway.{Refuses, Says, Outside, Beyond, Touches, Shielded, Wrong, for_22, for_23, for_24, for_25}
use Rattle.claims.proofs.Choices.{never, =?-is, ≤?-is, <?-is, not_is, fails_is, or_or_is, or_or_or_is}
use Rattle.claims.proofs.StepSays.{said_is_decoded, decoded_is_said}

-- ---- the tests of 23, 24 and 25

chip_is : (u : EraseUnit) (a : ℕ) → chip_not_at_zero u a ≡ true ↔ (u ≡ Chip) × (a ≡ 0 → ⊥)
chip_is Sector a = (λ e. never (sym e), λ h. let q = h.0 in let z : ◌≡◌ {A = ℕ} 0 1 = cc in absurd (omega arith))
chip_is Block32 a = (λ e. never (sym e), λ h. let q = h.0 in let z : ◌≡◌ {A = ℕ} 0 1 = cc in absurd (omega arith))
chip_is Block64 a = (λ e. never (sym e), λ h. let q = h.0 in let z : ◌≡◌ {A = ℕ} 0 1 = cc in absurd (omega arith))
chip_is Chip a = let h = not_is (a =? 0) (a ≡ 0) (=?-is a 0) in (λ e. (refl, h.0 e), λ k. h.1 k.1)

off_is : (t : Bool) → not t ≡ true ↔ t ≡ false
off_is t = (not-true t, λ e. rw e refl)

outside-is : (p : Part) (w : Step) → outside p w ≡ true ↔ Outside p w
outside-is p (EraseAt u a) = or_or_is (not (p.erases u)) (p.size ≤? a) (chip_not_at_zero u a) _ _ _ (off_is (p.erases u)) (≤?-is p.size a) (chip_is u a)
outside-is p (Lay s) =
    let a = s.address in
    let n = s.length in
    or_or_or_is (p.size ≤? a) (n =? 0) (lay_limit <? n) (p.size <? a + n) _ _ _ _
    (≤?-is p.size a) (=?-is n 0) (<?-is lay_limit n) (<?-is p.size (a + n))
outside-is p (Guard g) = <?-is p.setting_limit g

beyond-is : (n : ℕ) (w : Step) → beyond n w ≡ true ↔ Beyond n w
beyond-is n (EraseAt u a) = (λ e. never (sym e), λ h. absurd h)
beyond-is n (Lay s) = <?-is n (s.offset + s.length)
beyond-is n (Guard g) = (λ e. never (sym e), λ h. absurd h)

touches_is : (p : Part) (w : Step) (y : ℕ) → Touches p w y ↔ (step_start w ≤ y) × (y < step_start w + step_reach p w)
touches_is p (EraseAt u a) y = (λ h. h, λ h. h)
touches_is p (Lay s) y = (λ h. h, λ h. h)
touches_is p (Guard g) y = (λ h. absurd h, λ h. omega arith)

module _ (p : Part) (s : ℕ) (w : Step) where
  found_shields : (y : ℕ) → first_shielded p s w ≡ Some y → Shielded p s w
  unfolding first_protected
  found_shields y q =
      let l = first_at (is_protected p s) (step_start w) (step_reach p w) y q in
      (y, (touches_is p w y).1 (l.from, l.below), l.holds)

  -- step i is refused with 25 where a byte of it is protected
  shields_found : (i : ℕ) → Shielded p s w → Refuses (shielded i (first_shielded p s w)) 25 i
  shields_found i h = go (first_shielded p s w) refl
    where
      go : (f : Option ℕ) → first_shielded p s w ≡ f → Refuses (shielded i f) 25 i
      go (Some y) e = (refl, refl)
      go None e =
          let t = (touches_is p w h.0).0 h.1 in
          never (sym h.2 ∙ none_protected p s (step_start w) (step_reach p w) e h.0 t.0 t.1)

-- ---- the check of a step

module _ (p : Part) (setting payload_length : ℕ) (job : List ℕ) (i : ℕ) where
  abbrev checked : Option Step → Checked
  checked d = decoded_refusal p setting payload_length i d

  abbrev Earns : ℕ → Type 0
  Earns n = Wrong p setting payload_length job i n

  -- a refusal is earned, and given at the step's own index
  abbrev Earned : Checked → Type 0
  Earned (Ok u) = Unit {0}
  Earned (Err z) = Earns (number_of z) × (index_of z ≡ i)

  earned : (d : Option Step) → step_at job i ≡ d → Earned (checked d)
  unfolding step_refusal if◌then◌otherwise◌
  earned None e = (for_22 (λ w h. let q = sym e ∙ said_is_decoded job (16 * i) w h in let c : ◌≡◌ {A = ℕ} 0 1 = cc in omega arith), refl)
  earned (Some w) e = go (outside p w) (beyond payload_length w) (first_shielded p setting w) refl refl refl
    where
      says : Says job (16 * i) w
      says = decoded_is_said job (16 * i) w e

      go : (o b : Bool) (f : Option ℕ) → outside p w ≡ o → beyond payload_length w ≡ b → first_shielded p setting w ≡ f
          → Earned (if o then refused (StepOutside i) otherwise if b then refused (StepBeyond i) otherwise shielded i f)
      go true b f k g h = (for_23 w says ((outside-is p w).0 k), refl)
      go false true f k g h = (for_24 w says ((fails_is (outside p w) _ (outside-is p w)).0 k) ((beyond-is payload_length w).0 g), refl)
      go false false (Some y) k g h = (
        for_25 w says ((fails_is (outside p w) _ (outside-is p w)).0 k) ((fails_is (beyond payload_length w) _ (beyond-is payload_length w)).0 g) (found_shields p setting w y h),
        refl,
      )
      go false false None k g h = tt

  unsaid : (d : Option Step) → step_at job i ≡ d → ((w : Step) → Says job (16 * i) w → ⊥) → Refuses (checked d) 22 i
  unsaid None e h = (refl, refl)
  unsaid (Some w) e h = absurd (h w (decoded_is_said job (16 * i) w e))

  -- the bytes that say w are checked as w is
  said : (w : Step) (n : ℕ) → Says job (16 * i) w → Refuses (step_refusal p setting payload_length i w) n i → Refuses (checked (step_at job i)) n i
  said w n h = subst (λ (d : Option Step). Refuses (checked d) n i) (sym (said_is_decoded job (16 * i) w h))

  module _ (w : Step) where
    inside : (Outside p w → ⊥) → outside p w ≡ false
    inside = (fails_is (outside p w) _ (outside-is p w)).1

    covered : (Beyond payload_length w → ⊥) → beyond payload_length w ≡ false
    covered = (fails_is (beyond payload_length w) _ (beyond-is payload_length w)).1

    at_23 : Outside p w → Refuses (step_refusal p setting payload_length i w) 23 i
    unfolding step_refusal if◌then◌otherwise◌
    at_23 o = rw ((outside-is p w).1 o) (refl, refl)

    at_24 : (Outside p w → ⊥) → Beyond payload_length w → Refuses (step_refusal p setting payload_length i w) 24 i
    unfolding step_refusal if◌then◌otherwise◌
    at_24 o b = rw (inside o, (beyond-is payload_length w).1 b) (refl, refl)

    at_25 : (Outside p w → ⊥) → (Beyond payload_length w → ⊥) → Shielded p setting w → Refuses (step_refusal p setting payload_length i w) 25 i
    unfolding step_refusal if◌then◌otherwise◌
    at_25 o b h = rw (inside o, covered b) (shields_found p setting w i h)

  pub wrong_refuses : (n : ℕ) → Wrong p setting payload_length job i n → Refuses (checked (step_at job i)) n i
  wrong_refuses n (for_22 h) = unsaid (step_at job i) refl h
  wrong_refuses n (for_23 w s o) = said w 23 s (at_23 w o)
  wrong_refuses n (for_24 w s o b) = said w 24 s (at_24 w o b)
  wrong_refuses n (for_25 w s o b h) = said w 25 s (at_25 w o b h)

  pub refuses_wrong : (n j : ℕ) → Refuses (checked (step_at job i)) n j → Wrong p setting payload_length job i n × (i ≡ j)
  refuses_wrong n j = go (checked (step_at job i)) (earned (step_at job i) refl)
    where
      go : (c : Checked) → Earned c → Refuses c n j → Wrong p setting payload_length job i n × (i ≡ j)
      go (Ok u) k h = absurd h
      go (Err z) k h = (subst Earns h.0 k.0, sym k.1 ∙ h.1)
