-- A job is refused exactly for document 01's reasons: what `translate` and `quote` make of it is a refusal with n at i where the
-- table's line for n holds at i, and none where no line holds.
use Rattle.std.specs.Prelude.{Ok, Err}
use mathlib.Core.Path.{◌≡◌, refl, sym, ap, ◌∙◌, subst}
use mathlib.Core.Bool.{Bool, true, false, not}
use mathlib.Core.List.{List}
use mathlib.Core.Logic.{⊎_elim, ◌↔◌}
use Prim.Native.Nat.{ℕ, zero, suc, ◌+◌, ◌%◌, ◌≤◌, ◌<◌}
use native.Mathlib.Omega.{arith}
use native.Mathlib.Nat.{eq-or-lt_of_le}
use borrow.Author.Tests.{le-ltb, lt-ltb, ltb-true, ltb-false}
use lib.ListN.{length}
use Rattle.lists.specs.Choice.{if◌then◌otherwise◌, ◌=?◌, ◌<?◌}
use Rattle.rules.specs.declared.Refusal.TheVariants.{UnknownPart, UnfitJob, StartSetting}
use Rattle.rules.specs.Part.{Part}
use Rattle.rules.specs.Parts.{is_part, part_of}
use Rattle.rules.specs.Job.{step_length, step_at, step_count}
use Rattle.rules.specs.Refusals.{number_of, index_of, Checked, passes, refused, ◌or_else◌}
use Rattle.rules.specs.JobRefusals.{job_limit, payload_limit, unfit, decoded_refusal, steps_refusal, job_refusal}
use Rattle.job.specs.Carried.{setting_at}
use Rattle.claims.specs.TurnedAway.{Refuses, Right, Unfit, JobTurnedAway, for_1, for_20, for_21, for_step}
use Rattle.claims.proofs.Choices.{refuses_told, refuses_not, =?-is, <?-is, not_is, fails_is, or_or_is}
use Rattle.claims.proofs.StepWrong.{wrong_refuses, refuses_wrong}

-- what refuses with n at i does so, whatever check comes after it
refuses_first : (c d : Checked) (n i : ℕ) → Refuses c n i → Refuses (c or_else d) n i
unfolding ◌or_else◌
refuses_first (Ok u) d n i h = absurd h
refuses_first (Err z) d n i h = h

-- of the places from a up to b, i is the first that f refuses, with n
record First (f : ℕ → Checked) (a b n i : ℕ) : Type 0 where
  from : a ≤ i
  there : i < b
  before : (j : ℕ) → a ≤ j → j < i → f j ≡ passes
  refuses : Refuses (f i) n i

-- ---- the first of n steps

module _ (p : Part) (s pl : ℕ) (job : List ℕ) where
  -- the check of step i at the setting that the guards before it leave
  abbrev f : ℕ → Checked
  f i = decoded_refusal p (setting_at job s i) pl i (step_at job i)

  -- n steps from step a on, at the setting carried to it
  abbrev left : ℕ → ℕ → Checked
  left a n = steps_refusal p (setting_at job s a) pl job a n

  next_is : (a n : ℕ) → left a (suc n) ≡ f a or_else left (suc a) n
  unfolding steps_refusal setting_at
  next_is a n = refl

  refused_first : (a m b n i : ℕ) → b ≡ a + m → Refuses (left a m) n i → First f a b n i
  unfolding steps_refusal setting_at ◌or_else◌
  refused_first a zero b n i w h = absurd h
  refused_first a (suc m) b n i w h = go (f a) refl h (refused_first (suc a) m b n i (omega arith))
    where
      go : (c : Checked) → f a ≡ c → Refuses (c or_else left (suc a) m) n i → (Refuses (left (suc a) m) n i → First f (suc a) b n i) → First f a b n i
      go (Ok u) e h k =
          let q = k h in
          record {
            from = omega (arith, q.from);
            there = q.there;
            before = λ j c d. ⊎_elim (λ x. ap f (sym x) ∙ e) (λ l. q.before j l d) (eq-or-lt_of_le c);
            refuses = q.refuses;
          }
      go (Err z) e h k =
          let r : Refuses (f a) n i = rw e h in
          let x = (refuses_wrong p (setting_at job s a) pl job a n i r).1 in
          record {
            from = omega arith;
            there = omega arith;
            before = λ j c d. absurd (omega arith);
            refuses = subst (λ (j : ℕ). Refuses (f j) n i) x r;
          }

  first_refused : (a m b n i : ℕ) → b ≡ a + m → First f a b n i → Refuses (left a m) n i
  unfolding ◌or_else◌
  first_refused a zero b n i w h = let y = h.from in let x = h.there in absurd (omega arith)
  first_refused a (suc m) b n i w h =
      subst (λ (d : Checked). Refuses d n i) (sym (next_is a m))
      (⊎_elim
      (λ x. refuses_first (f a) (left (suc a) m) n i (subst (λ (j : ℕ). Refuses (f j) n i) (sym x) h.refuses))
      (λ l.
      rw (h.before a (omega arith) l)
      (first_refused (suc a) m b n i (omega arith)
      (record { from = l; there = h.there; before = λ j c d. h.before j (omega arith) d; refuses = h.refuses })))
      (eq-or-lt_of_le h.from))

  -- ---- a step that earns no number

  right_passes : (i : ℕ) → Right p (setting_at job s i) pl job i → f i ≡ passes
  right_passes i h = go (f i) refl
    where
      go : (c : Checked) → f i ≡ c → f i ≡ passes
      go (Ok u) e = e
      go (Err z) e = absurd (h (number_of z) (refuses_wrong p (setting_at job s i) pl job i (number_of z) (index_of z) (refuses_told (f i) z e)).0)

  passes_right : (i : ℕ) → f i ≡ passes → Right p (setting_at job s i) pl job i
  passes_right i e n w = refuses_not (f i) n i e (wrong_refuses p (setting_at job s i) pl job i n w)

-- ---- the job

unfit-is : (job : List ℕ) (pl : ℕ) → unfit job pl ≡ true ↔ Unfit job pl
unfolding unfit
unfit-is job pl =
    or_or_is (not (length job % step_length =? 0)) (job_limit <? step_count job) (payload_limit <? pl) _ _ _
    (not_is (length job % step_length =? 0) _ (=?-is (length job % step_length) 0)) (<?-is job_limit (step_count job)) (<?-is payload_limit pl)

module _ (part s : ℕ) (job : List ℕ) (pl : ℕ) where
  abbrev steps : Checked
  steps = steps_refusal (part_of part) (setting_at job s 0) pl job 0 (step_count job)

  the_steps : is_part part ≡ true → unfit job pl ≡ false → s ≤ (part_of part).setting_limit → job_refusal part s job pl ≡ steps
  unfolding job_refusal setting_at if◌then◌otherwise◌
  the_steps known fits small = rw (known, fits, le-ltb (part_of part).setting_limit s small)

  -- what is refused is refused for a reason
  refused_holds : (n i : ℕ) → Refuses (job_refusal part s job pl) n i → JobTurnedAway part s job pl n i
  unfolding job_refusal setting_at if◌then◌otherwise◌
  refused_holds n i h = go (is_part part) (unfit job pl) ((part_of part).setting_limit <? s) refl refl refl h
    where
      go : (k u o : Bool) → is_part part ≡ k → unfit job pl ≡ u → ((part_of part).setting_limit <? s) ≡ o
          → Refuses (if not k then refused UnknownPart otherwise if u then refused UnfitJob otherwise if o then refused StartSetting otherwise steps) n i
          → JobTurnedAway part s job pl n i
      go false u o e f g h = rw (← h.0, ← h.1) (for_1 e)
      go true true o e f g h = rw (← h.0, ← h.1) (for_20 e ((unfit-is job pl).0 f))
      go true false true e f g h =
          rw (← h.0, ← h.1) (for_21 e ((fails_is (unfit job pl) _ (unfit-is job pl)).0 f) (ltb-true (part_of part).setting_limit s g))
      go true false false e f g h =
          let q = refused_first (part_of part) s pl job 0 (step_count job) (step_count job) n i (omega arith) h in
          for_step e ((fails_is (unfit job pl) _ (unfit-is job pl)).0 f) (ltb-false (part_of part).setting_limit s g) n i q.there
          (λ j k. passes_right (part_of part) s pl job j (q.before j (omega arith) k))
          (refuses_wrong (part_of part) (setting_at job s i) pl job i n i q.refuses).0

  -- a reason refuses
  holds_refused : (n i : ℕ) → JobTurnedAway part s job pl n i → Refuses (job_refusal part s job pl) n i
  unfolding job_refusal if◌then◌otherwise◌
  holds_refused n i (for_1 e) = rw e (refl, refl)
  holds_refused n i (for_20 e u) = rw (e, (unfit-is job pl).1 u) (refl, refl)
  holds_refused n i (for_21 e u h) = rw (e, (fails_is (unfit job pl) _ (unfit-is job pl)).1 u, lt-ltb (part_of part).setting_limit s h) (refl, refl)
  holds_refused n i (for_step e u h k j there before wrong) =
      subst (λ (d : Checked). Refuses d k j) (sym (the_steps e ((fails_is (unfit job pl) _ (unfit-is job pl)).1 u) h))
      (first_refused (part_of part) s pl job 0 (step_count job) (step_count job) k j (omega arith)
      (record {
        from = omega arith;
        there = there;
        before = λ c a b. right_passes (part_of part) s pl job c (before c b);
        refuses = wrong_refuses (part_of part) (setting_at job s j) pl job j k wrong;
      }))

  pub job_refused_exactly : (n i : ℕ) → Refuses (job_refusal part s job pl) n i ↔ JobTurnedAway part s job pl n i
  job_refused_exactly n i = (refused_holds n i, holds_refused n i)

  pub job_taken_exactly : job_refusal part s job pl ≡ passes ↔ ((n i : ℕ) → JobTurnedAway part s job pl n i → ⊥)
  job_taken_exactly = (λ e n i h. refuses_not (job_refusal part s job pl) n i e (holds_refused n i h), go (job_refusal part s job pl) refl)
    where
      go : (c : Checked) → job_refusal part s job pl ≡ c → ((n i : ℕ) → JobTurnedAway part s job pl n i → ⊥) → job_refusal part s job pl ≡ passes
      go (Ok u) e h = e
      go (Err z) e h = absurd (h (number_of z) (index_of z) (refused_holds (number_of z) (index_of z) (refuses_told (job_refusal part s job pl) z e)))
