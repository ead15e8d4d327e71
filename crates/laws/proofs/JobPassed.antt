-- What the absence of a refusal says of a job and of each of its steps.
use Rattle.std.specs.Prelude.{Option, Some, None}
use mathlib.Core.Path.{◌≡◌, refl}
use mathlib.Core.Bool.{true, false, not}
use mathlib.Core.List.{List}
use Prim.Native.Nat.{ℕ, suc, ◌+◌, ◌≤◌}
use borrow.Author.Tests.{ltb-false, not-false}
use Rattle.lists.specs.Choice.{◌<?◌}
use Rattle.rules.specs.declared.Refusal.TheVariants.{UnknownPart, UnfitJob, StartSetting, StepUnsaid, StepOutside, StepBeyond, StepProtected}
use Rattle.rules.specs.declared.Span.{Span}
use Rattle.rules.specs.declared.Step.{Step}
use Rattle.rules.specs.declared.Step.TheVariants.{Lay}
use Rattle.rules.specs.Part.{Part}
use Rattle.rules.specs.Parts.{is_part, part_of}
use Rattle.rules.specs.Refusals.{passes}
use Rattle.rules.specs.Job.{step_at, step_count}
use Rattle.rules.specs.JobRefusals.{unfit, outside, beyond, first_shielded, shielded, step_refusal, decoded_refusal, setting_after, steps_refusal, job_refusal}
use Rattle.laws.proofs.Accepted.{refused_not, passed, neither}

-- ---- 22 to 25

-- a step at setting s, of a job with a payload of n bytes
pub record StepOk (p : Part) (s n : ℕ) (w : Step) : Type 0 where
  -- not 23, not 24, not 25
  pub inside : outside p w ≡ false
  pub covered : beyond n w ≡ false
  pub bare : first_shielded p s w ≡ None

-- bytes that say such a step
pub record StepPassed (p : Part) (s n : ℕ) (d : Option Step) : Type 0 where
  pub step : Step
  pub good : d ≡ Some step
  pub ok : StepOk p s n step

pub lay-covered : (n : ℕ) (s : Span) → beyond n (Lay s) ≡ false → s.offset + s.length ≤ n
lay-covered n s e = ltb-false n (s.offset + s.length) e

unshielded : (i : ℕ) (f : Option ℕ) → shielded i f ≡ passes → f ≡ None
unshielded i (Some x) e = absurd (refused_not (StepProtected i) e)
unshielded i None e = refl

decoded_passed : (p : Part) (s n i : ℕ) (d : Option Step) → decoded_refusal p s n i d ≡ passes → StepPassed p s n d
unfolding step_refusal
decoded_passed p s n i (Some w) e =
    let a = passed (outside p w) (StepOutside i) _ e in
    let b = passed (beyond n w) (StepBeyond i) _ a.1 in
    record { step = w; good = refl; ok = record { inside = a.0; covered = b.0; bare = unshielded i (first_shielded p s w) b.1 } }
decoded_passed p s n i None e = absurd (refused_not (StepUnsaid i) e)

-- the first of the steps that are left, and those after it
pub steps_next : (p : Part) (n : ℕ) (job : List ℕ) (s i k : ℕ) → steps_refusal p s n job i (suc k) ≡ passes
    → StepPassed p s n (step_at job i) × (steps_refusal p (setting_after s (step_at job i)) n job (suc i) k ≡ passes)
unfolding steps_refusal
steps_next p n job s i k e =
    let h = neither (decoded_refusal p s n i (step_at job i)) (steps_refusal p (setting_after s (step_at job i)) n job (suc i) k) e in
    (decoded_passed p s n i (step_at job i) h.0, h.1)

-- ---- the job

pub record JobPassed (part s : ℕ) (job : List ℕ) (n : ℕ) : Type 0 where
  -- not 1, not 20, not 21
  pub known : is_part part ≡ true
  pub fits : unfit job n ≡ false
  pub setting : s ≤ (part_of part).setting_limit
  pub unrefused : steps_refusal (part_of part) s n job 0 (step_count job) ≡ passes

pub job_passed : (part s : ℕ) (job : List ℕ) (n : ℕ) → job_refusal part s job n ≡ passes → JobPassed part s job n
unfolding job_refusal
job_passed part s job n e =
    let a = passed (not (is_part part)) UnknownPart _ e in
    let b = passed (unfit job n) UnfitJob _ a.1 in
    let c = passed ((part_of part).setting_limit <? s) StartSetting _ b.1 in
    record { known = not-false _ a.0; fits = b.0; setting = ltb-false _ _ c.0; unrefused = c.1 }
