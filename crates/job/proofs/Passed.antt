-- An accepted job's steps, each at the setting carried to it; and that its bill can be summed.
use Rattle.std.specs.Prelude.{Option, Some}
use mathlib.Core.Path.{◌≡◌, subst}
use mathlib.Core.Bool.{Bool, false, not, ◌||◌}
use mathlib.Core.List.{List}
use mathlib.Core.Logic.{⊎_elim}
use Prim.Native.Nat.{ℕ, zero, suc, ◌+◌, ◌%◌, ◌≤◌, ◌<◌}
use native.Mathlib.Omega.{arith}
use native.Mathlib.Nat.{eq-or-lt_of_le}
use lib.ListN.{length}
use borrow.Author.Tests.{eqb-true, ltb-false, not-false}
use Rattle.lists.specs.Choice.{◌=?◌, ◌<?◌}
use Rattle.lists.proofs.Choice.{either_false}
use Rattle.rules.specs.declared.Step.{Step}
use Rattle.rules.specs.Part.{Part}
use Rattle.rules.specs.Parts.{part_of}
use Rattle.rules.specs.Job.{step_length, step_at, step_count}
use Rattle.rules.specs.Refusals.{passes}
use Rattle.rules.specs.JobRefusals.{outside, step_start, step_reach, job_limit, payload_limit, unfit, steps_refusal, job_refusal}
use Rattle.laws.proofs.Inside.{lay_inside, step_end}
use Rattle.laws.proofs.JobPassed.{StepOk, StepPassed, steps_next, job_passed}
use Rattle.laws.proofs.Sound.{Sound, size_small}
use Rattle.laws.proofs.Parts.{part_sound}
use Rattle.job.specs.Carried.{setting_at}
use Rattle.job.specs.Counted.{Billable, Counted}

-- ---- sums that do not wrap

pub size_few : (part : ℕ) → (part_of part).size ≤ 16777216
size_few part = size_small (part_of part) (part_sound part)

pub touched_few : (part : ℕ) (w : Step) → outside (part_of part) w ≡ false → step_start w + step_reach (part_of part) w ≤ 16777216
touched_few part w e = omega (arith, step_end (part_of part) (part_sound part) w e, size_few part)

-- ---- 20

pub record Fit (job : List ℕ) (pl : ℕ) : Type 0 where
  pub whole : length job % step_length ≡ 0
  pub few : step_count job ≤ job_limit
  pub small : pl ≤ payload_limit

pub fit : (job : List ℕ) (pl : ℕ) → unfit job pl ≡ false → Fit job pl
unfolding unfit
fit job pl e =
    let w : Bool = not (length job % step_length =? 0) in
    let m : Bool = job_limit <? step_count job in
    let a = either_false (w || m) (payload_limit <? pl) e in
    let b = either_false w m a.0 in
    record { whole = eqb-true _ _ (not-false _ b.0); few = ltb-false _ _ b.1; small = ltb-false _ _ a.1 }

pub few_steps : (job : List ℕ) (pl : ℕ) → unfit job pl ≡ false → step_count job ≤ job_limit
few_steps job pl e = (fit job pl e).few

-- ---- 22 to 25

each : (p : Part) (pl : ℕ) (job : List ℕ) (s i n : ℕ) → steps_refusal p (setting_at job s i) pl job i n ≡ passes
    → (k : ℕ) → i ≤ k → k < i + n → StepPassed p (setting_at job s k) pl (step_at job k)
unfolding setting_at
each p pl job s i zero e k h l = absurd (omega arith)
each p pl job s i (suc n) e k h l =
    let a = steps_next p pl job (setting_at job s i) i n e in
    ⊎_elim
    (λ q. subst (λ (j : ℕ). StepPassed p (setting_at job s j) pl (step_at job j)) q a.0)
    (λ m. each p pl job s (suc i) n a.1 k m (omega arith))
    (eq-or-lt_of_le h)

-- each of a job's steps, at the setting carried to it
pub each_passed : (part s : ℕ) (job : List ℕ) (pl : ℕ) → job_refusal part s job pl ≡ passes
    → (i : ℕ) → i < step_count job → StepPassed (part_of part) (setting_at job s i) pl (step_at job i)
unfolding setting_at
each_passed part s job pl e i h = each (part_of part) pl job s 0 (step_count job) (job_passed part s job pl e).unrefused i (omega arith) (omega arith)

-- what 23 lets pass lies where three address bytes reach, so no sum of a bill wraps
pub ok_billable : (p : Part) → Sound p → (s pl : ℕ) (w : Step) → StepOk p s pl w → Billable w
ok_billable p sound s pl w k =
    let m = size_small p sound in
    record {
      lays = λ x q.
          let i = lay_inside p x (rw q at k.inside) in
          record { not_empty = i.not_empty; few = i.few; near = omega (arith, i.ends) };
    }

-- bytes that say a step that passed say no other
pub passed_ok : (p : Part) (s pl : ℕ) (d : Option Step) (w : Step) → StepPassed p s pl d → d ≡ Some w → StepOk p s pl w
passed_ok p s pl d w h e = let v : h.step ≡ w = cc h.good in rw v at h.ok

pub accepted-counted : (part s : ℕ) (job : List ℕ) (pl : ℕ) → job_refusal part s job pl ≡ passes → Counted job
accepted-counted part s job pl e =
    record {
      few = (fit job pl (job_passed part s job pl e).fits).few;
      each = λ i h w q. ok_billable (part_of part) (part_sound part) _ pl w (passed_ok _ _ pl (step_at job i) w (each_passed part s job pl e i h) q);
    }
