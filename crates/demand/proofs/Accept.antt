-- What an accepted job is, step by step, over decoded steps; a job that 22 to 25 let pass is one.
use Rattle.std.specs.Prelude.{Option}
use mathlib.Core.Path.{◌≡◌}
use mathlib.Core.List.{List, [], ◌∷◌}
use Prim.Native.Nat.{ℕ, zero, suc}
use Rattle.rules.specs.declared.Step.{Step}
use Rattle.rules.specs.Part.{Part}
use Rattle.rules.specs.Job.{step_at, with_step, steps_from, setting_meant}
use Rattle.rules.specs.Refusals.{passes}
use Rattle.rules.specs.JobRefusals.{setting_after, steps_refusal}
use Rattle.laws.proofs.JobPassed.{StepOk, StepPassed, steps_next}

-- each step at the setting that the steps before it leave
pub data JobOk (p : Part) : ℕ → ℕ → List Step → Type 0 where
  no_steps : {s n : ℕ} → JobOk p s n []
  next : {s n : ℕ} {w : Step} {ws : List Step} → StepOk p s n w → JobOk p (setting_meant s w) n ws → JobOk p s n (w ∷ ws)

-- "each step in order for 22 to 25"
pub job_ok : (p : Part) (s n : ℕ) (job : List ℕ) (i k : ℕ) → steps_refusal p s n job i k ≡ passes → JobOk p s n (steps_from job i k)
unfolding steps_refusal steps_from
job_ok p s n job i zero e = no_steps
job_ok p s n job i (suc k) e =
    let q = steps_next p n job s i k e in
    let ih = job_ok p (setting_after s (step_at job i)) n job (suc i) k q.1 in
    go (step_at job i) q.0 ih
  where
    go : (d : Option Step) → StepPassed p s n d → JobOk p (setting_after s d) n (steps_from job (suc i) k) → JobOk p s n (with_step d (steps_from job (suc i) k))
    go d h ih = rw h.good (next h.ok (rw h.good at ih))
