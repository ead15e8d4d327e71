-- Demand 3 from the job's bytes: what translating does not refuse, a ready chip plays.
use mathlib.Core.Path.{◌≡◌, ap}
use mathlib.Core.List.{List}
use Prim.Native.Nat.{ℕ}
use lib.ListN.{length}
use Rattle.rules.specs.declared.Kept.{Kept}
use Rattle.rules.specs.declared.Meter.{Meter}
use Rattle.rules.specs.Parts.{part_of}
use Rattle.rules.specs.Status.{regs_of}
use Rattle.rules.specs.Play.{State, state, play}
use Rattle.rules.specs.Job.{step_count, steps_of, array_meant}
use Rattle.rules.specs.Refusals.{passes}
use Rattle.rules.specs.JobRefusals.{job_refusal}
use Rattle.rules.specs.Ready.{Ready}
use Rattle.laws.proofs.JobPassed.{job_passed}
use Rattle.laws.proofs.RecordOk.{RecsOk}
use Rattle.demand.specs.Ignored.{ignored_in}
use Rattle.demand.specs.JobRecs.{recs_of_job}
use Rattle.laws.proofs.Parts.{part_tapeable}
use Rattle.demand.proofs.Fit.{Fit}
use Rattle.demand.proofs.Accept.{JobOk, job_ok}
use Rattle.demand.proofs.Demand3.{after_job, demand3}
use Rattle.demand.proofs.NoneIgnored.{none_ignored}
use Rattle.demand.proofs.Holds.{recs_ok}

-- none of 1 and 20 to 25
pub accepted_ok : (part s : ℕ) (job : List ℕ) (n : ℕ) → job_refusal part s job n ≡ passes → JobOk (part_of part) s n (steps_of job)
accepted_ok part s job n e = job_ok (part_of part) s n job 0 (step_count job) (job_passed part s job n e).unrefused

module _ (part s : ℕ) (job payload : List ℕ) (ok : job_refusal part s job (length payload) ≡ passes) where
  -- "awake", "idle", "unlocked", at the setting that the job was translated for
  module _ (kept : Kept) (ready : Ready (part_of part) s kept) (l : List ℕ) (long : length l ≡ (part_of part).size) (m : Meter) where
    fit : Fit (part_of part) (state (regs_of kept) l m)
    fit = record { calm = record { awake = ready.awake; idle = ready.idle; unlocked = ready.unlocked }; long = long }

    steps_ok : JobOk (part_of part) (regs_of kept).setting (length payload) (steps_of job)
    steps_ok = rw ready.at_setting (accepted_ok part s job (length payload) ok)

    -- the array first: what an empty tape cannot give
    pub job-array : (play (part_of part) (recs_of_job part job payload) (state (regs_of kept) l m)).array ≡ array_meant (part_of part) payload l (steps_of job)
    job-array = ap (λ (t : State). t.array) (demand3 (part_of part) (part_tapeable part) payload (steps_of job) (state (regs_of kept) l m) fit steps_ok)

    pub job-played : play (part_of part) (recs_of_job part job payload) (state (regs_of kept) l m) ≡ after_job (part_of part) payload (steps_of job) (state (regs_of kept) l m)
    job-played = demand3 (part_of part) (part_tapeable part) payload (steps_of job) (state (regs_of kept) l m) fit steps_ok

    pub job-none-ignored : ignored_in (part_of part) (recs_of_job part job payload) (state (regs_of kept) l m) ≡ 0
    job-none-ignored = none_ignored (part_of part) (part_tapeable part) payload (steps_of job) (state (regs_of kept) l m) fit steps_ok

  pub job_recs_ok : RecsOk (recs_of_job part job payload)
  job_recs_ok = recs_ok (part_of part) (part_tapeable part) payload (steps_of job)
