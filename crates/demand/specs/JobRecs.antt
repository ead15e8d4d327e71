-- The records that translating writes for a job: what demand 3 plays.
use Rattle.std.specs.Prelude.{ℕ, List}
use Rattle.rules.specs.Parts.{part_of}
use Rattle.rules.specs.Tape.{Rec}
use Rattle.rules.specs.Job.{steps_of}
use Rattle.rules.specs.Records.{job_recs}

abbrev pub recs_of_job : (part : ℕ) (job payload : List ℕ) → List Rec
recs_of_job part job payload = job_recs (part_of part) payload (steps_of job)
