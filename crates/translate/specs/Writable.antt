-- What an accepted step has that its records are written by.
use Rattle.std.specs.Prelude.{List, [], ◌≡◌, ℕ, ◌+◌, ◌*◌, ◌≤◌, ◌<◌, length, Option, Some, None}
use Rattle.rules.specs.declared.EraseUnit.{EraseUnit}
use Rattle.rules.specs.declared.Span.{Span}
use Rattle.rules.specs.declared.Step.{Step}
use Rattle.rules.specs.declared.Step.TheVariants.{EraseAt, Lay, Guard}
use Rattle.rules.specs.Part.{Part}
use Rattle.rules.specs.Tape.{Rec}
use Rattle.rules.specs.Units.{address_end}
use Rattle.rules.specs.Job.{step_at, step_count}
use Rattle.rules.specs.JobRefusals.{job_limit}
use Rattle.rules.specs.Records.{step_recs}
use Rattle.rules.specs.Bill.{pages_touched}
use Rattle.job.specs.Counted.{Short}

pub record Writable (p : Part) (payload : List ℕ) (w : Step) : Type 0 where
  pub erases : (u : EraseUnit) (a : ℕ) → w ≡ EraseAt u a → a < address_end
  pub lays : (s : Span) → w ≡ Lay s → Short s
  pub covered : (s : Span) → w ≡ Lay s → s.offset + s.length ≤ length payload
  pub guards : (g : ℕ) → w ≡ Guard g → g ≤ p.setting_limit

-- how many records a step becomes
abbrev pub record_count : Step → ℕ
record_count (EraseAt u a) = 3
record_count (Lay s) = 3 * pages_touched s.address s.length
record_count (Guard g) = 3

-- .. and of what a job's bytes say: bytes that say no step become none
abbrev pub decoded_recs : Part → List ℕ → Option Step → List Rec
decoded_recs p payload (Some w) = step_recs p payload w
decoded_recs p payload None = []

abbrev pub decoded_count : Option Step → ℕ
decoded_count (Some w) = record_count w
decoded_count None = 0

pub record WritableJob (p : Part) (payload job : List ℕ) : Type 0 where
  pub few : step_count job ≤ job_limit
  pub each : (i : ℕ) → i < step_count job → (w : Step) → step_at job i ≡ Some w → Writable p payload w
