-- What a bill asks of a job, so that no sum in it wraps. A job that is accepted has it.
use Rattle.std.specs.Prelude.{ℕ, ◌+◌, ◌*◌, ◌≤◌, ◌<◌, ◌≡◌, List, Option, Some, None}
use Rattle.rules.specs.declared.Span.{Span}
use Rattle.rules.specs.declared.Step.{Step}
use Rattle.rules.specs.declared.Step.TheVariants.{Lay}
use Rattle.rules.specs.declared.Bill.{Bill}
use Rattle.rules.specs.Units.{address_end}
use Rattle.rules.specs.Job.{step_at, step_count}
use Rattle.rules.specs.JobRefusals.{job_limit, lay_limit}
use Rattle.rules.specs.Bill.{tape_length, step_bill, no_bill}

-- the pages that a lay of lay_limit bytes touches at most
abbrev pub page_limit : ℕ
page_limit = 17

pub record Short (s : Span) : Type 0 where
  pub not_empty : 0 < s.length
  pub few : s.length ≤ lay_limit
  pub near : s.address + s.length ≤ address_end

-- a step that lays, if it does, a short span
pub record Billable (w : Step) : Type 0 where
  pub lays : (s : Span) → w ≡ Lay s → Short s

pub record Counted (job : List ℕ) : Type 0 where
  pub few : step_count job ≤ job_limit
  pub each : (i : ℕ) → i < step_count job → (w : Step) → step_at job i ≡ Some w → Billable w

-- at most what n such steps cost
pub record Upto (b : Bill) (n : ℕ) : Type 0 where
  pub programs_few : b.programs ≤ page_limit * n
  pub erases_few : b.erases ≤ n
  pub register_writes_few : b.register_writes ≤ n
  pub length_few : b.length ≤ tape_length page_limit * n

-- bytes that say no step cost nothing
abbrev pub decoded_bill : Option Step → Bill
decoded_bill (Some w) = step_bill w
decoded_bill None = no_bill
