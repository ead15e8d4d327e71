use mathlib.Core.Path.{◌≡◌}
use Prim.Native.Nat.{◌-◌}
use Rattle.rules.specs.Parts.{part_of}
use Rattle.rules.specs.Job.{step_count}
use Rattle.rules.specs.JobRefusals.{steps_refusal}
use Rattle.job.proofs.refuse.steps_refusal.Given as goal

abbrev pub invariant-loop-i : goal.invariant-loop-i
invariant-loop-i l = steps_refusal (part_of l.part) l.setting l.payload_length l.job l.i (step_count l.job - l.i) ≡ steps_refusal (part_of l.part) l.s l.payload_length l.job 0 (step_count l.job)
