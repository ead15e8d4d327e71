use Rattle.rules.specs.Job.{steps_from}
use Rattle.rules.specs.Bill.{bill_of}
use mathlib.Core.Path.{◌≡◌}
use Rattle.job.proofs.bill.bill_of.Given as goal

abbrev pub invariant-loop-i : goal.invariant-loop-i
invariant-loop-i l = l.total ≡ bill_of (steps_from l.job 0 l.i)
