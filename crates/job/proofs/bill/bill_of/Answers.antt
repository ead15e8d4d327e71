use native.Mathlib.Omega.{arith}
use Rattle.job.proofs.Bills.{step_few, steps_few}
use Rattle.job.proofs.bill.bill_of.Goals as goal

pub add-total-requires : goal.add-total-requires
add-total-requires c =
    let l = c.loop-i in
    let job = c.args.job.now in
    let few = c.requires.few in
    let h = steps_few job c.requires l.i (omega arith) in
    let k = step_few job c.requires l.i (omega arith) in
    rw (l.invariant, c.bill_at.ensures) (omega arith)
