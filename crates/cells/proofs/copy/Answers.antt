use native.Mathlib.Omega.{arith}
use lib.Seq.{ext_get_or}
use Rattle.cells.proofs.copy.Goals as goal

pub returns : goal.returns
returns c = ext_get_or 0 _ _ (omega arith) (λ j h. c.loop-i.invariant j (omega arith))
