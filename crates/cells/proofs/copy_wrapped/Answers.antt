use mathlib.Core.Path.{◌∙◌}
use mathlib.Core.List.{◌++◌}
use native.Mathlib.Omega.{arith}
use lib.ListN.{length}
use Rattle.cells.proofs.Wrapped.{straight, wrapped}
use Rattle.cells.proofs.copy_wrapped.Goals as goal

pub returns-then-n-room : goal.returns-then-n-room
returns-then-n-room c =
    let a = c.args in
    c.copy.ensures ∙ straight a.array.now a.address (length a.out.now) (omega arith)

pub returns-else-n-room : goal.returns-else-n-room
returns-else-n-room c =
    let a = c.args in
    (λ i. c.copy-else-n-room.ensures i ++ c.copy-else-n-room-2.ensures i)
    ∙ wrapped a.array.now a.address (length a.out.now) (omega arith) (omega arith) (omega arith)
