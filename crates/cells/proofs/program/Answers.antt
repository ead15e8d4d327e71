use borrow.Author.Rules.{rules}
use mathlib.Core.Path.{◌∙◌}
use native.Mathlib.Omega.{arith}
use Rattle.cells.proofs.Sent.{latched}
use Rattle.cells.proofs.Unwrapped.{unwrapped}
use Rattle.cells.proofs.program.Goals as goal

pub returns-then-end-le-PAGE : goal.returns-then-end-le-PAGE
returns-then-end-le-PAGE c =
    let a = c.args in
    unwrapped a.s.now _ a.off a.bytes.now (omega arith) (omega arith) c.and_in.ensures

pub returns-else-end-le-PAGE : goal.returns-else-end-le-PAGE
returns-else-end-le-PAGE c =
    let a = c.args in
    c.and_in-else-end-le-PAGE.ensures ∙ latched a.s.now _ a.off a.bytes.now (λ j. search rules) (omega arith) c.latch.ensures
