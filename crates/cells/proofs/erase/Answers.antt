use mathlib.Core.Path.{refl}
use native.Mathlib.Omega.{arith}
use Rattle.rules.specs.Cells.{ff}
use Rattle.lists.proofs.Lent.{part_patched}
use Rattle.cells.proofs.erase.Goals as goal

pub returns : goal.returns
returns c =
    let a = c.args in
    part_patched _ _ a.start a.count ff ff (omega arith) c.fill.ensures (λ j h. refl)
