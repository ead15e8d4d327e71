use mathlib.Core.Path.{ap, ◌∙◌}
use Prim.Native.Nat.{ℕ, ◌*◌, ◌/◌, ◌%◌}
use native.Mathlib.Omega.{arith}
use Rattle.lists.proofs.Patched.{put_patched, patched_same}
use Rattle.rules.specs.Cells.{cell, programmed}
use Rattle.lists.proofs.Lent.{mid_at}
use Rattle.cells.proofs.program_at.Goals as goal

pub returns : goal.returns
unfolding programmed
returns c =
    let a = c.args in
    let base : ℕ = a.address / 256 * 256 in
    put_patched _ _ base 256 _ (omega arith) c.program.ensures
    ∙ patched_same _ base 256 _ _ (λ j h. ap (λ (x : ℕ). cell (a.address % 256) a.bytes.now j x x) (mid_at a.array.now base 256 j h))
