use Rattle.std.proofs.Common.{◌≡◌, arith}
use Rattle.std.proofs.lemmas.Bool.Decides.{nat_tests}
use Rattle.lists.proofs.Choice.{choices}
use Rattle.cells.specs.InTurn.{in_turn}
use Rattle.std.proofs.lemmas.List.Edits.{fill_by_more}
use Rattle.cells.proofs.in_turn.Goals as goal
use Rattle.cells.proofs.in_turn.Goals.{then-i-eq0, else-i-eq0}

pub loop-i-preserved : goal.loop-i-preserved
loop-i-preserved c =
    let h : c.if-i-eq0.byte ≡ in_turn c.args.first c.args.second c.loop-i.i = elim c.if-i-eq0.branch [ then-i-eq0 w ↦ grind (arith, nat_tests, choices) | else-i-eq0 w ↦ grind (arith, nat_tests, choices) ] in
    rw h (fill_by_more _ _ c.loop-i.i 0 (omega arith) c.loop-i.invariant)
