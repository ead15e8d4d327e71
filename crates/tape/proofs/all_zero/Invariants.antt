use mathlib.Core.Path.{◌≡◌}
use Rattle.lists.specs.Choice.{◌=?◌}
use Rattle.lists.specs.Places.{every_in}
use Rattle.rules.specs.Tape.{is_zero}
use Rattle.tape.proofs.all_zero.Given as goal

abbrev pub invariant-loop-byte : goal.invariant-loop-byte
invariant-loop-byte l = (l.joined =? 0) ≡ every_in (is_zero l.s) 0 l.byte-index
