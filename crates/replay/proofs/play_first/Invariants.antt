use Rattle.laws.specs.Room.{Room}
use Rattle.replay.specs.Held.{Same, state_of}
use Rattle.rules.specs.Play.{play}
use Rattle.rules.specs.Tape.{recs_from}
use Rattle.rules.specs.Parts.{part_of}
use mathlib.Core.Path.{◌≡◌}
use Prim.Native.Nat.{◌-◌}
use Rattle.replay.proofs.play_first.Given as goal

abbrev pub invariant-loop-p : goal.invariant-loop-p
invariant-loop-p l =
    Same l.fn.chip l.chip × Room l.chip.meter (l.count - l.p)
    × (play (part_of l.fn.chip.part) (recs_from l.tape l.p (l.count - l.p)) (state_of l.chip) ≡ play (part_of l.fn.chip.part) (recs_from l.tape 0 l.count) (state_of l.fn.chip))
