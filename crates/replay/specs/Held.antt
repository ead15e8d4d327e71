-- What a chip holds, as records change it, and what they leave: its part, and the array that it was lent.
use Rattle.std.specs.Prelude.{◌≡◌}
use Rattle.chip.specs.declared.Chip.{Chip}
use Rattle.rules.specs.Play.{State, state}

abbrev pub state_of : Chip → State
state_of c = state c.regs c.array.now c.meter

pub record Same (c d : Chip) : Type 0 where
  pub part : d.part ≡ c.part
  pub lent : d.array.ghost_name ≡ c.array.ghost_name
