-- The chips by their part numbers.
use Rattle.std.specs.Prelude.{ℕ, Bool}
use Rattle.lists.specs.Choice.{◌=?◌}
use Rattle.rules.specs.Part.{Part}
use Rattle.rules.specs.Fm25q16.{fm25q16}

-- else refusal 1: "part number not 1"
unfoldable pub is_part : ℕ → Bool
is_part k = k =? 1

-- the chip of a part number; any other number is refused before this is asked
unfoldable pub part_of : ℕ → Part
part_of k = fm25q16
