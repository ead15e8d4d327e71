-- Two bytes in turn.
use Rattle.std.specs.Prelude.{ℕ, ◌%◌}
use Rattle.lists.specs.Choice.{if◌then◌otherwise◌, ◌=?◌}

abbrev pub in_turn : ℕ → ℕ → ℕ → ℕ
in_turn first second j = if j % 2 =? 0 then first otherwise second
