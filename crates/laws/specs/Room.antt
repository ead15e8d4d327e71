-- What a contract asks of a meter: n more of anything fits.
use Rattle.std.specs.Prelude.{ℕ, ◌+◌, ◌≤◌}
use Rattle.rules.specs.declared.Meter.{Meter}
use Rattle.rules.specs.Counts.{count_limit}

pub record Room (m : Meter) (n : ℕ) : Type 0 where
  pub programs_fit : m.programs + n ≤ count_limit
  pub erases_fit : m.erases + n ≤ count_limit
  pub register_writes_fit : m.register_writes + n ≤ count_limit
  pub ignored_fit : m.ignored + n ≤ count_limit
