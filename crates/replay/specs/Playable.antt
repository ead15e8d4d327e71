-- What 30 and 31 leave of a tape: its first n records are there, and good.
use Rattle.std.specs.Prelude.{◌≡◌, true, List, ℕ, ◌≤◌, ◌<◌}
use Rattle.rules.specs.Tape.{records, good_record}

pub record Playable (t : List ℕ) (n : ℕ) : Type 0 where
  pub there : n ≤ records t
  pub good : (p : ℕ) → p < n → good_record t p ≡ true
