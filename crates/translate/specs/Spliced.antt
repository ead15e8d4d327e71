-- A stretch of a list put anew, and room for records on a tape.
use Rattle.std.specs.Prelude.{List, ◌++◌, ℕ, ◌+◌, ◌*◌, ◌≤◌, length, take, drop}
use Rattle.rules.specs.Tape.{record_length}

-- l with ys in the place of what stood from a on
unfoldable pub spliced : List ℕ → ℕ → List ℕ → List ℕ
spliced l a ys = take a l ++ (ys ++ drop (a + length ys) l)

-- n records fit the tape from record k on
pub record Fits (tape : List ℕ) (k n : ℕ) : Type 0 where
  pub fits : record_length * (k + n) ≤ length tape
