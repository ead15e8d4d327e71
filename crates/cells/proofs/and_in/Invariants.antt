use Rattle.std.proofs.Common.{◌≡◌, ℕ, ◌<◌, ◌≤◌, get_or}
use Rattle.std.specs.Int.Bits.{bit_and}
use Rattle.cells.proofs.and_in.Given as goal

abbrev pub invariant-loop-i : goal.invariant-loop-i
invariant-loop-i l =
    ((k : ℕ) → k < l.i → get_or l.s k 0 ≡ bit_and (get_or l.initial.s k 0) (get_or l.bytes k 0)) × ((k : ℕ) → l.i ≤ k → get_or l.s k 0 ≡ get_or l.initial.s k 0)
