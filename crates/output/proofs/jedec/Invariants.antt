use Rattle.std.proofs.Common.{◌≡◌, ℕ, ◌<◌, get_or}
use Rattle.rules.specs.Parts.{part_of}
use Rattle.output.proofs.jedec.Given as goal

abbrev pub invariant-loop-i : goal.invariant-loop-i
invariant-loop-i l = (k : ℕ) → k < l.i → get_or l.rest k 0 ≡ (part_of l.part).jedec k
