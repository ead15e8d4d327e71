use Rattle.std.proofs.Common.{◌≡◌, ℕ, ◌+◌, ◌<◌, get_or, drop, length}
use Rattle.cells.specs.Page.{last_sent}
use Rattle.cells.proofs.latch.Given as goal

abbrev pub invariant-loop-i : goal.invariant-loop-i
invariant-loop-i l =
    (length l.buf ≡ 256) × ((j : ℕ) → j < 256 → last_sent (l.off + l.i) (drop l.i l.bytes) j (get_or l.buf j 0) ≡ last_sent l.off l.bytes j 255)
