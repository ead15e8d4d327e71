use mathlib.Core.Path.{◌≡◌}
use Prim.Native.Nat.{◌-◌}
use Rattle.rules.specs.Tape.{records}
use Rattle.listing.specs.Handed.{Come}
use Rattle.listing.proofs.list_from.Given as goal

abbrev pub invariant-loop-line : goal.invariant-loop-line
invariant-loop-line l = (l.reader.bytes.now ≡ l.tape) × (l.at ≡ l.reader.place) × Come l.tape l.at l.count

-- the records that are left
abbrev pub decreases-loop-line : goal.decreases-loop-line
decreases-loop-line l = records l.tape - l.at
