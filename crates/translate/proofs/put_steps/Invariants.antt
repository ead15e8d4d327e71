use mathlib.Core.Path.{◌≡◌}
use Prim.Native.Nat.{◌+◌, ◌-◌, ◌*◌, ◌≤◌}
use lib.ListN.{length}
use Rattle.rules.specs.Tape.{encode}
use Rattle.translate.specs.Spliced.{spliced}
use Rattle.translate.proofs.Whole.{rest_recs}
use Rattle.translate.proofs.put_steps.Given as goal

abbrev pub invariant-loop-i : goal.invariant-loop-i
invariant-loop-i l =
    (l.k ≤ 51 * l.i) × (264 * (l.k + length (rest_recs l.part l.payload l.job l.i (l.i-end - l.i))) ≤ length l.initial.tape)
    × (spliced l.tape (264 * l.k) (encode (rest_recs l.part l.payload l.job l.i (l.i-end - l.i))) ≡ spliced l.initial.tape 0 (encode (rest_recs l.part l.payload l.job 0 l.i-end)))
