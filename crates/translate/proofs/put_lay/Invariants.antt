use mathlib.Core.Path.{◌≡◌}
use mathlib.Core.List.{◌++◌}
use Prim.Native.Nat.{◌+◌, ◌-◌, ◌*◌, ◌/◌}
use lib.ListN.{take}
use Rattle.rules.specs.Tape.{encode}
use Rattle.rules.specs.Records.{page_recs}
use Rattle.translate.proofs.put_lay.Given as goal

-- what is put is the front of the whole
abbrev pub invariant-loop-i : goal.invariant-loop-i
invariant-loop-i l =
    (l.a / 256 ≡ l.fn.s.address / 256 + l.i)
    × (take (792 * l.i) l.out ++ encode (page_recs (l.i-end - l.i) l.a l.data) ≡ encode (page_recs l.i-end l.initial.a l.initial.data))
