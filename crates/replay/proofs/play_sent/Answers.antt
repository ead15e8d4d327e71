use Rattle.replay.proofs.Steps.{turned}
use Rattle.replay.specs.Held.{state_of}
use Rattle.rules.specs.Play.{play_rec}
use Rattle.rules.specs.Tape.{transaction}
use Rattle.rules.specs.Parts.{part_of}
use lib.ListN.{take, drop}
use native.Mathlib.Omega.{arith}
use Prim.Native.Nat.{◌+◌, ◌-◌}
use mathlib.Core.Path.{◌≡◌, ◌∙◌}
use Rattle.replay.proofs.play_sent.Goals as goal

pub returns-clause-played : goal.returns-clause-played
returns-clause-played c =
    let a = c.args in
    let h = a.chip.now in
    let w = a.sent in
    let t = c.turn.ensures in
    let n : w.start + w.length - w.start ≡ w.length = omega arith in
    turned (part_of h.part) h.regs h.array.now h.meter _ _ _ _ _ _ _ t.verdict t.regs t.meter t.array
    ∙ (λ i. play_rec (part_of h.part) (transaction (take (n i) (drop w.start a.tape.now)) (c.from.ensures i) w.high) (state_of h))
