use Rattle.rules.specs.Replay.{replay_first_of, replay_of}
use Prim.Native.Nat.{ℕ}
use mathlib.Core.Path.{ap, ◌∙◌}
use Rattle.replay.proofs.replay.Goals as goal

pub returns : goal.returns
unfolding replay_of
returns c =
    let a = c.args in
    c.replay_first.ensures ∙ ap (λ (k : ℕ). replay_first_of a.part a.kept a.meter a.array.now a.tape.now k) c.record_count.ensures
