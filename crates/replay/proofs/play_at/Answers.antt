use Rattle.replay.proofs.Steps.{said_played, said_sent}
use Rattle.tape.proofs.Good.{good_short}
use Rattle.rules.specs.Play.{play_rec}
use Rattle.rules.specs.Parts.{part_of}
use Rattle.rules.specs.declared.Sent.{Sent}
use native.Mathlib.Omega.{arith}
use mathlib.Core.Path.{sym, ap, ◌∙◌}
use Rattle.replay.proofs.play_at.Goals as goal

pub play_sent-requires : goal.play_sent-requires
play_sent-requires c =
    let t = c.args.tape.now in
    let k = c.args.p in
    let h = c.requires.0 in
    let e = said_sent t k _ (sym c.in-Transaction.is ∙ c.said_at.ensures) in
    let n = ap (λ (w : Sent). w.length) e in
    let b = ap (λ (w : Sent). w.start) e in
    let g = good_short t k (h.good k (omega arith)) in
    let r = h.there in
    (omega (arith, n, b, g, r), c.requires.1)

pub returns-in-Transaction-clause-played : goal.returns-in-Transaction-clause-played
returns-in-Transaction-clause-played c =
    c.play_sent.ensures.played ∙ said_played (part_of c.args.chip.now.part) c.args.tape.now c.args.p _ _ (sym c.in-Transaction.is ∙ c.said_at.ensures)

pub returns-in-Finish-clause-played : goal.returns-in-Finish-clause-played
unfolding play_rec
returns-in-Finish-clause-played c =
    c.ended.ensures.played ∙ said_played (part_of c.args.chip.now.part) c.args.tape.now c.args.p _ _ (sym c.in-Finish.is ∙ c.said_at.ensures)

pub returns-in-PowerCycle-clause-played : goal.returns-in-PowerCycle-clause-played
unfolding play_rec
returns-in-PowerCycle-clause-played c =
    c.cycled.ensures.played ∙ said_played (part_of c.args.chip.now.part) c.args.tape.now c.args.p _ _ (sym c.in-PowerCycle.is ∙ c.said_at.ensures)
