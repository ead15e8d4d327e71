use Rattle.replay.proofs.Steps.{record_room, play_more}
use Rattle.replay.specs.Held.{state_of}
use Rattle.laws.specs.Room.{Room}
use Rattle.rules.specs.Play.{State}
use Rattle.rules.specs.Parts.{part_of}
use Rattle.rules.specs.declared.Meter.{Meter}
use native.Mathlib.Omega.{arith}
use mathlib.Core.Path.{sym, ap, subst, ◌∙◌}
use Prim.Native.Nat.{suc, ◌+◌, ◌-◌}
use Rattle.replay.proofs.play_first.Goals as goal

pub loop-p-preserved : goal.loop-p-preserved
loop-p-preserved c =
    let n = c.args.count - (c.loop-p.p + 1) in
    let l = c.loop-p in
    let i = l.invariant in
    let e = c.play_at.ensures in
    let room : Room l.chip.meter (suc n) = let r = i.1 in omega arith in (
      record { part = e.same.part ∙ i.0.part; lent = e.same.lent ∙ i.0.lent },
      subst (λ (m : Meter). Room m n) (sym (ap (λ (s : State). s.meter) e.played)) (record_room (part_of l.chip.part) _ (state_of l.chip) _ room),
      grind (arith, play_more),
    )
