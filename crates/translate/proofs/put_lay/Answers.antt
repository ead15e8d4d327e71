use mathlib.Core.Path.{◌≡◌, ◌∙◌}
use Prim.Native.Nat.{◌+◌, ◌-◌}
use lib.ListN.{take, drop}
use Rattle.rules.specs.Tape.{encode}
use Rattle.rules.specs.Records.{page_recs}
use native.Mathlib.Omega.{arith}
use Rattle.translate.proofs.Pages.{lay_turn, lay-over}
use Rattle.translate.proofs.put_lay.Goals as goal

pub loop-i-preserved : goal.loop-i-preserved
loop-i-preserved c =
    let l = c.loop-i in
    let p = c.pages_touched-i-end in
    let cut = c.split_at.ensures in (
      omega arith,
      lay_turn l.out c.put_program.new.out _ l.data.now c.split_at.result.0.now _ p.result l.i l.a c.min.result (omega arith) (omega (arith, l.auto.out, c.requires.2, p.ensures.0)) c.min.ensures cut.front cut.back
          (omega (arith, cut.front_len, c.min.ensures)) c.put_program.ensures l.invariant.1,
    )

pub returns : goal.returns
returns c =
    let s = c.args.s in
    let l = c.loop-i in
    let p = c.pages_touched-i-end in
    let d : s.offset + s.length - s.offset ≡ s.length = omega arith in
    lay-over l.out _ l.data.now p.result l.i l.a (omega (arith, c.loop-i-test.false, l.auto.i-end)) (omega (arith, l.auto.out, c.requires.2, p.ensures.0)) l.invariant.1
    ∙ (λ i. encode (page_recs (p.ensures.0 i) s.address (take (d i) (drop s.offset c.args.payload.now))))
