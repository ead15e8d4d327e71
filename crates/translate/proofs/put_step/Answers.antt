use mathlib.Core.Path.{ap, ◌∙◌}
use Prim.Native.Nat.{◌+◌, ◌*◌}
use borrow.Rule.Slice.PartMut.{mid_len}
use native.Mathlib.Omega.{arith}
use Rattle.translate.specs.Spliced.{spliced}
use Rattle.translate.proofs.Splices.{lent_spliced}
use Rattle.translate.proofs.put_step.Goals as goal

pub returns : goal.returns
returns c =
    let a = c.args in
    let room = c.requires.1.fits in
    let count = c.record_count.ensures in
    let from = 264 * a.k in
    let end = 264 * (a.k + c.record_count.result) in
    let long = c.put_records.auto.out ∙ mid_len from end a.tape.now (omega (arith, count, room)) in
    (omega (arith, count), lent_spliced a.tape.now c.put_records.new.out from end (omega arith) (omega (arith, count, room)) long ∙ ap (spliced a.tape.now from) c.put_records.ensures)
