use mathlib.Core.Path.{sym, ◌∙◌}
use native.Mathlib.Omega.{arith}
use Rattle.tape.proofs.Good.{good_head}
use Rattle.tape.proofs.is_good.Goals as goal

pub returns-then-is_good_head : goal.returns-then-is_good_head
returns-then-is_good_head c =
    let n = c.sent_length-n in
    c.all_zero.ensures
    ∙ good_head c.args.bytes.now 0 n.result n.ensures.0 (sym c.is_good_head.ensures ∙ c.if-is_good_head.true) (omega arith)
