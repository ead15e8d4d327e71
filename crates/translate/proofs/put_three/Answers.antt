use mathlib.Core.Path.{sym, ◌∙◌}
use mathlib.Core.List.{◌++◌, append-nil}
use Rattle.rules.specs.Tape.{encode}
use Rattle.translate.proofs.put_three.Goals as goal

pub returns : goal.returns
unfolding encode
returns c =
    let finish = c.put_finish.ensures ∙ sym (append-nil _) in
    λ i. c.put_transaction.ensures i ++ (c.put_transaction-2.ensures i ++ finish i)
