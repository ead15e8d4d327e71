use Rattle.tape.proofs.Written.{finish_written}
use Rattle.tape.proofs.put_finish.Goals as goal

pub returns : goal.returns
returns c =
    finish_written _ _ c.requires (c.fill.ensures.after (λ y e. e))
