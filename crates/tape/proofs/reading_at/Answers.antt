use native.Mathlib.Omega.{arith}
use Rattle.tape.proofs.Said.{read_is, next_fits}
use Rattle.tape.proofs.reading_at.Goals as goal

pub next_place-requires : goal.next_place-requires
next_place-requires c =
    let a = c.args in
    rw (read_is a.tape.now a.place c.read_at-found.result c.read_at-found.ensures) (next_fits a.tape.now a.place (omega arith) (omega arith))
