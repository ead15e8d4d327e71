use Rattle.std.specs.Prelude.{Some, Ok}
use mathlib.Core.Path.{◌≡◌, sym, ap, ◌∙◌}
use native.Mathlib.Omega.{arith}
use Rattle.std.proofs.Common.{rules}
use Rattle.rules.specs.declared.Record.TheVariants.{Transaction}
use Rattle.rules.specs.Reading.{AtPlace, read_told}
use Rattle.tunebriar.proofs.Told.{sent_short}
use Rattle.tunebriar.proofs.tb_read.Goals as goal

pub overflow_cast-result : goal.overflow_cast-result
overflow_cast-result c =
    let a = c.args in
    let g = c.reading_at-r in
    let k = c.in-Ok-Some-Transaction in
    let found : ◌≡◌ {A = AtPlace} g.result.found (Ok (Some (Transaction k.sent))) = search rules in
    omega (arith, sent_short a.tape.now a.place k.sent (ap (read_told a.place) (sym found) ∙ g.ensures.0))
