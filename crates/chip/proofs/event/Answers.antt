use Rattle.std.specs.Prelude.{Err}
use mathlib.Core.Path.{◌≡◌, sym, ap, ◌∙◌}
use native.Mathlib.Omega.{arith}
use Rattle.laws.proofs.Answered.{event_served, event_refused}
use Rattle.rules.specs.EventEntries.{event_told}
use Rattle.chip.proofs.event.Goals as goal

pub returns-in_err-event : goal.returns-in_err-event
returns-in_err-event g c = λ f h.
    let same : c.from_residual.result ≡ Err c.in_err-event.field-0.0 = grind arith in
    ap (event_told c.args.kept) same ∙ event_refused _ _ f _ (sym c.in_err-event.ensures)

pub returns : goal.returns
returns g c = λ f h. event_served _ _ _ f _ _ (sym c.in_ok-event.ensures) c.from.ensures (h _ _ c.makes.ensures) c.from-2.ensures
