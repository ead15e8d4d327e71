use Rattle.std.specs.Prelude.{Err}
use mathlib.Core.Path.{◌≡◌, sym, ◌∙◌}
use native.Mathlib.Omega.{arith}
use Rattle.laws.proofs.Accepted.{opened_stops}
use Rattle.rules.specs.Refusals.{transact_refusal}
use Rattle.chip.proofs.refuse.transaction.Goals as goal

pub returns-in_err-opened : goal.returns-in_err-opened
unfolding transact_refusal
returns-in_err-opened c =
    let same : c.from_residual.result ≡ Err c.in_err-opened.field-0.0 = grind arith in
    same ∙ sym (opened_stops _ _ _ _ _ (sym c.in_err-opened.ensures))
