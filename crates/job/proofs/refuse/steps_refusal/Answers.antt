use Rattle.std.specs.Prelude.{Err}
use mathlib.Core.Path.{◌≡◌, sym, ◌∙◌}
use native.Mathlib.Omega.{arith}
use Rattle.job.proofs.Steps.{steps_next, refused_or}
use Rattle.job.proofs.refuse.steps_refusal.Goals as goal

pub returns-in_err-decoded_refusal : goal.returns-in_err-decoded_refusal
returns-in_err-decoded_refusal c =
    let l = c.loop-i in
    let same : c.from_residual.result ≡ Err c.in_err-decoded_refusal.field-0.0 = grind arith in
    let stops = rw c.step_at-d.ensures at (sym c.in_err-decoded_refusal.ensures) in
    same ∙ sym (steps_next _ _ _ _ l.i _ (omega arith) ∙ refused_or _ _ _ stops) ∙ l.invariant
