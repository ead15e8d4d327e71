use Rattle.std.specs.Prelude.{Err}
use mathlib.Core.Path.{◌≡◌, sym, ap, ◌∙◌}
use native.Mathlib.Omega.{arith}
use Rattle.rules.specs.Refusals.{answered}
use Rattle.rules.specs.Translate.{quote_told, quote_of}
use Rattle.job.proofs.Passed.{accepted-counted}
use Rattle.job.proofs.quote.Goals as goal

pub returns-in_err-job_refusal : goal.returns-in_err-job_refusal
unfolding quote_of answered
returns-in_err-job_refusal c =
    let same : c.from_residual.result ≡ Err c.in_err-job_refusal.field-0.0 = grind arith in
    ap quote_told same ∙ rw (← c.in_err-job_refusal.ensures)

pub bill_of-requires : goal.bill_of-requires
bill_of-requires c = let a = c.args in accepted-counted a.part a.setting a.job.now a.payload_length (sym c.in_ok-job_refusal.ensures)

pub returns : goal.returns
unfolding quote_of answered
returns c = rw (← c.in_ok-job_refusal.ensures, c.bill_of.ensures)
