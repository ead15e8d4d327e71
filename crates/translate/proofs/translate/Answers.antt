use Rattle.translate.proofs.Whole.{tape-long}
use Rattle.translate.proofs.Splices.{splice_front}
use Rattle.translate.proofs.Answer.{writable, translate_refused, translate_small, translate_served}
use Rattle.job.proofs.Passed.{accepted-counted}
use Rattle.demand.proofs.Holds.{recs_long}
use Rattle.rules.specs.Translate.{tape_of, translate_told, translate_seen}
use Rattle.rules.specs.Job.{steps_of}
use Rattle.rules.specs.Parts.{part_of}
use Rattle.rules.specs.declared.Refusal.{Refusal}
use Rattle.rules.specs.declared.Bill.{Bill}
use native.Mathlib.Omega.{arith}
use Rattle.std.specs.Prelude.{Result, Ok, Err}
use Prim.Native.Nat.{ℕ}
use mathlib.Core.Path.{◌≡◌, sym, ap, ◌∙◌}
use Rattle.translate.proofs.translate.Goals as goal

pub returns-in_err-job_refusal : goal.returns-in_err-job_refusal
returns-in_err-job_refusal c =
    let same : c.from_residual.result ≡ Err c.in_err-job_refusal.field-0.0 = grind arith in
    ap (λ (t : Result ℕ Refusal). translate_seen (translate_told t) c.args.tape.now) same ∙ translate_refused _ _ _ _ _ _ (sym c.in_err-job_refusal.ensures)

pub bill_of-length-requires : goal.bill_of-length-requires
bill_of-length-requires c = accepted-counted _ _ _ _ (sym c.in_ok-job_refusal.ensures)

pub returns-then-tape-length : goal.returns-then-tape-length
returns-then-tape-length c =
    let a = c.args in
    let n = ap (λ (b : Bill). b.length) c.bill_of-length.ensures ∙ sym (tape-long a.part a.setting a.job.now a.payload.now (sym c.in_ok-job_refusal.ensures)) in
    translate_small a.part a.setting a.job.now a.payload.now a.tape.now (sym c.in_ok-job_refusal.ensures) (omega (arith, n, c.if-tape-length.true))

pub put_steps-requires : goal.put_steps-requires
put_steps-requires c =
    let a = c.args in
    let n = ap (λ (b : Bill). b.length) c.bill_of-length.ensures in
    let f = recs_long (part_of a.part) a.payload.now (steps_of a.job.now) in
    (writable a.part a.setting a.job.now a.payload.now (sym c.in_ok-job_refusal.ensures), record { fits = omega (arith, n, f, c.if-tape-length.false) })

pub returns : goal.returns
unfolding tape_of
returns c =
    let a = c.args in
    let w = tape_of (part_of a.part) a.job.now a.payload.now in
    let n = ap (λ (b : Bill). b.length) c.bill_of-length.ensures ∙ sym (tape-long a.part a.setting a.job.now a.payload.now (sym c.in_ok-job_refusal.ensures)) in
    (λ i. translate_seen (translate_told (Ok (n i))) ((c.put_steps.ensures ∙ splice_front a.tape.now w) i))
    ∙ translate_served a.part a.setting a.job.now a.payload.now a.tape.now (sym c.in_ok-job_refusal.ensures) (omega (arith, n, c.if-tape-length.false))
