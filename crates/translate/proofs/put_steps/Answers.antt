use Rattle.std.specs.Prelude.{Some, None}
use mathlib.Core.Path.{◌≡◌, sym, ap, ◌∙◌, subst}
use Prim.Native.Nat.{ℕ, ◌+◌, ◌-◌, ◌*◌, ◌/◌, ◌≤◌}
use native.Mathlib.Omega.{arith}
use lib.ListN.{length}
use Rattle.rules.specs.Parts.{part_of}
use Rattle.rules.specs.Tape.{encode}
use Rattle.rules.specs.Job.{step_at}
use Rattle.translate.specs.Spliced.{spliced}
use Rattle.translate.specs.Writable.{decoded_recs, decoded_count}
use Rattle.translate.proofs.Splices.{splice_none}
use Rattle.translate.proofs.Whole.{rest_recs, room_next, step_turn, steps_over, count_few}
use Rattle.translate.proofs.put_steps.Goals.{in-Some, in_default}
use Rattle.translate.proofs.put_steps.Goals as goal

pub loop-i-init : goal.loop-i-init
loop-i-init c =
    let a = c.args in
    let n = length a.job.now / 16 in
    let e : n - 0 ≡ n = omega arith in (
      omega arith,
      subst (λ (m : ℕ). 264 * (0 + length (rest_recs a.part a.payload.now a.job.now 0 m)) ≤ length a.tape.now) (sym e) c.requires.1.fits,
      ap (λ (m : ℕ). spliced a.tape.now 0 (encode (rest_recs a.part a.payload.now a.job.now 0 m))) e,
    )

pub put_step-k-requires : goal.put_step-k-requires
put_step-k-requires c =
    let a = c.args in
    let l = c.loop-i in
    let said : step_at a.job.now l.i ≡ Some c.in-Some.step = sym c.step_at.ensures ∙ c.in-Some.is in
    let room = room_next a.part a.payload.now a.job.now l.i (length a.job.now / 16) l.k a.tape.now c.loop-i-test.true l.invariant.1 in
    let few = c.requires.0.few in
    (c.requires.0.each l.i c.loop-i-test.true c.in-Some.step said, record { fits = omega (arith, room, ap decoded_count said, l.auto.tape) }, omega (arith, l.invariant.0))

pub loop-i-preserved : goal.loop-i-preserved
unfolding encode
loop-i-preserved c =
    let a = c.args in
    let l = c.loop-i in
    let d = step_at a.job.now l.i in
    let both : (c.match-step_at.k ≡ l.k + decoded_count d) × (c.match-step_at.tape ≡ spliced l.tape (264 * l.k) (encode (decoded_recs (part_of a.part) a.payload.now d))) =
    elim c.match-step_at.branch [
      | in-Some w ↦ let said : step_at a.job.now l.i ≡ Some w.in-Some.step = sym c.step_at.ensures ∙ w.in-Some.is in
          rw said (w.k-is ∙ w.put_step-k.ensures.0, w.tape-is ∙ w.put_step-k.ensures.1)
      | in_default w ↦ let said : step_at a.job.now l.i ≡ None = sym c.step_at.ensures ∙ w.in_default.is in
          rw said (w.k-is ∙ omega arith, w.tape-is ∙ sym (splice_none _ _))
    ] in
    let n = length a.job.now / 16 in
    let h = c.loop-i-test.true in
    let room = room_next a.part a.payload.now a.job.now l.i n l.k a.tape.now h l.invariant.1 in
    let few = count_few (part_of a.part) a.payload.now d (c.requires.0.each l.i h) in (
      omega (arith, l.invariant.0, both.0, few),
      subst (λ (k : ℕ). 264 * (k + length (rest_recs a.part a.payload.now a.job.now (l.i + 1) (n - (l.i + 1)))) ≤ length a.tape.now) (sym both.0) room,
      subst (λ (k : ℕ). spliced c.match-step_at.tape (264 * k) (encode (rest_recs a.part a.payload.now a.job.now (l.i + 1) (n - (l.i + 1)))) ≡ spliced a.tape.now 0 (encode (rest_recs a.part a.payload.now a.job.now 0 n))) (sym both.0)
          (step_turn a.part a.payload.now a.job.now l.tape _ _ l.i n l.k h (omega (arith, room, l.auto.tape)) both.1 l.invariant.2),
    )

pub returns : goal.returns
returns c =
    let a = c.args in
    let l = c.loop-i in
    steps_over a.part a.payload.now a.job.now l.tape _ l.i (length a.job.now / 16) l.k (omega arith) l.invariant.2
