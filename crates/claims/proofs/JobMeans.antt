-- Demand 3: jobs mean what they say. It speaks of the very bytes that `translate` writes and `replay` reads.
use mathlib.Core.Path.{◌≡◌, sym, ap, ◌∙◌, subst}
use mathlib.Core.Bool.{true}
use mathlib.Core.List.{List}
use Prim.Native.Nat.{ℕ}
use lib.ListN.{length, take, drop}
use lib.Seq.{take-append_seam, take-length}
use borrow.Author.Tests.{eq-eqb}
use Rattle.lists.specs.Choice.{if◌then◌otherwise◌}
use Rattle.rules.specs.declared.Kept.{Kept}
use Rattle.rules.specs.declared.Meter.{Meter}
use Rattle.rules.specs.declared.Bill.{Bill}
use Rattle.rules.specs.Parts.{is_part, part_of}
use Rattle.rules.specs.Status.{regs_of, kept_of}
use Rattle.rules.specs.Refusals.{passes, ◌or_else◌}
use Rattle.rules.specs.Tape.{Rec, records, recs_of}
use Rattle.rules.specs.Play.{State, state, play}
use Rattle.rules.specs.Replay.{records_refusal, replay_refusal, played_told, replay_seen, replay_of}
use Rattle.rules.specs.Job.{steps_of, array_meant, all_regs_meant}
use Rattle.rules.specs.JobRefusals.{job_refusal}
use Rattle.rules.specs.Records.{job_recs}
use Rattle.rules.specs.Bill.{bill_of}
use Rattle.rules.specs.Translate.{tape_of, translate_of, BillTold}
use Rattle.rules.specs.Ready.{Ready, Roomy}
use Rattle.laws.proofs.JobPassed.{job_passed}
use Rattle.claims.specs.Means.{tape_written, figures, Means}
use Rattle.claims.proofs.Choices.{never}
use Rattle.claims.proofs.Translated.{by_translation, quote_billed}
use Rattle.laws.proofs.RecordOk.{RecsOk}
use Rattle.tape.proofs.Round.{encode-whole, encode-records, encode_recs, encode_unfaulted}
use Rattle.demand.specs.Raised.{raised}
use Rattle.demand.specs.Ignored.{ignored_in}
use Rattle.demand.proofs.Demand3.{after_job}
use Rattle.demand.proofs.JobPlayed.{job_recs_ok, job-played, job-none-ignored}
use Rattle.replay.proofs.Checked.{replay_served_lem}
use Rattle.translate.proofs.Whole.{tape-long}

module _ (part s : ℕ) (job payload buffer : List ℕ) (served : (translate_of part s job payload buffer).answer.served ≡ true) where
  abbrev w : List ℕ
  w = tape_of (part_of part) job payload

  abbrev rs : List Rec
  rs = job_recs (part_of part) payload (steps_of job)

  -- a tape that is served is the job's tape
  written : (job_refusal part s job (length payload) ≡ passes)
      × (take (translate_of part s job payload buffer).answer.length (translate_of part s job payload buffer).tape ≡ w)
  written =
      by_translation part s job payload buffer
      (λ v. v.answer.served ≡ true → (job_refusal part s job (length payload) ≡ passes) × (take v.answer.length v.tape ≡ w))
      (λ e h q. (e, take-append_seam w (drop (length w) buffer)))
      (λ e h q. never (sym q))
      (λ z e q. never (sym q))
      served

  pub tape-is : tape_written part s job payload buffer ≡ w
  tape-is = written.1

  pub unrefused : job_refusal part s job (length payload) ≡ passes
  unrefused = written.0

  ok : RecsOk rs
  ok = job_recs_ok part s job payload unrefused

  known : is_part part ≡ true
  known = (job_passed part s job (length payload) unrefused).known

  bill-is : figures part s job payload ≡ bill_of (steps_of job)
  bill-is = ap (λ (t : BillTold). t.bill) (quote_billed part s job (length payload) unrefused)

  module _ (kept : Kept) (m : Meter) (l : List ℕ) (long : length l ≡ (part_of part).size) (ready : Ready (part_of part) s kept) (roomy : Roomy m (tape_written part s job payload buffer)) where
    room-is : Roomy m w
    room-is = subst (λ (t : List ℕ). Roomy m t) tape-is roomy

    replay_unrefused : replay_refusal part (length l) kept m w ≡ passes
    unfolding replay_refusal records_refusal tape_of ◌or_else◌ if◌then◌otherwise◌
    replay_unrefused =
        rw (known, eq-eqb (length l) (part_of part).size long, ready.formed, encode-whole rs ok, encode_unfaulted rs ok, room-is.roomy)

    recs_are : take (records w) (recs_of w) ≡ rs
    unfolding tape_of
    recs_are = (λ i. take (encode-records rs ok i) (encode_recs rs ok i)) ∙ take-length rs

    start : State
    start = state (regs_of kept) l m

    tape-played : replay_of part kept m l w ≡ replay_seen (played_told (kept_of (all_regs_meant (part_of part) (regs_of kept) (steps_of job))) (raised m (bill_of (steps_of job)))) (array_meant (part_of part) payload l (steps_of job))
    unfolding replay_of start
    tape-played =
        sym (replay_served_lem part kept m l w (records w) (after_job (part_of part) payload (steps_of job) start) replay_unrefused
        (sym (job-played part s job payload unrefused kept ready l long m) ∙ ap (λ (es : List Rec). play (part_of part) es start) (sym recs_are)))

    tape_heeded : ignored_in (part_of part) (recs_of w) (state (regs_of kept) l m) ≡ 0
    unfolding tape_of
    tape_heeded = ap (λ (es : List Rec). ignored_in (part_of part) es (state (regs_of kept) l m)) (encode_recs rs ok) ∙ job-none-ignored part s job payload unrefused kept ready l long m

    -- for every job and payload that `translate` accepts into any buffer, every array of the chip's size, every well-formed
    -- registers that are awake, idle and unlocked with the setting the job was translated for, and a meter with room
    pub job_means_what_it_says : Means part s job payload (tape_written part s job payload buffer) kept m l
    job_means_what_it_says =
        subst (λ (t : List ℕ). Means part s job payload t kept m l) (sym tape-is)
        (record {
          played = tape-played ∙ ap (λ (b : Bill). replay_seen (played_told (kept_of (all_regs_meant (part_of part) (regs_of kept) (steps_of job))) (raised m b)) (array_meant (part_of part) payload l (steps_of job))) (sym bill-is);
          none_ignored = tape_heeded;
          long = tape-long part s job payload unrefused ∙ ap (λ (b : Bill). b.length) (sym bill-is);
        })
