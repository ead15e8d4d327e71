-- Refused only for document 01's reasons, both ways: `translate` refuses with n at i exactly where the table's line for n holds
-- at i, and is served exactly where no line holds. `quote` is the same without 26.
use Rattle.std.specs.Prelude.{Ok, Err}
use mathlib.Core.Path.{◌≡◌, refl, sym, ap, ◌∙◌, subst}
use mathlib.Core.Bool.{false}
use mathlib.Core.List.{List}
use mathlib.Core.Logic.{◌↔◌}
use Prim.Native.Nat.{ℕ}
use native.Mathlib.Omega.{arith}
use lib.ListN.{length}
use Rattle.rules.specs.Parts.{part_of}
use Rattle.rules.specs.Refusals.{number_of, index_of, Checked, passes}
use Rattle.rules.specs.JobRefusals.{job_refusal}
use Rattle.rules.specs.Bill.{no_bill}
use Rattle.rules.specs.Translate.{tape_of, TranslateSeen, translate_seen, translate_of, BillTold, quote_of}
use Rattle.translate.proofs.Answer.{translate_refused, translate_small}
use Rattle.translate.proofs.Whole.{tape-long}
use Rattle.claims.specs.TurnedAway.{Refuses, JobTurnedAway, TurnedAway, for_job, for_26}
use Rattle.claims.proofs.Choices.{never, refuses_told}
use Rattle.claims.proofs.Translated.{by_translation, quote_billed, quote_refused}
use Rattle.claims.proofs.JobRefused.{job_refused_exactly, job_taken_exactly}

-- ---- translate

-- all that a caller sees of a refusal with n at i: the tape stays
abbrev pub refused_with : ℕ → ℕ → List ℕ → TranslateSeen
refused_with n i buffer = translate_seen (record { served = false; number = n; index = i; length = 0 }) buffer

module _ (part s : ℕ) (job payload buffer : List ℕ) where
  abbrev c : Checked
  c = job_refusal part s job (length payload)

  abbrev Reason : ℕ → ℕ → Type 0
  Reason n i = TurnedAway part s job payload (length buffer) n i

  -- the tape of an accepted job is as long as the quote says
  long : c ≡ passes → length (tape_of (part_of part) job payload) ≡ (quote_of part s job (length payload)).bill.length
  long e = tape-long part s job payload e ∙ ap (λ (t : BillTold). t.bill.length) (sym (quote_billed part s job (length payload) e))

  reason_refused : (n i : ℕ) → Reason n i → translate_of part s job payload buffer ≡ refused_with n i buffer
  reason_refused n i (for_job k j h) = go c refl ((job_refused_exactly part s job (length payload) k j).1 h)
    where
      go : (d : Checked) → c ≡ d → Refuses d k j → translate_of part s job payload buffer ≡ refused_with k j buffer
      go (Ok u) e q = absurd q
      go (Err z) e q = sym (translate_refused part s job payload buffer z e) ∙ (λ t. refused_with (q.0 t) (q.1 t) buffer)
  reason_refused n i (for_26 none short) =
      let e = (job_taken_exactly part s job (length payload)).1 none in
      sym (translate_small part s job payload buffer e (omega (arith, long e)))

  not_served : (translate_of part s job payload buffer).answer.served ≡ false → (n : ℕ) × (i : ℕ) × Reason n i
  not_served =
      by_translation part s job payload buffer (λ v. v.answer.served ≡ false → (n : ℕ) × (i : ℕ) × Reason n i)
      (λ e h q. never q)
      (λ e h q. (26, 0, for_26 ((job_taken_exactly part s job (length payload)).0 e) (omega (arith, long e))))
      (λ z e q. (
        number_of z,
        index_of z,
        for_job (number_of z) (index_of z) ((job_refused_exactly part s job (length payload) (number_of z) (index_of z)).0 (refuses_told c z e)),
      ))

  -- not served exactly where a line of the table holds
  pub refused_for_a_reason : (translate_of part s job payload buffer).answer.served ≡ false ↔ (n : ℕ) × (i : ℕ) × TurnedAway part s job payload (length buffer) n i
  refused_for_a_reason = (not_served, λ h. ap (λ (v : TranslateSeen). v.answer.served) (reason_refused h.0 h.1 h.2))

  -- and then with that number and index, and the tape stays
  pub refused_exactly : (n i : ℕ) → translate_of part s job payload buffer ≡ refused_with n i buffer ↔ TurnedAway part s job payload (length buffer) n i
  refused_exactly n i = (
    λ e.
        let h = not_served (ap (λ (v : TranslateSeen). v.answer.served) e) in
        subst (λ (v : TranslateSeen). Reason v.answer.number v.answer.index) (sym (reason_refused h.0 h.1 h.2) ∙ e) h.2,
    reason_refused n i,
  )

-- ---- quote

module _ (part s : ℕ) (job : List ℕ) (payload_length : ℕ) where
  abbrev d : Checked
  d = job_refusal part s job payload_length

  reason_unquoted : (n i : ℕ) → JobTurnedAway part s job payload_length n i
      → quote_of part s job payload_length ≡ record { served = false; number = n; index = i; bill = no_bill }
  reason_unquoted n i h = go d refl ((job_refused_exactly part s job payload_length n i).1 h)
    where
      go : (e : Checked) → d ≡ e → Refuses e n i → quote_of part s job payload_length ≡ record { served = false; number = n; index = i; bill = no_bill }
      go (Ok u) f q = absurd q
      go (Err z) f q = quote_refused part s job payload_length z f ∙ (λ t. record { served = false; number = q.0 t; index = q.1 t; bill = no_bill })

  unquoted : (quote_of part s job payload_length).served ≡ false → (n : ℕ) × (i : ℕ) × JobTurnedAway part s job payload_length n i
  unquoted e = go d refl
    where
      go : (c : Checked) → d ≡ c → (n : ℕ) × (i : ℕ) × JobTurnedAway part s job payload_length n i
      go (Ok u) f = never (sym (ap (λ (t : BillTold). t.served) (quote_billed part s job payload_length f)) ∙ e)
      go (Err z) f = (number_of z, index_of z, (job_refused_exactly part s job payload_length (number_of z) (index_of z)).0 (refuses_told d z f))

  pub quote_refused_for_a_reason : (quote_of part s job payload_length).served ≡ false ↔ (n : ℕ) × (i : ℕ) × JobTurnedAway part s job payload_length n i
  quote_refused_for_a_reason = (unquoted, λ h. ap (λ (t : BillTold). t.served) (reason_unquoted h.0 h.1 h.2))

  pub quote_refused_exactly : (n i : ℕ)
      → quote_of part s job payload_length ≡ record { served = false; number = n; index = i; bill = no_bill } ↔ JobTurnedAway part s job payload_length n i
  quote_refused_exactly n i = (
    λ e.
        let h = unquoted (ap (λ (t : BillTold). t.served) e) in
        subst (λ (t : BillTold). JobTurnedAway part s job payload_length t.number t.index) (sym (reason_unquoted h.0 h.1 h.2) ∙ e) h.2,
    reason_unquoted n i,
  )
