-- What the C answers leave out is told by their number: no number of a call that is served is the number of a refusal.
use Rattle.std.specs.Prelude.{Option, Some, None, Ok, Err}
use Rattle.rules.specs.declared.Step.{Step}
use mathlib.Core.Path.{◌≡◌, refl, sym, ap, ◌∙◌, subst}
use mathlib.Core.Bool.{Bool, true, false, ◌&&◌, ◌||◌}
use mathlib.Core.List.{List, [], ◌∷◌, ◌++◌}
use mathlib.Core.Logic.{◌⊎◌, inl, inr, ⊎_elim}
use Prim.Native.Nat.{ℕ, zero, suc, ◌≤◌}
use lib.ListN.{length}
use borrow.Author.Tests.{eq-eqb, le-leb}
use Rattle.lists.specs.Choice.{if◌then◌otherwise◌, ◌=?◌, ◌≤?◌}
use Rattle.lists.proofs.Choice.{either_true, either_false}
use Rattle.rules.specs.declared.Kept.{Kept}
use Rattle.rules.specs.declared.Meter.{Meter}
use Rattle.rules.specs.declared.Regs.{Regs}
use Rattle.rules.specs.declared.Refusal.{Refusal}
use Rattle.rules.specs.declared.Refusal.TheVariants.{UnknownPart, ArrayLength, NotWellFormed, LongTransaction, LeftoverBits, ShortOutput, MeterFull, UnfitJob, StartSetting, StepOutside, StepBeyond, SmallBuffer, CutTape}
use Rattle.rules.specs.declared.Kind.{Kind}
use Rattle.rules.specs.Kinds.{code_of}
use Rattle.rules.specs.Part.{Part}
use Rattle.rules.specs.Parts.{part_of}
use Rattle.rules.specs.Refusals.{number_of, Checked, passes, refused, ◌or_else◌, answered, transact_refusal, event_refusal}
use Rattle.rules.specs.Transact.{TransactSeen, transact_of}
use Rattle.rules.specs.Events.{finished, power_cycled}
use Rattle.rules.specs.EventEntries.{EventTold, event_of, finish_of, power_cycle_of}
use Rattle.rules.specs.Tape.{first_bad}
use Rattle.rules.specs.Replay.{bad_record, records_refusal, replay_refusal, ReplaySeen, replay_served, replay_refused, replay_first_of, replay_of}
use Rattle.rules.specs.Job.{step_at, step_count}
use Rattle.rules.specs.JobRefusals.{outside, beyond, first_shielded, shielded, step_refusal, decoded_refusal, setting_after, steps_refusal, job_refusal}
use Rattle.rules.specs.Translate.{translate_refusal, TranslateSeen, translate_of, BillTold, quote_of}
use Rattle.tunebriar.specs.CEntries.{tb_event, tb_bill, tb_transact, tb_replay, tb_translate}
use Rattle.claims.proofs.Choices.{never}
use Rattle.claims.proofs.Ignored.{ignored-number}
use Rattle.claims.proofs.Entry.{FirstSays, by_answer, answered_0}

-- ---- the statement

unfoldable pub InRow : List ℕ → ℕ → Type 0
InRow [] n = ⊥
InRow (k ∷ ks) n = (n ≡ k) ⊎ InRow ks n

-- 0 carried out, or 10 to 16
abbrev pub VerdictNumber : ℕ → Type 0
VerdictNumber n = (n ≡ 0) ⊎ ((10 ≤ n) × (n ≤ 16))

abbrev pub Zero : ℕ → Type 0
Zero n = n ≡ 0

-- the number of an answer that was served is one of Fine, and else it stands in the row of refusals
pub record Tells (Fine : ℕ → Type 0) (row : List ℕ) (served : Bool) (number : ℕ) : Type 0 where
  pub of_served : served ≡ true → Fine number
  pub of_refused : served ≡ false → InRow row number

-- ---- rows

-- where a check refuses, its number stands in the row
abbrev pub Stands : List ℕ → Checked → Type 0
Stands row (Ok u) = Unit {0}
Stands row (Err z) = InRow row (number_of z)

later : (row ks : List ℕ) (n : ℕ) → InRow ks n → InRow (row ++ ks) n
unfolding InRow
later [] ks n h = h
later (k ∷ row) ks n h = inr (later row ks n h)

earlier : (row ks : List ℕ) (n : ℕ) → InRow row n → InRow (row ++ ks) n
unfolding InRow
earlier [] ks n h = absurd h
earlier (k ∷ row) ks n h = ⊎_elim inl (λ e. inr (earlier row ks n e)) h

more : (k : ℕ) (ks : List ℕ) (c : Checked) → Stands ks c → Stands (k ∷ ks) c
unfolding InRow
more k ks (Ok u) h = tt
more k ks (Err z) h = inr h

-- a check adds its own number
check : (t : Bool) (z : Refusal) (c : Checked) (ks : List ℕ) → Stands ks c → Stands (number_of z ∷ ks) (if t then refused z otherwise c)
unfolding InRow if◌then◌otherwise◌
check true z c ks h = inl refl
check false z c ks h = more (number_of z) ks c h

else_row : (row ks : List ℕ) (c d : Checked) → Stands row c → Stands ks d → Stands (row ++ ks) (c or_else d)
unfolding ◌or_else◌
else_row row ks (Ok u) (Ok v) h k = tt
else_row row ks (Ok u) (Err y) h k = later row ks (number_of y) k
else_row row ks (Err z) d h k = earlier row ks (number_of z) h

same_row : (row : List ℕ) (c d : Checked) → Stands row c → Stands row d → Stands row (c or_else d)
unfolding ◌or_else◌
same_row row (Ok u) d h k = k
same_row row (Err z) d h k = h

-- ---- an entry answers a where it does not refuse, and else b

tells : {S : Type 0} (served : S → Bool) (number : S → ℕ) (Fine : ℕ → Type 0) (row : List ℕ) (c : Checked) (a : S) (b : Refusal → S)
    → served a ≡ true → Fine (number a) → ((z : Refusal) → served (b z) ≡ false) → ((z : Refusal) → number (b z) ≡ number_of z) → Stands row c
    → Tells Fine row (served (answered c a b)) (number (answered c a b))
unfolding answered
tells served number Fine row (Ok u) a b fa fine fb same h = record { of_served = λ q. fine; of_refused = λ q. never (sym fa ∙ q) }
tells served number Fine row (Err z) a b fa fine fb same h = record { of_served = λ q. never (sym q ∙ fb z); of_refused = λ q. rw (same z) h }

-- ---- transact: 0 or 10 to 16 against 1 to 7

pub transact_row : (part al : ℕ) (kept : Kept) (n x ol : ℕ) (m : Meter) → Stands (1 ∷ 2 ∷ 3 ∷ 4 ∷ 5 ∷ 6 ∷ 7 ∷ []) (transact_refusal part al kept n x ol m)
unfolding transact_refusal
transact_row part al kept n x ol m =
    check _ UnknownPart _ _ (check _ ArrayLength _ _ (check _ NotWellFormed _ _ (check _ LongTransaction _ _
    (check _ LeftoverBits _ _ (check _ ShortOutput _ _ (check _ MeterFull passes [] tt))))))

pub transact_number_tells : (part : ℕ) (kept : Kept) (m : Meter) (l o b : List ℕ) (x wp : ℕ)
    → Tells VerdictNumber (1 ∷ 2 ∷ 3 ∷ 4 ∷ 5 ∷ 6 ∷ 7 ∷ []) (transact_of part kept m l o b x wp).answer.served (transact_of part kept m l o b x wp).answer.number
transact_number_tells part kept m l o b x wp =
    by_answer part kept m l o b x wp (λ s. Tells VerdictNumber (1 ∷ 2 ∷ 3 ∷ 4 ∷ 5 ∷ 6 ∷ 7 ∷ []) s.answer.served s.answer.number)
    (λ c k e. record { of_served = λ q. inl refl; of_refused = never })
    (λ c w e. record { of_served = λ q. inr (ignored-number w); of_refused = never })
    (λ z e h k. record {
      of_served = λ q. never (sym q);
      of_refused = λ q. subst (Stands (1 ∷ 2 ∷ 3 ∷ 4 ∷ 5 ∷ 6 ∷ 7 ∷ [])) e (transact_row part (length l) kept (length b) x (length o) m);
    })

-- ---- finish and power cycle: 0 against 1 and 3

event_tells : (part : ℕ) (kept : Kept) (makes : Regs → Regs)
    → Tells Zero (1 ∷ 3 ∷ []) (event_of part kept makes).served (event_of part kept makes).number
unfolding event_of event_refusal
event_tells part kept makes =
    tells (λ (t : EventTold). t.served) (λ (t : EventTold). t.number) Zero (1 ∷ 3 ∷ []) (event_refusal part kept) _ _ refl refl (λ z. refl) (λ z. refl)
    (check _ UnknownPart _ _ (check _ NotWellFormed passes [] tt))

pub finish_number_tells : (part : ℕ) (kept : Kept) → Tells Zero (1 ∷ 3 ∷ []) (finish_of part kept).served (finish_of part kept).number
unfolding finish_of
finish_number_tells part kept = event_tells part kept finished

pub power_cycle_number_tells : (part : ℕ) (kept : Kept) → Tells Zero (1 ∷ 3 ∷ []) (power_cycle_of part kept).served (power_cycle_of part kept).number
unfolding power_cycle_of
power_cycle_number_tells part kept = event_tells part kept power_cycled

-- ---- replay, of all records or of the first k: 0 against 1, 2, 3, 30, 31 and 7

bad_row : (f : Option ℕ) → Stands (31 ∷ []) (bad_record f)
unfolding InRow
bad_row (Some i) = inl refl
bad_row None = tt

replay_row : (part al : ℕ) (kept : Kept) (m : Meter) (t : List ℕ) → Stands (1 ∷ 2 ∷ 3 ∷ 30 ∷ 31 ∷ 7 ∷ []) (replay_refusal part al kept m t)
unfolding replay_refusal records_refusal
replay_row part al kept m t =
    check _ UnknownPart _ _ (check _ ArrayLength _ _ (check _ NotWellFormed _ _ (check _ CutTape _ _
    (else_row (31 ∷ []) (7 ∷ []) (bad_record (first_bad t)) _ (bad_row (first_bad t)) (check _ MeterFull passes [] tt)))))

pub replay_first_number_tells : (part : ℕ) (kept : Kept) (m : Meter) (l t : List ℕ) (k : ℕ)
    → Tells Zero (1 ∷ 2 ∷ 3 ∷ 30 ∷ 31 ∷ 7 ∷ []) (replay_first_of part kept m l t k).answer.served (replay_first_of part kept m l t k).answer.number
unfolding replay_first_of replay_served replay_refused
replay_first_number_tells part kept m l t k =
    tells (λ (s : ReplaySeen). s.answer.served) (λ (s : ReplaySeen). s.answer.number) Zero (1 ∷ 2 ∷ 3 ∷ 30 ∷ 31 ∷ 7 ∷ [])
    (replay_refusal part (length l) kept m t) _ _ refl refl (λ z. refl) (λ z. refl) (replay_row part (length l) kept m t)

pub replay_number_tells : (part : ℕ) (kept : Kept) (m : Meter) (l t : List ℕ)
    → Tells Zero (1 ∷ 2 ∷ 3 ∷ 30 ∷ 31 ∷ 7 ∷ []) (replay_of part kept m l t).answer.served (replay_of part kept m l t).answer.number
unfolding replay_of
replay_number_tells part kept m l t = replay_first_number_tells part kept m l t _

-- ---- translate and quote: 0 against 1, 20 to 25, and 26 of translate alone

shield_row : (i : ℕ) (f : Option ℕ) → Stands (25 ∷ []) (shielded i f)
unfolding InRow
shield_row i (Some x) = inl refl
shield_row i None = tt

decoded_row : (p : Part) (s pl i : ℕ) (d : Option Step) → Stands (22 ∷ 23 ∷ 24 ∷ 25 ∷ []) (decoded_refusal p s pl i d)
unfolding InRow step_refusal
decoded_row p s pl i None = inl refl
decoded_row p s pl i (Some w) =
    more 22 (23 ∷ 24 ∷ 25 ∷ []) _
    (check (outside p w) (StepOutside i) _ (24 ∷ 25 ∷ [])
    (check (beyond pl w) (StepBeyond i) _ (25 ∷ []) (shield_row i (first_shielded p s w))))

steps_row : (p : Part) (s pl : ℕ) (job : List ℕ) (i n : ℕ) → Stands (22 ∷ 23 ∷ 24 ∷ 25 ∷ []) (steps_refusal p s pl job i n)
unfolding steps_refusal
steps_row p s pl job i zero = tt
steps_row p s pl job i (suc n) =
    same_row (22 ∷ 23 ∷ 24 ∷ 25 ∷ []) (decoded_refusal p s pl i (step_at job i)) _ (decoded_row p s pl i (step_at job i))
    (steps_row p (setting_after s (step_at job i)) pl job (suc i) n)

job-row : (part s : ℕ) (job : List ℕ) (pl : ℕ) → Stands (1 ∷ 20 ∷ 21 ∷ 22 ∷ 23 ∷ 24 ∷ 25 ∷ []) (job_refusal part s job pl)
unfolding job_refusal
job-row part s job pl =
    check _ UnknownPart _ _ (check _ UnfitJob _ _ (check _ StartSetting _ _ (steps_row (part_of part) s pl job 0 (step_count job))))

pub translate_number_tells : (part s : ℕ) (job payload tape : List ℕ)
    → Tells Zero (1 ∷ 20 ∷ 21 ∷ 22 ∷ 23 ∷ 24 ∷ 25 ∷ 26 ∷ []) (translate_of part s job payload tape).answer.served (translate_of part s job payload tape).answer.number
unfolding translate_of translate_refusal
translate_number_tells part s job payload tape =
    tells (λ (w : TranslateSeen). w.answer.served) (λ (w : TranslateSeen). w.answer.number) Zero (1 ∷ 20 ∷ 21 ∷ 22 ∷ 23 ∷ 24 ∷ 25 ∷ 26 ∷ [])
    (translate_refusal part s job payload (length tape)) _ _ refl refl (λ z. refl) (λ z. refl)
    (else_row (1 ∷ 20 ∷ 21 ∷ 22 ∷ 23 ∷ 24 ∷ 25 ∷ []) (26 ∷ []) (job_refusal part s job (length payload)) _ (job-row part s job (length payload))
    (check _ SmallBuffer passes [] tt))

pub quote_number_tells : (part s : ℕ) (job : List ℕ) (pl : ℕ)
    → Tells Zero (1 ∷ 20 ∷ 21 ∷ 22 ∷ 23 ∷ 24 ∷ 25 ∷ []) (quote_of part s job pl).served (quote_of part s job pl).number
unfolding quote_of
quote_number_tells part s job pl =
    tells (λ (t : BillTold). t.served) (λ (t : BillTold). t.number) Zero (1 ∷ 20 ∷ 21 ∷ 22 ∷ 23 ∷ 24 ∷ 25 ∷ [])
    (job_refusal part s job pl) _ _ refl refl (λ z. refl) (λ z. refl) (job-row part s job pl)

-- ---- so that `served` can be had back from the number

-- f holds of one of a row
unfoldable pub holds_in : (ℕ → Bool) → List ℕ → Bool
holds_in f [] = false
holds_in f (k ∷ ks) = f k || holds_in f ks

pub none-holds : (f : ℕ → Bool) (row : List ℕ) (n : ℕ) → holds_in f row ≡ false → InRow row n → f n ≡ false
unfolding InRow holds_in
none-holds f [] n h k = absurd k
none-holds f (x ∷ row) n h k =
    let e = either_false (f x) (holds_in f row) h in
    ⊎_elim (λ q. ap f q ∙ e.0) (λ q. none-holds f row n e.1 q) k

-- a test that holds of all that Fine says, and of no refusal of the row
pub numbers_tell : (Fine : ℕ → Type 0) (row : List ℕ) (f : ℕ → Bool) → ((n : ℕ) → Fine n → f n ≡ true) → holds_in f row ≡ false
    → (served : Bool) (number : ℕ) → Tells Fine row served number → served ≡ f number
numbers_tell Fine row f h k true number t = sym (h number (t.of_served refl))
numbers_tell Fine row f h k false number t = sym (none-holds f row number k (t.of_refused refl))

abbrev pub is_verdict : ℕ → Bool
is_verdict n = (n =? 0) || ((10 ≤? n) && (n ≤? 16))

verdict_passes : (n : ℕ) → VerdictNumber n → is_verdict n ≡ true
verdict_passes n =
    let t : Bool = (10 ≤? n) && (n ≤? 16) in
    ⊎_elim (λ e. (either_true (n =? 0) t).1 (inl (eq-eqb n 0 e))) (λ h. (either_true (n =? 0) t).1 (inr (rw (le-leb 10 n h.0, le-leb n 16 h.1) refl)))

pub transact_served_told : (part : ℕ) (kept : Kept) (m : Meter) (l o b : List ℕ) (x wp : ℕ)
    → (transact_of part kept m l o b x wp).answer.served ≡ is_verdict (tb_transact (transact_of part kept m l o b x wp)).answer.number
unfolding holds_in
transact_served_told part kept m l o b x wp =
    numbers_tell VerdictNumber (1 ∷ 2 ∷ 3 ∷ 4 ∷ 5 ∷ 6 ∷ 7 ∷ []) is_verdict verdict_passes refl _ _
    (transact_number_tells part kept m l o b x wp)

-- 0, and no refusal of a row without 0
zero_tells : (row : List ℕ) → holds_in (λ n. n =? 0) row ≡ false → (served : Bool) (number : ℕ) → Tells Zero row served number → served ≡ (number =? 0)
zero_tells row = numbers_tell Zero row (λ n. n =? 0) (λ n e. eq-eqb n 0 e)

pub finish-served-told : (part : ℕ) (kept : Kept) → (finish_of part kept).served ≡ ((tb_event (finish_of part kept)).number =? 0)
unfolding holds_in
finish-served-told part kept = zero_tells (1 ∷ 3 ∷ []) refl _ _ (finish_number_tells part kept)

pub power_cycle_served_told : (part : ℕ) (kept : Kept) → (power_cycle_of part kept).served ≡ ((tb_event (power_cycle_of part kept)).number =? 0)
unfolding holds_in
power_cycle_served_told part kept = zero_tells (1 ∷ 3 ∷ []) refl _ _ (power_cycle_number_tells part kept)

pub replay_first_served_told : (part : ℕ) (kept : Kept) (m : Meter) (l t : List ℕ) (k : ℕ)
    → (replay_first_of part kept m l t k).answer.served ≡ ((tb_replay (replay_first_of part kept m l t k)).answer.number =? 0)
unfolding holds_in
replay_first_served_told part kept m l t k =
    zero_tells (1 ∷ 2 ∷ 3 ∷ 30 ∷ 31 ∷ 7 ∷ []) refl _ _ (replay_first_number_tells part kept m l t k)

pub replay_served_told : (part : ℕ) (kept : Kept) (m : Meter) (l t : List ℕ)
    → (replay_of part kept m l t).answer.served ≡ ((tb_replay (replay_of part kept m l t)).answer.number =? 0)
unfolding replay_of
replay_served_told part kept m l t = replay_first_served_told part kept m l t _

pub translate_served_told : (part s : ℕ) (job payload tape : List ℕ)
    → (translate_of part s job payload tape).answer.served ≡ ((tb_translate (translate_of part s job payload tape)).answer.number =? 0)
unfolding holds_in
translate_served_told part s job payload tape =
    zero_tells (1 ∷ 20 ∷ 21 ∷ 22 ∷ 23 ∷ 24 ∷ 25 ∷ 26 ∷ []) refl _ _ (translate_number_tells part s job payload tape)

pub quote_served_told : (part s : ℕ) (job : List ℕ) (pl : ℕ) → (quote_of part s job pl).served ≡ ((tb_bill (quote_of part s job pl)).number =? 0)
unfolding holds_in
quote_served_told part s job pl =
    zero_tells (1 ∷ 20 ∷ 21 ∷ 22 ∷ 23 ∷ 24 ∷ 25 ∷ []) refl _ _ (quote_number_tells part s job pl)

-- ---- and the kind of what was carried out from the first byte

pub kind-told : (part : ℕ) (kept : Kept) (m : Meter) (l o b : List ℕ) (x wp : ℕ)
    → (transact_of part kept m l o b x wp).answer.served ≡ true → (transact_of part kept m l o b x wp).answer.number ≡ 0
    → (k : Kind) × FirstSays part b k × ((transact_of part kept m l o b x wp).answer.code ≡ code_of k)
kind-told part kept m l o b x wp s n =
    let h = answered_0 part kept m l o b x wp n in
    (h.0, h.1.known, ap (λ (w : TransactSeen). w.answer.code) h.1.seen_is)
