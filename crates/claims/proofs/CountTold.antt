-- The meter counted by itself is the meter that the transaction gives: for every transaction, served or refused, what it
-- answered and its first byte are all that counting needs.
use mathlib.Core.Path.{◌≡◌, refl, ap, ◌∙◌}
use mathlib.Core.Bool.{true, not}
use mathlib.Core.List.{List}
use Prim.Native.Nat.{ℕ, ◌<◌}
use native.Mathlib.Omega.{arith}
use lib.ListN.{get_or}
use borrow.Author.Tests.{ne_eqb, le-leb, lt-leb}
use Rattle.lists.specs.Choice.{if◌then◌otherwise◌}
use Rattle.lists.proofs.Choice.{by_choice}
use Rattle.rules.specs.declared.Kept.{Kept}
use Rattle.rules.specs.declared.Meter.{Meter}
use Rattle.rules.specs.declared.Verdict.TheVariants.{CarriedOut}
use Rattle.rules.specs.Kinds.{of_known}
use Rattle.rules.specs.Parts.{is_part, part_of}
use Rattle.rules.specs.Status.{regs_of}
use Rattle.rules.specs.Verdict.{reason_number}
use Rattle.rules.specs.Counts.{ignored_counted, meter_after, room}
use Rattle.rules.specs.CountEntry.{meter_by_answer, Metered, metered, count_of}
use Rattle.rules.specs.Transact.{AnswerTold, is_high, transact_of}
use Rattle.laws.specs.Room.{Room}
use Rattle.laws.proofs.Accepted.{room_had}
use Rattle.laws.proofs.CarriedOut.{carried_passed}
use Rattle.claims.proofs.Ignored.{ignored-number}
use Rattle.claims.proofs.Entry.{Unrefused, by_answer}

-- ---- what `count_of` says of a number

-- with a part and with room it is served
served_at : (part : ℕ) (m : Meter) (n op : ℕ) → is_part part ≡ true → Room m 1 → count_of part m n op ≡ metered 0 (meter_by_answer (part_of part) m n op)
unfolding count_of if◌then◌otherwise◌
served_at part m n op h k = rw (h, room_had m 1 k) refl

-- a refusal's number leaves the meter
left_at : (part : ℕ) (m : Meter) (n op : ℕ) → (n ≡ 0 → ⊥) → n < 10 → (count_of part m n op).meter ≡ m
unfolding count_of meter_by_answer if◌then◌otherwise◌
left_at part m n op h k =
    by_choice (λ (t : Metered). t.meter ≡ m) (not (is_part part)) (metered 1 m) _ refl
    (by_choice (λ (t : Metered). t.meter ≡ m) (not (room m 1)) (metered 7 m) (metered 0 (meter_by_answer (part_of part) m n op)) refl told)
  where
    told : meter_by_answer (part_of part) m n op ≡ m
    told = rw (ne_eqb n 0 h, lt-leb 10 n k) refl

-- ---- the theorem

module _ (part : ℕ) (kept : Kept) (m : Meter) (l o b : List ℕ) (x wp : ℕ) where
  -- what counting makes of what a transaction answered
  abbrev recounted : AnswerTold → Metered
  recounted a = count_of part m a.number (get_or b 0 0)

  -- the same meter; and where the transaction was served, so is the counting
  abbrev pub Agrees : AnswerTold → Type 0
  Agrees a = ((recounted a).meter ≡ a.meter) × (a.served ≡ true → (recounted a).number ≡ 0)

  -- a verdict's number n and the first byte give the meter after it
  agreed : (n : ℕ) (after : Meter) → Unrefused part kept m l o b x wp → meter_by_answer (part_of part) m n (get_or b 0 0) ≡ after
      → count_of part m n (get_or b 0 0) ≡ metered 0 after
  agreed n after c e = served_at part m n (get_or b 0 0) c.begun.known c.room ∙ ap (metered 0) e

  pub count_agrees : Agrees (transact_of part kept m l o b x wp).answer
  unfolding meter_by_answer of_known if◌then◌otherwise◌
  count_agrees =
      by_answer part kept m l o b x wp (λ s. Agrees s.answer)
      (λ c k e.
      let h = agreed 0 (meter_after m (CarriedOut k)) c (rw (carried_passed (part_of part) (regs_of kept) b x (is_high wp) k e).known refl) in
      (ap (λ (t : Metered). t.meter) h, λ q. ap (λ (t : Metered). t.number) h))
      (λ c w e.
      let n = reason_number w in
      let i = ignored-number w in
      let h = agreed n (ignored_counted m) c (rw (ne_eqb n 0 (λ q. omega arith), le-leb 10 n i.0, le-leb n 16 i.1) refl) in
      (ap (λ (t : Metered). t.meter) h, λ q. ap (λ (t : Metered). t.number) h))
      (λ z e h k. (left_at part m _ (get_or b 0 0) (λ q. omega arith) (omega arith), λ q. cc))
