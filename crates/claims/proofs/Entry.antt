-- The entry `transact` taken apart: what is said of all that a caller is left with is said of three cases, a transaction that is
-- carried out, one that is ignored and one that is refused. The theorems for a caller come by it.
use Rattle.std.specs.Prelude.{Some, Ok, Err}
use mathlib.Core.Path.{◌≡◌, refl, sym, ap, ◌∙◌, subst}
use mathlib.Core.Bool.{false}
use mathlib.Core.List.{List}
use Prim.Native.Nat.{ℕ, ◌≤◌}
use native.Mathlib.Omega.{arith}
use lib.Dec.{lit≤}
use lib.ListN.{length, get_or}
use borrow.Author.Tests.{le-ltb}
use Rattle.lists.specs.Choice.{if◌then◌otherwise◌}
use Rattle.lists.proofs.Choice.{by_choice}
use Rattle.rules.specs.declared.Kept.{Kept}
use Rattle.rules.specs.declared.Meter.{Meter}
use Rattle.rules.specs.declared.Reason.{Reason}
use Rattle.rules.specs.declared.Refusal.{Refusal}
use Rattle.rules.specs.declared.Refusal.TheVariants.{UnknownPart, ArrayLength, NotWellFormed, LongTransaction, LeftoverBits, ShortOutput, MeterFull}
use Rattle.rules.specs.declared.Kind.{Kind}
use Rattle.rules.specs.declared.Verdict.{Verdict}
use Rattle.rules.specs.declared.Verdict.TheVariants.{CarriedOut, Ignored}
use Rattle.rules.specs.Part.{command_of}
use Rattle.rules.specs.Parts.{part_of}
use Rattle.rules.specs.Status.{regs_of}
use Rattle.rules.specs.Verdict.{verdict_of}
use Rattle.rules.specs.Transaction.{Turn, turn_of}
use Rattle.rules.specs.Refusals.{number_of, Checked, passes, refused, transaction_limit, transact_refusal}
use Rattle.rules.specs.Transact.{TransactSeen, transact_told, transact_seen, is_high, transact_of}
use Rattle.rules.proofs.Apart.{some_number}
use Rattle.laws.proofs.Accepted.{past_three, room_had, Taken, taken}
use Rattle.laws.proofs.Answered.{seen_by, transact_served_lem, transact_refused_lem}
use Rattle.laws.proofs.CarriedOut.{carried_passed, turn_is}
use Rattle.claims.proofs.Choices.{never}
use Rattle.claims.proofs.Ignored.{ignored-number}

-- the first of the bytes b says a command of kind k to the chip
abbrev pub FirstSays : (part : ℕ) (b : List ℕ) (k : Kind) → Type 0
FirstSays part b k = command_of (part_of part) (get_or b 0 0) ≡ Some k

-- a transaction to which none of 1 to 7 applies is not refused
pub not_refused : (part al : ℕ) (kept : Kept) (n x ol : ℕ) (m : Meter) → Taken part al kept n x ol m → transact_refusal part al kept n x ol m ≡ passes
unfolding transact_refusal if◌then◌otherwise◌
not_refused part al kept n x ol m c =
    rw (past_three part al kept _ c.begun, le-ltb transaction_limit n c.short, le-ltb 7 x c.bits, le-ltb ol n c.fits, room_had m 1 c.room) refl

-- a check refuses with 7 at most
abbrev Few : Checked → Type 0
Few (Ok u) = Unit {0}
Few (Err z) = number_of z ≤ 7

module _ (part : ℕ) (kept : Kept) (m : Meter) (l o b : List ℕ) (x wp : ℕ) where
  -- all that a caller is left with
  abbrev pub seen : TransactSeen
  seen = transact_of part kept m l o b x wp

  -- .. of a transaction with verdict v
  abbrev pub seen_at : Verdict → TransactSeen
  seen_at v = seen_by part kept m l o b x wp v

  -- .. and of one that is refused with z: "registers, meter, array, output and tape stay"
  abbrev pub seen_refused : Refusal → TransactSeen
  seen_refused z = transact_seen (transact_told kept m (Err z)) l o

  abbrev pub verdict : Verdict
  verdict = verdict_of (part_of part) (regs_of kept) b x (is_high wp)

  -- none of 1 to 7 applies
  abbrev pub Unrefused : Type 0
  Unrefused = Taken part (length l) kept (length b) x (length o) m

  abbrev pub refusal_is : Checked
  refusal_is = transact_refusal part (length l) kept (length b) x (length o) m

  few : Few refusal_is
  unfolding transact_refusal
  few =
      let c = by_choice Few in
      c _ (refused UnknownPart) _ (lit≤ tt) (c _ (refused ArrayLength) _ (lit≤ tt) (c _ (refused NotWellFormed) _ (lit≤ tt)
      (c _ (refused LongTransaction) _ (lit≤ tt) (c _ (refused LeftoverBits) _ (lit≤ tt) (c _ (refused ShortOutput) _ (lit≤ tt)
      (c _ (refused MeterFull) passes (lit≤ tt) tt))))))

  -- P holds of all that a caller is left with, if it does in each of the three cases
  pub by_answer : (P : TransactSeen → Type 0)
      → (Unrefused → (k : Kind) → verdict ≡ CarriedOut k → P (seen_at (CarriedOut k)))
      → (Unrefused → (w : Reason) → verdict ≡ Ignored w → P (seen_at (Ignored w)))
      → ((z : Refusal) → refusal_is ≡ refused z → 1 ≤ number_of z → number_of z ≤ 7 → P (seen_refused z))
      → P seen
  by_answer P carried ignored turned_away = go refusal_is refl verdict refl
    where
      served : (v : Verdict) → verdict ≡ v → refusal_is ≡ passes → P (seen_at v) → P seen
      served v f e = subst P (transact_served_lem part kept m l o b x wp v e (sym f))

      sure : refusal_is ≡ passes → Unrefused
      sure = taken part (length l) kept (length b) x (length o) m

      go : (c : Checked) → refusal_is ≡ c → (v : Verdict) → verdict ≡ v → P seen
      go (Ok u) e (CarriedOut k) f = served (CarriedOut k) f e (carried (sure e) k f)
      go (Ok u) e (Ignored w) f = served (Ignored w) f e (ignored (sure e) w f)
      go (Err z) e v f =
          let h = some_number z in
          subst P (transact_refused_lem part kept m l o b x wp z e) (turned_away z e (omega arith) (subst Few e few))

  -- ---- the array: a transaction that is ignored or refused leaves it

  pub by_array : (P : List ℕ → Type 0)
      → (Unrefused → (k : Kind) → verdict ≡ CarriedOut k → P (turn_of (part_of part) (regs_of kept) l b x (is_high wp)).array)
      → P l → P seen.array
  by_array P carried left =
      by_answer (λ s. P s.array)
      (λ c k e. subst P (ap (λ (t : Turn). t.array) (turn_is (part_of part) (regs_of kept) l b x (is_high wp) (CarriedOut k) e)) (carried c k e))
      (λ c w e. left)
      (λ z e h k. left)

  -- any answer but 0 leaves the whole array
  pub array_left : (seen.answer.number ≡ 0 → ⊥) → seen.array ≡ l
  array_left = by_answer (λ s. (s.answer.number ≡ 0 → ⊥) → s.array ≡ l) (λ c k e n. absurd (n refl)) (λ c w e n. refl) (λ z e h k n. refl)

  -- ---- a refusal: "registers, meter, array, output and tape stay"

  pub record Untouched : Type 0 where
    pub regs : seen.answer.regs ≡ kept
    pub meter : seen.answer.meter ≡ m
    pub array : seen.array ≡ l
    pub out : seen.out ≡ o

  pub refusal-leaves-all : seen.answer.served ≡ false → Untouched
  refusal-leaves-all e =
      let h =
      by_answer (λ s. s.answer.served ≡ false → (s.answer.regs ≡ kept) × (s.answer.meter ≡ m) × (s.array ≡ l) × (s.out ≡ o))
      (λ c k f q. never q)
      (λ c w f q. never q)
      (λ z f h k q. (refl, refl, refl, refl)) e in
      record { regs = h.0; meter = h.1; array = h.2; out = h.3 }

  -- ---- the answer 0: carried out, and as what the first byte says

  pub record Done (k : Kind) : Type 0 where
    pub unrefused : Unrefused
    pub carried : verdict ≡ CarriedOut k
    pub known : FirstSays part b k
    pub seen_is : seen ≡ seen_at (CarriedOut k)
    pub array-is : seen.array ≡ (turn_of (part_of part) (regs_of kept) l b x (is_high wp)).array

  pub answered_0 : seen.answer.number ≡ 0 → (k : Kind) × Done k
  answered_0 e =
      let h =
      by_answer (λ s. s.answer.number ≡ 0 → (k : Kind) × Unrefused × (verdict ≡ CarriedOut k) × (s ≡ seen_at (CarriedOut k)))
      (λ c k f n. (k, c, f, refl))
      (λ c w f n. let i = ignored-number w in absurd (omega arith))
      (λ z f i j n. absurd (omega arith)) e in
      let turn = turn_is (part_of part) (regs_of kept) l b x (is_high wp) (CarriedOut h.0) h.2 in (
        h.0,
        record {
          unrefused = h.1;
          carried = h.2;
          known = (carried_passed (part_of part) (regs_of kept) b x (is_high wp) h.0 h.2).known;
          seen_is = h.3;
          array-is = ap (λ (s : TransactSeen). s.array) h.3 ∙ sym (ap (λ (t : Turn). t.array) turn);
        },
      )

  pub carried_as : (j k : Kind) → FirstSays part b j → verdict ≡ CarriedOut k → verdict ≡ CarriedOut j
  carried_as j k says e =
      let h = (carried_passed (part_of part) (regs_of kept) b x (is_high wp) k e).known in
      let q : k ≡ j = cc in
      e ∙ ap CarriedOut q
