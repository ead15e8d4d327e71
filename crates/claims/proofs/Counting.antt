-- Document 01: "An accepted 02 adds one to programs, an accepted erase one to erases, an accepted 01 one to register writes.
-- Verdicts 10 to 16 add one to ignored. Nothing else counts."
use mathlib.Core.Path.{◌≡◌, refl, ap}
use mathlib.Core.List.{List}
use mathlib.Core.Logic.{◌↔◌}
use Prim.Native.Nat.{ℕ, ◌+◌, ◌≤◌}
use native.Mathlib.Omega.{arith}
use Rattle.rules.specs.declared.Kept.{Kept}
use Rattle.rules.specs.declared.Meter.{Meter}
use Rattle.rules.specs.declared.Reason.{Reason}
use Rattle.rules.specs.declared.EraseUnit.{EraseUnit}
use Rattle.rules.specs.declared.Write.{Write}
use Rattle.rules.specs.declared.Write.TheVariants.{Program, Erase, WriteStatus}
use Rattle.rules.specs.declared.Kind.TheVariants.{Writes}
use Rattle.rules.specs.declared.Verdict.{Verdict}
use Rattle.rules.specs.declared.Verdict.TheVariants.{CarriedOut, Ignored}
use Rattle.rules.specs.Kinds.{of_write}
use Rattle.rules.specs.Parts.{part_of}
use Rattle.rules.specs.Status.{regs_of}
use Rattle.rules.specs.Verdict.{reason_number}
use Rattle.rules.specs.Counts.{counted, ignored_counted, meter_after}
use Rattle.rules.specs.Transact.{is_high, transact_of}
use Rattle.laws.proofs.CarriedOut.{by_write, carried_passed}
use Rattle.claims.proofs.Ignored.{ignored-number}
use Rattle.claims.proofs.Entry.{FirstSays, by_answer}

-- a count moves from n to `after`: by one for its cause, and for nothing else
pub record Rises (Cause : Type 0) (n after : ℕ) : Type 0 where
  pub rises : Cause → after ≡ n + 1
  pub stays : (Cause → ⊥) → after ≡ n

-- how the meter m moves to `after`, where Accepted says which write was accepted, and ThenIgnored that the command was ignored
pub record Counts (Accepted : Write → Type 0) (ThenIgnored : Type 0) (m after : Meter) : Type 0 where
  pub programs : Rises (Accepted Program) m.programs after.programs
  pub erases : Rises ((u : EraseUnit) × Accepted (Erase u)) m.erases after.erases
  pub register_writes : Rises (Accepted WriteStatus) m.register_writes after.register_writes
  pub ignored : Rises ThenIgnored m.ignored after.ignored

-- ---- at a verdict

-- v accepts the write w, and v ignores
abbrev pub Accepts : Verdict → Write → Type 0
Accepts v w = v ≡ CarriedOut (Writes w)

abbrev pub Ignores : Verdict → Type 0
Ignores v = (w : Reason) × (v ≡ Ignored w)

module _ (m : Meter) where
  -- a count stays where its cause is not, if it does at each verdict that is carried out as a write or ignored
  stays_at : (count : Meter → ℕ) (Cause : Verdict → Type 0)
      → ((w : Write) → (Cause (CarriedOut (Writes w)) → ⊥) → count (counted m w) ≡ count m)
      → ((w : Reason) → (Cause (Ignored w) → ⊥) → count (ignored_counted m) ≡ count m)
      → (v : Verdict) → (Cause v → ⊥) → count (meter_after m v) ≡ count m
  unfolding of_write
  stays_at count Cause f g (CarriedOut k) h =
      by_write (λ j. (Cause (CarriedOut j) → ⊥) → count (of_write j m (counted m)) ≡ count m)
      (λ j q o. ap count (q.writes_nothing Meter m (counted m)))
      f k h
  stays_at count Cause f g (Ignored w) h = g w h

  programs_of : (w : Write) → (Accepts (CarriedOut (Writes w)) Program → ⊥) → (counted m w).programs ≡ m.programs
  programs_of Program h = absurd (h refl)
  programs_of (Erase u) h = refl
  programs_of WriteStatus h = refl

  erases_of : (w : Write) → ((u : EraseUnit) × Accepts (CarriedOut (Writes w)) (Erase u) → ⊥) → (counted m w).erases ≡ m.erases
  erases_of Program h = refl
  erases_of (Erase u) h = absurd (h (u, refl))
  erases_of WriteStatus h = refl

  register_writes_of : (w : Write) → (Accepts (CarriedOut (Writes w)) WriteStatus → ⊥) → (counted m w).register_writes ≡ m.register_writes
  register_writes_of Program h = refl
  register_writes_of (Erase u) h = refl
  register_writes_of WriteStatus h = absurd (h refl)

  ignored_of : (w : Write) → (Ignores (CarriedOut (Writes w)) → ⊥) → (counted m w).ignored ≡ m.ignored
  ignored_of Program h = refl
  ignored_of (Erase u) h = refl
  ignored_of WriteStatus h = refl

  pub meter-counts : (v : Verdict) → Counts (Accepts v) (Ignores v) m (meter_after m v)
  unfolding of_write
  meter-counts v =
      record {
        programs = record { rises = ap (λ (u : Verdict). (meter_after m u).programs); stays = stays_at (λ a. a.programs) (λ u. Accepts u Program) programs_of (λ w h. refl) v };
        erases = record { rises = λ e. ap (λ (u : Verdict). (meter_after m u).erases) e.1; stays = stays_at (λ a. a.erases) (λ s. (u : EraseUnit) × Accepts s (Erase u)) erases_of (λ w h. refl) v };
        register_writes = record { rises = ap (λ (u : Verdict). (meter_after m u).register_writes); stays = stays_at (λ a. a.register_writes) (λ u. Accepts u WriteStatus) register_writes_of (λ w h. refl) v };
        ignored = record { rises = λ e. ap (λ (u : Verdict). (meter_after m u).ignored) e.1; stays = stays_at (λ a. a.ignored) Ignores ignored_of (λ w h. absurd (h (w, refl))) v };
      }

-- ---- and so for a caller of the entry, who goes by the answer's number and the first byte; a refusal, 1 to 7, leaves all four

rises_as : (A B : Type 0) (n after : ℕ) → A ↔ B → Rises A n after → Rises B n after
rises_as A B n after e h = record { rises = λ c. h.rises (e.1 c); stays = λ c. h.stays (λ a. c (e.0 a)) }

counts_as : (A B : Write → Type 0) (C D : Type 0) (m after : Meter) → ((w : Write) → A w ↔ B w) → C ↔ D → Counts A C m after → Counts B D m after
counts_as A B C D m after e f h =
    record {
      programs = rises_as (A Program) (B Program) _ _ (e Program) h.programs;
      erases = rises_as ((u : EraseUnit) × A (Erase u)) ((u : EraseUnit) × B (Erase u)) _ _ (λ a. (a.0, (e (Erase a.0)).0 a.1), λ a. (a.0, (e (Erase a.0)).1 a.1)) h.erases;
      register_writes = rises_as (A WriteStatus) (B WriteStatus) _ _ (e WriteStatus) h.register_writes;
      ignored = rises_as C D _ _ f h.ignored;
    }

-- the answer is 0 and the first byte says the write w
abbrev pub AcceptedAt : (part : ℕ) (b : List ℕ) (number : ℕ) (w : Write) → Type 0
AcceptedAt part b number w = (number ≡ 0) × FirstSays part b (Writes w)

-- the answer is 10 to 16
abbrev pub IgnoredAt : (number : ℕ) → Type 0
IgnoredAt number = (10 ≤ number) × (number ≤ 16)

pub meter_counts_lent : (part : ℕ) (kept : Kept) (m : Meter) (l o b : List ℕ) (x wp : ℕ)
    → let answer = (transact_of part kept m l o b x wp).answer in
    Counts (AcceptedAt part b answer.number) (IgnoredAt answer.number) m answer.meter
meter_counts_lent part kept m l o b x wp =
    by_answer part kept m l o b x wp
    (λ s. Counts (AcceptedAt part b s.answer.number) (IgnoredAt s.answer.number) m s.answer.meter)
    (λ c k e.
    let known = (carried_passed (part_of part) (regs_of kept) b x (is_high wp) k e).known in
    counts_as (Accepts (CarriedOut k)) (AcceptedAt part b 0) (Ignores (CarriedOut k)) (IgnoredAt 0) m (meter_after m (CarriedOut k))
    (λ w. (λ a. (refl, cc), λ a. let q = a.1 in cc))
    (λ a. let z : ◌≡◌ {A = ℕ} 0 1 = cc in absurd (omega arith), λ a. absurd (omega arith))
    (meter-counts m (CarriedOut k)))
    (λ c r e.
    let h = ignored-number r in
    counts_as (Accepts (Ignored r)) (AcceptedAt part b (reason_number r)) (Ignores (Ignored r)) (IgnoredAt (reason_number r)) m (meter_after m (Ignored r))
    (λ w. (λ a. let z : ◌≡◌ {A = ℕ} 0 1 = cc in absurd (omega arith), λ a. absurd (omega arith)))
    (λ a. h, λ a. (r, refl))
    (meter-counts m (Ignored r)))
    (λ z e h k. record {
      programs = record { rises = λ a. absurd (omega arith); stays = λ a. refl };
      erases = record { rises = λ a. let q = a.1.0 in absurd (omega arith); stays = λ a. refl };
      register_writes = record { rises = λ a. absurd (omega arith); stays = λ a. refl };
      ignored = record { rises = λ a. absurd (omega arith); stays = λ a. refl };
    })
