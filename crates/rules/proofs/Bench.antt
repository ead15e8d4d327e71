-- B1 to B10 under one claim: what the rules make of each row is what the row expects.
use Rattle.std.specs.Prelude.{Ok, Err}
use mathlib.Core.Path.{◌≡◌, refl, ap, ◌∙◌}
use mathlib.Core.Bool.{Bool, true, false}
use mathlib.Core.List.{List, [], ◌∷◌, map}
use Prim.Native.Nat.{ℕ, ◌<◌}
use native.Mathlib.Omega.{arith}
use borrow.Author.Tests.{ltb-true}
use lib.ListN.{length, get_or, length-set, length-replicate}
use Rattle.lists.specs.Choice.{if◌then◌otherwise◌, ◌<?◌}
use Rattle.lists.proofs.Patched.{patched_below}
use Rattle.rules.specs.declared.EraseUnit.TheVariants.{Sector, Block32, Block64, Chip}
use Rattle.rules.specs.declared.Write.TheVariants.{Program, Erase, WriteStatus}
use Rattle.rules.specs.declared.Kind.TheVariants.{WriteEnable, WriteDisable, ReadStatusLow, ReadStatusHigh, Read, FastRead, Sleep, Wake, ReadMakerDevice, ReadJedec, Writes}
use Rattle.rules.specs.declared.Verdict.{Verdict}
use Rattle.rules.specs.declared.Verdict.TheVariants.{CarriedOut, Ignored}
use Rattle.lists.specs.Places.{tabulate_from, tabulate, patched, first_in}
use Rattle.rules.specs.Kinds.{of_write, of_known}
use Rattle.rules.specs.Part.{takes, leaves, row_in, row_of}
use Rattle.rules.specs.Fm25q16.{fm_commands, fm_heard_asleep, fm_heard_busy, fm_sec0, fm_sec1, fm_area, fm_lo, fm_hi, fm_first, fm_second, fm_status_written, fm25q16}
use Rattle.rules.specs.Parts.{is_part, part_of}
use Rattle.rules.specs.Status.{regs_of, status_of, kept_of, low_byte, high_byte}
use Rattle.rules.specs.WellFormed.{word_formed, awake_formed, well_formed}
use Rattle.rules.specs.Protection.{is_protected, first_protected, some_protected}
use Rattle.rules.specs.Cells.{cell, programmed, erased}
use Rattle.rules.specs.Writes.{reach_start, locked}
use Rattle.rules.specs.Verdict.{address_of, unheard_asleep, unheard_busy, verdict_of}
use Rattle.rules.specs.Transaction.{from_place, array_after, Turn, turn_of}
use Rattle.rules.specs.Counts.{room}
use Rattle.rules.specs.Events.{finished}
use Rattle.rules.specs.Refusals.{Checked, answered, transact_refusal, event_refusal}
use Rattle.rules.specs.Transact.{TransactSeen, is_high, transact_served, transact_refused, transact_of}
use Rattle.rules.specs.EventEntries.{event_of, finish_of}
use Rattle.rules.specs.Bench.{Fact, holds, Reading, Seen, readings, blank, stored, array_at, look_at, finishing, seen_of, buffer, observed, counts}

-- a row's array has the chip's length, whatever its facts: said of any length, so that no list of two million is counted
stored-length : (fs : List Fact) (n : ℕ) → length (stored fs (blank n)) ≡ n
unfolding stored blank
stored-length [] n = length-replicate n 0xFF
stored-length (f ∷ fs) n = length-set (stored fs (blank n)) f.place f.byte ∙ stored-length fs n

-- ---- bytes below what was written, looked up in the array before: so that no list of two million is built

abbrev changed_from : List ℕ → Verdict → ℕ
changed_from b (CarriedOut k) = of_write k 0 (λ w. reach_start w (address_of (part_of 1) b))
changed_from b (Ignored w) = 0

below : (l b : List ℕ) (v : Verdict) → length l ≡ 2097152 → (y : ℕ) → y < changed_from b v → get_or (array_after (part_of 1) l b v) y 0 ≡ get_or l y 0
unfolding of_write part_of fm25q16 programmed erased address_of
below l b (Ignored w) long y h = refl
below l b (CarriedOut WriteEnable) long y h = refl
below l b (CarriedOut WriteDisable) long y h = refl
below l b (CarriedOut ReadStatusLow) long y h = refl
below l b (CarriedOut ReadStatusHigh) long y h = refl
below l b (CarriedOut Read) long y h = refl
below l b (CarriedOut FastRead) long y h = refl
below l b (CarriedOut Sleep) long y h = refl
below l b (CarriedOut Wake) long y h = refl
below l b (CarriedOut ReadMakerDevice) long y h = refl
below l b (CarriedOut ReadJedec) long y h = refl
below l b (CarriedOut (Writes Program)) long y h = patched_below l _ _ _ y (omega arith) (omega arith)
below l b (CarriedOut (Writes (Erase Sector))) long y h = patched_below l _ _ _ y (omega arith) (omega arith)
below l b (CarriedOut (Writes (Erase Block32))) long y h = patched_below l _ _ _ y (omega arith) (omega arith)
below l b (CarriedOut (Writes (Erase Block64))) long y h = patched_below l _ _ _ y (omega arith) (omega arith)
below l b (CarriedOut (Writes (Erase Chip))) long y h = absurd (omega arith)
below l b (CarriedOut (Writes WriteStatus)) long y h = refl

look_by : ℕ → List ℕ → List ℕ → List Fact → List Fact
look_by from l after [] = []
look_by from l after (f ∷ fs) = holds f.place (if f.place <? from then get_or l f.place 0 otherwise get_or after f.place 0) ∷ look_by from l after fs

look_by_lem : (from : ℕ) (l after : List ℕ) → ((y : ℕ) → y < from → get_or after y 0 ≡ get_or l y 0) → (fs : List Fact) → look_at after fs ≡ look_by from l after fs
unfolding look_at look_by if◌then◌otherwise◌
look_by_lem from l after h [] = refl
look_by_lem from l after h (f ∷ fs) = λ i. holds f.place (go (f.place <? from) refl i) ∷ look_by_lem from l after h fs i
  where
    go : (t : Bool) → (f.place <? from) ≡ t → get_or after f.place 0 ≡ (if t then get_or l f.place 0 otherwise get_or after f.place 0)
    go true e = h f.place (ltb-true f.place from e)
    go false e = refl

-- ---- a row

-- what the rules make of its transaction
turn_at : Reading → Turn
turn_at t = turn_of (part_of 1) (regs_of t.start) (array_at t) t.bytes 0 (is_high 1)

-- .. and what is seen of it, with the array's length as a number
transacted_at : ℕ → Reading → TransactSeen
transacted_at n t =
    answered (transact_refusal 1 n t.start (length t.bytes) 0 (length (buffer t)) (counts 0 0 0 0))
    (transact_served t.start (counts 0 0 0 0) (buffer t) t.bytes (turn_at t))
    (transact_refused t.start (counts 0 0 0 0) (array_at t) (buffer t))

observed_at : ℕ → Reading → Seen
observed_at n t =
    let s = transacted_at n t in
    record {
      served = s.answer.served;
      number = s.answer.number;
      code = s.answer.code;
      out = s.out;
      regs = s.answer.regs;
      meter = s.answer.meter;
      array = look_by (changed_from t.bytes (turn_at t).verdict) (array_at t) s.array t.expected.array;
      finishes = finishing s.answer.regs t.expected.finishes;
    }

stays : (n : ℕ) (t : Reading) (y : ℕ) → y < changed_from t.bytes (turn_at t).verdict → get_or (transacted_at n t).array y 0 ≡ get_or (array_at t) y 0
unfolding transacted_at transact_served transact_refused turn_at turn_of array_at answered
stays n t y h = go (transact_refusal 1 n t.start (length t.bytes) 0 (length (buffer t)) (counts 0 0 0 0))
  where
    go : (u : Checked)
        → get_or
        (answered u
        (transact_served t.start (counts 0 0 0 0) (buffer t) t.bytes (turn_at t))
        (transact_refused t.start (counts 0 0 0 0) (array_at t) (buffer t))).array
        y 0
        ≡ get_or (array_at t) y 0
    go (Ok u) = below (array_at t) t.bytes (turn_at t).verdict (stored-length t.facts 2097152) y h
    go (Err z) = refl

observed_at_lem : (t : Reading) → observed t ≡ observed_at 2097152 t
unfolding observed observed_at transacted_at turn_at transact_of array_at seen_of
observed_at_lem t =
    ap (λ (n : ℕ). seen_of t (transacted_at n t)) (stored-length t.facts 2097152)
    ∙ (λ i.
    record {
      served = (transacted_at 2097152 t).answer.served;
      number = (transacted_at 2097152 t).answer.number;
      code = (transacted_at 2097152 t).answer.code;
      out = (transacted_at 2097152 t).out;
      regs = (transacted_at 2097152 t).answer.regs;
      meter = (transacted_at 2097152 t).answer.meter;
      array = look_by_lem (changed_from t.bytes (turn_at t).verdict) (array_at t) (transacted_at 2097152 t).array (stays 2097152 t) t.expected.array i;
      finishes = finishing (transacted_at 2097152 t).answer.regs t.expected.finishes;
    })

each : (ts : List Reading) → map observed ts ≡ map (observed_at 2097152) ts
each [] = refl
each (t ∷ ts) = λ i. observed_at_lem t i ∷ each ts i

computed : map (observed_at 2097152) readings ≡ map (λ t. t.expected) readings
unfolding observed_at transacted_at turn_at look_by readings seen_of look_at finishing array_at stored blank transact_served transact_refused transact_refusal is_part part_of fm25q16 fm_commands fm_heard_asleep fm_heard_busy fm_sec0 fm_sec1 fm_area fm_lo fm_hi takes leaves row_in row_of regs_of status_of kept_of low_byte high_byte word_formed awake_formed well_formed is_protected first_protected some_protected cell programmed erased locked fm_first fm_second fm_status_written address_of unheard_asleep unheard_busy verdict_of from_place turn_of room finished event_refusal event_of finish_of of_write of_known if◌then◌otherwise◌ tabulate_from tabulate patched first_in answered
computed = refl

pub bench : map observed readings ≡ map (λ t. t.expected) readings
bench = each readings ∙ computed
