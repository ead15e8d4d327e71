-- Document 01, "How tightly an answer is pinned": no second answer fits what a C entry promises, and no other contents of
-- what it was lent.
use mathlib.Core.Path.{◌≡◌, sym, ap, ◌∙◌}
use mathlib.Core.List.{List}
use Prim.Native.Nat.{ℕ}
use lib.ListN.{length}
use Rattle.rules.specs.declared.Kept.{Kept}
use Rattle.rules.specs.declared.Meter.{Meter}
use Rattle.tunebriar.specs.declared.TbAnswer.{TbAnswer}
use Rattle.tunebriar.specs.declared.TbEvent.{TbEvent}
use Rattle.tunebriar.specs.declared.TbTape.{TbTape}
use Rattle.tunebriar.specs.declared.TbBill.{TbBill}
use Rattle.tunebriar.specs.declared.TbRecord.{TbRecord}
use Rattle.rules.specs.Transact.{transact_of}
use Rattle.rules.specs.CountEntry.{Metered, metered, count_of}
use Rattle.rules.specs.EventEntries.{finish_of, power_cycle_of}
use Rattle.rules.specs.Reading.{read_of}
use Rattle.rules.specs.Replay.{replay_first_of, replay_of}
use Rattle.rules.specs.Translate.{translate_of, quote_of}
use Rattle.tunebriar.specs.CEntries.{TbSeen, TbPlayed, TbTranslated, tb_event, tb_bill, tb_record, tb_transact, tb_replay, tb_translate, tb_seen, tb_played, tb_translated}

-- ---- slices are lent: the answer and their contents

pub tb_transact_unique : (part : ℕ) (kept : Kept) (m : Meter) (l o b : List ℕ) (x wp : ℕ) (t u : TbAnswer) (l₁ l₂ o₁ o₂ : List ℕ)
    → tb_seen t l₁ o₁ ≡ tb_transact (transact_of part kept m l o b x wp)
    → tb_seen u l₂ o₂ ≡ tb_transact (transact_of part kept m l o b x wp)
    → (t ≡ u) × (l₁ ≡ l₂) × (o₁ ≡ o₂)
tb_transact_unique part kept m l o b x wp t u l₁ l₂ o₁ o₂ p q =
    let e = p ∙ sym q in
    (ap (λ (s : TbSeen). s.answer) e, ap (λ (s : TbSeen). s.array) e, ap (λ (s : TbSeen). s.out) e)

tb_played_once : (v : TbPlayed) (t u : TbAnswer) (l₁ l₂ : List ℕ) → tb_played t l₁ ≡ v → tb_played u l₂ ≡ v → (t ≡ u) × (l₁ ≡ l₂)
tb_played_once v t u l₁ l₂ p q =
    let e = p ∙ sym q in
    (ap (λ (s : TbPlayed). s.answer) e, ap (λ (s : TbPlayed). s.array) e)

pub tb_replay_unique : (part : ℕ) (kept : Kept) (m : Meter) (l tape : List ℕ) (t u : TbAnswer) (l₁ l₂ : List ℕ)
    → tb_played t l₁ ≡ tb_replay (replay_of part kept m l tape) → tb_played u l₂ ≡ tb_replay (replay_of part kept m l tape)
    → (t ≡ u) × (l₁ ≡ l₂)
tb_replay_unique part kept m l tape = tb_played_once (tb_replay (replay_of part kept m l tape))

pub tb_replay_first_unique : (part : ℕ) (kept : Kept) (m : Meter) (l tape : List ℕ) (k : ℕ) (t u : TbAnswer) (l₁ l₂ : List ℕ)
    → tb_played t l₁ ≡ tb_replay (replay_first_of part kept m l tape k) → tb_played u l₂ ≡ tb_replay (replay_first_of part kept m l tape k)
    → (t ≡ u) × (l₁ ≡ l₂)
tb_replay_first_unique part kept m l tape k = tb_played_once (tb_replay (replay_first_of part kept m l tape k))

pub tb_translate_unique : (part s : ℕ) (job payload tape : List ℕ) (t u : TbTape) (w₁ w₂ : List ℕ)
    → tb_translated t w₁ ≡ tb_translate (translate_of part s job payload tape)
    → tb_translated u w₂ ≡ tb_translate (translate_of part s job payload tape)
    → (t ≡ u) × (w₁ ≡ w₂)
tb_translate_unique part s job payload tape t u w₁ w₂ p q =
    let e = p ∙ sym q in
    (ap (λ (w : TbTranslated). w.answer) e, ap (λ (w : TbTranslated). w.tape) e)

-- ---- the meter is lent: the number and the meter

pub tb_count_unique : (part : ℕ) (m : Meter) (number op : ℕ) (n k : ℕ) (m₁ m₂ : Meter)
    → metered n m₁ ≡ count_of part m number op → metered k m₂ ≡ count_of part m number op → (n ≡ k) × (m₁ ≡ m₂)
tb_count_unique part m number op n k m₁ m₂ p q =
    let e = p ∙ sym q in
    (ap (λ (t : Metered). t.number) e, ap (λ (t : Metered). t.meter) e)

-- ---- nothing that is lent changes: the answer is all

pub same : {A : Type 0} (v t u : A) → t ≡ v → u ≡ v → t ≡ u
same v t u p q = p ∙ sym q

pub tb_finish_unique : (part : ℕ) (kept : Kept) (t u : TbEvent) → t ≡ tb_event (finish_of part kept) → u ≡ tb_event (finish_of part kept) → t ≡ u
tb_finish_unique part kept = same (tb_event (finish_of part kept))

pub tb_power_cycle_unique : (part : ℕ) (kept : Kept) (t u : TbEvent)
    → t ≡ tb_event (power_cycle_of part kept) → u ≡ tb_event (power_cycle_of part kept) → t ≡ u
tb_power_cycle_unique part kept = same (tb_event (power_cycle_of part kept))

pub tb_read_unique : (tape : List ℕ) (place : ℕ) (t u : TbRecord) → t ≡ tb_record (read_of tape place) → u ≡ tb_record (read_of tape place) → t ≡ u
tb_read_unique tape place = same (tb_record (read_of tape place))

pub tb_quote_unique : (part s : ℕ) (job payload : List ℕ) (t u : TbBill)
    → t ≡ tb_bill (quote_of part s job (length payload)) → u ≡ tb_bill (quote_of part s job (length payload)) → t ≡ u
tb_quote_unique part s job payload = same (tb_bill (quote_of part s job (length payload)))
