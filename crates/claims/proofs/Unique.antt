-- Document 01, "How tightly an answer is pinned": no second answer fits what an entry promises, and no other contents of
-- what it was lent.
use Rattle.std.specs.Prelude.{Result}
use mathlib.Core.Path.{◌≡◌, sym, ap, ◌∙◌}
use mathlib.Core.List.{List}
use Prim.Native.Nat.{ℕ}
use Rattle.rules.specs.declared.Kept.{Kept}
use Rattle.rules.specs.declared.Meter.{Meter}
use Rattle.rules.specs.declared.Refusal.{Refusal}
use Rattle.rules.specs.declared.Served.{Served}
use Rattle.rules.specs.declared.Played.{Played}
use Rattle.rules.specs.declared.Bill.{Bill}
use Rattle.rules.specs.Transact.{TransactSeen, transact_told, transact_seen, transact_of}
use Rattle.rules.specs.EventEntries.{event_told, finish_of, power_cycle_of}
use Rattle.rules.specs.Reading.{AtPlace, read_told, read_of}
use Rattle.rules.specs.Replay.{ReplaySeen, replay_told, replay_seen, replay_first_of, replay_of}
use Rattle.rules.specs.Translate.{TranslateSeen, translate_told, translate_seen, translate_of, quote_told, quote_of}
use Rattle.rules.proofs.Apart.{transacted_apart, events_apart, replayed_apart, reads_apart, translated_apart, quoted_apart}

pub transact_unique : (part : ℕ) (kept : Kept) (m : Meter) (l o b : List ℕ) (x wp : ℕ) (t u : Result Served Refusal) (l₁ l₂ o₁ o₂ : List ℕ)
    → transact_seen (transact_told kept m t) l₁ o₁ ≡ transact_of part kept m l o b x wp
    → transact_seen (transact_told kept m u) l₂ o₂ ≡ transact_of part kept m l o b x wp
    → (t ≡ u) × (l₁ ≡ l₂) × (o₁ ≡ o₂)
transact_unique part kept m l o b x wp t u l₁ l₂ o₁ o₂ p q =
    let e = p ∙ sym q in
    (transacted_apart kept m t u (ap (λ (s : TransactSeen). s.answer) e), ap (λ (s : TransactSeen). s.array) e, ap (λ (s : TransactSeen). s.out) e)

-- ---- where nothing is lent, or nothing that is lent changes, the answer is all

-- what is told apart fits one value at most
once : {A B : Type 0} (told : A → B) → ((a c : A) → told a ≡ told c → a ≡ c) → (v : B) (a c : A) → told a ≡ v → told c ≡ v → a ≡ c
once told apart v a c p q = apart a c (p ∙ sym q)

pub finish_unique : (part : ℕ) (kept : Kept) (e f : Result Kept Refusal) → event_told kept e ≡ finish_of part kept → event_told kept f ≡ finish_of part kept → e ≡ f
finish_unique part kept = once (event_told kept) (events_apart kept) (finish_of part kept)

pub power_cycle_unique : (part : ℕ) (kept : Kept) (e f : Result Kept Refusal) → event_told kept e ≡ power_cycle_of part kept → event_told kept f ≡ power_cycle_of part kept → e ≡ f
power_cycle_unique part kept = once (event_told kept) (events_apart kept) (power_cycle_of part kept)

pub read_unique : (t : List ℕ) (place : ℕ) (a c : AtPlace) → read_told place a ≡ read_of t place → read_told place c ≡ read_of t place → a ≡ c
read_unique t place = once (read_told place) (reads_apart place) (read_of t place)

pub quote_unique : (part s : ℕ) (job : List ℕ) (payload_length : ℕ) (a c : Result Bill Refusal)
    → quote_told a ≡ quote_of part s job payload_length → quote_told c ≡ quote_of part s job payload_length → a ≡ c
quote_unique part s job payload_length = once quote_told quoted_apart (quote_of part s job payload_length)

-- ---- replays, the whole tape or its first k records; and the tape of a translation

replayed_once : (kept : Kept) (m : Meter) (v : ReplaySeen) (a c : Result Played Refusal) (l₁ l₂ : List ℕ)
    → replay_seen (replay_told kept m a) l₁ ≡ v → replay_seen (replay_told kept m c) l₂ ≡ v → (a ≡ c) × (l₁ ≡ l₂)
replayed_once kept m v a c l₁ l₂ p q =
    let e = p ∙ sym q in
    (replayed_apart kept m a c (ap (λ (s : ReplaySeen). s.answer) e), ap (λ (s : ReplaySeen). s.array) e)

pub replay_unique : (part : ℕ) (kept : Kept) (m : Meter) (l t : List ℕ) (a c : Result Played Refusal) (l₁ l₂ : List ℕ)
    → replay_seen (replay_told kept m a) l₁ ≡ replay_of part kept m l t → replay_seen (replay_told kept m c) l₂ ≡ replay_of part kept m l t
    → (a ≡ c) × (l₁ ≡ l₂)
replay_unique part kept m l t = replayed_once kept m (replay_of part kept m l t)

pub replay_first_unique : (part : ℕ) (kept : Kept) (m : Meter) (l t : List ℕ) (k : ℕ) (a c : Result Played Refusal) (l₁ l₂ : List ℕ)
    → replay_seen (replay_told kept m a) l₁ ≡ replay_first_of part kept m l t k → replay_seen (replay_told kept m c) l₂ ≡ replay_first_of part kept m l t k
    → (a ≡ c) × (l₁ ≡ l₂)
replay_first_unique part kept m l t k = replayed_once kept m (replay_first_of part kept m l t k)

pub translate_unique : (part s : ℕ) (job payload tape : List ℕ) (a c : Result ℕ Refusal) (t₁ t₂ : List ℕ)
    → translate_seen (translate_told a) t₁ ≡ translate_of part s job payload tape
    → translate_seen (translate_told c) t₂ ≡ translate_of part s job payload tape
    → (a ≡ c) × (t₁ ≡ t₂)
translate_unique part s job payload tape a c t₁ t₂ p q =
    let e = p ∙ sym q in
    (translated_apart a c (ap (λ (s : TranslateSeen). s.answer) e), ap (λ (s : TranslateSeen). s.tape) e)
