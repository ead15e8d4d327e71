-- Document 01, "How tightly an answer is pinned", of the meter by itself, and of the reader of a tape, which is brought up
-- to date where it lies. No second answer fits, and no other contents.
use Rattle.std.specs.Prelude.{Result, Ok, Err}
use mathlib.Core.Path.{◌≡◌, refl, sym, ◌∙◌}
use mathlib.Core.List.{List}
use Prim.Native.Nat.{ℕ, ◌≤◌}
use native.Mathlib.Omega.{arith}
use lib.Dec.{lit≤}
use denote.Ref.{Bor}
use Rattle.rules.specs.declared.Meter.{Meter}
use Rattle.rules.specs.declared.Refusal.{Refusal}
use Rattle.rules.specs.declared.Refusal.TheVariants.{UnknownPart, ArrayLength, NotWellFormed, LongTransaction, LeftoverBits, ShortOutput, MeterFull, UnfitJob, StartSetting, StepUnsaid, StepOutside, StepBeyond, StepProtected, SmallBuffer, CutTape, BadRecord}
use Rattle.rules.specs.declared.Uncounted.{Uncounted}
use Rattle.rules.specs.Refusals.{number_of, index_of}
use Rattle.rules.specs.CountEntry.{Metered, metered, count_told, count_of}
use Rattle.rules.specs.Reading.{AtPlace, read_told, read_of}
use Rattle.rules.proofs.Apart.{counted_apart}
use Rattle.tape.specs.declared.Reading.{Reading}
use Rattle.tape.specs.declared.Reader.{Reader}
use Rattle.tape.specs.Moves.{told, found, after}
use Rattle.lists.proofs.Choice.{by_choice}
use Rattle.claims.proofs.Unique.{read_unique}
use Rattle.claims.proofs.UniqueC.{same}

-- an answer, and what is left where it lies
both_same : {A B : Type 0} (v : A) (w : B) (t u : A) (x y : B) → (t ≡ v) × (x ≡ w) → (u ≡ v) × (y ≡ w) → (t ≡ u) × (x ≡ y)
both_same v w t u x y p q = (same v t u p.0 q.0, same w x y p.1 q.1)

-- ---- the meter by itself

pub count_unique : (part : ℕ) (m : Meter) (number op : ℕ) (t u : Result Meter Uncounted)
    → count_told t ≡ count_of part m number op → count_told u ≡ count_of part m number op → t ≡ u
count_unique part m number op t u p q = counted_apart t u (p ∙ sym q)

-- a refusal with 1 to 7 has no index, so its number alone tells it
few_index : (z : Refusal) → number_of z ≤ 7 → index_of z ≡ 0
few_index UnknownPart h = refl
few_index ArrayLength h = refl
few_index NotWellFormed h = refl
few_index LongTransaction h = refl
few_index LeftoverBits h = refl
few_index ShortOutput h = refl
few_index MeterFull h = refl
few_index UnfitJob h = refl
few_index StartSetting h = refl
few_index (StepUnsaid i) h = absurd (omega arith)
few_index (StepOutside i) h = absurd (omega arith)
few_index (StepBeyond i) h = absurd (omega arith)
few_index (StepProtected i) h = absurd (omega arith)
few_index SmallBuffer h = refl
few_index CutTape h = refl
few_index (BadRecord i) h = absurd (omega arith)

-- .. and an answer with up to 7 is told with none
few_plain : (t : Result Meter Uncounted) → (count_told t).number ≤ 7 → (count_told t).index ≡ 0
few_plain (Ok m) h = refl
few_plain (Err u) h = few_index u.refusal h

-- the refusals of the entry are 1 and 7
few_told : (part : ℕ) (m : Meter) (number op : ℕ) → (count_of part m number op).number ≤ 7
unfolding count_of
few_told part m number op =
    let c = by_choice (λ (t : Metered). t.number ≤ 7) in
    c _ (metered 1 m) _ (lit≤ tt) (c _ (metered 7 m) (metered 0 _) (lit≤ tt) (lit≤ tt))

-- an answer has this number and this meter, whatever its index
abbrev pub CountFits : Metered → Result Meter Uncounted → Type 0
CountFits k t = ((count_told t).number ≡ k.number) × ((count_told t).meter ≡ k.meter)

-- what has the same number, up to 7, and the same meter is the same
few_apart : (t u : Result Meter Uncounted) → (count_told t).number ≤ 7 → CountFits (count_told u) t → t ≡ u
few_apart t u h e =
    let plain = few_plain t h ∙ sym (few_plain u (omega (arith, h, e.0))) in
    counted_apart t u (λ i. record { number = e.0 i; index = plain i; meter = e.1 i })

-- the number and the meter, which are all that C is told, leave no second answer
pub count_unique_by_number : (part : ℕ) (m : Meter) (number op : ℕ) (t u : Result Meter Uncounted)
    → CountFits (count_of part m number op) t → CountFits (count_of part m number op) u → t ≡ u
count_unique_by_number part m number op t u p q =
    few_apart t u (omega (arith, few_told part m number op, p.0)) (p.0 ∙ sym q.0, p.1 ∙ sym q.1)

-- ---- the reader: the caller's bytes that it keeps hold of, and its place

pub new_unique : (bytes : Bor (List ℕ)) (r s : Reader) → (r.bytes ≡ bytes) × (r.place ≡ 0) → (s.bytes ≡ bytes) × (s.place ≡ 0) → r ≡ s
new_unique bytes r s p q =
    let e = both_same bytes 0 r.bytes s.bytes r.place s.place p q in
    λ i. record { bytes = e.0 i; place = e.1 i }

pub place_unique : (r : Reader) (n k : ℕ) → n ≡ r.place → k ≡ r.place → n ≡ k
place_unique r = same r.place

pub reader_read_unique : (r : Reader) (a c : AtPlace) (r₁ r₂ : Reader) → (told r a ≡ found r) × (r₁ ≡ after r) → (told r c ≡ found r) × (r₂ ≡ after r) → (a ≡ c) × (r₁ ≡ r₂)
reader_read_unique r a c r₁ r₂ p q = (read_unique r.bytes.now r.place a c p.0 q.0, same (after r) r₁ r₂ p.1 q.1)

pub read_from_unique : (tape : List ℕ) (place : ℕ) (a c : AtPlace) → read_told place a ≡ read_of tape place → read_told place c ≡ read_of tape place → a ≡ c
read_from_unique = read_unique

-- an answer, and the place after it
abbrev pub ReadingFits : List ℕ → ℕ → Reading → Type 0
ReadingFits tape place r = (read_told place r.found ≡ read_of tape place) × (r.next ≡ (read_of tape place).next)

pub reading_at_unique : (tape : List ℕ) (place : ℕ) (r s : Reading) → ReadingFits tape place r → ReadingFits tape place s → r ≡ s
reading_at_unique tape place r s p q =
    let e = read_unique tape place r.found s.found p.0 q.0 in
    let n = same (read_of tape place).next r.next s.next p.1 q.1 in
    λ i. record { found = e i; next = n i }
