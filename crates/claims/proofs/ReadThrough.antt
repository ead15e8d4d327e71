-- A whole tape read through the reader: its k-th read answers record k, and every read after the last answers the end.
use Rattle.std.specs.Prelude.{Some, None, Ok}
use mathlib.Core.Path.{◌≡◌, refl, sym, ap, ◌∙◌}
use mathlib.Core.Bool.{Bool, true, false}
use mathlib.Core.List.{List}
use Prim.Native.Nat.{ℕ, zero, suc, ◌≤◌, ◌<◌}
use native.Mathlib.Omega.{arith}
use native.Mathlib.Numerals.{add-one}
use lib.Dec.{leb}
use borrow.Author.Tests.{le-leb, leb-true, leb-false}
use Rattle.lists.specs.Choice.{if◌then◌otherwise◌}
use Rattle.rules.specs.declared.Record.{Record}
use Rattle.rules.specs.Tape.{rec_at, records, whole, good_record}
use Rattle.rules.specs.Reading.{said_at, AtPlace, read_at, next_place, read_of}
use Rattle.tape.specs.declared.Reader.{Reader}
use Rattle.tape.specs.Record.{rec_of}
use Rattle.tape.specs.Moves.{told, found, after}
use Rattle.tape.proofs.Said.{read_said, said_rec, read_is, next-told}

-- the reader after k reads
unfoldable pub after_reads : ℕ → Reader → Reader
after_reads zero r = r
after_reads (suc k) r = after (after_reads k r)

-- what a reader's read answers
abbrev answer : Reader → AtPlace
answer r = read_at r.bytes.now r.place

-- .. is what is told as it, and the place after it is told too
answer-is : (r : Reader) (a : AtPlace) → told r a ≡ found r → a ≡ answer r
answer-is r a e = read_is r.bytes.now r.place a e

moves : (r : Reader) → (after r).place ≡ next_place r.place (answer r)
unfolding read_of
moves r = sym (next-told r.place (answer r))

-- a tape that 30 and 31 let pass
pub record Clean (t : List ℕ) : Type 0 where
  pub whole_records : whole t ≡ true
  pub good : (p : ℕ) → p < records t → good_record t p ≡ true

module _ (r : Reader) (start : r.place ≡ 0) (clean : Clean r.bytes.now) where
  -- it keeps hold of the bytes
  same_bytes : (k : ℕ) → (after_reads k r).bytes ≡ r.bytes
  unfolding after_reads
  same_bytes zero = refl
  same_bytes (suc k) = same_bytes k

  place_is : (k : ℕ) → k ≤ records r.bytes.now → (after_reads k r).place ≡ k
  unfolding after_reads
  place_is zero h = start
  place_is (suc k) h =
      let t = r.bytes.now in
      let ih = place_is k (omega arith) in
      moves (after_reads k r)
      ∙ (λ i. next_place (ih i) (read_at (same_bytes k i).now (ih i)))
      ∙ ap (next_place k) (read_said t k clean.whole_records (omega arith) (clean.good k (omega arith)))
      ∙ add-one k

  -- the k-th read gives a record, and it is record k of the core
  pub read_through : (k : ℕ) → k < records r.bytes.now → (a : AtPlace) → told (after_reads k r) a ≡ found (after_reads k r)
      → (said : Record) × (a ≡ Ok (Some said)) × (rec_of r.bytes.now said ≡ rec_at r.bytes.now k)
  read_through k h a e =
      let t = r.bytes.now in (
        said_at t k,
        answer-is (after_reads k r) a e
            ∙ (λ i. read_at (same_bytes k i).now (place_is k (omega arith) i))
            ∙ read_said t k clean.whole_records h (clean.good k h),
        sym (said_rec t k),
      )

  -- a read at the place after the last record gives the end
  at_end : (k : ℕ) → (after_reads k r).place ≡ records r.bytes.now → answer (after_reads k r) ≡ Ok None
  unfolding read_at if◌then◌otherwise◌
  at_end k e =
      let n = records r.bytes.now in
      (λ i. read_at (same_bytes k i).now (e i)) ∙ rw (clean.whole_records, le-leb n n (omega arith))

  -- .. and leaves it
  rests : (k : ℕ) → records r.bytes.now ≤ k → (after_reads k r).place ≡ records r.bytes.now
  unfolding after_reads
  rests zero h = omega (arith, start)
  rests (suc k) h = go (leb n k) refl (rests k)
    where
      n : ℕ
      n = records r.bytes.now

      go : (t : Bool) → leb n k ≡ t → (n ≤ k → (after_reads k r).place ≡ n) → (after (after_reads k r)).place ≡ n
      go true e ih =
          let p = ih (leb-true n k e) in
          moves (after_reads k r) ∙ ap (next_place (after_reads k r).place) (at_end k p) ∙ p
      go false e ih =
          let l = leb-false n k e in
          place_is (suc k) (omega arith) ∙ omega arith

  -- every read after the last record gives the end
  pub read_end : (k : ℕ) → records r.bytes.now ≤ k → (a : AtPlace) → told (after_reads k r) a ≡ found (after_reads k r) → a ≡ Ok None
  read_end k h a e = answer-is (after_reads k r) a e ∙ at_end k (rests k h)
