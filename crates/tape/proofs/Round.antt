-- What is read back of encoded records is what was written, and no fault is found.
use Rattle.std.specs.Prelude.{None}
use mathlib.Core.Path.{◌≡◌, refl, sym, ap, ◌∙◌}
use mathlib.Core.Bool.{Bool, true, false, not}
use mathlib.Core.List.{List, [], ◌∷◌, ◌++◌, append_assoc}
use Prim.Native.Nat.{ℕ, zero, suc, ◌+◌, ◌-◌, ◌*◌, ◌/◌, ◌%◌, ◌≤◌, ◌<◌}
use native.Mathlib.Omega.{arith}
use native.Mathlib.Nat.{add-zero}
use lib.ListN.{length, get_or, take, replicate, length-append, length-replicate, get_or-replicate, get_or-append}
use lib.Seq.{get_or-append-add, get_or-drop, take-append_seam}
use borrow.Author.Tests.{le-leb, lt-leb, eq-eqb}
use Rattle.lists.specs.Choice.{if◌then◌otherwise◌}
use Rattle.lists.specs.Places.{every_in}
use Rattle.lists.proofs.Search.{at_every, none_first}
use Rattle.rules.specs.Status.{flag}
use Rattle.rules.specs.Tape.{Rec, transaction, finish, power_cycle, sent_limit, bytes_start, leftover_of, high_of, rec_at, recs_from, records, recs_of, whole, is_zero, good_record, first_bad, encode_rec, encode}
use Rattle.tape.specs.Record.{head_good}
use Rattle.tape.proofs.Good.{good_from}
use Rattle.laws.proofs.RecordOk.{RecOk, transaction_ok, finish_ok, power_ok, RecsOk, no_recs, next}
use Rattle.tape.proofs.Encoded.{rec_length, encode-length, at_place, from_place}

-- byte 3 taken apart again
record Bits (x : ℕ) (high : Bool) : Type 0 where
  small : x + flag high * 8 ≤ 15
  left : leftover_of (x + flag high * 8) ≡ x
  level : high_of (x + flag high * 8) ≡ high

bits_back : (x : ℕ) (high : Bool) → x ≤ 7 → Bits x high
bits_back x true h = record { small = omega arith; left = omega arith; level = le-leb 8 (x + 8) (omega arith) }
bits_back x false h = record { small = omega arith; left = omega arith; level = lt-leb 8 (x + 0) (omega arith) }

-- ---- one record

rec_back : (pre rest : List ℕ) (k : ℕ) → length pre ≡ 264 * k → (r : Rec) → RecOk r → rec_at (pre ++ (encode_rec r ++ rest)) k ≡ r
unfolding rec_at encode_rec if◌then◌otherwise◌
rec_back pre rest k e (transaction b x high) (transaction_ok h g) =
    let l : List ℕ = encode_rec (transaction b x high) ++ rest in
    let n : length b / 256 * 256 + length b % 256 ≡ length b = omega arith in
    let s = bits_back x high g in
    rw (at_place pre k e l 2, at_place pre k e l 3, from_place pre k e l 4, at_place pre k e l 1, at_place pre k e l 0, n, s.left, s.level)
    (ap (λ (m : List ℕ). transaction m x high)
    (ap (take (length b)) (append_assoc b (replicate (260 - length b) 0) rest) ∙ take-append_seam b (replicate (260 - length b) 0 ++ rest)))
rec_back pre rest k e finish finish_ok = rw (at_place pre k e (encode_rec finish ++ rest) 2)
rec_back pre rest k e power_cycle power_ok = rw (at_place pre k e (encode_rec power_cycle ++ rest) 2)

-- four head bytes and b, zero-filled, after k records
module _ (pre rest : List ℕ) (k : ℕ) (e : length pre ≡ 264 * k) (h₀ h₁ h₂ h₃ : ℕ) (b : List ℕ) (h : length b ≤ 260) where
  abbrev zeros : List ℕ
  zeros = replicate (260 - length b) 0

  abbrev laid : List ℕ
  laid = h₀ ∷ h₁ ∷ h₂ ∷ h₃ ∷ (b ++ zeros) ++ rest

  tail_laid : every_in (is_zero (pre ++ laid)) (bytes_start k + length b) (sent_limit - length b) ≡ true
  tail_laid =
      at_every (is_zero (pre ++ laid)) (bytes_start k + length b) (sent_limit - length b)
      (λ y p q. let i : ℕ = y - (bytes_start k + length b) in
      let d : y ≡ 264 * k + (4 + (length b + i)) = omega arith in
      eq-eqb (get_or (pre ++ laid) y 0) 0
      (ap (λ (j : ℕ). get_or (pre ++ laid) j 0) d
      ∙ at_place pre k e laid (4 + (length b + i))
      ∙ sym (get_or-drop 4 laid (length b + i) 0)
      ∙ get_or-append (b ++ zeros) rest 0 (length b + i) (simp (length-append, length-replicate) (omega arith))
      ∙ get_or-append-add b zeros i 0 ∙ get_or-replicate {A = ℕ} (260 - length b) i 0 0 (omega arith)))

  good-laid : h₀ * 256 + h₁ ≡ length b → head_good (length b) h₂ h₃ ≡ true → good_record (pre ++ laid) k ≡ true
  good-laid n g =
      good_from (pre ++ laid) k (length b) h₂ h₃
      ((λ i. at_place pre k e laid 0 i * 256 + at_place pre k e laid 1 i) ∙ n) (at_place pre k e laid 2) (at_place pre k e laid 3) g tail_laid

good_back : (pre rest : List ℕ) (k : ℕ) → length pre ≡ 264 * k → (r : Rec) → RecOk r → good_record (pre ++ (encode_rec r ++ rest)) k ≡ true
unfolding encode_rec head_good
good_back pre rest k e (transaction b x high) (transaction_ok h g) =
    let s = (bits_back x high g).small in
    good-laid pre rest k e (length b / 256) (length b % 256) 0 (x + flag high * 8) b h (omega arith)
    (rw (le-leb (length b) 260 h, le-leb (x + flag high * 8) 15 s))
good_back pre rest k e finish finish_ok = good-laid pre rest k e 0 0 1 0 [] (omega arith) refl refl
good_back pre rest k e power_cycle power_ok = good-laid pre rest k e 0 0 2 0 [] (omega arith) refl refl

-- ---- all of them

recs_back : (rs : List Rec) → RecsOk rs → (pre : List ℕ) (k : ℕ) → length pre ≡ 264 * k → recs_from (pre ++ encode rs) k (length rs) ≡ rs
unfolding recs_from encode
recs_back [] no_recs pre k e = refl
recs_back (r ∷ rs) (next o os) pre k e =
    let long : length (pre ++ encode_rec r) ≡ 264 * suc k = length-append pre (encode_rec r) ∙ omega (arith, rec_length o) in
    let ih = recs_back rs os (pre ++ encode_rec r) (suc k) long in
    let tail : recs_from (pre ++ (encode_rec r ++ encode rs)) (suc k) (length rs) ≡ rs =
    ap (λ (l : List ℕ). recs_from l (suc k) (length rs)) (sym (append_assoc pre (encode_rec r) (encode rs))) ∙ ih in
    λ i. rec_back pre (encode rs) k e r o i ∷ tail i

pub round_trip : (rs : List Rec) → RecsOk rs → recs_from (encode rs) 0 (length rs) ≡ rs
round_trip rs o = recs_back rs o [] 0 refl

pub encode-whole : (rs : List Rec) → RecsOk rs → whole (encode rs) ≡ true
encode-whole rs o = eq-eqb (length (encode rs) % 264) 0 (omega (arith, encode-length o))

pub encode-records : (rs : List Rec) → RecsOk rs → records (encode rs) ≡ length rs
encode-records rs o = omega (arith, encode-length o)

-- the records of an encoded tape
pub encode_recs : (rs : List Rec) → RecsOk rs → recs_of (encode rs) ≡ rs
encode_recs rs o = ap (recs_from (encode rs) 0) (encode-records rs o) ∙ round_trip rs o

goods_back : (rs : List Rec) → RecsOk rs → (pre : List ℕ) (k : ℕ) → length pre ≡ 264 * k → (p : ℕ) → p < length rs → good_record (pre ++ encode rs) (k + p) ≡ true
unfolding encode
goods_back [] no_recs pre k e p h = absurd (omega arith)
goods_back (r ∷ rs) (next o os) pre k e zero h = rw (add-zero k) (good_back pre (encode rs) k e r o)
goods_back (r ∷ rs) (next o os) pre k e (suc p) h =
    let long : length (pre ++ encode_rec r) ≡ 264 * suc k = length-append pre (encode_rec r) ∙ omega (arith, rec_length o) in
    let d : suc k + p ≡ k + suc p = omega arith in
    rw (append_assoc pre (encode_rec r) (encode rs), d) at (goods_back rs os (pre ++ encode_rec r) (suc k) long p (omega arith))

pub encode-good : (rs : List Rec) → RecsOk rs → (p : ℕ) → p < length rs → good_record (encode rs) p ≡ true
encode-good rs o p h = let d : 0 + p ≡ p = omega arith in rw d at (goods_back rs o [] 0 refl p h)

-- no record of it is bad
pub encode_unfaulted : (rs : List Rec) → RecsOk rs → first_bad (encode rs) ≡ None
unfolding first_bad
encode_unfaulted rs o =
    none_first (λ p. not (good_record (encode rs) p)) 0 (records (encode rs))
    (λ p _ h. ap not (encode-good rs o p (omega (arith, encode-records rs o))))
