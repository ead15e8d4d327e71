-- A tape cut into its records: what stands in each is what stands in the tape.
use Rattle.std.specs.Prelude.{Option, Some, slice_index_or, cond}
use Rattle.std.specs.Simd.{first_chunks}
use Rattle.std.specs.List.{position_from}
use mathlib.Core.Path.{◌≡◌, refl, sym, ap, ◌∙◌}
use mathlib.Core.Bool.{Bool, true, false, ◌&&◌}
use mathlib.Core.List.{List, []}
use Prim.Native.Nat.{ℕ, zero, suc, ◌+◌, ◌-◌, ◌*◌, ◌<◌}
use native.Mathlib.Omega.{arith}
use native.Mathlib.Nat.{add-zero}
use lib.ListN.{get_or, take, drop}
use lib.Seq.{get_or-take, get_or-drop, drop-drop}
use Rattle.lists.specs.Choice.{if◌then◌otherwise◌, ◌=?◌}
use Rattle.lists.specs.Places.{first_in, every_in}
use Rattle.rules.specs.Tape.{record_length, records, length_at, kind_at, bits_at, is_zero, good_record}
use Rattle.tape.specs.Record.{head_good}
use Rattle.tape.proofs.Scan.{every_same}
use Rattle.tape.proofs.Good.{head_of, good-is}

-- record p by itself
abbrev pub lone : List ℕ → ℕ → List ℕ
lone t p = take record_length (drop (record_length * p) t)

pub chunk_is : (t : List ℕ) (c p : ℕ) (d : List ℕ) → p < c → slice_index_or (first_chunks record_length c t) p d ≡ lone t p
chunk_is t zero p d h = absurd (omega arith)
chunk_is t (suc c) zero d h = refl
chunk_is t (suc c) (suc p) d h =
    let e : 264 + 264 * p ≡ 264 * suc p = omega arith in
    chunk_is (drop 264 t) c p d (omega arith) ∙ ap (take 264) (drop-drop (264 * p) 264 t ∙ ap (λ (n : ℕ). drop n t) e)

module _ (t : List ℕ) (p : ℕ) where
  byte_is : (i : ℕ) → i < 264 → get_or (lone t p) i 0 ≡ get_or t (264 * p + i) 0
  byte_is i h = get_or-take 264 (drop (264 * p) t) i 0 h ∙ get_or-drop (264 * p) t i 0

  pub length-is : length_at (lone t p) 0 ≡ length_at t p
  length-is = λ i. byte_is 0 (omega arith) i * 256 + byte_is 1 (omega arith) i

  pub kind-is : kind_at (lone t p) 0 ≡ kind_at t p
  kind-is = byte_is 2 (omega arith)

  pub bits-is : bits_at (lone t p) 0 ≡ bits_at t p
  bits-is = byte_is 3 (omega arith)

  tail-is : (n : ℕ) → every_in (is_zero (lone t p)) (4 + n) (260 - n) ≡ every_in (is_zero t) (264 * p + 4 + n) (260 - n)
  tail-is n =
      every_same (is_zero (lone t p)) (is_zero t) (4 + n) (264 * p + 4 + n) (260 - n)
      (λ j h. let e : 264 * p + (4 + n + j) ≡ 264 * p + 4 + n + j = omega arith in
      ap (λ (x : ℕ). x =? 0) (byte_is (4 + n + j) (omega arith) ∙ ap (λ (x : ℕ). get_or t x 0) e))

  pub good-lone : good_record (lone t p) 0 ≡ good_record t p
  good-lone =
      good-is (lone t p) 0
      ∙ (λ i. head_good (length-is i) (kind-is i) (bits-is i) && every_in (is_zero (lone t p)) (4 + length-is i) (260 - length-is i))
      ∙ ap (λ (x : Bool). head_of t p && x) (tail-is (length_at t p))
      ∙ sym (good-is t p)

-- .. so a byte of a record among the records is that of the tape
pub chunk_byte : (t : List ℕ) (p i : ℕ) (rs : List (List ℕ)) → rs ≡ first_chunks record_length (records t) t → p < records t → i < 264
    → slice_index_or (slice_index_or rs p []) i 0 ≡ get_or t (264 * p + i) 0
chunk_byte t p i rs e h k =
    ap (λ (x : List ℕ). get_or x i 0) (ap (λ (xs : List (List ℕ)). slice_index_or xs p []) e ∙ chunk_is t (records t) p [] h) ∙ byte_is t p i k

-- .. and one that is found is good where that of the tape is
pub found_good : (t : List ℕ) (p : ℕ) (rs : List (List ℕ)) (r : List ℕ) → rs ≡ first_chunks record_length (records t) t → p < records t → r ≡ slice_index_or rs p r
    → good_record r 0 ≡ good_record t p
found_good t p rs r e h q =
    ap (λ (x : List ℕ). good_record x 0) (q ∙ ap (λ (xs : List (List ℕ)). slice_index_or xs p r) e ∙ chunk_is t (records t) p r h) ∙ good-lone t p

-- the library's choice is this repository's
choice : (t : Bool) (x y : Option ℕ) → cond t x y ≡ (if t then x otherwise y)
unfolding if◌then◌otherwise◌
choice true x y = refl
choice false x y = refl

-- the first of c records that passes a test is the first place from a on that passes the test there
pub chunks_first : (test : List ℕ → Bool) (f : ℕ → Bool) (a c : ℕ) (t : List ℕ) → ((j : ℕ) → j < c → test (lone t j) ≡ f (a + j))
    → position_from test a (first_chunks record_length c t) ≡ first_in f a c
unfolding first_in if◌then◌otherwise◌
chunks_first test f a zero t h = refl
chunks_first test f a (suc c) t h =
    let now : test (take 264 t) ≡ f a = h 0 (omega arith) ∙ ap f (add-zero a) in
    let e : a + 1 ≡ suc a = omega arith in
    let rest = chunks_first test f (a + 1) c (drop 264 t)
    (λ j k. let d : 264 + 264 * j ≡ 264 * suc j = omega arith in
    let n : a + suc j ≡ a + 1 + j = omega arith in
    ap test (ap (take 264) (drop-drop (264 * j) 264 t ∙ ap (λ (n : ℕ). drop n t) d)) ∙ h (suc j) (omega arith) ∙ ap f n) in
    rw (now, rest, e) (choice (f a) (Some a) (first_in f (suc a) c))
