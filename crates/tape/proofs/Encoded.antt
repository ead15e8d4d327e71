-- The bytes of records that fit a tape: how long they are, and what stands at their places.
use mathlib.Core.Path.{◌≡◌, refl, sym, ap, ◌∙◌}
use mathlib.Core.List.{List, [], ◌∷◌, ◌++◌, append_assoc}
use Prim.Native.Nat.{ℕ, ◌+◌, ◌*◌}
use native.Mathlib.Omega.{arith}
use lib.ListN.{length, get_or, drop, length-append, length-replicate}
use lib.Seq.{get_or-append-add, drop-append-add}
use Rattle.rules.specs.Tape.{Rec, encode_rec, encode}
use Rattle.laws.proofs.RecordOk.{RecOk, transaction_ok, finish_ok, power_ok, RecsOk, no_recs, next}

-- ---- lengths

pub rec_length : {r : Rec} → RecOk r → length (encode_rec r) ≡ 264
unfolding encode_rec
rec_length (transaction_ok h k) = simp (length-append, length-replicate) (omega arith)
rec_length finish_ok = refl
rec_length power_ok = refl

pub encode-length : {rs : List Rec} → RecsOk rs → length (encode rs) ≡ 264 * length rs
unfolding encode
encode-length no_recs = refl
encode-length (next {r} {rs} o h) = length-append (encode_rec r) (encode rs) ∙ omega (arith, rec_length o, encode-length h)

pub encode-append : (rs qs : List Rec) → encode (rs ++ qs) ≡ encode rs ++ encode qs
unfolding encode
encode-append [] qs = refl
encode-append (r ∷ rs) qs =
    ap (λ (l : List ℕ). encode_rec r ++ l) (encode-append rs qs) ∙ sym (append_assoc (encode_rec r) (encode rs) (encode qs))

-- ---- places

-- place j of what stands after the first k records
pub at_place : (pre : List ℕ) (k : ℕ) → length pre ≡ 264 * k → (l : List ℕ) (j : ℕ) → get_or (pre ++ l) (264 * k + j) 0 ≡ get_or l j 0
at_place pre k e l j = ap (λ (n : ℕ). get_or (pre ++ l) (n + j) 0) (sym e) ∙ get_or-append-add pre l j 0

pub from_place : (pre : List ℕ) (k : ℕ) → length pre ≡ 264 * k → (l : List ℕ) (j : ℕ) → drop (264 * k + j) (pre ++ l) ≡ drop j l
from_place pre k e l j = ap (λ (n : ℕ). drop (n + j) (pre ++ l)) (sym e) ∙ drop-append-add pre l j
