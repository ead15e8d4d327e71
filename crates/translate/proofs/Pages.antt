-- A lay page by page: the next page's records, then the rest.
use mathlib.Core.Path.{◌≡◌, sym, ap, ◌∙◌}
use mathlib.Core.List.{List, ◌∷◌, ◌++◌, append_assoc, append-nil}
use Prim.Native.Nat.{ℕ, suc, ◌+◌, ◌-◌, ◌*◌, ◌≤◌, ◌<◌, min}
use native.Mathlib.Omega.{arith}
use lib.ListN.{length, take, drop}
use lib.Seq.{take_all}
use borrow.Rule.Slice.PartMut.{put_mid}
use Rattle.rules.specs.Tape.{encode}
use Rattle.rules.specs.Records.{three_recs, address_bytes, left_in_page, page_recs}
use Rattle.tape.proofs.Encoded.{encode-length, encode-append}
use Rattle.demand.proofs.Holds.{three_ok}
use Rattle.std.proofs.lemmas.List.{take_min, drop_min}
use Rattle.std.proofs.lemmas.Slice.{take-put_mid}

-- page i of n, at address a, where d is left, and the pages after it
page_more : (n i a : ℕ) (d : List ℕ) → i < n
    → encode (page_recs (n - i) a d)
    ≡ encode (three_recs (0x02 ∷ address_bytes a ++ take (left_in_page a) d)) ++ encode (page_recs (n - (i + 1)) (a + left_in_page a) (drop (left_in_page a) d))
unfolding page_recs
page_more n i a d h =
    let e : n - i ≡ suc (n - (i + 1)) = omega arith in
    ap (λ (k : ℕ). encode (page_recs k a d)) e ∙ encode-append (three_recs (0x02 ∷ address_bytes a ++ take (left_in_page a) d)) _

-- one page put at the end of what is put: with what is left to put it makes the same whole
pub lay_turn : (out x whole d now later : List ℕ) (n i a m : ℕ) → i < n → length out ≡ 792 * n
    → m ≡ min (left_in_page a) (length d) → now ≡ take m d → later ≡ drop m d → length now ≤ 256 → x ≡ encode (three_recs (0x02 ∷ address_bytes a ++ now))
    → take (792 * i) out ++ encode (page_recs (n - i) a d) ≡ whole
    → take (792 * (i + 1)) (put_mid (792 * i) (792 * i + 792 - 792 * i) out x) ++ encode (page_recs (n - (i + 1)) (a + left_in_page a) later) ≡ whole
lay_turn out x whole d now later n i a m h long c e f short p inv =
    let here : now ≡ take (left_in_page a) d = e ∙ ap (λ (k : ℕ). take k d) c ∙ take_min (left_in_page a) d in
    let rest : later ≡ drop (left_in_page a) d = f ∙ ap (λ (k : ℕ). drop k d) c ∙ drop_min (left_in_page a) d in
    let three : length (encode (three_recs (0x02 ∷ address_bytes a ++ now))) ≡ 264 * 3 = encode-length (three_ok (0x02 ∷ address_bytes a ++ now) (omega arith)) in
    let put = take-put_mid (792 * i) (792 * i + 792 - 792 * i) out x (792 * (i + 1)) (omega (arith, ap length p, three)) (omega arith) in
    let after = encode (page_recs (n - (i + 1)) (a + left_in_page a) later) in
    ap (λ (l : List ℕ). l ++ after) (put ∙ ap (λ (l : List ℕ). take (792 * i) out ++ l) p)
    ∙ append_assoc (take (792 * i) out) (encode (three_recs (0x02 ∷ address_bytes a ++ now))) after
    ∙ (λ t. take (792 * i) out ++ (encode (three_recs (0x02 ∷ address_bytes a ++ here t)) ++ encode (page_recs (n - (i + 1)) (a + left_in_page a) (rest t))))
    ∙ ap (λ (l : List ℕ). take (792 * i) out ++ l) (sym (page_more n i a d h))
    ∙ inv

-- at the end nothing is left to put
pub lay-over : (out whole d : List ℕ) (n i a : ℕ) → i ≡ n → length out ≡ 792 * n → take (792 * i) out ++ encode (page_recs (n - i) a d) ≡ whole → out ≡ whole
unfolding page_recs encode
lay-over out whole d n i a e long inv =
    let none : n - i ≡ 0 = omega arith in
    let all = take_all (792 * i) out (omega arith) in
    sym (ap (λ (k : ℕ). take (792 * i) out ++ encode (page_recs k a d)) none ∙ append-nil (take (792 * i) out) ∙ all) ∙ inv
