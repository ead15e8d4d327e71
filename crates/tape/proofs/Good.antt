-- What 31 lets pass: the head and the zeros after the bytes.
use mathlib.Core.Path.{◌≡◌, sym, ap, ◌∙◌}
use mathlib.Core.Bool.{Bool, true, false, ◌&&◌, ◌||◌, and_assoc, and_comm}
use mathlib.Core.List.{List}
use Prim.Native.Nat.{ℕ, ◌+◌, ◌-◌, ◌*◌, ◌≤◌, ◌<◌}
use native.Mathlib.Omega.{arith}
use lib.ListN.{length, get_or, drop}
use lib.Seq.{get_or-take, get_or-drop}
use borrow.Author.Tests.{leb-true}
use borrow.Rule.Slice.PartMut.{mid_of, mid_len}
use Rattle.lists.specs.Choice.{◌=?◌, ◌≤?◌}
use Rattle.lists.specs.Places.{every_in}
use Rattle.lists.proofs.Choice.{both_true, both_left}
use Rattle.rules.specs.Tape.{sent_limit, bytes_start, records, length_at, kind_at, bits_at, is_zero, good_record}
use Rattle.tape.specs.Record.{head_good}
use Rattle.tape.proofs.Scan.{every_same}

-- the bytes after the record's own are 0
abbrev pub tail_zero : List ℕ → ℕ → Bool
tail_zero t p = every_in (is_zero t) (bytes_start p + length_at t p) (sent_limit - length_at t p)

abbrev pub head_of : List ℕ → ℕ → Bool
head_of t p = head_good (length_at t p) (kind_at t p) (bits_at t p)

pub good-is : (t : List ℕ) (p : ℕ) → good_record t p ≡ (head_of t p && tail_zero t p)
unfolding good_record head_good
good-is t p =
    let h : Bool = (length_at t p ≤? sent_limit) && (kind_at t p ≤? 2) && (bits_at t p ≤? 15) in
    let z : Bool = tail_zero t p in
    let e : Bool = (kind_at t p =? 0) || (length_at t p =? 0) && (bits_at t p =? 0) in
    and_assoc h z e ∙ ap (λ (x : Bool). h && x) (and_comm z e) ∙ sym (and_assoc h e z)

pub head_short : (n kind bits : ℕ) → head_good n kind bits ≡ true → n ≤ sent_limit
unfolding head_good
head_short n kind bits e =
    leb-true n sent_limit (both_true _ _ (both_true _ _ (both_true _ _ e).0).0).0

-- a good record holds its own bytes
pub good_short : (t : List ℕ) (p : ℕ) → good_record t p ≡ true → length_at t p ≤ sent_limit
good_short t p e = head_short _ _ _ (both_true (head_of t p) (tail_zero t p) (sym (good-is t p) ∙ e)).0

-- the part of a list from a to b, looked at by itself
part_zero : (t : List ℕ) (a b : ℕ) → b ≤ length t
    → every_in (is_zero (mid_of a (b - a) t)) 0 (length (mid_of a (b - a) t)) ≡ every_in (is_zero t) a (b - a)
part_zero t a b h =
    ap (every_in (is_zero (mid_of a (b - a) t)) 0) (mid_len a b t h)
    ∙ every_same (is_zero (mid_of a (b - a) t)) (is_zero t) 0 a (b - a)
    (λ j k. let d : 0 + j ≡ j = omega arith in
    ap (λ (x : ℕ). x =? 0) (ap (λ (x : ℕ). get_or (mid_of a (b - a) t) x 0) d ∙ get_or-take (b - a) (drop a t) j 0 k ∙ get_or-drop a t j 0))

-- ---- a record by its head and then its tail, where n is its length

pub bad_head : (t : List ℕ) (p n : ℕ) → n ≡ length_at t p → head_good n (kind_at t p) (bits_at t p) ≡ false → false ≡ good_record t p
bad_head t p n l e =
    sym (good-is t p ∙ both_left _ _ (ap (λ (x : ℕ). head_good x (kind_at t p) (bits_at t p)) (sym l) ∙ e))

pub good_head : (t : List ℕ) (p n : ℕ) → n ≡ length_at t p → head_good n (kind_at t p) (bits_at t p) ≡ true → p < records t
    → (let m = mid_of (bytes_start p + n) (264 * p + 264 - (bytes_start p + n)) t in every_in (is_zero m) 0 (length m) ≡ good_record t p)
good_head t p n l e h =
    let d : 264 * p + 264 - (bytes_start p + n) ≡ sent_limit - n = omega arith in
    part_zero t (bytes_start p + n) (264 * p + 264) (omega arith)
    ∙ ap (every_in (is_zero t) (bytes_start p + n)) d
    ∙ ap (λ (x : ℕ). every_in (is_zero t) (bytes_start p + x) (sent_limit - x)) l
    ∙ sym (good-is t p ∙ ap (λ (x : Bool). x && tail_zero t p) (ap (λ (x : ℕ). head_good x (kind_at t p) (bits_at t p)) (sym l) ∙ e))

-- ---- a record whose parts are known

pub good_from : (t : List ℕ) (p n kind bits : ℕ) → length_at t p ≡ n → kind_at t p ≡ kind → bits_at t p ≡ bits → head_good n kind bits ≡ true
    → every_in (is_zero t) (bytes_start p + n) (sent_limit - n) ≡ true → good_record t p ≡ true
good_from t p n kind bits l k b e z =
    good-is t p ∙ (λ i. head_good (l i) (k i) (b i) && every_in (is_zero t) (bytes_start p + l i) (sent_limit - l i)) ∙ (λ i. e i && z i)
