-- The lines of a tape without a fault: which record each is, how long they are, and what is left after some.
use Rattle.std.specs.Prelude.{Option, Some, None, Ok, Err, is_ok}
use mathlib.Core.Path.{◌≡◌, refl, sym, ap, ◌∙◌}
use mathlib.Core.Bool.{Bool, true, false, true≢false, not, ◌||◌}
use mathlib.Core.List.{List, [], ◌∷◌, ◌++◌, append_assoc}
use Prim.Native.Nat.{ℕ, zero, suc, ◌+◌, ◌-◌, ◌*◌, ◌≤◌, ◌<◌}
use native.Mathlib.Omega.{arith}
use native.Mathlib.Nat.{add-zero, zero-add, suc-add}
use lib.ListN.{length, get_or, length-append}
use borrow.Author.Tests.{le-leb, ltb-false, not-false}
use Rattle.lists.specs.Choice.{if◌then◌otherwise◌, ◌=?◌, ◌<?◌}
use Rattle.lists.proofs.Search.{first_none}
use Rattle.rules.specs.declared.Refusal.{Refusal}
use Rattle.rules.specs.declared.Refusal.TheVariants.{CutTape}
use Rattle.rules.specs.declared.Record.TheVariants.{Transaction, Finish, PowerCycle}
use Rattle.rules.specs.Listing.{listing_limit, digits3, digits4, hex2, space, line_feed, record_text, record_line, lines_from, refused_line, listing_of}
use Rattle.rules.specs.Refusals.{number_of, index_of, Checked, passes, refused, answered}
use Rattle.rules.specs.Replay.{bad_record}
use Rattle.rules.specs.Tape.{records, whole, good_record, first_bad}
use Rattle.rules.specs.Reading.{AtPlace, read_at, next_place, read_of, said_at}
use Rattle.tape.proofs.Said.{read_said, next-told}
use Rattle.lines.specs.Fault.{fault_of}
use Rattle.lines.specs.Line.{line_of}
use Rattle.lines.proofs.Told.{listing_is}

-- ---- a tape without a fault

-- what `fault_of` lets pass
pub record Listable (t : List ℕ) : Type 0 where
  pub short : length t ≤ listing_limit
  pub whole_records : whole t ≡ true
  pub good : first_bad t ≡ None

pub listable : (t : List ℕ) → fault_of t ≡ passes → Listable t
unfolding fault_of if◌then◌otherwise◌
listable t e = go (listing_limit <? length t) (whole t) (first_bad t) refl refl refl (ap is_ok e)
  where
    go : (a w : Bool) (f : Option ℕ) → (listing_limit <? length t) ≡ a → whole t ≡ w → first_bad t ≡ f
        → is_ok (if a || not w then refused CutTape otherwise bad_record f) ≡ true → Listable t
    go true w f h k g e = absurd (true≢false (sym e))
    go false false f h k g e = absurd (true≢false (sym e))
    go false true (Some i) h k g e = absurd (true≢false (sym e))
    go false true None h k g e = record { short = ltb-false listing_limit (length t) h; whole_records = k; good = g }

-- ---- a record of it

-- a read there is what the record says
pub read_there : (t : List ℕ) (p : ℕ) → Listable t → p < records t → read_at t p ≡ Ok (Some (said_at t p))
unfolding first_bad
read_there t p c h =
    read_said t p c.whole_records h
    (not-false (good_record t p) (first_none (λ (x : ℕ). not (good_record t x)) 0 (records t) c.good p (omega arith) (omega arith)))

pub next-there : (t : List ℕ) (p : ℕ) → Listable t → p < records t → (read_of t p).next ≡ p + 1
unfolding read_of
next-there t p c h = sym (next-told p (read_at t p)) ∙ ap (next_place p) (read_there t p c h)

-- and its line is the record's
pub line_there : (t : List ℕ) (p : ℕ) → Listable t → p < records t → line_of t p (read_at t p) ≡ record_line t p
unfolding record_line
line_there t p c h =
    let e = read_there t p c h in
    ap (line_of t p) e ∙ sym (ap (λ (a : AtPlace). digits4 p ++ space ∷ record_text t a ++ line_feed ∷ []) e)

-- ---- after the last

pub line_past : (t : List ℕ) (p : ℕ) → Listable t → records t ≤ p → line_of t p (read_at t p) ≡ []
unfolding read_at if◌then◌otherwise◌
line_past t p c h = rw (c.whole_records, le-leb (records t) p h)

-- ---- lengths

text_length : (t : List ℕ) (a : AtPlace) → length (record_text t a) ≤ 8
unfolding if◌then◌otherwise◌
text_length t (Ok (Some (Transaction s))) = go (s.length =? 0)
  where
    go : (b : Bool) → length (0x54 ∷ space ∷ (if b then 0x2D ∷ 0x2D ∷ [] otherwise hex2 (get_or t s.start 0)) ++ space ∷ digits3 s.length) ≤ 8
    go true = omega arith
    go false = omega arith
text_length t (Ok (Some Finish)) = omega arith
text_length t (Ok (Some PowerCycle)) = omega arith
text_length t (Ok None) = omega arith
text_length t (Err z) = omega arith

pub line_length : (t : List ℕ) (p : ℕ) → (0 < length (record_line t p)) × (length (record_line t p) ≤ 14)
unfolding record_line
line_length t p =
    let h = text_length t (read_at t p) in
    let e = length-append (record_text t (read_at t p)) (line_feed ∷ []) in
    (omega (arith, e), omega (arith, h, e))

-- ---- some lines, and those after them

pub lines_append : (t : List ℕ) (p m n : ℕ) → lines_from t p (m + n) ≡ lines_from t p m ++ lines_from t (p + m) n
unfolding lines_from
lines_append t p zero n = rw (zero-add n, add-zero p)
lines_append t p (suc m) n =
    let ih = lines_append t (suc p) m n in
    let e : suc p + m ≡ p + suc m = omega arith in
    ap (lines_from t p) (suc-add m n)
    ∙ ap (λ (l : List ℕ). record_line t p ++ l) (ih ∙ ap (λ (k : ℕ). lines_from t (suc p) m ++ lines_from t k n) e)
    ∙ sym (append_assoc (record_line t p) (lines_from t (suc p) m) _)

lines_length : (t : List ℕ) (p n : ℕ) → length (lines_from t p n) ≤ 14 * n
unfolding lines_from
lines_length t p zero = omega arith
lines_length t p (suc n) =
    let ih = lines_length t (suc p) n in
    omega (arith, line_length t p, ih, length-append (record_line t p) (lines_from t (suc p) n))

-- the lines before record p, its own, and the rest
pub lines_at : (t : List ℕ) (p n : ℕ) → p < n → lines_from t 0 n ≡ lines_from t 0 p ++ (record_line t p ++ lines_from t (suc p) (n - suc p))
unfolding lines_from
lines_at t p n h =
    let e : n ≡ p + suc (n - suc p) = omega arith in
    ap (lines_from t 0) e ∙ lines_append t 0 p (suc (n - suc p)) ∙ ap (λ (k : ℕ). lines_from t 0 p ++ (record_line t k ++ lines_from t (suc k) (n - suc p))) (zero-add p)

-- one line more
pub line_more : (t : List ℕ) (p : ℕ) → length (lines_from t 0 (p + 1)) ≡ length (lines_from t 0 p) + length (record_line t p)
unfolding lines_from
line_more t p =
    ap length (lines_append t 0 p 1) ∙ length-append (lines_from t 0 p) _
    ∙ ap (λ (n : ℕ). length (lines_from t 0 p) + n) (length-append (record_line t (0 + p)) [] ∙ add-zero _ ∙ ap (λ (k : ℕ). length (record_line t k)) (zero-add p))

-- ---- the listing

pub listing_clean : (t : List ℕ) → fault_of t ≡ passes → listing_of t ≡ lines_from t 0 (records t)
unfolding answered
listing_clean t e = listing_is t ∙ rw e

pub listing_refused : (t : List ℕ) (z : Refusal) → fault_of t ≡ refused z → listing_of t ≡ refused_line (number_of z) (index_of z)
unfolding answered
listing_refused t z e = listing_is t ∙ rw e

-- 248 lines of a record, or one of a fault
pub listing_short : (t : List ℕ) → length (listing_of t) ≤ 3472
unfolding refused_line
listing_short t = go (fault_of t) refl
  where
    go : (y : Checked) → fault_of t ≡ y → length (listing_of t) ≤ 3472
    go (Ok u) e = omega (arith, ap length (listing_clean t e), lines_length t 0 (records t), (listable t e).short)
    go (Err z) e = omega (arith, ap length (listing_refused t z e))
