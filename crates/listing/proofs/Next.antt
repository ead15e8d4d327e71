-- What comes next in the listing: the line of the record that the reader is at, or the one line of a fault.
use mathlib.Core.Path.{◌≡◌, refl, sym, ap, ◌∙◌}
use mathlib.Core.Bool.{Bool, true, false}
use mathlib.Core.List.{List, [], ◌++◌, append-nil}
use Prim.Native.Nat.{ℕ, suc, ◌+◌, ◌-◌, ◌<◌, ◌^◌}
use native.Mathlib.Omega.{arith}
use lib.Dec.{ltb}
use lib.ListN.{length, length-append}
use borrow.Author.Tests.{ltb-true, ltb-false}
use Rattle.rules.specs.declared.Refusal.{Refusal}
use Rattle.rules.specs.Listing.{record_line, lines_from, refused_line, listing_of}
use Rattle.rules.specs.Refusals.{number_of, index_of, passes, refused}
use Rattle.rules.specs.Tape.{records}
use Rattle.rules.specs.Reading.{AtPlace, read_at, read_told, read_of}
use Rattle.tape.proofs.Said.{read_is}
use Rattle.lines.specs.Fault.{fault_of}
use Rattle.lines.specs.Line.{line_of}
use Rattle.lines.proofs.Lines.{listable, next-there, line_there, line_past, line_length, lines_at, line_more, listing_clean, listing_refused, listing_short}
use Rattle.listing.specs.Handed.{Next, Come}

-- the listing of a tape with a fault
fault_listed : (t : List ℕ) (z : Refusal) → refused z ≡ fault_of t → listing_of t ≡ refused_line (number_of z) (index_of z)
fault_listed t z e = listing_refused t z (sym e)

-- ---- some bytes of the listing

-- with them it is still a machine number's worth
pub next_fits : (t : List ℕ) (n : ℕ) (b : List ℕ) → Next (listing_of t) n b → n + length b < 2 ^ 64
next_fits t n b h =
    omega (arith, h.long, ap length h.is, length-append h.before (b ++ h.after), length-append b h.after, listing_short t)

-- the line of record p
record_next : (t : List ℕ) (p n : ℕ) (b : List ℕ) → Come t p n → p < records t → b ≡ record_line t p → Next (listing_of t) n b
record_next t p n b come h e = record {
  before = lines_from t 0 p;
  after = lines_from t (suc p) (records t - suc p);
  long = come.long;
  is = listing_clean t come.sound ∙ lines_at t p (records t) h ∙ ap (λ (l : List ℕ). lines_from t 0 p ++ (l ++ lines_from t (suc p) (records t - suc p))) (sym e);
}

-- the one line of a fault
pub fault_next : (t : List ℕ) (z : Refusal) (b : List ℕ) → refused z ≡ fault_of t → b ≡ refused_line (number_of z) (index_of z) → Next (listing_of t) 0 b
fault_next t z b e k = record {
  before = [];
  after = [];
  long = refl;
  is = fault_listed t z e ∙ sym k ∙ sym (append-nil b);
}

pub fault_long : (t : List ℕ) (z : Refusal) (b : List ℕ) → refused z ≡ fault_of t → b ≡ refused_line (number_of z) (index_of z) → length b ≡ length (listing_of t)
fault_long t z b e k = ap length (k ∙ sym (fault_listed t z e))

-- of a tape without one, no line is before record 0
pub begins : (t : List ℕ) → passes ≡ fault_of t → Come t 0 0
unfolding lines_from
begins t e = record { sound = sym e; within = omega arith; long = refl }

-- what a reader of the bytes b tells at p is what a read of the tape finds there, where they are the tape's
found_is : (t b : List ℕ) (p : ℕ) (a : AtPlace) → b ≡ t → read_told p a ≡ read_of b p → a ≡ read_at t p
found_is t b p a e h = read_is t p a (h ∙ ap (λ (l : List ℕ). read_of l p) e)

-- ---- what a reader of the bytes b finds at p, where b is a tape t without a fault

-- a line is the record's
there : (t b : List ℕ) (p n : ℕ) (a : AtPlace) (line : List ℕ) → Come t p n → b ≡ t → read_told p a ≡ read_of b p → line ≡ line_of t p a → 0 < length line
    → (p < records t) × (line ≡ record_line t p)
there t b p n a line come e h k some = go (ltb p (records t)) refl
  where
    is : line ≡ line_of t p (read_at t p)
    is = k ∙ ap (line_of t p) (found_is t b p a e h)

    go : (b : Bool) → ltb p (records t) ≡ b → (p < records t) × (line ≡ record_line t p)
    go true l =
        let w = ltb-true p (records t) l in
        (w, is ∙ line_there t p (listable t come.sound) w)
    go false l = absurd (omega (arith, some, ap length (is ∙ line_past t p (listable t come.sound) (ltb-false p (records t) l))))

-- it comes next
pub line_next : (t b : List ℕ) (p n : ℕ) (a : AtPlace) (line : List ℕ) → Come t p n → b ≡ t → read_told p a ≡ read_of b p → line ≡ line_of t p a → 0 < length line
    → Next (listing_of t) n line
line_next t b p n a line come e h k some =
    let w = there t b p n a line come e h k some in
    record_next t p n line come w.0 w.1

-- after it, the reader and the listing are one record on
pub reader_on : (t b : List ℕ) (p n : ℕ) (a : AtPlace) (line : List ℕ) → Come t p n → b ≡ t → read_told p a ≡ read_of b p → line ≡ line_of t p a → 0 < length line
    → (p < records t) × ((read_of b p).next ≡ p + 1)
reader_on t b p n a line come e h k some =
    let w = there t b p n a line come e h k some in
    (w.0, ap (λ (l : List ℕ). (read_of l p).next) e ∙ next-there t p (listable t come.sound) w.0)

pub come_on : (t b : List ℕ) (p n : ℕ) (a : AtPlace) (line : List ℕ) (q m : ℕ) → Come t p n → b ≡ t → read_told p a ≡ read_of b p → line ≡ line_of t p a → 0 < length line
    → q ≡ (read_of b p).next → m ≡ n + length line → Come t q m
come_on t b p n a line q m come e h k some place count =
    let w = there t b p n a line come e h k some in
    let long : m ≡ length (lines_from t 0 (p + 1)) = omega (arith, count, come.long, ap length w.1, line_more t p) in
    let one : q ≡ p + 1 = place ∙ (reader_on t b p n a line come e h k some).1 in
    rw one (record { sound = come.sound; within = omega (arith, w.0); long = long })

-- where it has none, no line is left
pub over : (t b : List ℕ) (p n : ℕ) (a : AtPlace) → Come t p n → b ≡ t → read_told p a ≡ read_of b p → line_of t p a ≡ [] → n ≡ length (listing_of t)
over t b p n a come e h none = go (ltb p (records t)) refl
  where
    is : line_of t p a ≡ line_of t p (read_at t p)
    is = ap (line_of t p) (found_is t b p a e h)

    go : (b : Bool) → ltb p (records t) ≡ b → n ≡ length (listing_of t)
    go true k =
        let l = ltb-true p (records t) k in
        absurd (omega (arith, (line_length t p).0, ap length (sym none ∙ is ∙ line_there t p (listable t come.sound) l)))
    go false k =
        let last : p ≡ records t = omega (arith, come.within, ltb-false p (records t) k) in
        come.long ∙ ap (λ (m : ℕ). length (lines_from t 0 m)) last ∙ ap length (sym (listing_clean t come.sound))
