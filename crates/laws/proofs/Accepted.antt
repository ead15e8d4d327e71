-- What the absence of a refusal says, entry by entry; and what a served call answers.
use Rattle.std.specs.Prelude.{Ok, Err, is_ok}
use mathlib.Core.Path.{◌≡◌, refl, sym, ap}
use mathlib.Core.Bool.{Bool, true, false, not, ◌&&◌}
use Prim.Native.Nat.{ℕ, ◌+◌, ◌≤◌}
use native.Mathlib.Omega.{arith}
use borrow.Author.Tests.{ltb-false, eqb-true, leb-true, le-leb, not-false, eq-eqb}
use Rattle.lists.specs.Choice.{if◌then◌otherwise◌, ◌=?◌, ◌<?◌, ◌≤?◌}
use Rattle.lists.proofs.Choice.{took_other, both_true}
use Rattle.rules.specs.declared.Kept.{Kept}
use Rattle.rules.specs.declared.Meter.{Meter}
use Rattle.rules.specs.declared.Refusal.{Refusal}
use Rattle.rules.specs.Parts.{is_part, part_of}
use Rattle.rules.specs.WellFormed.{well_formed}
use Rattle.rules.specs.Counts.{count_limit, room}
use Rattle.rules.specs.declared.Refusal.TheVariants.{UnknownPart, ArrayLength, NotWellFormed, LongTransaction, LeftoverBits, ShortOutput, MeterFull}
use Rattle.rules.specs.Refusals.{Checked, passes, refused, ◌or_else◌, transaction_limit, transact_refusal}
use Rattle.laws.specs.Room.{Room}
use Rattle.laws.specs.Opened.{opened_then, opened_refusal}

-- what is refused does not pass
pub refused_not : (z : Refusal) → refused z ≡ passes → ⊥
refused_not z e = let q : false ≡ true = ap is_ok e in let c : ◌≡◌ {A = ℕ} 0 1 = cc in omega arith

-- a check that does not refuse was passed, and so were those after it
pub passed : (t : Bool) (z : Refusal) (w : Checked) → (if t then refused z otherwise w) ≡ passes → (t ≡ false) × (w ≡ passes)
passed t z w = took_other (λ (y : Checked). y ≡ passes) t (refused z) w (refused_not z)

-- where neither of two refuses
pub neither : (z y : Checked) → (z or_else y) ≡ passes → (z ≡ passes) × (y ≡ passes)
unfolding ◌or_else◌
neither (Ok u) y e = (refl, e)
neither (Err z) y e = absurd (refused_not z e)

pub room-is : (m : Meter) (n : ℕ) → room m n ≡ true → Room m n
unfolding room
room-is m n e =
    let p : Bool = m.programs + n ≤? count_limit in
    let q : Bool = m.erases + n ≤? count_limit in
    let r : Bool = m.register_writes + n ≤? count_limit in
    let s : Bool = m.ignored + n ≤? count_limit in
    let a = both_true (p && q && r) s e in
    let b = both_true (p && q) r a.0 in
    let c = both_true p q b.0 in
    record { programs_fit = leb-true _ _ c.0; erases_fit = leb-true _ _ c.1; register_writes_fit = leb-true _ _ b.1; ignored_fit = leb-true _ _ a.1 }

-- for a `#[tactic]`, which names no lemma with a dash
pub ruleset has_room = (room-is)

pub room_had : (m : Meter) (n : ℕ) → Room m n → room m n ≡ true
unfolding room
room_had m n r = rw (le-leb _ _ r.programs_fit, le-leb _ _ r.erases_fit, le-leb _ _ r.register_writes_fit, le-leb _ _ r.ignored_fit) refl

-- ---- 1, 2 and 3, which an entry that is lent an array asks first

pub record Opened (part al : ℕ) (kept : Kept) : Type 0 where
  pub known : is_part part ≡ true
  pub long : al ≡ (part_of part).size
  pub formed : well_formed (part_of part) kept ≡ true

pub opened : (part al : ℕ) (kept : Kept) (w : Checked) → opened_then part al kept w ≡ passes → Opened part al kept × (w ≡ passes)
opened part al kept w e =
    let e1 = passed (not (is_part part)) UnknownPart _ e in
    let e2 = passed (not (al =? (part_of part).size)) ArrayLength _ e1.1 in
    let e3 = passed (not (well_formed (part_of part) kept)) NotWellFormed _ e2.1 in
    (record { known = not-false _ e1.0; long = eqb-true _ _ (not-false _ e2.0); formed = not-false _ e3.0 }, e3.1)

pub past_three : (part al : ℕ) (kept : Kept) (w : Checked) → Opened part al kept → opened_then part al kept w ≡ w
unfolding if◌then◌otherwise◌
past_three part al kept w o = rw (o.known, eq-eqb al (part_of part).size o.long, o.formed)

-- .. and as one function asks them: it refuses, or leaves what is asked after them
stops : (s t u : Bool) (x y v : Refusal) (w : Checked) (z : Refusal) → (if s then refused x otherwise if t then refused y otherwise if u then refused v otherwise passes) ≡ refused z
    → (if s then refused x otherwise if t then refused y otherwise if u then refused v otherwise w) ≡ refused z
unfolding if◌then◌otherwise◌
stops true t u x y v w z e = e
stops false true u x y v w z e = e
stops false false true x y v w z e = e
stops false false false x y v w z e = absurd (refused_not z (sym e))

pub opened_stops : (part al : ℕ) (kept : Kept) (w : Checked) (z : Refusal) → opened_refusal part al kept ≡ refused z → opened_then part al kept w ≡ refused z
unfolding opened_refusal
opened_stops part al kept w z = stops (not (is_part part)) (not (al =? (part_of part).size)) (not (well_formed (part_of part) kept)) UnknownPart ArrayLength NotWellFormed w z

pub opened_goes : (part al : ℕ) (kept : Kept) (w : Checked) → opened_refusal part al kept ≡ passes → opened_then part al kept w ≡ w
unfolding opened_refusal
opened_goes part al kept w e = past_three part al kept w (opened part al kept passes e).0

-- ---- every check of a transaction

pub record Taken (part al : ℕ) (kept : Kept) (n x ol : ℕ) (m : Meter) : Type 0 where
  pub begun : Opened part al kept
  pub short : n ≤ transaction_limit
  pub bits : x ≤ 7
  pub fits : n ≤ ol
  pub room : Room m 1

pub taken : (part al : ℕ) (kept : Kept) (n x ol : ℕ) (m : Meter) → transact_refusal part al kept n x ol m ≡ passes → Taken part al kept n x ol m
unfolding transact_refusal
taken part al kept n x ol m e =
    let o = opened part al kept _ e in
    let e4 = passed (transaction_limit <? n) LongTransaction _ o.1 in
    let e5 = passed (7 <? x) LeftoverBits _ e4.1 in
    let e6 = passed (ol <? n) ShortOutput _ e5.1 in
    let e7 = passed (not (room m 1)) MeterFull _ e6.1 in
    record {
      begun = o.0;
      short = ltb-false _ _ e4.0;
      bits = ltb-false _ _ e5.0;
      fits = ltb-false _ _ e6.0;
      room = room-is m 1 (not-false _ e7.0);
    }
