-- One record more: what is played, and what room is left.
use mathlib.Core.Path.{◌≡◌, sym, ap, ◌∙◌, subst}
use mathlib.Core.Bool.{Bool, true, false}
use mathlib.Core.List.{List, ◌∷◌}
use Prim.Native.Nat.{ℕ, zero, suc, ◌+◌, ◌-◌, ◌≤◌, ◌<◌, min}
use native.Mathlib.Omega.{arith}
use native.Mathlib.Numerals.{add-one}
use lib.ListN.{take}
use lib.Dec.{eqb}
use Rattle.lists.specs.Choice.{if◌then◌otherwise◌}
use Rattle.rules.specs.declared.Record.{Record}
use Rattle.rules.specs.declared.Record.TheVariants.{Transaction, Finish, PowerCycle}
use Rattle.rules.specs.declared.Sent.{Sent}
use Rattle.rules.specs.declared.Regs.{Regs}
use Rattle.rules.specs.declared.Meter.{Meter}
use Rattle.rules.specs.declared.Kind.{Kind}
use Rattle.rules.specs.declared.Write.{Write}
use Rattle.rules.specs.declared.Write.TheVariants.{Program, Erase, WriteStatus}
use Rattle.rules.specs.declared.Verdict.{Verdict}
use Rattle.rules.specs.declared.Verdict.TheVariants.{CarriedOut, Ignored}
use Rattle.rules.specs.Kinds.{of_write}
use Rattle.rules.specs.Part.{Part}
use Rattle.rules.specs.Verdict.{verdict_of}
use Rattle.rules.specs.Transaction.{regs_after, array_after, turn_of}
use Rattle.rules.specs.Counts.{counted, meter_after}
use Rattle.rules.specs.Tape.{Rec, transaction, finish, power_cycle, kind_at, rec_at, recs_from}
use Rattle.rules.specs.Reading.{sent_at, said_at}
use Rattle.rules.specs.Play.{State, state, play_rec, play}
use Rattle.laws.specs.Room.{Room}
use Rattle.tape.specs.Record.{rec_of}
use Rattle.tape.proofs.Said.{said_rec}
use Rattle.laws.proofs.CarriedOut.{by_write}

-- a turn without its output is a transaction's record played
pub turned : (p : Part) (r : Regs) (l : List ℕ) (m : Meter) (b : List ℕ) (x : ℕ) (high : Bool) (v : Verdict) (regs : Regs) (array : List ℕ) (meter : Meter)
    → v ≡ verdict_of p r b x high → regs ≡ regs_after p r b v → meter ≡ meter_after m v → array ≡ array_after p l b v
    → state regs array meter ≡ play_rec p (transaction b x high) (state r l m)
unfolding play_rec turn_of
turned p r l m b x high v regs array meter e f g h =
    (λ i. state (f i) (h i) (g i)) ∙ ap (λ (w : Verdict). state (regs_after p r b w) (array_after p l b w) (meter_after m w)) e

-- ---- room

count_room : (m : Meter) (n : ℕ) (w : Write) → Room m (suc n) → Room (counted m w) n
count_room m n Program h = omega arith
count_room m n (Erase u) h = omega arith
count_room m n WriteStatus h = omega arith

less_room : (m : Meter) (n : ℕ) → Room m (suc n) → Room m n
less_room m n h = omega arith

verdict-room : (m : Meter) (n : ℕ) (v : Verdict) → Room m (suc n) → Room (meter_after m v) n
unfolding of_write
verdict-room m n (Ignored w) h = omega arith
verdict-room m n (CarriedOut k) h =
    by_write (λ (k : Kind). Room (of_write k m (counted m)) n)
    (λ k q. subst (λ (m : Meter). Room m n) (sym (q.writes_nothing Meter m (counted m))) (less_room m n h))
    (λ w. count_room m n w h) k

-- a record raises a count by one at most
pub record_room : (p : Part) (e : Rec) (s : State) (n : ℕ) → Room s.meter (suc n) → Room (play_rec p e s).meter n
unfolding play_rec turn_of
record_room p (transaction b x high) s n h = verdict-room s.meter n (verdict_of p s.regs b x high) h
record_room p finish s n h = less_room s.meter n h
record_room p power_cycle s n h = less_room s.meter n h

-- ---- the records that are left

pub recs_more : (t : List ℕ) (p n : ℕ) → p < n → recs_from t p (n - p) ≡ rec_at t p ∷ recs_from t (p + 1) (n - (p + 1))
unfolding recs_from
recs_more t p n h =
    let e : n - p ≡ suc (n - (p + 1)) = omega arith in
    rw (e, add-one p)

-- the records from k on are record k, and those after it
pub play_more : (p : Part) (t : List ℕ) (k n : ℕ) (s : State) → k < n
    → play p (recs_from t k (n - k)) s ≡ play p (recs_from t (k + 1) (n - (k + 1))) (play_rec p (rec_at t k) s)
unfolding play
play_more p t k n s h = ap (λ (es : List Rec). play p es s) (recs_more t k n h)

pub play_over : (p : Part) (t : List ℕ) (k n : ℕ) (s : State) → n ≤ k → play p (recs_from t k (n - k)) s ≡ s
unfolding play recs_from
play_over p t k n s h = let e : n - k ≡ 0 = omega arith in rw e

-- the first k of n records
pub take_recs : (t : List ℕ) (p k n : ℕ) → take k (recs_from t p n) ≡ recs_from t p (min k n)
unfolding recs_from
take_recs t p zero n = let e : min 0 n ≡ 0 = omega arith in rw e
take_recs t p (suc k) zero = let e : min (suc k) 0 ≡ 0 = omega arith in rw e
take_recs t p (suc k) (suc n) =
    let e : min (suc k) (suc n) ≡ suc (min k n) = omega arith in
    rw e (ap (λ (es : List Rec). rec_at t p ∷ es) (take_recs t (suc p) k n))

-- ---- what a read of a good record says

-- the record that was read is the record that is played
pub said_played : (p : Part) (t : List ℕ) (k : ℕ) (s : State) (f : Record) → f ≡ said_at t k → play_rec p (rec_of t f) s ≡ play_rec p (rec_at t k) s
said_played p t k s f e =
    ap (λ (g : Record). play_rec p (rec_of t g) s) e ∙ ap (λ (r : Rec). play_rec p r s) (sym (said_rec t k))

-- a transaction lies where its record says
pub said_sent : (t : List ℕ) (p : ℕ) (s : Sent) → Transaction s ≡ said_at t p → s ≡ sent_at t p
unfolding said_at if◌then◌otherwise◌
said_sent t p s e = go (eqb (kind_at t p) 0) (eqb (kind_at t p) 1) e
  where
    go : (a b : Bool) → Transaction s ≡ (if a then Transaction (sent_at t p) otherwise if b then Finish otherwise PowerCycle) → s ≡ sent_at t p
    go true b q = cc
    go false true q = let z : ◌≡◌ {A = ℕ} 0 1 = cc in absurd (omega arith)
    go false false q = let z : ◌≡◌ {A = ℕ} 0 1 = cc in absurd (omega arith)
