-- What a read at a place answers, what record stands there, and where the place is after it.
use Rattle.std.specs.Prelude.{Some, None, Ok, Err}
use mathlib.Core.Path.{◌≡◌, refl}
use mathlib.Core.Bool.{Bool, true, false, not}
use mathlib.Core.List.{List}
use Prim.Native.Nat.{ℕ, ◌+◌, ◌≤◌, ◌<◌, ◌^◌}
use native.Mathlib.Omega.{arith}
use lib.Dec.{eqb, leb}
use lib.ListN.{length}
use borrow.Author.Tests.{leb-false, lt-leb}
use Rattle.lists.specs.Choice.{if◌then◌otherwise◌}
use Rattle.rules.specs.declared.Record.TheVariants.{Transaction, Finish, PowerCycle}
use Rattle.rules.specs.declared.Fault.TheVariants.{CutTape}
use Rattle.rules.specs.Tape.{finish, power_cycle, kind_at, rec_at, records, whole, good_record}
use Rattle.rules.specs.Reading.{AtPlace, sent_at, read_at, next_place, read_told, read_of, said_at}
use Rattle.rules.proofs.Apart.{reads_apart}
use Rattle.tape.specs.Record.{rec_of}

-- a good record is read as what it says
pub read_said : (t : List ℕ) (p : ℕ) → whole t ≡ true → p < records t → good_record t p ≡ true → read_at t p ≡ Ok (Some (said_at t p))
unfolding read_at if◌then◌otherwise◌
read_said t p w h g = rw (w, lt-leb (records t) p h, g)

-- what is said is the record
pub said_rec : (t : List ℕ) (p : ℕ) → rec_at t p ≡ rec_of t (said_at t p)
unfolding said_at rec_at if◌then◌otherwise◌
said_rec t p = go (eqb (kind_at t p) 0) (eqb (kind_at t p) 1)
  where
    go : (a b : Bool) → (if a then rec_of t (Transaction (sent_at t p)) otherwise if b then finish otherwise power_cycle)
        ≡ rec_of t (if a then Transaction (sent_at t p) otherwise if b then Finish otherwise PowerCycle)
    go true b = refl
    go false true = refl
    go false false = refl

-- what is told as a read is told is the read
pub read_is : (t : List ℕ) (p : ℕ) (a : AtPlace) → read_told p a ≡ read_of t p → a ≡ read_at t p
unfolding read_of
read_is t p a e = reads_apart p a (read_at t p) e

-- ---- the place after a read

-- it is told with the answer
pub next-told : (p : ℕ) (a : AtPlace) → next_place p a ≡ (read_told p a).next
next-told p (Ok (Some (Transaction s))) = refl
next-told p (Ok (Some Finish)) = refl
next-told p (Ok (Some PowerCycle)) = refl
next-told p (Ok None) = refl
next-told p (Err z) = refl

next_le : (p : ℕ) (a : AtPlace) → next_place p a ≤ p + 1
next_le p (Ok (Some r)) = omega arith
next_le p (Ok None) = omega arith
next_le p (Err z) = omega arith

next_past : (t : List ℕ) (p : ℕ) → leb (records t) p ≡ true → next_place p (read_at t p) ≡ p
unfolding read_at if◌then◌otherwise◌
next_past t p e = go (whole t) _
  where
    go : (w : Bool) (x : AtPlace) → next_place p (if not w then Err CutTape otherwise if leb (records t) p then Ok None otherwise x) ≡ p
    go true x = rw e
    go false x = refl

-- a place moves only past a record that is there, so it stays a machine number
pub next_fits : (t : List ℕ) (p : ℕ) → p < 2 ^ 64 → length t < 2 ^ 64 → next_place p (read_at t p) < 2 ^ 64
next_fits t p h k = go (leb (records t) p) refl
  where
    go : (b : Bool) → leb (records t) p ≡ b → next_place p (read_at t p) < 2 ^ 64
    go true e = omega (arith, next_past t p e)
    go false e = omega (arith, next_le p (read_at t p), leb-false (records t) p e)
