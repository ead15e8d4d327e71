-- What the program hands to standard output: the tape's listing, in order and all of it.
use Rattle.std.specs.Prelude.{◌≡◌, List, ◌++◌, ℕ, ◌≤◌, length, Result, IfOk}
use Rattle.rules.specs.Listing.{lines_from, listing_of}
use Rattle.rules.specs.Refusals.{passes}
use Rattle.rules.specs.Tape.{records}
use Rattle.lines.specs.Fault.{fault_of}
use Rattle.listing.specs.declared.WriteFailed.{WriteFailed}

-- of a text, the bytes that come after the first n
pub record Next (text : List ℕ) (n : ℕ) (bytes : List ℕ) : Type 0 where
  pub before : List ℕ
  pub after : List ℕ
  pub long : n ≡ length before
  pub is : text ≡ before ++ (bytes ++ after)

-- a tape without a fault, whose records before record p take n bytes of its listing
pub record Come (t : List ℕ) (p n : ℕ) : Type 0 where
  pub sound : fault_of t ≡ passes
  pub within : p ≤ records t
  pub long : n ≡ length (lines_from t 0 p)

-- if no write failed, every byte of the listing was handed over
abbrev pub AllHanded : List ℕ → Result ℕ WriteFailed → Type 0
AllHanded t r = IfOk r (λ n. n ≡ length (listing_of t))
