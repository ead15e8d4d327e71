-- What a caller of `transact` is left with after an ignored command: FF on the first n output bytes, the registers and the
-- array that were handed in, and one more ignored on the meter.
use mathlib.Core.Path.{◌≡◌, refl, sym}
use mathlib.Core.Bool.{true}
use mathlib.Core.List.{List, ◌++◌}
use Prim.Native.Nat.{ℕ, ◌≤◌}
use native.Mathlib.Omega.{arith}
use lib.ListN.{length, drop}
use Rattle.lists.specs.Places.{tabulate}
use Rattle.rules.specs.declared.Kept.{Kept}
use Rattle.rules.specs.declared.Meter.{Meter}
use Rattle.rules.specs.Cells.{ff}
use Rattle.rules.specs.Counts.{ignored_counted}
use Rattle.rules.specs.Transact.{TransactSeen, transact_of}
use Rattle.laws.proofs.Parts.{part_steady}
use Rattle.claims.proofs.Choices.{never}
use Rattle.claims.proofs.RoundTrip.{kept_back}
use Rattle.claims.proofs.Entry.{by_answer}

-- what is seen of a transaction that changed one count
pub record OneCountLent (kept : Kept) (m : Meter) (l o b : List ℕ) (s : TransactSeen) : Type 0 where
  pub out : s.out ≡ tabulate (length b) ff ++ drop (length b) o
  pub array : s.array ≡ l
  pub regs : s.answer.regs ≡ kept
  pub meter : s.answer.meter ≡ ignored_counted m

-- a transaction is served and its number is not 0: it was ignored
pub ignored_lent : (part : ℕ) (kept : Kept) (m : Meter) (l o b : List ℕ) (x wp : ℕ)
    → (transact_of part kept m l o b x wp).answer.served ≡ true → 1 ≤ (transact_of part kept m l o b x wp).answer.number
    → OneCountLent kept m l o b (transact_of part kept m l o b x wp)
ignored_lent part kept m l o b x wp =
    by_answer part kept m l o b x wp (λ s. s.answer.served ≡ true → 1 ≤ s.answer.number → OneCountLent kept m l o b s)
    (λ c k e s n. absurd (omega arith))
    (λ c w e s n. record { out = refl; array = refl; regs = kept_back _ (part_steady part) kept c.begun.formed; meter = refl })
    (λ z e h k s n. never (sym s))
