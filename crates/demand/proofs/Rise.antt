-- The meter's rise by a write, and by one bill after another.
use mathlib.Core.Path.{◌≡◌, refl}
use Prim.Native.Nat.{ℕ}
use native.Mathlib.Omega.{arith}
use Rattle.rules.specs.declared.Write.{Write}
use Rattle.rules.specs.declared.Write.TheVariants.{Program, Erase, WriteStatus}
use Rattle.rules.specs.declared.Meter.{Meter}
use Rattle.rules.specs.declared.Bill.{Bill}
use Rattle.rules.specs.Counts.{counted}
use Rattle.rules.specs.Bill.{tape_length, no_bill, ◌plus◌}
use Rattle.demand.specs.Raised.{raised}

-- the bill of one write: three records
abbrev pub write_bill : Write → Bill
write_bill Program = record { programs = 1; erases = 0; register_writes = 0; length = tape_length 1 }
write_bill (Erase u) = record { programs = 0; erases = 1; register_writes = 0; length = tape_length 1 }
write_bill WriteStatus = record { programs = 0; erases = 0; register_writes = 1; length = tape_length 1 }

same_meter : (p q e f w v i : ℕ) → p ≡ q → e ≡ f → w ≡ v
    → ◌≡◌ {A = Meter} (record { programs = p; erases = e; register_writes = w; ignored = i }) (record { programs = q; erases = f; register_writes = v; ignored = i })
same_meter p q e f w v i h k l = λ t. record { programs = h t; erases = k t; register_writes = l t; ignored = i }

-- an accepted write adds one to its own count
pub counted-raised : (m : Meter) (w : Write) → counted m w ≡ raised m (write_bill w)
counted-raised m Program = same_meter _ _ _ _ _ _ _ refl (omega arith) (omega arith)
counted-raised m (Erase u) = same_meter _ _ _ _ _ _ _ (omega arith) refl (omega arith)
counted-raised m WriteStatus = same_meter _ _ _ _ _ _ _ (omega arith) (omega arith) refl

pub raised_plus : (m : Meter) (a b : Bill) → raised (raised m a) b ≡ raised m (a plus b)
raised_plus m a b = same_meter _ _ _ _ _ _ _ (omega arith) (omega arith) (omega arith)

pub raised-none : (m : Meter) → m ≡ raised m no_bill
raised-none m = same_meter _ _ _ _ _ _ _ (omega arith) (omega arith) (omega arith)
