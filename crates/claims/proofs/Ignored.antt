-- Document 01: "An ignored command drives only FF and leaves WEL"; "Verdicts 10 to 16 add one to ignored. Nothing else counts."
use mathlib.Core.Path.{◌≡◌, refl}
use mathlib.Core.Bool.{Bool}
use mathlib.Core.List.{List}
use Prim.Native.Nat.{ℕ, ◌+◌, ◌≤◌}
use lib.Dec.{lit≤}
use lib.ListN.{length}
use Rattle.lists.specs.Places.{tabulate}
use Rattle.rules.specs.declared.Regs.{Regs}
use Rattle.rules.specs.declared.Meter.{Meter}
use Rattle.rules.specs.declared.Reason.{Reason}
use Rattle.rules.specs.declared.Reason.TheVariants.{Busy, Asleep, NoCommand, Misshapen, NotEnabled, Locked, Protected}
use Rattle.rules.specs.declared.Verdict.TheVariants.{Ignored}
use Rattle.rules.specs.Part.{Part}
use Rattle.rules.specs.Cells.{ff}
use Rattle.rules.specs.Verdict.{reason_number, verdict_of}
use Rattle.rules.specs.Transaction.{Turn, turn_of}
use Rattle.rules.specs.Counts.{meter_after}
use Rattle.laws.proofs.CarriedOut.{turn_is}

-- the numbers of ignored verdicts are 10 to 16
pub ignored-number : (w : Reason) → (10 ≤ reason_number w) × (reason_number w ≤ 16)
ignored-number Busy = (lit≤ tt, lit≤ tt)
ignored-number Asleep = (lit≤ tt, lit≤ tt)
ignored-number NoCommand = (lit≤ tt, lit≤ tt)
ignored-number Misshapen = (lit≤ tt, lit≤ tt)
ignored-number NotEnabled = (lit≤ tt, lit≤ tt)
ignored-number Locked = (lit≤ tt, lit≤ tt)
ignored-number Protected = (lit≤ tt, lit≤ tt)

-- ---- what an ignored transaction changes

-- a turn t of n bytes out that leaves registers r, WEL too, and array l; meter m becomes `after`
pub record OneCount (r : Regs) (l : List ℕ) (m : Meter) (n : ℕ) (t : Turn) (after : Meter) : Type 0 where
  pub out : t.out ≡ tabulate n ff
  pub regs : t.regs ≡ r
  pub array : t.array ≡ l
  pub programs : after.programs ≡ m.programs
  pub erases : after.erases ≡ m.erases
  pub register_writes : after.register_writes ≡ m.register_writes
  pub ignored : after.ignored ≡ m.ignored + 1

pub ignored_changes_one_count : (p : Part) (r : Regs) (l b : List ℕ) (x : ℕ) (high : Bool) (m : Meter) (w : Reason)
    → verdict_of p r b x high ≡ Ignored w
    → OneCount r l m (length b) (turn_of p r l b x high) (meter_after m (turn_of p r l b x high).verdict)
ignored_changes_one_count p r l b x high m w e =
    rw (turn_is p r l b x high (Ignored w) e)
    (record { out = refl; regs = refl; array = refl; programs = refl; erases = refl; register_writes = refl; ignored = refl })
