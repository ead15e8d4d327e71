-- The entries `finish` and `power_cycle`: nothing is lent, so the answer is all that a caller sees.
use Rattle.std.specs.Prelude.{ℕ, Bool, true, false, Result, Ok, Err}
use Rattle.rules.specs.declared.Kept.{Kept}
use Rattle.rules.specs.declared.Regs.{Regs}
use Rattle.rules.specs.declared.Refusal.{Refusal}
use Rattle.rules.specs.Status.{regs_of, kept_of}
use Rattle.rules.specs.Events.{finished, power_cycled}
use Rattle.rules.specs.Refusals.{number_of, index_of, answered, event_refusal}

-- the paper's number and values: a refusal leaves the registers as they were handed in
pub record EventTold : Type 0 where
  pub served : Bool
  pub number : ℕ
  pub index : ℕ
  pub regs : Kept

abbrev pub event_told : Kept → Result Kept Refusal → EventTold
event_told kept (Ok k) = record { served = true; number = 0; index = 0; regs = k }
event_told kept (Err z) = record { served = false; number = number_of z; index = index_of z; regs = kept }

-- an event, by what it makes of the registers
unfoldable pub event_of : (part : ℕ) (kept : Kept) (makes : Regs → Regs) → EventTold
event_of part kept makes =
    answered (event_refusal part kept) (event_told kept (Ok (kept_of (makes (regs_of kept))))) (λ z. event_told kept (Err z))

unfoldable pub finish_of : (part : ℕ) (kept : Kept) → EventTold
finish_of part kept = event_of part kept finished

unfoldable pub power_cycle_of : (part : ℕ) (kept : Kept) → EventTold
power_cycle_of part kept = event_of part kept power_cycled
