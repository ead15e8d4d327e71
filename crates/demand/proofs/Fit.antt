-- The chip that demand 3 starts from, and that each step leaves.
use mathlib.Core.Path.{◌≡◌}
use mathlib.Core.Bool.{Bool, true, false}
use lib.ListN.{length}
use Rattle.rules.specs.declared.Regs.{Regs}
use Rattle.rules.specs.Status.{with_wel}
use Rattle.rules.specs.Part.{Part}
use Rattle.rules.specs.Play.{State}

-- awake; "idle means BUSY is 0"; "unlocked means SRP1 is 0"
pub record Calm (r : Regs) : Type 0 where
  pub awake : r.awake ≡ true
  pub idle : r.busy ≡ false
  pub unlocked : r.srp1 ≡ false

-- .. and the array is as long as the chip's
pub record Fit (p : Part) (s : State) : Type 0 where
  pub calm : Calm s.regs
  pub long : length s.array ≡ p.size

-- WEL is free
pub calm_wel : (r : Regs) → Calm r → (b : Bool) → Calm (with_wel r b)
calm_wel r c b = record { awake = c.awake; idle = c.idle; unlocked = c.unlocked }
