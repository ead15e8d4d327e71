-- Playing records is a fold over the rules of a chip.
use Rattle.std.specs.Prelude.{ℕ, List, [], ◌∷◌}
use Rattle.rules.specs.declared.Regs.{Regs}
use Rattle.rules.specs.declared.Meter.{Meter}
use Rattle.rules.specs.Part.{Part}
use Rattle.rules.specs.Transaction.{Turn, turn_of}
use Rattle.rules.specs.Counts.{meter_after}
use Rattle.rules.specs.Events.{finished, power_cycled}
use Rattle.rules.specs.Tape.{Rec, transaction, finish, power_cycle}

-- what a record changes
pub record State : Type 0 where
  pub regs : Regs
  pub array : List ℕ
  pub meter : Meter

abbrev pub state : Regs → List ℕ → Meter → State
state r l m = record { regs = r; array = l; meter = m }

abbrev pub after_turn : Meter → Turn → State
after_turn m t = state t.regs t.array (meter_after m t.verdict)

-- outputs are dropped
unfoldable pub play_rec : Part → Rec → State → State
play_rec p (transaction b x high) s = after_turn s.meter (turn_of p s.regs s.array b x high)
play_rec p finish s = state (finished s.regs) s.array s.meter
play_rec p power_cycle s = state (power_cycled s.regs) s.array s.meter

unfoldable pub play : Part → List Rec → State → State
play p [] s = s
play p (e ∷ es) s = play p es (play_rec p e s)
