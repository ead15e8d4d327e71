-- Finish and power cycle, on the registers. Document 01, "Busy".
use Rattle.std.specs.Prelude.{true, false, not, ◌&&◌}
use Rattle.lists.specs.Choice.{if◌then◌otherwise◌}
use Rattle.rules.specs.declared.Regs.{Regs}
use Rattle.rules.specs.Status.{with_busy, with_wel, with_srp1, with_awake}

-- "clears BUSY and WEL if BUSY is 1, and else changes nothing"
unfoldable pub finished : Regs → Regs
finished r = if r.busy then with_wel (with_busy r false) false otherwise r

-- "turns (SRP1, SRP0) = (1, 0) into (0, 0)"
unfoldable pub unlatched : Regs → Regs
unlatched r = if r.srp1 && not r.srp0 then with_srp1 r false otherwise r

-- "awake, BUSY 0, WEL 0, .. ; other bits stay"
unfoldable pub power_cycled : Regs → Regs
power_cycled r = with_awake (with_busy (with_wel (unlatched r) false) false) true
