-- The commands that write: what each may touch, and what it does. Document 01, "Program", "Write status" and "Busy".
use Rattle.std.specs.Prelude.{ℕ, Bool, true, false, not, ◌&&◌, ◌||◌, List, drop}
use Rattle.rules.specs.declared.Regs.{Regs}
use Rattle.rules.specs.declared.Write.{Write}
use Rattle.rules.specs.declared.Write.TheVariants.{Program, Erase, WriteStatus}
use Rattle.rules.specs.Part.{Part}
use Rattle.rules.specs.Units.{page, page_start, unit_start, unit_length}
use Rattle.rules.specs.Cells.{programmed, erased}
use Rattle.rules.specs.Status.{with_busy}

-- ---- the bytes that a write at address a may touch: its page or its unit

abbrev pub reach_start : Write → ℕ → ℕ
reach_start Program a = page_start a
reach_start (Erase u) a = unit_start u a
reach_start WriteStatus a = 0

abbrev pub reach_length : Part → Write → ℕ
reach_length p Program = page
reach_length p (Erase u) = unit_length p.size u
reach_length p WriteStatus = 0

-- ---- write status

-- "locked when SRP1 is 1, or when SRP0 is 1 and /WP is low and QE is 0"
unfoldable pub locked : Regs → Bool → Bool
locked r high = r.srp1 || (r.srp0 && not high && not r.qe)

-- verdict 15 is asked of a status write alone
abbrev pub locked_out : Write → Regs → Bool → Bool
locked_out Program r high = false
locked_out (Erase u) r high = false
locked_out WriteStatus r high = locked r high

-- ---- "take effect at once and set BUSY"

abbrev pub regs_written : Part → Regs → List ℕ → Write → Regs
regs_written p r b Program = with_busy r true
regs_written p r b (Erase u) = with_busy r true
regs_written p r b WriteStatus = with_busy (p.status_written r b) true

-- the array after a write whose bytes are b and whose address is a
abbrev pub array_written : Part → List ℕ → List ℕ → ℕ → Write → List ℕ
array_written p l b a Program = programmed l a (drop 4 b)
array_written p l b a (Erase u) = erased p.size l u a
array_written p l b a WriteStatus = l
