-- Document 01's chip, part number 1, by its numbers: what the theorems say of a chip's size, settings, units and guard is said
-- of these.
use mathlib.Core.Path.{◌≡◌, refl}
use mathlib.Core.Bool.{Bool, true, false}
use mathlib.Core.List.{[], ◌∷◌}
use mathlib.Core.Logic.{◌⊎◌, ◌↔◌}
use Prim.Native.Nat.{ℕ, ◌*◌}
use Rattle.lists.specs.Choice.{if◌then◌otherwise◌}
use Rattle.rules.specs.declared.EraseUnit.{EraseUnit}
use Rattle.rules.specs.Fm25q16.{fm_commands, fm_erases, fm_guard_bytes, fm25q16}
use Rattle.rules.specs.Parts.{part_of}
use Rattle.rules.specs.Job.{cleared}
use Rattle.laws.proofs.Rows.{Each}
use Rattle.laws.proofs.Fm25q16 as laws
use Rattle.laws.proofs.Parts.{part_sound}
use Rattle.claims.proofs.Table.{Decides, rows_decide}

pub size : (part_of 1).size ≡ 2097152
unfolding part_of fm25q16
size = refl

-- "start setting over 31"
pub highest_setting : (part_of 1).setting_limit ≡ 31
unfolding part_of fm25q16
highest_setting = refl

-- no erase is refused for its unit
pub every_unit : (u : EraseUnit) → (part_of 1).erases u ≡ true
unfolding part_of fm25q16 fm_erases
every_unit u = refl

-- "sends 01, four times the setting, 00"; "S7, S8, S9 become 0"
pub guard_sends : (g : ℕ) → (part_of 1).guard_bytes g ≡ 0x01 ∷ 4 * g ∷ 0x00 ∷ []
unfolding part_of fm25q16 fm_guard_bytes
guard_sends g = refl

pub guard_clears_lem : (b : Bool) → cleared (part_of 1) b ≡ false
unfolding part_of fm25q16 if◌then◌otherwise◌
guard_clears_lem b = refl

-- each line of its table of commands
pub rows : Each (Decides (part_of 1)) fm_commands
unfolding part_of fm25q16
rows = rows_decide (part_of 1) (part_sound 1)

-- "asleep and not AB", "busy and neither 05 nor 35"
pub heard_asleep_lem : (op : ℕ) → (part_of 1).heard_asleep op ≡ true ↔ op ≡ 0xAB
unfolding part_of fm25q16
heard_asleep_lem = laws.heard_asleep_lem

pub heard_busy_lem : (op : ℕ) → (part_of 1).heard_busy op ≡ true ↔ (op ≡ 0x05) ⊎ (op ≡ 0x35)
unfolding part_of fm25q16
heard_busy_lem = laws.heard_busy_lem
