-- A chip that nobody sells. It shares with the FM25Q16 what any chip must, and nothing else: half the size, one status byte
-- without SRP or QE, no sleep, two erases, and an area that setting 0 makes the whole chip.
use Rattle.std.specs.Prelude.{ℕ, ◌*◌, ◌/◌, ◌%◌, Bool, true, false, List, [], ◌∷◌, get_or}
use Rattle.lists.specs.Choice.{◌=?◌}
use Rattle.rules.specs.declared.EraseUnit.{EraseUnit}
use Rattle.rules.specs.declared.EraseUnit.TheVariants.{Sector, Block32, Block64, Chip}
use Rattle.rules.specs.declared.Write.TheVariants.{Program, Erase, WriteStatus}
use Rattle.rules.specs.declared.Kind.TheVariants.{WriteEnable, WriteDisable, ReadStatusLow, Read, ReadJedec, Writes}
use Rattle.rules.specs.declared.Bytes.TheVariants.{Exactly, OrMore}
use Rattle.rules.specs.declared.Leftover.TheVariants.{NoBits, AnyBits}
use Rattle.rules.specs.declared.Row.{Row}
use Rattle.rules.specs.declared.Regs.{Regs}
use Rattle.rules.specs.Status.{with_setting}
use Rattle.rules.specs.Part.{Part, row}

abbrev pub mu_size : ℕ
mu_size = 1048576

-- 05 and 25 both read the status, and a program's leftover bits are free
unfoldable pub mu_commands : List Row
mu_commands =
    row 0x06 WriteEnable (Exactly 1) NoBits
    ∷ row 0x04 WriteDisable (Exactly 1) NoBits
    ∷ row 0x25 ReadStatusLow (OrMore 1) AnyBits
    ∷ row 0x05 ReadStatusLow (OrMore 1) AnyBits
    ∷ row 0x01 (Writes WriteStatus) (Exactly 2) NoBits
    ∷ row 0x03 Read (OrMore 4) AnyBits
    ∷ row 0x02 (Writes Program) (OrMore 5) AnyBits
    ∷ row 0xD8 (Writes (Erase Block64)) (Exactly 4) NoBits
    ∷ row 0xC7 (Writes (Erase Chip)) (Exactly 1) NoBits
    ∷ row 0x9F ReadJedec (OrMore 1) AnyBits
    ∷ []

unfoldable pub mu_heard_asleep : ℕ → Bool
mu_heard_asleep op = false

unfoldable pub mu_heard_busy : ℕ → Bool
mu_heard_busy op = op =? 0x05

unfoldable pub mu_erases : EraseUnit → Bool
mu_erases Sector = false
mu_erases Block32 = false
mu_erases Block64 = true
mu_erases Chip = true

-- the setting counts the blocks that are free, from the bottom: 0 protects all, 15 the last block
unfoldable pub mu_lo : ℕ → ℕ
mu_lo s = 65536 * s

unfoldable pub mu_hi : ℕ → ℕ
mu_hi s = mu_size

-- one byte for ever
unfoldable pub mu_jedec : ℕ → ℕ
mu_jedec j = 0x15

-- bits 5 to 2 go to S5 to S2, and the others nowhere
unfoldable pub mu_status_written : Regs → List ℕ → Regs
mu_status_written r b = with_setting r (get_or b 1 0 / 4 % 16)

unfoldable pub mu_guard_bytes : ℕ → List ℕ
mu_guard_bytes s = 0x01 ∷ 4 * s ∷ []

unfoldable pub madeup : Part
madeup =
    record {
      size = mu_size;
      status_end = 64;
      setting_limit = 15;
      sleeps = false;
      commands = mu_commands;
      heard_asleep = mu_heard_asleep;
      heard_busy = mu_heard_busy;
      erases = mu_erases;
      lo = mu_lo;
      hi = mu_hi;
      maker = 0x00;
      device = 0x00;
      jedec = mu_jedec;
      status_written = mu_status_written;
      guard_bytes = mu_guard_bytes;
      guard_clears = false;
    }
