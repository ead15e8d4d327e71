-- The FM25Q16 of source document 001: document 01's tables, line by line.
use Rattle.std.specs.Prelude.{ℕ, ◌*◌, ◌-◌, ◌/◌, ◌%◌, Bool, true, ◌||◌, List, [], ◌∷◌, length, get_or}
use Rattle.lists.specs.Choice.{if◌then◌otherwise◌, ◌=?◌}
use Rattle.rules.specs.declared.EraseUnit.{EraseUnit}
use Rattle.rules.specs.declared.EraseUnit.TheVariants.{Sector, Block32, Block64, Chip}
use Rattle.rules.specs.declared.Write.TheVariants.{Program, Erase, WriteStatus}
use Rattle.rules.specs.declared.Kind.TheVariants.{WriteEnable, WriteDisable, ReadStatusLow, ReadStatusHigh, Read, FastRead, Sleep, Wake, ReadMakerDevice, ReadJedec, Writes}
use Rattle.rules.specs.declared.Regs.{Regs}
use Rattle.rules.specs.Status.{bit0, bit_at, srp0_bit, setting_of, with_setting, with_srp0, with_srp1, with_qe}
use Rattle.rules.specs.declared.Bytes.TheVariants.{Exactly, Either, OrMore}
use Rattle.rules.specs.declared.Leftover.TheVariants.{NoBits, AnyBits}
use Rattle.rules.specs.declared.Row.{Row}
use Rattle.rules.specs.Part.{Part, row}

abbrev pub fm_size : ℕ
fm_size = 2097152

-- 01, "The chip we bill for": "8,192 pages of 256, 512 sectors of 4,096, 64 blocks of 32,768, 32 blocks of 65,536"
abbrev pub fm_pages : ℕ
fm_pages = 8192

abbrev pub fm_sectors : ℕ
fm_sectors = 512

abbrev pub fm_blocks32 : ℕ
fm_blocks32 = 64

abbrev pub fm_blocks64 : ℕ
fm_blocks64 = 32

-- 01, "What a transaction does": command, bytes n; and the sentence on leftover bits
unfoldable pub fm_commands : List Row
fm_commands =
    row 0x06 WriteEnable (Exactly 1) NoBits
    ∷ row 0x04 WriteDisable (Exactly 1) NoBits
    ∷ row 0x05 ReadStatusLow (OrMore 1) AnyBits
    ∷ row 0x35 ReadStatusHigh (OrMore 1) AnyBits
    ∷ row 0x01 (Writes WriteStatus) (Either 2 3) NoBits
    ∷ row 0x03 Read (OrMore 4) AnyBits
    ∷ row 0x0B FastRead (OrMore 5) AnyBits
    ∷ row 0x02 (Writes Program) (OrMore 5) NoBits
    ∷ row 0x20 (Writes (Erase Sector)) (Exactly 4) NoBits
    ∷ row 0x52 (Writes (Erase Block32)) (Exactly 4) NoBits
    ∷ row 0xD8 (Writes (Erase Block64)) (Exactly 4) NoBits
    ∷ row 0xC7 (Writes (Erase Chip)) (Exactly 1) NoBits
    ∷ row 0x60 (Writes (Erase Chip)) (Exactly 1) NoBits
    ∷ row 0xB9 Sleep (Exactly 1) NoBits
    ∷ row 0xAB Wake (OrMore 1) AnyBits
    ∷ row 0x90 ReadMakerDevice (OrMore 4) AnyBits
    ∷ row 0x9F ReadJedec (OrMore 1) AnyBits
    ∷ []

-- 01, "The chip we bill for": every unit has its erase
unfoldable pub fm_erases : EraseUnit → Bool
fm_erases u = true

-- 01, Verdicts: "11 asleep and not AB"
unfoldable pub fm_heard_asleep : ℕ → Bool
fm_heard_asleep op = op =? 0xAB

-- .. "10 busy and neither 05 nor 35"
unfoldable pub fm_heard_busy : ℕ → Bool
fm_heard_busy op = (op =? 0x05) || (op =? 0x35)

abbrev kb : ℕ
kb = 1024

-- 01, the table of protection: a place for each BP 0 to 7, where SEC is 0
unfoldable pub fm_sec0 : List ℕ
fm_sec0 = 0 ∷ 64 * kb ∷ 128 * kb ∷ 256 * kb ∷ 512 * kb ∷ 1024 * kb ∷ fm_size ∷ fm_size ∷ []

-- .. and where SEC is 1
unfoldable pub fm_sec1 : List ℕ
fm_sec1 = 0 ∷ 4 * kb ∷ 8 * kb ∷ 16 * kb ∷ 32 * kb ∷ 32 * kb ∷ fm_size ∷ fm_size ∷ []

-- a setting is S6..S2: SEC, TB, BP2, BP1, BP0
abbrev pub fm_bp : ℕ → ℕ
fm_bp s = s % 8

abbrev pub fm_tb : ℕ → ℕ
fm_tb s = s / 8 % 2

abbrev pub fm_sec : ℕ → ℕ
fm_sec s = s / 16 % 2

-- how many bytes a setting protects
unfoldable pub fm_area : ℕ → ℕ
fm_area s = if fm_sec s =? 0 then get_or fm_sec0 (fm_bp s) 0 otherwise get_or fm_sec1 (fm_bp s) 0

-- the area lies at the top where TB is 0, at the bottom where TB is 1
unfoldable pub fm_lo : ℕ → ℕ
fm_lo s = if fm_tb s =? 0 then fm_size - fm_area s otherwise 0

unfoldable pub fm_hi : ℕ → ℕ
fm_hi s = if fm_tb s =? 0 then fm_size otherwise fm_area s

-- 01, "Write status": "the first byte's bits 7 to 2 go to S7 to S2"
unfoldable pub fm_first : Regs → ℕ → Regs
fm_first r b = with_srp0 (with_setting r (setting_of b)) (bit_at srp0_bit b)

-- .. "a second byte's bits 1 and 0 go to S9 and S8"
unfoldable pub fm_second : Regs → ℕ → Regs
fm_second r b = with_qe (with_srp1 r (bit0 b)) (bit_at 2 b)

-- .. "a one-byte write keeps S9 and S8"; b are the bytes of the transaction, 01 first
unfoldable pub fm_status_written : Regs → List ℕ → Regs
fm_status_written r b =
    if length b =? 3 then fm_second (fm_first r (get_or b 1 0)) (get_or b 2 0) otherwise fm_first r (get_or b 1 0)

-- 01, "Jobs and tapes": a guard is 01, "four times the setting, 00"
unfoldable pub fm_guard_bytes : ℕ → List ℕ
fm_guard_bytes s = 0x01 ∷ 4 * s ∷ 0x00 ∷ []

-- the identification bytes are those of 001, 11.2.1; then FF
unfoldable pub fm_jedec : ℕ → ℕ
fm_jedec j = get_or (0xF8 ∷ 0x32 ∷ 0x15 ∷ []) j 0xFF

unfoldable pub fm25q16 : Part
fm25q16 =
    record {
      size = fm_size;
      status_end = 1024;
      setting_limit = 31;
      sleeps = true;
      commands = fm_commands;
      heard_asleep = fm_heard_asleep;
      heard_busy = fm_heard_busy;
      erases = fm_erases;
      lo = fm_lo;
      hi = fm_hi;
      maker = 0xF8;
      device = 0x14;
      jedec = fm_jedec;
      status_written = fm_status_written;
      guard_bytes = fm_guard_bytes;
      guard_clears = true;
    }
