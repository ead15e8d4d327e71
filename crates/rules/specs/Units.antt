-- The pieces of an array: its pages, and the units that an erase sets to FF.
-- Document 01, "The chip we bill for": pages of 256, sectors of 4,096, blocks of 32,768 and of 65,536.
use Rattle.std.specs.Prelude.{ℕ, ◌*◌, ◌/◌}
use Rattle.rules.specs.declared.EraseUnit.{EraseUnit}
use Rattle.rules.specs.declared.EraseUnit.TheVariants.{Sector, Block32, Block64, Chip}

abbrev pub page : ℕ
page = 256

abbrev pub sector : ℕ
sector = 4096

abbrev pub block32 : ℕ
block32 = 32768

abbrev pub block64 : ℕ
block64 = 65536

-- an address is three bytes, so it is below this
abbrev pub address_end : ℕ
address_end = 16777216

-- where the page of an address begins
abbrev pub page_start : ℕ → ℕ
page_start a = a / page * page

-- where the unit that holds an address begins
abbrev pub unit_start : EraseUnit → ℕ → ℕ
unit_start Sector a = a / sector * sector
unit_start Block32 a = a / block32 * block32
unit_start Block64 a = a / block64 * block64
unit_start Chip a = 0

-- .. and how long it is, on a chip of that size
abbrev pub unit_length : ℕ → EraseUnit → ℕ
unit_length size Sector = sector
unit_length size Block32 = block32
unit_length size Block64 = block64
unit_length size Chip = size
