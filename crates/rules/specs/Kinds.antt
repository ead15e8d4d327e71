-- The kinds of command under document 01's codes, and which of them write.
use Rattle.std.specs.Prelude.{ℕ, Option, Some, None}
use Rattle.rules.specs.declared.EraseUnit.TheVariants.{Sector, Block32, Block64, Chip}
use Rattle.rules.specs.declared.Write.{Write}
use Rattle.rules.specs.declared.Write.TheVariants.{Program, Erase, WriteStatus}
use Rattle.rules.specs.declared.Kind.{Kind}
use Rattle.rules.specs.declared.Kind.TheVariants.{WriteEnable, WriteDisable, ReadStatusLow, ReadStatusHigh, Read, FastRead, Sleep, Wake, ReadMakerDevice, ReadJedec, Writes}

-- the code of a kind in document 01's table; C7 of the two that erase all
abbrev pub code_of : Kind → ℕ
code_of WriteEnable = 0x06
code_of WriteDisable = 0x04
code_of ReadStatusLow = 0x05
code_of ReadStatusHigh = 0x35
code_of Read = 0x03
code_of FastRead = 0x0B
code_of Sleep = 0xB9
code_of Wake = 0xAB
code_of ReadMakerDevice = 0x90
code_of ReadJedec = 0x9F
code_of (Writes Program) = 0x02
code_of (Writes (Erase Sector)) = 0x20
code_of (Writes (Erase Block32)) = 0x52
code_of (Writes (Erase Block64)) = 0xD8
code_of (Writes (Erase Chip)) = 0xC7
code_of (Writes WriteStatus) = 0x01

-- f of what a kind writes, and d where it writes nothing
unfoldable pub of_write {ℓ} : {A : Type ℓ} → Kind → A → (Write → A) → A
of_write WriteEnable d f = d
of_write WriteDisable d f = d
of_write ReadStatusLow d f = d
of_write ReadStatusHigh d f = d
of_write Read d f = d
of_write FastRead d f = d
of_write Sleep d f = d
of_write Wake d f = d
of_write ReadMakerDevice d f = d
of_write ReadJedec d f = d
of_write (Writes w) d f = f w

-- f of the kind that a command is known as, and d where it is unknown
unfoldable pub of_known {ℓ} : {A : Type ℓ} → Option Kind → A → (Kind → A) → A
of_known None d f = d
of_known (Some k) d f = f k

-- f of what a command writes, and d where it writes nothing or is unknown
abbrev pub of_written {ℓ} : {A : Type ℓ} → Option Kind → A → (Write → A) → A
of_written c d f = of_known c d (λ k. of_write k d f)
