-- What a command drives, in two: FF up to its first place, and the rest from there on.
use Rattle.std.specs.Prelude.{ℕ, List, Option, Some, None}
use Rattle.rules.specs.declared.Regs.{Regs}
use Rattle.rules.specs.declared.Kind.{Kind}
use Rattle.rules.specs.declared.Kind.TheVariants.{WriteEnable, WriteDisable, ReadStatusLow, ReadStatusHigh, Read, FastRead, Sleep, Wake, ReadMakerDevice, ReadJedec, Writes}
use Rattle.rules.specs.Part.{Part}
use Rattle.rules.specs.Status.{low_byte, high_byte}
use Rattle.rules.specs.Transaction.{array_from, maker_device, driven_at}
use Rattle.rules.specs.Verdict.{address_of}

abbrev pub first_place : Kind → ℕ
first_place WriteEnable = 0
first_place WriteDisable = 0
first_place ReadStatusLow = 1
first_place ReadStatusHigh = 1
first_place Read = 4
first_place FastRead = 5
first_place Sleep = 0
first_place Wake = 4
first_place ReadMakerDevice = 4
first_place ReadJedec = 1
first_place (Writes w) = 0

-- the byte that is driven at place i, by what is carried out: where nothing is, only FF
abbrev pub shown_at : Part → Regs → List ℕ → List ℕ → Option Kind → ℕ → ℕ
shown_at p r l b (Some k) i = driven_at p r l b k i
shown_at p r l b None i = 0xFF

-- the byte that is driven j places after the first
abbrev pub rest_at : Part → Regs → List ℕ → List ℕ → Kind → ℕ → ℕ
rest_at p r l b WriteEnable j = 0xFF
rest_at p r l b WriteDisable j = 0xFF
rest_at p r l b ReadStatusLow j = low_byte r
rest_at p r l b ReadStatusHigh j = high_byte r
rest_at p r l b Read j = array_from p l (address_of p b) j
rest_at p r l b FastRead j = array_from p l (address_of p b) j
rest_at p r l b Sleep j = 0xFF
rest_at p r l b Wake j = p.device
rest_at p r l b ReadMakerDevice j = maker_device p b j
rest_at p r l b ReadJedec j = p.jedec j
rest_at p r l b (Writes w) j = 0xFF
