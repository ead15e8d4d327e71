-- Where numbers of a width end.
use Rattle.std.specs.Prelude.{ℕ}

-- 32 bits
abbrev pub number_end : ℕ
number_end = 4294967296

-- 64 bits: places and lengths
abbrev pub place_end : ℕ
place_end = 18446744073709551616
