-- What the rules need of any chip, as one record of laws, and what follows from them.
use Rattle.std.specs.Prelude.{None}
use mathlib.Core.Path.{◌≡◌, ap}
use mathlib.Core.Bool.{true}
use Prim.Native.Nat.{ℕ, ◌+◌, ◌*◌, ◌%◌, ◌≤◌, ◌<◌}
use native.Mathlib.Omega.{arith}
use Rattle.rules.specs.declared.EraseUnit.{EraseUnit}
use Rattle.rules.specs.declared.EraseUnit.TheVariants.{Sector, Block32, Block64, Chip}
use Rattle.rules.specs.declared.Write.{Write}
use Rattle.rules.specs.declared.Write.TheVariants.{Program, Erase, WriteStatus}
use Rattle.rules.specs.Units.{page, unit_start, unit_length}
use Rattle.rules.specs.Part.{Part, row_of, command_by, command_of}
use Rattle.rules.specs.Writes.{reach_start, reach_length}
use Rattle.rules.specs.Job.{guard_limit}
use Rattle.laws.proofs.Rows.{byte_codes, distinct_codes, far, no_row}

pub record Sound (p : Part) : Type 0 where
  -- the size is a whole number of the largest unit, so every page and every unit ends inside the chip
  pub blocks : ℕ
  pub size_is : p.size ≡ 65536 * blocks
  pub not_empty : 0 < blocks
  -- three address bytes reach all of it
  pub few : blocks ≤ 256
  -- a protected area begins and ends with a page
  pub lo_page : (s : ℕ) → p.lo s % page ≡ 0
  pub hi_page : (s : ℕ) → p.hi s % page ≡ 0
  -- a job can name every setting that the chip holds
  pub settings : p.setting_limit ≤ guard_limit
  -- a code is a byte, and stands in one row
  pub has_byte_codes : byte_codes p.commands ≡ true
  pub has_distinct_codes : distinct_codes p.commands ≡ true

module _ (p : Part) (sound : Sound p) where
  pub unit_end : (u : EraseUnit) (a : ℕ) → a < p.size → unit_start u a + unit_length p.size u ≤ p.size
  unit_end Sector a l = let e = sound.size_is in omega arith
  unit_end Block32 a l = let e = sound.size_is in omega arith
  unit_end Block64 a l = let e = sound.size_is in omega arith
  unit_end Chip a l = omega arith

  -- the bytes that a write may touch lie in the chip
  pub reach_end : (w : Write) (a : ℕ) → a < p.size → reach_start w a + reach_length p w ≤ p.size
  reach_end Program a l = let e = sound.size_is in omega arith
  reach_end (Erase u) a l = unit_end u a l
  reach_end WriteStatus a l = omega arith

  pub size_small : p.size ≤ 16777216
  size_small = let e = sound.size_is in let f = sound.few in omega arith

  pub size_some : 65536 ≤ p.size
  size_some = let e = sound.size_is in let f = sound.not_empty in omega arith

  -- a number that is no byte says nothing
  pub no_byte : (op : ℕ) → 255 < op → command_of p op ≡ None
  unfolding row_of
  no_byte op h = ap command_by (no_row op p.commands (far p.commands sound.has_byte_codes op h))
