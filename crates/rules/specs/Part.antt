-- A chip is a value: what the rules ask of it, and nothing else, stands in its description.
use Rattle.std.specs.Prelude.{ℕ, Bool, true, false, ◌&&◌, ◌||◌, List, [], ◌∷◌, Option, Some, None}
use Rattle.lists.specs.Choice.{if◌then◌otherwise◌, ◌=?◌, ◌≤?◌}
use Rattle.rules.specs.declared.EraseUnit.{EraseUnit}
use Rattle.rules.specs.declared.Regs.{Regs}
use Rattle.rules.specs.declared.Kind.{Kind}
use Rattle.rules.specs.declared.Bytes.{Bytes}
use Rattle.rules.specs.declared.Bytes.TheVariants.{Exactly, Either, OrMore}
use Rattle.rules.specs.declared.Leftover.{Leftover}
use Rattle.rules.specs.declared.Leftover.TheVariants.{NoBits, AnyBits}
use Rattle.rules.specs.declared.Row.{Row}

pub record Part : Type 0 where
  -- how many bytes its array has
  pub size : ℕ
  -- the registers: a status word is below this, so the bits from here on are 0
  pub status_end : ℕ
  -- .. the highest setting that the chip holds
  pub setting_limit : ℕ
  -- .. and whether it can be put to sleep
  pub sleeps : Bool
  -- its commands, and the codes that are heard asleep and while BUSY is 1
  pub commands : List Row
  pub heard_asleep : ℕ → Bool
  pub heard_busy : ℕ → Bool
  -- the units that it has a command to erase
  pub erases : EraseUnit → Bool
  -- the bytes that a setting protects: from lo on, up to hi and without it
  pub lo : ℕ → ℕ
  pub hi : ℕ → ℕ
  -- its identification: byte j of a JEDEC read is jedec j
  pub maker : ℕ
  pub device : ℕ
  pub jedec : ℕ → ℕ
  -- the registers after the bytes of a status write
  pub status_written : Regs → List ℕ → Regs
  -- the bytes that a guard sends for a setting, and whether it makes S7, S8 and S9 0
  pub guard_bytes : ℕ → List ℕ
  pub guard_clears : Bool

-- ---- the table of commands

abbrev pub row : ℕ → Kind → Bytes → Leftover → Row
row c k b x = record { code = c; kind = k; bytes = b; leftover = x }

unfoldable pub row_in : List Row → ℕ → Option Row
row_in [] op = None
row_in (w ∷ ws) op = if op =? w.code then Some w otherwise row_in ws op

-- the row of a code
unfoldable pub row_of : Part → ℕ → Option Row
row_of p op = row_in p.commands op

unfoldable pub takes : Bytes → ℕ → Bool
takes (Exactly k) n = n =? k
takes (Either j k) n = (n =? j) || (n =? k)
takes (OrMore k) n = k ≤? n

unfoldable pub leaves : Leftover → ℕ → Bool
leaves NoBits x = x =? 0
leaves AnyBits x = true

abbrev pub command_by : Option Row → Option Kind
command_by (Some w) = Some w.kind
command_by None = None

abbrev pub shaped_by : Option Row → ℕ → ℕ → Bool
shaped_by (Some w) n x = takes w.bytes n && leaves w.leftover x
shaped_by None n x = false

-- what a code says to the chip
abbrev pub command_of : Part → ℕ → Option Kind
command_of p op = command_by (row_of p op)

-- n bytes and x leftover bits are right for the code
abbrev pub shaped : Part → ℕ → ℕ → ℕ → Bool
shaped p op n x = shaped_by (row_of p op) n x
