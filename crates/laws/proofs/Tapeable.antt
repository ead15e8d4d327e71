-- What a tape needs of a chip, as one record of laws.
use Rattle.std.specs.Prelude.{Some}
use mathlib.Core.Path.{◌≡◌}
use mathlib.Core.Bool.{true}
use Prim.Native.Nat.{ℕ, ◌≤◌}
use lib.ListN.{length, get_or}
use Rattle.rules.specs.declared.EraseUnit.{EraseUnit}
use Rattle.rules.specs.declared.Write.TheVariants.{Program, Erase, WriteStatus}
use Rattle.rules.specs.declared.Kind.{Kind}
use Rattle.rules.specs.declared.Kind.TheVariants.{WriteEnable, Writes}
use Rattle.rules.specs.declared.Regs.{Regs}
use Rattle.rules.specs.Kinds.{code_of}
use Rattle.rules.specs.Part.{Part, command_of, shaped}
use Rattle.rules.specs.Job.{guarded}
use Rattle.rules.specs.Records.{erase_bytes}
use Rattle.laws.proofs.Sound.{Sound}

-- the code of a kind says that kind to the chip, and n bytes without leftover bits are right for it
pub record Offers (p : Part) (k : Kind) (n : ℕ) : Type 0 where
  pub known : command_of p (code_of k) ≡ Some k
  pub shape : shaped p (code_of k) n 0 ≡ true

pub record Tapeable (p : Part) : Type 0 where
  pub sound : Sound p
  -- the chip takes each command that a tape sends
  pub enables : Offers p WriteEnable 1
  pub programs : (n : ℕ) → 5 ≤ n → Offers p (Writes Program) n
  pub unit_erased : (u : EraseUnit) (a : ℕ) → p.erases u ≡ true → Offers p (Writes (Erase u)) (length (erase_bytes u a))
  pub guards : (g : ℕ) → g ≤ p.setting_limit → Offers p (Writes WriteStatus) (length (p.guard_bytes g))
  -- a guard is a status write of three bytes at most
  pub guard_code : (g : ℕ) → get_or (p.guard_bytes g) 0 0 ≡ code_of (Writes WriteStatus)
  pub guard_some : (g : ℕ) → 1 ≤ length (p.guard_bytes g)
  pub guard_short : (g : ℕ) → length (p.guard_bytes g) ≤ 3
  -- .. and makes the registers what a guard means
  pub guard_written : (r : Regs) (g : ℕ) → g ≤ p.setting_limit → p.status_written r (p.guard_bytes g) ≡ guarded p r g
