-- What keeps a chip's registers well formed, as one record of laws.
use Rattle.std.specs.Prelude.{Some}
use mathlib.Core.Path.{◌≡◌}
use mathlib.Core.Bool.{Bool, true, false, not}
use mathlib.Core.List.{List}
use Prim.Native.Nat.{ℕ, ◌%◌, ◌≤◌, ◌<◌}
use native.Mathlib.Omega.{arith}
use Rattle.lists.specs.Choice.{◌=?◌}
use Rattle.rules.specs.declared.Regs.{Regs}
use Rattle.rules.specs.declared.Write.{Write}
use Rattle.rules.specs.declared.Kind.{Kind}
use Rattle.rules.specs.declared.Kind.TheVariants.{Sleep, Writes}
use Rattle.rules.specs.Kinds.{code_of}
use Rattle.rules.specs.Part.{Part, row_of, command_of}
use Rattle.rules.specs.Status.{status_of}
use Rattle.rules.specs.Transaction.{regs_done}
use Rattle.laws.proofs.Rows.{every_kind, kind_said}

abbrev pub not_sleep : Kind → Bool
not_sleep k = not (code_of k =? code_of Sleep)

pub record Steady (p : Part) : Type 0 where
  -- the status word ends at S9 or below, and has BUSY and WEL
  pub ends : p.status_end ≤ 1024
  pub low_bits : p.status_end % 4 ≡ 0
  -- while BUSY is 1 the chip hears nothing that changes a register, and asleep it hears no write
  pub busy_quiet : (op : ℕ) (k : Kind) → p.heard_busy op ≡ true → command_of p op ≡ Some k → (r : Regs) (b : List ℕ) → regs_done p r b k ≡ r
  pub asleep_quiet : (op : ℕ) (w : Write) → p.heard_asleep op ≡ true → command_of p op ≡ Some (Writes w) → ⊥
  -- a chip that does not sleep has no such command
  pub sleepless : p.sleeps ≡ false → every_kind not_sleep p.commands ≡ true
  -- a status write sets bits that the chip has, and neither WEL nor awake
  pub status_held : (r : Regs) (b : List ℕ) → status_of r < p.status_end → status_of (p.status_written r b) < p.status_end
  pub status_small : (r : Regs) (b : List ℕ) → (p.status_written r b).setting < 32
  pub status_wel : (r : Regs) (b : List ℕ) → (p.status_written r b).wel ≡ r.wel
  pub status_awake : (r : Regs) (b : List ℕ) → (p.status_written r b).awake ≡ r.awake

-- so no code puts it to sleep
pub never_sleeps : (p : Part) → Steady p → p.sleeps ≡ false → (op : ℕ) → command_of p op ≡ Some Sleep → ⊥
unfolding row_of
never_sleeps p steady e op h =
    let q = kind_said not_sleep p.commands (steady.sleepless e) op Sleep h in
    let z : ◌≡◌ {A = ℕ} 0 1 = cc in
    omega arith
