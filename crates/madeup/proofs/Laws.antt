-- The made-up chip keeps the laws of a chip.
use Rattle.std.specs.Prelude.{Some}
use mathlib.Core.Path.{◌≡◌, refl}
use mathlib.Core.Bool.{true}
use mathlib.Core.List.{List}
use Prim.Native.Nat.{ℕ, ◌*◌, ◌/◌, ◌%◌, ◌≤◌, ◌<◌}
use native.Mathlib.Omega.{arith}
use lib.Dec.{lit≤}
use lib.ListN.{length}
use borrow.Author.Tests.{eqb-true, le-leb}
use Rattle.lists.specs.Choice.{if◌then◌otherwise◌}
use Rattle.rules.specs.declared.EraseUnit.{EraseUnit}
use Rattle.rules.specs.declared.EraseUnit.TheVariants.{Sector, Block32, Block64, Chip}
use Rattle.rules.specs.declared.Write.TheVariants.{Erase}
use Rattle.rules.specs.declared.Kind.{Kind}
use Rattle.rules.specs.declared.Kind.TheVariants.{ReadStatusLow, Writes}
use Rattle.rules.specs.declared.Regs.{Regs}
use Rattle.rules.specs.Part.{row_in, row_of, takes, leaves, command_of}
use Rattle.rules.specs.Status.{status_of}
use Rattle.rules.specs.Transaction.{regs_done}
use Rattle.rules.specs.Job.{guarded}
use Rattle.rules.specs.Records.{erase_bytes}
use Rattle.laws.proofs.Rows.{byte_codes, unlisted_in, distinct_codes, every_kind}
use Rattle.laws.proofs.Flags.{flag_small}
use Rattle.laws.proofs.Sound.{Sound}
use Rattle.laws.proofs.Tapeable.{Offers, Tapeable}
use Rattle.laws.proofs.Steady.{Steady}
use Rattle.madeup.specs.Chip.{mu_commands, mu_heard_asleep, mu_heard_busy, mu_erases, mu_lo, mu_hi, mu_status_written, mu_guard_bytes, madeup}

pub mu_sound : Sound madeup
unfolding madeup mu_commands mu_lo mu_hi byte_codes unlisted_in distinct_codes
mu_sound =
    record {
      blocks = 16;
      size_is = refl;
      not_empty = lit≤ tt;
      few = lit≤ tt;
      lo_page = λ s. omega arith;
      hi_page = λ s. refl;
      settings = lit≤ tt;
      has_byte_codes = refl;
      has_distinct_codes = refl;
    }

-- ---- tapeable

unit_erased : (u : EraseUnit) (a : ℕ) → mu_erases u ≡ true → Offers madeup (Writes (Erase u)) (length (erase_bytes u a))
unfolding madeup row_of row_in mu_commands mu_erases takes leaves if◌then◌otherwise◌
unit_erased Sector a e = let z : ◌≡◌ {A = ℕ} 0 1 = cc in absurd (omega arith)
unit_erased Block32 a e = let z : ◌≡◌ {A = ℕ} 0 1 = cc in absurd (omega arith)
unit_erased Block64 a e = record { known = refl; shape = refl }
unit_erased Chip a e = record { known = refl; shape = refl }

guard_written : (r : Regs) (g : ℕ) → g ≤ 15 → mu_status_written r (mu_guard_bytes g) ≡ guarded madeup r g
unfolding madeup mu_status_written mu_guard_bytes if◌then◌otherwise◌
guard_written r g h = let s : 4 * g / 4 % 16 ≡ g = omega arith in rw s

pub mu_tapeable : Tapeable madeup
unfolding madeup row_of row_in mu_commands takes leaves mu_guard_bytes if◌then◌otherwise◌
mu_tapeable =
    record {
      sound = mu_sound;
      enables = record { known = refl; shape = refl };
      programs = λ n h. record { known = refl; shape = rw (le-leb 5 n h) };
      unit_erased = unit_erased;
      guards = λ g h. record { known = refl; shape = refl };
      guard_code = λ g. refl;
      guard_some = λ g. lit≤ tt;
      guard_short = λ g. lit≤ tt;
      guard_written = guard_written;
    }

-- ---- steady

busy_quiet : (op : ℕ) (k : Kind) → mu_heard_busy op ≡ true → command_of madeup op ≡ Some k → (r : Regs) (b : List ℕ) → regs_done madeup r b k ≡ r
unfolding madeup mu_heard_busy row_of row_in mu_commands if◌then◌otherwise◌
busy_quiet op k h e r b =
    let q : Some ReadStatusLow ≡ Some k = rw (eqb-true op 5 h) at e in
    let s : ReadStatusLow ≡ k = cc in
    rw (← s)

status_held : (r : Regs) (b : List ℕ) → status_of r < 64 → status_of (mu_status_written r b) < 64
unfolding status_of mu_status_written
status_held r b h = omega (arith, h, flag_small r.busy, flag_small r.wel)

pub mu_steady : Steady madeup
unfolding madeup mu_commands mu_heard_asleep mu_status_written every_kind
mu_steady =
    record {
      ends = lit≤ tt;
      low_bits = refl;
      busy_quiet = busy_quiet;
      asleep_quiet = λ op w h e. let z : ◌≡◌ {A = ℕ} 0 1 = cc in omega arith;
      sleepless = λ e. refl;
      status_held = status_held;
      status_small = λ r b. omega arith;
      status_wel = λ r b. refl;
      status_awake = λ r b. refl;
    }
