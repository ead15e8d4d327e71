-- The registers: 16 status bits, and awake or asleep. Document 01, "Status bits and protection".
-- S0 BUSY, S1 WEL, S2 to S6 the setting, S7 SRP0, S8 SRP1, S9 QE, S15 SUS; S10 to S15 are 0.
use Rattle.std.specs.Prelude.{ℕ, ◌+◌, ◌*◌, ◌/◌, ◌%◌, Bool, true, false}
use Rattle.lists.specs.Choice.{◌=?◌}
use Rattle.rules.specs.declared.Kept.{Kept}
use Rattle.rules.specs.declared.Regs.{Regs}

-- ---- the bits taken apart, and put together

-- bit 0 of a word
abbrev pub bit0 : ℕ → Bool
bit0 w = w % 2 =? 1

-- bit k of a word stands at its weight, 2 to the k
abbrev pub bit_at : ℕ → ℕ → Bool
bit_at weight w = w / weight % 2 =? 1

-- the weights of the single bits, by document 01's names; BUSY is bit 0
abbrev pub wel_bit : ℕ
wel_bit = 2

abbrev pub srp0_bit : ℕ
srp0_bit = 128

abbrev pub srp1_bit : ℕ
srp1_bit = 256

abbrev pub qe_bit : ℕ
qe_bit = 512

abbrev pub sus_bit : ℕ
sus_bit = 32768

-- the setting is S6..S2 read as a number 0 to 31
abbrev pub setting_of : ℕ → ℕ
setting_of w = w / 4 % 32

unfoldable pub regs_of : Kept → Regs
regs_of k =
    record {
      busy = bit0 k.status;
      wel = bit_at wel_bit k.status;
      setting = setting_of k.status;
      srp0 = bit_at srp0_bit k.status;
      srp1 = bit_at srp1_bit k.status;
      qe = bit_at qe_bit k.status;
      awake = k.awake =? 1;
    }

abbrev pub flag : Bool → ℕ
flag true = 1
flag false = 0

unfoldable pub status_of : Regs → ℕ
status_of r =
    flag r.busy
    + flag r.wel * wel_bit
    + r.setting * 4
    + flag r.srp0 * srp0_bit
    + flag r.srp1 * srp1_bit
    + flag r.qe * qe_bit

unfoldable pub kept_of : Regs → Kept
kept_of r = record { status = status_of r; awake = flag r.awake }

-- S7 to S0, and S15 to S8
unfoldable pub low_byte : Regs → ℕ
low_byte r = status_of r % 256

unfoldable pub high_byte : Regs → ℕ
high_byte r = status_of r / 256

-- ---- one register set, the others as they are: no rule writes the record out

abbrev pub with_busy : Regs → Bool → Regs
with_busy r b = record { busy = b; wel = r.wel; setting = r.setting; srp0 = r.srp0; srp1 = r.srp1; qe = r.qe; awake = r.awake }

abbrev pub with_wel : Regs → Bool → Regs
with_wel r b = record { busy = r.busy; wel = b; setting = r.setting; srp0 = r.srp0; srp1 = r.srp1; qe = r.qe; awake = r.awake }

abbrev pub with_setting : Regs → ℕ → Regs
with_setting r s = record { busy = r.busy; wel = r.wel; setting = s; srp0 = r.srp0; srp1 = r.srp1; qe = r.qe; awake = r.awake }

abbrev pub with_srp0 : Regs → Bool → Regs
with_srp0 r b = record { busy = r.busy; wel = r.wel; setting = r.setting; srp0 = b; srp1 = r.srp1; qe = r.qe; awake = r.awake }

abbrev pub with_srp1 : Regs → Bool → Regs
with_srp1 r b = record { busy = r.busy; wel = r.wel; setting = r.setting; srp0 = r.srp0; srp1 = b; qe = r.qe; awake = r.awake }

abbrev pub with_qe : Regs → Bool → Regs
with_qe r b = record { busy = r.busy; wel = r.wel; setting = r.setting; srp0 = r.srp0; srp1 = r.srp1; qe = b; awake = r.awake }

abbrev pub with_awake : Regs → Bool → Regs
with_awake r b = record { busy = r.busy; wel = r.wel; setting = r.setting; srp0 = r.srp0; srp1 = r.srp1; qe = r.qe; awake = b }
