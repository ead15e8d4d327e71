-- Where demand 3 speaks: the chip and the meter that a job's tape is played on. Document 01, "Write status".
use Rattle.std.specs.Prelude.{ℕ, true, false, List, ◌≡◌}
use Rattle.rules.specs.declared.Kept.{Kept}
use Rattle.rules.specs.declared.Meter.{Meter}
use Rattle.rules.specs.Part.{Part}
use Rattle.rules.specs.Status.{regs_of}
use Rattle.rules.specs.WellFormed.{well_formed}
use Rattle.rules.specs.Counts.{room}
use Rattle.rules.specs.Tape.{records}

pub record Ready (p : Part) (setting : ℕ) (kept : Kept) : Type 0 where
  pub formed : well_formed p kept ≡ true
  pub awake : (regs_of kept).awake ≡ true
  -- "idle means BUSY is 0"
  pub idle : (regs_of kept).busy ≡ false
  -- "unlocked means SRP1 is 0 (a tape holds /WP high)"
  pub unlocked : (regs_of kept).srp1 ≡ false
  -- the setting that the job was translated for
  pub at_setting : (regs_of kept).setting ≡ setting

-- "room on the meter means that refusal 7 would not be given for the tape"
pub record Roomy (m : Meter) (tape : List ℕ) : Type 0 where
  pub roomy : room m (records tape) ≡ true
