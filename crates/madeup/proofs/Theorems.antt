-- The theorems about any chip speak of the made-up one: nothing but the laws is asked.
use mathlib.Core.Path.{◌≡◌}
use mathlib.Core.Bool.{Bool, true}
use mathlib.Core.List.{List}
use Prim.Native.Nat.{ℕ}
use lib.ListN.{length, get_or}
use Rattle.rules.specs.declared.EraseUnit.{EraseUnit}
use Rattle.rules.specs.declared.Kept.{Kept}
use Rattle.rules.specs.declared.Meter.{Meter}
use Rattle.rules.specs.declared.Regs.{Regs}
use Rattle.rules.specs.declared.Kind.TheVariants.{Writes}
use Rattle.rules.specs.declared.Write.TheVariants.{Program, Erase}
use Rattle.rules.specs.declared.Verdict.TheVariants.{CarriedOut}
use Rattle.rules.specs.Status.{regs_of, kept_of}
use Rattle.rules.specs.WellFormed.{well_formed}
use Rattle.rules.specs.Protection.{is_protected}
use Rattle.rules.specs.Verdict.{address_of, verdict_of}
use Rattle.rules.specs.Transaction.{turn_of}
use Rattle.rules.specs.Tape.{Rec}
use Rattle.rules.specs.Play.{State, state, play}
use Rattle.rules.specs.Job.{step_count, steps_of}
use Rattle.rules.specs.Refusals.{passes}
use Rattle.rules.specs.JobRefusals.{steps_refusal}
use Rattle.rules.specs.Records.{job_recs}
use Rattle.laws.proofs.Rows.{Each}
use Rattle.demand.specs.Ignored.{ignored_in}
use Rattle.demand.proofs.Fit.{Fit}
use Rattle.demand.proofs.Accept.{job_ok}
use Rattle.demand.proofs.Demand3.{after_job, demand3}
use Rattle.demand.proofs.NoneIgnored.{none_ignored}
use Rattle.claims.proofs.Table.{Decides, rows_decide}
use Rattle.claims.proofs.Programs.{Cleared, program_only_clears}
use Rattle.claims.proofs.Erases.{UnitErased, erase_is_its_unit}
use Rattle.claims.proofs.Stays.{protected_byte_stays}
use Rattle.claims.proofs.Formed.{kept-formed, formed-kept, formed-played}
use Rattle.madeup.specs.Chip.{madeup}
use Rattle.madeup.proofs.Laws.{mu_sound, mu_tapeable, mu_steady}

-- ---- demand 2

pub rows : Each (Decides madeup) madeup.commands
rows = rows_decide madeup mu_sound

module _ (r : Regs) (l b : List ℕ) (x : ℕ) (high : Bool) (long : length l ≡ madeup.size) where
  pub protected_stays : (y : ℕ) → is_protected madeup r.setting y ≡ true → get_or (turn_of madeup r l b x high).array y 0 ≡ get_or l y 0
  protected_stays y h = protected_byte_stays madeup mu_sound r l b x high long y h

  pub program_clears : verdict_of madeup r b x high ≡ CarriedOut (Writes Program) → (y : ℕ) → Cleared (get_or (turn_of madeup r l b x high).array y 0) (get_or l y 0)
  program_clears e y = program_only_clears madeup mu_sound r l b x high long e y

  pub erase_fills : (u : EraseUnit) → verdict_of madeup r b x high ≡ CarriedOut (Writes (Erase u)) → UnitErased madeup u (address_of madeup b) l (turn_of madeup r l b x high).array
  erase_fills u e = erase_is_its_unit madeup mu_sound r l b x high u long e

-- registers that are well formed stay so, whatever records are played
pub stays_formed : (kept : Kept) (l : List ℕ) (m : Meter) (es : List Rec) → well_formed madeup kept ≡ true
    → well_formed madeup (kept_of (play madeup es (state (regs_of kept) l m)).regs) ≡ true
stays_formed kept l m es h =
    formed-kept madeup _ (formed-played madeup mu_steady es (state (regs_of kept) l m) (kept-formed madeup mu_steady kept h))

-- ---- demand 3: steps that 22 to 25 let pass, played on a fit chip, do what they mean, and none is ignored

module _ (job payload : List ℕ) (s : State) (fit : Fit madeup s)
    (ok : steps_refusal madeup s.regs.setting (length payload) job 0 (step_count job) ≡ passes) where
  pub job_means : play madeup (job_recs madeup payload (steps_of job)) s ≡ after_job madeup payload (steps_of job) s
  job_means = demand3 madeup mu_tapeable payload (steps_of job) s fit (job_ok madeup _ (length payload) job 0 (step_count job) ok)

  pub job_heeded : ignored_in madeup (job_recs madeup payload (steps_of job)) s ≡ 0
  job_heeded = none_ignored madeup mu_tapeable payload (steps_of job) s fit (job_ok madeup _ (length payload) job 0 (step_count job) ok)
