-- Demand 3: the records of an accepted job, played on a fit chip, leave what the job means, and raise the meter by its bill.
use mathlib.Core.Path.{◌≡◌, ◌∙◌}
use mathlib.Core.List.{List, [], ◌∷◌}
use Prim.Native.Nat.{ℕ}
use lib.ListN.{length}
use Rattle.rules.specs.declared.Step.{Step}
use Rattle.rules.specs.Part.{Part}
use Rattle.rules.specs.Play.{State, state, play}
use Rattle.rules.specs.Job.{array_meant, all_regs_meant}
use Rattle.rules.specs.Records.{job_recs}
use Rattle.rules.specs.Bill.{step_bill, bill_of}
use Rattle.demand.specs.Raised.{raised}
use Rattle.laws.proofs.Tapeable.{Tapeable}
use Rattle.demand.proofs.Fit.{Fit}
use Rattle.demand.proofs.Accept.{JobOk, no_steps, next}
use Rattle.demand.proofs.Rise.{raised-none, raised_plus}
use Rattle.demand.proofs.Steps.{after_step, step_play, step_fit, step_setting}

-- all the registers, the array and the meter after a job
abbrev pub after_job : Part → List ℕ → List Step → State → State
after_job p payload ws s = state (all_regs_meant p s.regs ws) (array_meant p payload s.array ws) (raised s.meter (bill_of ws))

module _ (p : Part) (law : Tapeable p) (payload : List ℕ) where
  pub demand3 : (ws : List Step) (s : State) → Fit p s → JobOk p s.regs.setting (length payload) ws → play p (job_recs p payload ws) s ≡ after_job p payload ws s
  unfolding job_recs play all_regs_meant array_meant bill_of
  demand3 [] s f no_steps = λ i. state s.regs s.array (raised-none s.meter i)
  demand3 (w ∷ ws) s f (next k ks) =
      let t : State = after_step p payload w s in
      let rest : JobOk p t.regs.setting (length payload) ws = rw (step_setting p s.regs w) ks in
      step_play p law payload s f w k (job_recs p payload ws)
      ∙ demand3 ws t (step_fit p law payload s f w k) rest
      ∙ (λ i. state (all_regs_meant p t.regs ws) (array_meant p payload t.array ws) (raised_plus s.meter (step_bill w) (bill_of ws) i))
