-- Demand 3 of the registers, in document 01's words: a guard means "this setting, and S7, S8, S9 become 0"; "after a non-empty
-- tape WEL is 0; other bits not set by a guard are as at the start".
use mathlib.Core.Path.{◌≡◌, refl, sym, ap, ◌∙◌, subst}
use mathlib.Core.Bool.{Bool, true, false, ◌||◌}
use mathlib.Core.List.{List, [], ◌∷◌}
use Prim.Native.Nat.{ℕ, ◌≤◌, ◌<◌}
use native.Mathlib.Omega.{arith}
use lib.ListN.{length}
use Rattle.lists.specs.Choice.{if◌then◌otherwise◌}
use Rattle.rules.specs.declared.Kept.{Kept}
use Rattle.rules.specs.declared.Meter.{Meter}
use Rattle.rules.specs.declared.Regs.{Regs}
use Rattle.rules.specs.declared.Step.{Step}
use Rattle.rules.specs.declared.Step.TheVariants.{EraseAt, Lay, Guard}
use Rattle.rules.specs.Part.{Part}
use Rattle.rules.specs.Parts.{part_of}
use Rattle.rules.specs.Status.{regs_of, kept_of, with_wel}
use Rattle.rules.specs.Replay.{ReplaySeen, replay_of}
use Rattle.rules.specs.Job.{steps_of, setting_meant, cleared, regs_meant, all_regs_meant}
use Rattle.rules.specs.Translate.{translate_of}
use Rattle.rules.specs.Ready.{Ready, Roomy}
use Rattle.laws.proofs.Inside.{guard_held}
use Rattle.laws.proofs.JobPassed.{StepOk, job_passed}
use Rattle.laws.proofs.Parts.{part_sound}
use Rattle.demand.proofs.Accept.{JobOk, no_steps, next}
use Rattle.demand.proofs.JobPlayed.{accepted_ok}
use Rattle.claims.proofs.RoundTrip.{regs_back}
use Rattle.claims.specs.Means.{tape_written}
use Rattle.claims.proofs.JobMeans.{unrefused, job_means_what_it_says}

-- the last guard's setting, and s where there is no guard
unfoldable pub last_setting : ℕ → List Step → ℕ
last_setting s [] = s
last_setting s (w ∷ ws) = last_setting (setting_meant s w) ws

abbrev pub is_guard : Step → Bool
is_guard (EraseAt u a) = false
is_guard (Lay s) = false
is_guard (Guard g) = true

unfoldable pub has_guard : List Step → Bool
has_guard [] = false
has_guard (w ∷ ws) = is_guard w || has_guard ws

abbrev pub is_empty : List Step → Bool
is_empty [] = true
is_empty (w ∷ ws) = false

-- of the registers t that the steps ws leave, where they were r
pub record RegsSaid (p : Part) (r : Regs) (ws : List Step) (t : Regs) : Type 0 where
  pub busy : t.busy ≡ r.busy
  pub awake : t.awake ≡ r.awake
  pub setting : t.setting ≡ last_setting r.setting ws
  pub wel : t.wel ≡ (if is_empty ws then r.wel otherwise false)
  pub srp0 : t.srp0 ≡ (if has_guard ws then cleared p r.srp0 otherwise r.srp0)
  pub srp1 : t.srp1 ≡ (if has_guard ws then cleared p r.srp1 otherwise r.srp1)
  pub qe : t.qe ≡ (if has_guard ws then cleared p r.qe otherwise r.qe)

-- 0 either way
off : (t : Bool) → (if t then false otherwise false) ≡ false
unfolding if◌then◌otherwise◌
off true = refl
off false = refl

-- a bit that a guard cleared, or that it leaves, later guards leave
cleared_once : (p : Part) (t b : Bool) → (if t then cleared p (cleared p b) otherwise cleared p b) ≡ cleared p b
unfolding if◌then◌otherwise◌
cleared_once p t b = go t p.guard_clears
  where
    go : (t c : Bool) → (if t then (if c then false otherwise if c then false otherwise b) otherwise (if c then false otherwise b)) ≡ (if c then false otherwise b)
    go true true = refl
    go true false = refl
    go false c = refl

-- a step that is no guard, and then those that are left
unguarded : (p : Part) (r t : Regs) (w : Step) (ws : List Step) → is_guard w ≡ false → setting_meant r.setting w ≡ r.setting
    → RegsSaid p (with_wel r false) ws t → RegsSaid p r (w ∷ ws) t
unfolding last_setting has_guard if◌then◌otherwise◌
unguarded p r t w ws e f h =
    record {
      busy = h.busy;
      awake = h.awake;
      setting = h.setting ∙ sym (ap (λ (s : ℕ). last_setting s ws) f);
      wel = h.wel ∙ off (is_empty ws);
      srp0 = rw e h.srp0;
      srp1 = rw e h.srp1;
      qe = rw e h.qe;
    }

pub regs_said : (p : Part) (r : Regs) (ws : List Step) → RegsSaid p r ws (all_regs_meant p r ws)
unfolding all_regs_meant last_setting has_guard if◌then◌otherwise◌
regs_said p r [] = record { busy = refl; awake = refl; setting = refl; wel = refl; srp0 = refl; srp1 = refl; qe = refl }
regs_said p r (EraseAt u a ∷ ws) = unguarded p r _ (EraseAt u a) ws refl refl (regs_said p (with_wel r false) ws)
regs_said p r (Lay s ∷ ws) = unguarded p r _ (Lay s) ws refl refl (regs_said p (with_wel r false) ws)
regs_said p r (Guard g ∷ ws) =
    let h = regs_said p (regs_meant p r (Guard g)) ws in
    record {
      busy = h.busy;
      awake = h.awake;
      setting = h.setting;
      wel = h.wel ∙ off (is_empty ws);
      srp0 = h.srp0 ∙ cleared_once p (has_guard ws) r.srp0;
      srp1 = h.srp1 ∙ cleared_once p (has_guard ws) r.srp1;
      qe = h.qe ∙ cleared_once p (has_guard ws) r.qe;
    }

-- ---- a guard's setting is one that the chip holds, so the registers stand whole in the word that a caller is handed back

step_held : (p : Part) (s n : ℕ) (w : Step) → StepOk p s n w → s ≤ p.setting_limit → setting_meant s w ≤ p.setting_limit
step_held p s n (EraseAt u a) k h = h
step_held p s n (Lay v) k h = h
step_held p s n (Guard g) k h = guard_held p g k.inside

last_held : (p : Part) (s n : ℕ) (ws : List Step) → JobOk p s n ws → s ≤ p.setting_limit → last_setting s ws ≤ p.setting_limit
unfolding last_setting
last_held p s n [] no_steps h = h
last_held p s n (w ∷ ws) (next k ks) h = last_held p (setting_meant s w) n ws ks (step_held p s n w k h)

module _ (part s : ℕ) (job payload buffer : List ℕ) (served : (translate_of part s job payload buffer).answer.served ≡ true) (kept : Kept) (m : Meter) (l : List ℕ) (long : length l ≡ (part_of part).size) (ready : Ready (part_of part) s kept) (roomy : Roomy m (tape_written part s job payload buffer)) where
  -- the registers that the job means
  abbrev t : Regs
  t = all_regs_meant (part_of part) (regs_of kept) (steps_of job)

  said : RegsSaid (part_of part) (regs_of kept) (steps_of job) t
  said = regs_said (part_of part) (regs_of kept) (steps_of job)

  -- .. are those handed back
  back : (replay_of part kept m l (tape_written part s job payload buffer)).answer.regs ≡ kept_of t
  back = ap (λ (w : ReplaySeen). w.answer.regs) (job_means_what_it_says part s job payload buffer served kept m l long ready roomy).played

  -- under the hypotheses of `job_means_what_it_says`: the registers handed back, one by one; S10 to S15 are 0 by `replay_formed`
  pub job_leaves_registers : RegsSaid (part_of part) (regs_of kept) (steps_of job) (regs_of (replay_of part kept m l (tape_written part s job payload buffer)).answer.regs)
  job_leaves_registers =
      let ok = unrefused part s job payload buffer served in
      let held = last_held (part_of part) s (length payload) (steps_of job) (accepted_ok part s job (length payload) ok) (job_passed part s job (length payload) ok).setting in
      let last : t.setting ≡ last_setting s (steps_of job) = said.setting ∙ ap (λ (g : ℕ). last_setting g (steps_of job)) ready.at_setting in
      let e : t.setting < 32 = omega (arith, last, held, (part_sound part).settings) in
      subst (RegsSaid (part_of part) (regs_of kept) (steps_of job)) (sym (ap regs_of back ∙ regs_back t e)) said
