-- A loop over a job's steps: what is left of them, at the setting reached, is refused as all of them are.
use mathlib.Core.Path.{◌≡◌, ap, ◌∙◌}
use mathlib.Core.List.{List}
use Prim.Native.Nat.{ℕ, suc, ◌+◌, ◌-◌, ◌≤◌, ◌<◌}
use native.Mathlib.Numerals.{add-one}
use native.Mathlib.Omega.{arith}
use Rattle.rules.specs.declared.Refusal.{Refusal}
use Rattle.rules.specs.Part.{Part}
use Rattle.rules.specs.Job.{step_at}
use Rattle.rules.specs.Refusals.{Checked, passes, refused, ◌or_else◌}
use Rattle.rules.specs.JobRefusals.{decoded_refusal, setting_after, steps_refusal}

pub passes_or : (x y : Checked) → x ≡ passes → (x or_else y) ≡ y
unfolding ◌or_else◌
passes_or x y e = rw e

pub refused_or : (x y : Checked) (z : Refusal) → x ≡ refused z → (x or_else y) ≡ refused z
unfolding ◌or_else◌
refused_or x y z e = rw e

module _ (p : Part) (pl : ℕ) (job : List ℕ) where
  pub steps_next : (s i n : ℕ) → i < n
      → steps_refusal p s pl job i (n - i) ≡ (decoded_refusal p s pl i (step_at job i) or_else steps_refusal p (setting_after s (step_at job i)) pl job (i + 1) (n - (i + 1)))
  unfolding steps_refusal
  steps_next s i n h =
      let e : n - i ≡ suc (n - (i + 1)) = omega arith in
      ap (steps_refusal p s pl job i) e ∙ rw (add-one i)

  pub steps_end : (s i n : ℕ) → n ≤ i → steps_refusal p s pl job i (n - i) ≡ passes
  unfolding steps_refusal
  steps_end s i n h = let e : n - i ≡ 0 = omega arith in ap (steps_refusal p s pl job i) e
