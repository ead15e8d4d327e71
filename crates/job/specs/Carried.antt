-- The setting that the guards before a step leave for its check.
use Rattle.std.specs.Prelude.{ℕ, zero, suc, List}
use Rattle.rules.specs.Job.{step_at}
use Rattle.rules.specs.JobRefusals.{setting_after}

-- at step i, of a job that starts at setting s
unfoldable pub setting_at : List ℕ → ℕ → ℕ → ℕ
setting_at job s zero = s
setting_at job s (suc i) = setting_after (setting_at job s i) (step_at job i)
