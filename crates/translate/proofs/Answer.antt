-- What an accepted job has, and what the translator answers.
use Rattle.std.specs.Prelude.{Some, Ok, Err}
use mathlib.Core.Path.{◌≡◌, sym}
use mathlib.Core.List.{List, ◌++◌}
use Prim.Native.Nat.{ℕ, ◌≤◌, ◌<◌}
use native.Mathlib.Omega.{arith}
use lib.ListN.{length, drop}
use borrow.Author.Tests.{lt-ltb, le-ltb}
use Rattle.lists.specs.Choice.{if◌then◌otherwise◌}
use Rattle.rules.specs.declared.Step.{Step}
use Rattle.rules.specs.declared.Refusal.{Refusal}
use Rattle.rules.specs.declared.Refusal.TheVariants.{SmallBuffer}
use Rattle.rules.specs.Part.{Part}
use Rattle.rules.specs.Parts.{part_of}
use Rattle.rules.specs.Job.{step_at, step_count}
use Rattle.rules.specs.JobRefusals.{job_refusal}
use Rattle.rules.specs.Refusals.{passes, refused, ◌or_else◌, answered}
use Rattle.rules.specs.Translate.{tape_of, translate_refusal, translate_told, translate_seen, translate_of}
use Rattle.laws.proofs.Sound.{Sound, size_small}
use Rattle.laws.proofs.Parts.{part_sound}
use Rattle.laws.proofs.Inside.{erase_inside, guard_held}
use Rattle.laws.proofs.JobPassed.{StepOk, lay-covered}
use Rattle.job.proofs.Passed.{each_passed, ok_billable, passed_ok, accepted-counted}
use Rattle.translate.specs.Writable.{Writable, WritableJob}

-- what 22 to 25 let pass can be written, of whatever job it is a step
pub ok_writable : (p : Part) → Sound p → (payload : List ℕ) (s : ℕ) (w : Step) → StepOk p s (length payload) w → Writable p payload w
ok_writable p sound payload s w k =
    record {
      erases = λ u a f. omega (arith, erase_inside p u a (rw f at k.inside), size_small p sound);
      lays = (ok_billable p sound s (length payload) w k).lays;
      covered = λ c f. lay-covered (length payload) c (rw f at k.covered);
      guards = λ g f. guard_held p g (rw f at k.inside);
    }

module _ (part s : ℕ) (job payload : List ℕ) (ok : job_refusal part s job (length payload) ≡ passes) where
  step_writable : (i : ℕ) → i < step_count job → (w : Step) → step_at job i ≡ Some w → Writable (part_of part) payload w
  step_writable i h w e =
      ok_writable (part_of part) (part_sound part) payload _ w
      (passed_ok (part_of part) _ (length payload) (step_at job i) w (each_passed part s job (length payload) ok i h) e)

  pub writable : WritableJob (part_of part) payload job
  writable = record { few = (accepted-counted part s job (length payload) ok).few; each = step_writable }

module _ (part s : ℕ) (job payload tape : List ℕ) where
  pub translate_refused : (z : Refusal) → job_refusal part s job (length payload) ≡ refused z
      → translate_seen (translate_told (Err z)) tape ≡ translate_of part s job payload tape
  unfolding translate_of translate_refusal ◌or_else◌ answered
  translate_refused z e = rw e

  pub translate_small : job_refusal part s job (length payload) ≡ passes → length tape < length (tape_of (part_of part) job payload)
      → translate_seen (translate_told (Err SmallBuffer)) tape ≡ translate_of part s job payload tape
  unfolding translate_of translate_refusal ◌or_else◌ answered if◌then◌otherwise◌
  translate_small e h = sym (rw (e, lt-ltb (length tape) (length (tape_of (part_of part) job payload)) h))

  pub translate_served : job_refusal part s job (length payload) ≡ passes → length (tape_of (part_of part) job payload) ≤ length tape
      → translate_seen (translate_told (Ok (length (tape_of (part_of part) job payload)))) (tape_of (part_of part) job payload ++ drop (length (tape_of (part_of part) job payload)) tape)
      ≡ translate_of part s job payload tape
  unfolding translate_of translate_refusal ◌or_else◌ answered if◌then◌otherwise◌
  translate_served e h = sym (rw (e, le-ltb (length tape) (length (tape_of (part_of part) job payload)) h))
