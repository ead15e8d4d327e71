-- The entries `translate` and `quote` taken apart, by the job's refusal and by the room in the tape buffer.
use Rattle.std.specs.Prelude.{Ok, Err}
use mathlib.Core.Path.{◌≡◌, refl, subst}
use mathlib.Core.Bool.{Bool, true, false}
use mathlib.Core.List.{List, ◌++◌}
use Prim.Native.Nat.{ℕ, ◌≤◌, ◌<◌}
use lib.ListN.{length, drop}
use borrow.Author.Tests.{ltb-true, ltb-false}
use Rattle.lists.specs.Choice.{◌<?◌}
use Rattle.rules.specs.declared.Refusal.{Refusal}
use Rattle.rules.specs.declared.Refusal.TheVariants.{SmallBuffer}
use Rattle.rules.specs.Parts.{part_of}
use Rattle.rules.specs.Refusals.{Checked, passes, refused, answered}
use Rattle.rules.specs.Job.{steps_of}
use Rattle.rules.specs.JobRefusals.{job_refusal}
use Rattle.rules.specs.Bill.{bill_of}
use Rattle.rules.specs.Translate.{tape_of, TranslateSeen, translate_told, translate_seen, translate_of, quote_told, quote_of}
use Rattle.translate.proofs.Answer.{translate_refused, translate_small, translate_served}

module _ (part s : ℕ) (job payload buffer : List ℕ) where
  abbrev c : Checked
  c = job_refusal part s job (length payload)

  -- the tape of the job
  abbrev w : List ℕ
  w = tape_of (part_of part) job payload

  pub by_translation : (P : TranslateSeen → Type 0)
      → (c ≡ passes → length w ≤ length buffer → P (translate_seen (translate_told (Ok (length w))) (w ++ drop (length w) buffer)))
      → (c ≡ passes → length buffer < length w → P (translate_seen (translate_told (Err SmallBuffer)) buffer))
      → ((z : Refusal) → c ≡ refused z → P (translate_seen (translate_told (Err z)) buffer))
      → P (translate_of part s job payload buffer)
  by_translation P written small turned_away = go c refl (length buffer <? length w) refl
    where
      go : (d : Checked) → c ≡ d → (u : Bool) → (length buffer <? length w) ≡ u → P (translate_of part s job payload buffer)
      go (Ok t) e true f =
          let h = ltb-true (length buffer) (length w) f in
          subst P (translate_small part s job payload buffer e h) (small e h)
      go (Ok t) e false f =
          let h = ltb-false (length buffer) (length w) f in
          subst P (translate_served part s job payload buffer e h) (written e h)
      go (Err z) e u f = subst P (translate_refused part s job payload buffer z e) (turned_away z e)

module _ (part s : ℕ) (job : List ℕ) (payload_length : ℕ) where
  pub quote_billed : job_refusal part s job payload_length ≡ passes → quote_of part s job payload_length ≡ quote_told (Ok (bill_of (steps_of job)))
  unfolding quote_of answered
  quote_billed e = rw e

  pub quote_refused : (z : Refusal) → job_refusal part s job payload_length ≡ refused z → quote_of part s job payload_length ≡ quote_told (Err z)
  unfolding quote_of answered
  quote_refused z e = rw e
