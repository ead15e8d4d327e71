-- What the rules make of each row is what the row expects.
use Rattle.std.specs.Prelude.{Ok, Err, is_some}
use mathlib.Core.Path.{◌≡◌, refl, ap}
use mathlib.Core.Bool.{false, ◌&&◌}
use mathlib.Core.List.{[], ◌∷◌, map}
use Prim.Native.Nat.{ℕ, ◌<◌}
use native.Mathlib.Omega.{arith}
use borrow.Author.Tests.{lt-leb}
use Rattle.lists.specs.Choice.{if◌then◌otherwise◌, ◌<?◌, ◌≤?◌}
use Rattle.lists.specs.Places.{every_in}
use Rattle.rules.specs.declared.Kept.{Kept}
use Rattle.rules.specs.declared.Kind.TheVariants.{ReadJedec}
use Rattle.rules.specs.declared.EraseUnit.TheVariants.{Block64}
use Rattle.rules.specs.declared.Step.TheVariants.{EraseAt, Guard}
use Rattle.rules.specs.Kinds.{of_write, of_known}
use Rattle.lists.proofs.Search.{overlap}
use Rattle.rules.specs.Part.{Part, takes, leaves, row_in, row_of}
use Rattle.rules.specs.Status.{regs_of, status_of, kept_of}
use Rattle.rules.specs.WellFormed.{word_formed, awake_formed, well_formed}
use Rattle.rules.specs.Protection.{is_protected, some_protected}
use Rattle.rules.specs.Writes.{locked}
use Rattle.rules.specs.Verdict.{address_of, unheard_asleep, unheard_busy, verdict_of, verdict_told}
use Rattle.rules.specs.Transaction.{from_place, driven_at}
use Rattle.rules.specs.Refusals.{number_of, index_of, Checked, passes, ◌or_else◌}
use Rattle.rules.specs.Job.{step_count, unit_by, decoded_erase, decoded_lay, decoded_guard, decoded_at, all_regs_meant}
use Rattle.rules.specs.JobRefusals.{shielded, step_refusal, steps_refusal}
use Rattle.laws.proofs.Protection.{first_protected_lem, bare_none}
use Rattle.rules.specs.Records.{three_recs, step_recs}
use Rattle.madeup.specs.Chip.{mu_commands, mu_heard_asleep, mu_heard_busy, mu_erases, mu_lo, mu_hi, mu_jedec, mu_guard_bytes, madeup}
use Rattle.madeup.specs.Readings.{Reading, readings, Word, words, Job, jobs}

-- an awake chip of that status
abbrev awake_at : ℕ → Kept
awake_at w = record { status = w; awake = 1 }

abbrev verdict_number : Reading → ℕ
verdict_number e = (verdict_told (verdict_of madeup (regs_of (awake_at e.status)) e.bytes 0 false)).number

some_overlap : (p : Part) (s a n : ℕ) → some_protected p s a n ≡ is_some (overlap (p.lo s) (p.hi s) a n)
unfolding some_protected
some_overlap p s a n = ap is_some (first_protected_lem p s a n)

-- the area is asked at its ends, so that no byte of a stretch is counted
pub verdicts_are_the_rows : map verdict_number readings ≡ map (λ (e : Reading). e.number) readings
unfolding readings madeup mu_commands mu_heard_asleep mu_heard_busy mu_lo mu_hi regs_of takes leaves row_in row_of verdict_of address_of unheard_asleep unheard_busy locked of_write of_known if◌then◌otherwise◌
verdicts_are_the_rows = simp (some_overlap, verdict_number)

pub words_are_the_rows : map (λ (e : Word). well_formed madeup e.kept) words ≡ map (λ (e : Word). e.formed) words
unfolding words madeup word_formed awake_formed well_formed
words_are_the_rows = refl

-- number and index of a refusal; where there is none, 0 and 0
abbrev number_and_index : Checked → ℕ × ℕ
number_and_index (Ok u) = (0, 0)
number_and_index (Err z) = (number_of z, index_of z)

abbrev refusal_of : Job → Checked
refusal_of e = steps_refusal madeup e.setting 4 e.job 0 (step_count e.job)

pub refusals_are_the_rows : map (λ (e : Job). number_and_index (refusal_of e)) jobs ≡ map (λ (e : Job). (e.number, e.index)) jobs
unfolding jobs madeup mu_erases mu_lo mu_hi steps_refusal step_refusal ◌or_else◌ decoded_at decoded_erase decoded_lay decoded_guard unit_by every_in if◌then◌otherwise◌
refusals_are_the_rows = simp first_protected_lem

-- a guard sends one status byte, and sets the setting alone
pub guard_sends : step_recs madeup [] (Guard 9) ≡ three_recs (0x01 ∷ 0x24 ∷ [])
unfolding madeup mu_guard_bytes
guard_sends = refl

pub guard_sets : kept_of (all_regs_meant madeup (regs_of (awake_at 0x3E)) (Guard 9 ∷ [])) ≡ awake_at 0x24
unfolding madeup all_regs_meant regs_of kept_of status_of if◌then◌otherwise◌
guard_sets = refl

-- 9F drives its one byte for ever
pub identifies : map (driven_at madeup (regs_of (awake_at 0x00)) [] [] ReadJedec) (0 ∷ 1 ∷ 2 ∷ 3 ∷ 4 ∷ []) ≡ 0xFF ∷ 0x15 ∷ 0x15 ∷ 0x15 ∷ 0x15 ∷ []
unfolding madeup mu_jedec from_place if◌then◌otherwise◌
identifies = refl

-- a block below the area is erased: said of each of its bytes, so that none is counted
below : (lo hi x : ℕ) → x < lo → ((lo ≤? x) && (x <? hi)) ≡ false
below lo hi x h = rw (lt-leb lo x h)

near : (x : ℕ) → x < 131072 → x < 983040
near x h = omega arith

pub block_erased : step_refusal madeup 15 0 0 (EraseAt Block64 0x012345) ≡ passes
unfolding madeup mu_erases mu_lo mu_hi step_refusal is_protected if◌then◌otherwise◌
block_erased = ap (shielded 0) (bare_none madeup 15 0x010000 65536 (λ x h k. below 983040 1048576 x (near x k)))
