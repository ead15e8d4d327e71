-- Demand 3 is not empty: its hypotheses can be met, room included, by a job with an erase, a lay and a guard; and what it says
-- then of the array, the registers and the meter.
use mathlib.Core.Path.{◌≡◌, refl, sym, ap, ◌∙◌}
use mathlib.Core.Bool.{true}
use mathlib.Core.List.{List, [], ◌∷◌, map}
use Prim.Native.Nat.{ℕ, ◌/◌}
use native.Mathlib.Omega.{arith}
use lib.ListN.{length, get_or, length-replicate}
use Rattle.lists.specs.Choice.{if◌then◌otherwise◌}
use Rattle.lists.specs.Places.{tabulate_from, tabulate, patched, first_in, every_in}
use Rattle.rules.specs.declared.EraseUnit.TheVariants.{Sector}
use Rattle.rules.specs.declared.Step.{Step}
use Rattle.rules.specs.declared.Step.TheVariants.{EraseAt, Lay, Guard}
use Rattle.rules.specs.Fm25q16.{fm_erases, fm_sec0, fm_sec1, fm_area, fm_lo, fm_hi, fm25q16}
use Rattle.rules.specs.Parts.{is_part, part_of}
use Rattle.rules.specs.Protection.{is_protected, first_protected}
use Rattle.rules.specs.Status.{regs_of, status_of, kept_of}
use Rattle.rules.specs.WellFormed.{word_formed, awake_formed, well_formed}
use Rattle.rules.specs.Cells.{erased}
use Rattle.rules.specs.Counts.{room}
use Rattle.rules.specs.Refusals.{passes, ◌or_else◌}
use Rattle.rules.specs.Replay.{ReplaySeen, replay_of}
use Rattle.rules.specs.Job.{unit_by, decoded_erase, decoded_lay, decoded_guard, decoded_at, steps_from, steps_of, laid, array_meant, all_regs_meant}
use Rattle.rules.specs.JobRefusals.{unfit, step_refusal, steps_refusal, job_refusal}
use Rattle.rules.specs.Bill.{bill_of}
use Rattle.rules.specs.Translate.{tape_of, TranslateSeen, translate_of, BillTold}
use Rattle.rules.specs.Ready.{Ready, Roomy}
use Rattle.demand.specs.Raised.{raised}
use Rattle.translate.proofs.Answer.{translate_served}
use Rattle.translate.proofs.Whole.{tape-long}
use Rattle.claims.specs.Means.{tape_written, figures, Means}
use Rattle.claims.specs.Witness.{job, payload, blank, buffer, array, kept, meter}
use Rattle.claims.proofs.Translated.{quote_billed}
use Rattle.claims.proofs.JobMeans.{tape-is, job_means_what_it_says}

blank-long : (n : ℕ) → length (blank n) ≡ n
unfolding blank
blank-long n = length-replicate {A = ℕ} n 0

pub steps_are : steps_of job ≡ EraseAt Sector 0x001000 ∷ Lay (record { address = 0x0010FE; length = 4; offset = 0 }) ∷ Guard 17 ∷ []
unfolding job steps_from decoded_at decoded_erase decoded_lay decoded_guard unit_by every_in if◌then◌otherwise◌
steps_are = refl

unrefused : job_refusal 1 0 job (length payload) ≡ passes
unfolding job job_refusal is_part unfit steps_refusal ◌or_else◌ step_refusal first_protected first_in is_protected part_of fm25q16 fm_erases fm_lo fm_hi fm_area fm_sec0 fm_sec1 decoded_at decoded_erase decoded_lay decoded_guard unit_by every_in if◌then◌otherwise◌
unrefused = refl

bill-is : bill_of (steps_of job) ≡ record { programs = 2; erases = 1; register_writes = 1; length = 3168 }
unfolding bill_of
bill-is = ap bill_of steps_are

tape-length : length (tape_of (part_of 1) job payload) ≡ 3168
tape-length = tape-long 1 0 job payload unrefused ∙ ap (λ b. b.length) bill-is

-- ---- the hypotheses of `job_means_what_it_says`

pub translated : (translate_of 1 0 job payload buffer).answer.served ≡ true
translated =
    ap (λ (v : TranslateSeen). v.answer.served)
    (sym (translate_served 1 0 job payload buffer unrefused (omega (arith, tape-length, blank-long 3168))))

pub long : length array ≡ (part_of 1).size
unfolding part_of fm25q16
long = blank-long 2097152

pub ready : Ready (part_of 1) 0 kept
unfolding well_formed word_formed awake_formed regs_of part_of fm25q16
ready = record { formed = refl; awake = refl; idle = refl; unlocked = refl; at_setting = refl }

pub roomy : Roomy meter (tape_written 1 0 job payload buffer)
unfolding room
roomy = record { roomy = ap (λ (n : ℕ). room meter (n / 264)) (ap length (tape-is 1 0 job payload buffer translated) ∙ tape-length) }

-- ---- so it speaks of this job

pub job_means : Means 1 0 job payload (tape_written 1 0 job payload buffer) kept meter array
job_means = job_means_what_it_says 1 0 job payload buffer translated kept meter array long ready roomy

-- all that a caller sees after the tape was played
abbrev pub played : ReplaySeen
played = replay_of 1 kept meter array (tape_written 1 0 job payload buffer)

pub figures_are : figures 1 0 job payload ≡ record { programs = 2; erases = 1; register_writes = 1; length = 3168 }
figures_are = ap (λ (t : BillTold). t.bill) (quote_billed 1 0 job (length payload) unrefused) ∙ bill-is

-- the meter: from 0, by the figures
pub meter-after : played.answer.meter ≡ record { programs = 2; erases = 1; register_writes = 1; ignored = 0 }
meter-after = ap (λ (v : ReplaySeen). v.answer.meter) job_means.played ∙ ap (raised meter) figures_are

-- the registers: setting 17, which is 44 hex in the word, and all else 0
pub regs-after : played.answer.regs ≡ record { status = 0x0044; awake = 1 }
unfolding all_regs_meant kept_of regs_of status_of part_of fm25q16 if◌then◌otherwise◌
regs-after = ap (λ (v : ReplaySeen). v.answer.regs) job_means.played ∙ ap (λ (ws : List Step). kept_of (all_regs_meant (part_of 1) (regs_of kept) ws)) steps_are

-- the array, which held 00, at these places: the sector from 001000 on is FF, but for the four bytes laid; its neighbours stay
abbrev pub places : List ℕ
places = 0x000FFF ∷ 0x001000 ∷ 0x0010FD ∷ 0x0010FE ∷ 0x0010FF ∷ 0x001100 ∷ 0x001101 ∷ 0x001102 ∷ 0x001FFF ∷ 0x002000 ∷ []

pub array-after : map (λ (y : ℕ). get_or played.array y 0) places ≡ 0x00 ∷ 0xFF ∷ 0xFF ∷ 0x11 ∷ 0x22 ∷ 0x33 ∷ 0x44 ∷ 0xFF ∷ 0xFF ∷ 0x00 ∷ []
unfolding array_meant laid erased patched tabulate tabulate_from blank part_of fm25q16
array-after =
    ap (λ (v : ReplaySeen). map (λ (y : ℕ). get_or v.array y 0) places) job_means.played
    ∙ ap (λ (ws : List Step). map (λ (y : ℕ). get_or (array_meant (part_of 1) payload array ws) y 0) places) steps_are
