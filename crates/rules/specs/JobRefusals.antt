-- When a job is refused. Document 01, refusals 20 to 25, "each step in order".
use Rattle.std.specs.Prelude.{ℕ, zero, suc, ◌+◌, ◌%◌, Bool, false, not, ◌||◌, List, length, Option, Some, None}
use Rattle.lists.specs.Choice.{if◌then◌otherwise◌, ◌=?◌, ◌<?◌, ◌≤?◌}
use Rattle.rules.specs.declared.EraseUnit.{EraseUnit}
use Rattle.rules.specs.declared.EraseUnit.TheVariants.{Sector, Block32, Block64, Chip}
use Rattle.rules.specs.declared.Step.{Step}
use Rattle.rules.specs.declared.Step.TheVariants.{EraseAt, Lay, Guard}
use Rattle.rules.specs.declared.Refusal.TheVariants.{UnknownPart, UnfitJob, StartSetting, StepUnsaid, StepOutside, StepBeyond, StepProtected}
use Rattle.rules.specs.Part.{Part}
use Rattle.rules.specs.Parts.{is_part, part_of}
use Rattle.rules.specs.Units.{unit_start, unit_length}
use Rattle.rules.specs.Protection.{first_protected}
use Rattle.rules.specs.Refusals.{Checked, passes, refused, ◌or_else◌}
use Rattle.rules.specs.Job.{step_length, step_at, step_count, setting_meant}

-- "up to 64 records", "payload over 65,536 bytes", "length 0 or over 4,096"
abbrev pub job_limit : ℕ
job_limit = 64

abbrev pub payload_limit : ℕ
payload_limit = 65536

abbrev pub lay_limit : ℕ
lay_limit = 4096

-- 20: "job not whole records or over 64, or payload over 65,536 bytes"
unfoldable pub unfit : List ℕ → ℕ → Bool
unfit job payload_length =
    not (length job % step_length =? 0) || (job_limit <? step_count job) || (payload_limit <? payload_length)

-- "whole-chip erase not at 0"
abbrev pub chip_not_at_zero : EraseUnit → ℕ → Bool
chip_not_at_zero Sector a = false
chip_not_at_zero Block32 a = false
chip_not_at_zero Block64 a = false
chip_not_at_zero Chip a = not (a =? 0)

-- 23: "address past the chip, whole-chip erase not at 0, length 0 or over 4,096, or end past the chip"; and a unit that the
-- chip cannot erase, or a setting that it cannot hold
abbrev pub outside : Part → Step → Bool
outside p (EraseAt u a) = not (p.erases u) || (p.size ≤? a) || chip_not_at_zero u a
outside p (Lay s) =
    (p.size ≤? s.address) || (s.length =? 0) || (lay_limit <? s.length) || (p.size <? s.address + s.length)
outside p (Guard g) = p.setting_limit <? g

-- 24: "payload span outside the payload"
abbrev pub beyond : ℕ → Step → Bool
beyond payload_length (EraseAt u a) = false
beyond payload_length (Lay s) = payload_length <? s.offset + s.length
beyond payload_length (Guard g) = false

-- the bytes of the unit or span
abbrev pub step_start : Step → ℕ
step_start (EraseAt u a) = unit_start u a
step_start (Lay s) = s.address
step_start (Guard g) = 0

abbrev pub step_reach : Part → Step → ℕ
step_reach p (EraseAt u a) = unit_length p.size u
step_reach p (Lay s) = s.length
step_reach p (Guard g) = 0

-- the first of them that is protected at setting s
abbrev pub first_shielded : Part → ℕ → Step → Option ℕ
first_shielded p s w = first_protected p s (step_start w) (step_reach p w)

-- 25: "a byte of the unit or span protected at that step"
abbrev pub shielded : ℕ → Option ℕ → Checked
shielded i (Some x) = refused (StepProtected i)
shielded i None = passes

-- 23 to 25 for step i, at setting s
unfoldable pub step_refusal : (p : Part) (s payload_length i : ℕ) → Step → Checked
step_refusal p s payload_length i w =
    if outside p w then refused (StepOutside i) otherwise
    if beyond payload_length w then refused (StepBeyond i) otherwise
    shielded i (first_shielded p s w)

-- 22 to 25
abbrev pub decoded_refusal : (p : Part) (s payload_length i : ℕ) → Option Step → Checked
decoded_refusal p s payload_length i (Some w) = step_refusal p s payload_length i w
decoded_refusal p s payload_length i None = refused (StepUnsaid i)

-- the setting after a step, for the next step's 25
abbrev pub setting_after : ℕ → Option Step → ℕ
setting_after s (Some w) = setting_meant s w
setting_after s None = s

-- n steps from step i on, at setting s
unfoldable pub steps_refusal : (p : Part) (s payload_length : ℕ) (job : List ℕ) (i n : ℕ) → Checked
steps_refusal p s payload_length job i zero = passes
steps_refusal p s payload_length job i (suc n) =
    decoded_refusal p s payload_length i (step_at job i) or_else
    steps_refusal p (setting_after s (step_at job i)) payload_length job (suc i) n

-- "checks 1, 20, 21, then each step in order for 22 to 25"
unfoldable pub job_refusal : (part setting : ℕ) (job : List ℕ) (payload_length : ℕ) → Checked
job_refusal part setting job payload_length =
    if not (is_part part) then refused UnknownPart otherwise
    if unfit job payload_length then refused UnfitJob otherwise
    if (part_of part).setting_limit <? setting then refused StartSetting otherwise
    steps_refusal (part_of part) setting payload_length job 0 (step_count job)
