-- A job's bytes, step by step, and what the steps mean. Document 01, "Jobs and tapes".
use Rattle.std.specs.Prelude.{ℕ, zero, suc, ◌+◌, ◌*◌, ◌/◌, Bool, false, not, ◌&&◌, List, [], ◌∷◌, length, get_or, take, drop, Option, Some, None}
use Rattle.std.specs.Int.Bits.{bit_and}
use Rattle.lists.specs.Choice.{if◌then◌otherwise◌, ◌=?◌, ◌≤?◌}
use Rattle.lists.specs.Places.{patched, every_in}
use Rattle.rules.specs.declared.EraseUnit.{EraseUnit}
use Rattle.rules.specs.declared.EraseUnit.TheVariants.{Sector, Block32, Block64, Chip}
use Rattle.rules.specs.declared.Regs.{Regs}
use Rattle.rules.specs.declared.Span.{Span}
use Rattle.rules.specs.declared.Step.{Step}
use Rattle.rules.specs.declared.Step.TheVariants.{EraseAt, Lay, Guard}
use Rattle.rules.specs.Part.{Part}
use Rattle.rules.specs.Status.{with_wel, with_setting, with_srp0, with_srp1, with_qe}
use Rattle.rules.specs.Cells.{erased}
use Rattle.rules.specs.Tape.{is_zero}

-- "records of 16 bytes"
abbrev pub step_length : ℕ
step_length = 16

-- "byte 1 is a setting 0 to 31"; a chip may hold fewer
abbrev pub guard_limit : ℕ
guard_limit = 31

-- ---- the 16 bytes from place a on of a job

-- four bytes, big-endian
abbrev pub number4 : List ℕ → ℕ → ℕ
number4 job a = ((get_or job a 0 * 256 + get_or job (a + 1) 0) * 256 + get_or job (a + 2) 0) * 256 + get_or job (a + 3) 0

-- n bytes from place a on are 0
abbrev pub zeros : List ℕ → ℕ → ℕ → Bool
zeros job a n = every_in (is_zero job) a n

-- "byte 1 is 0, 1, 2 for 4, 32, 64 KB or 3 for all"
unfoldable pub unit_by : ℕ → EraseUnit
unit_by n =
    if n =? 0 then Sector otherwise
    if n =? 1 then Block32 otherwise
    if n =? 2 then Block64 otherwise
    Chip

-- "1 erase: .. bytes 4 to 7 address; the rest 0"
unfoldable pub decoded_erase : List ℕ → ℕ → Option Step
decoded_erase job a =
    if (get_or job (a + 1) 0 ≤? 3) && zeros job (a + 8) 8
    then Some (EraseAt (unit_by (get_or job (a + 1) 0)) (number4 job (a + 4)))
    otherwise None

-- "2 lay: byte 1 is 0; address in 4 to 7, length in 8 to 11, payload offset in 12 to 15"
unfoldable pub decoded_lay : List ℕ → ℕ → Option Step
decoded_lay job a =
    if get_or job (a + 1) 0 =? 0
    then Some (Lay (record { address = number4 job (a + 4); length = number4 job (a + 8); offset = number4 job (a + 12) }))
    otherwise None

-- "3 guard: byte 1 is a setting 0 to 31; the rest 0"
unfoldable pub decoded_guard : List ℕ → ℕ → Option Step
decoded_guard job a =
    if (get_or job (a + 1) 0 ≤? guard_limit) && zeros job (a + 4) 12 then Some (Guard (get_or job (a + 1) 0)) otherwise None

-- "byte 0 is the kind, bytes 2 and 3 are 0"; None is refusal 22
unfoldable pub decoded_at : List ℕ → ℕ → Option Step
decoded_at job a =
    if not (zeros job (a + 2) 2) then None otherwise
    if get_or job a 0 =? 1 then decoded_erase job a otherwise
    if get_or job a 0 =? 2 then decoded_lay job a otherwise
    if get_or job a 0 =? 3 then decoded_guard job a otherwise
    None

-- step i of a job
abbrev pub step_at : List ℕ → ℕ → Option Step
step_at job i = decoded_at job (step_length * i)

-- how many steps a job has
abbrev pub step_count : List ℕ → ℕ
step_count job = length job / step_length

abbrev pub with_step : Option Step → List Step → List Step
with_step (Some s) ss = s ∷ ss
with_step None ss = ss

-- n steps from step i on
unfoldable pub steps_from : List ℕ → ℕ → ℕ → List Step
steps_from job i zero = []
steps_from job i (suc n) = with_step (step_at job i) (steps_from job (suc i) n)

-- all of them; of a job that is accepted, none is bad
abbrev pub steps_of : List ℕ → List Step
steps_of job = steps_from job 0 (step_count job)

-- ---- what a step means

-- the payload bytes of a lay
abbrev pub lay_bytes : List ℕ → Span → List ℕ
lay_bytes payload s = take s.length (drop s.offset payload)

-- from a on, "each byte becomes old AND payload"
unfoldable pub laid : List ℕ → ℕ → List ℕ → List ℕ
laid l a bs = patched l a (length bs) (λ j. bit_and (get_or l (a + j) 0) (get_or bs j 0))

-- on the array: "the unit holding the address becomes FF"
abbrev pub meant : Part → List ℕ → List ℕ → Step → List ℕ
meant p payload l (EraseAt u a) = erased p.size l u a
meant p payload l (Lay s) = laid l s.address (lay_bytes payload s)
meant p payload l (Guard g) = l

-- on the setting, which the next step's check goes by
abbrev pub setting_meant : ℕ → Step → ℕ
setting_meant s (EraseAt u a) = s
setting_meant s (Lay w) = s
setting_meant s (Guard g) = g

-- what a guard makes of S7, S8 and S9
abbrev pub cleared : Part → Bool → Bool
cleared p b = if p.guard_clears then false otherwise b

-- "this setting, and S7, S8, S9 become 0", on a chip whose guard clears them
abbrev pub guarded : Part → Regs → ℕ → Regs
guarded p r g =
    with_qe (with_srp1 (with_srp0 (with_setting r g) (cleared p r.srp0)) (cleared p r.srp1)) (cleared p r.qe)

-- on the registers: "after a non-empty tape WEL is 0; other bits not set by a guard are as at the start"
abbrev pub regs_meant : Part → Regs → Step → Regs
regs_meant p r (EraseAt u a) = with_wel r false
regs_meant p r (Lay w) = with_wel r false
regs_meant p r (Guard g) = with_wel (guarded p r g) false

-- ---- what a job means: its steps one after the other

unfoldable pub array_meant : Part → List ℕ → List ℕ → List Step → List ℕ
array_meant p payload l [] = l
array_meant p payload l (s ∷ ss) = array_meant p payload (meant p payload l s) ss

unfoldable pub all_regs_meant : Part → Regs → List Step → Regs
all_regs_meant p r [] = r
all_regs_meant p r (s ∷ ss) = all_regs_meant p (regs_meant p r s) ss
