-- When a job is turned away: document 01's table, one case a line. "Translating checks 1, 20, 21, then each step in order for
-- 22 to 25, then 26. A refusal returns its number and the first bad record's index (for 22 to 25 ..; else 0)."
use Rattle.std.specs.Prelude.{◌≡◌, true, false, List, IsErrAnd, ◌⊎◌, ℕ, ◌+◌, ◌*◌, ◌/◌, ◌%◌, ◌≤◌, ◌<◌, length, get_or}
use Rattle.rules.specs.declared.EraseUnit.{EraseUnit}
use Rattle.rules.specs.declared.EraseUnit.TheVariants.{Sector, Block32, Block64, Chip}
use Rattle.rules.specs.declared.Step.{Step}
use Rattle.rules.specs.declared.Step.TheVariants.{EraseAt, Lay, Guard}
use Rattle.rules.specs.Units.{unit_start, unit_length}
use Rattle.rules.specs.Part.{Part}
use Rattle.rules.specs.Parts.{is_part, part_of}
use Rattle.rules.specs.Protection.{is_protected}
use Rattle.rules.specs.Refusals.{number_of, index_of, Checked}
use Rattle.rules.specs.Job.{number4}
use Rattle.rules.specs.Translate.{quote_of}
use Rattle.job.specs.Carried.{setting_at}

-- what is checked is refused, with number n at index i
abbrev pub Refuses : Checked → ℕ → ℕ → Type 0
Refuses c n i = IsErrAnd c (λ z. (number_of z ≡ n) × (index_of z ≡ i))

-- ---- what the 16 bytes from place a of a job on say

-- the n bytes from place a on are 0
abbrev pub Zeros : List ℕ → ℕ → ℕ → Type 0
Zeros job a n = (y : ℕ) → a ≤ y → y < a + n → get_or job y 0 ≡ 0

-- "byte 1 is 0, 1, 2 for 4, 32, 64 KB or 3 for all"
abbrev pub unit_byte : EraseUnit → ℕ
unit_byte Sector = 0
unit_byte Block32 = 1
unit_byte Block64 = 2
unit_byte Chip = 3

-- "Byte 0 is the kind, bytes 2 and 3 are 0."
pub data Says (job : List ℕ) (a : ℕ) : Step → Type 0 where
  -- "1 erase: byte 1 is 0, 1, 2 for 4, 32, 64 KB or 3 for all; bytes 4 to 7 address; the rest 0"
  says_erase : (u : EraseUnit) → get_or job a 0 ≡ 1 → get_or job (a + 1) 0 ≡ unit_byte u → Zeros job (a + 2) 2 → Zeros job (a + 8) 8
      → Says job a (EraseAt u (number4 job (a + 4)))
  -- "2 lay: byte 1 is 0; address in 4 to 7, length in 8 to 11, payload offset in 12 to 15"
  says_lay : get_or job a 0 ≡ 2 → get_or job (a + 1) 0 ≡ 0 → Zeros job (a + 2) 2
      → Says job a (Lay (record { address = number4 job (a + 4); length = number4 job (a + 8); offset = number4 job (a + 12) }))
  -- "3 guard: byte 1 is a setting 0 to 31; the rest 0"
  says_guard : get_or job a 0 ≡ 3 → get_or job (a + 1) 0 ≤ 31 → Zeros job (a + 2) 2 → Zeros job (a + 4) 12
      → Says job a (Guard (get_or job (a + 1) 0))

-- ---- what is wrong with a step

-- "address past the chip, whole-chip erase not at 0, length 0 or over 4,096, or end past the chip"; and a unit that the chip
-- cannot erase, or a setting that it cannot hold, of which the FM25Q16 has none
abbrev pub Outside : Part → Step → Type 0
Outside p (EraseAt u a) = (p.erases u ≡ false) ⊎ (p.size ≤ a) ⊎ ((u ≡ Chip) × (a ≡ 0 → ⊥))
Outside p (Lay s) = (p.size ≤ s.address) ⊎ (s.length ≡ 0) ⊎ (4096 < s.length) ⊎ (p.size < s.address + s.length)
Outside p (Guard g) = p.setting_limit < g

-- "payload span outside the payload"
abbrev pub Beyond : ℕ → Step → Type 0
Beyond payload_length (EraseAt u a) = ⊥
Beyond payload_length (Lay s) = payload_length < s.offset + s.length
Beyond payload_length (Guard g) = ⊥

-- y is a byte of the unit or span
abbrev pub Touches : Part → Step → ℕ → Type 0
Touches p (EraseAt u a) y = (unit_start u a ≤ y) × (y < unit_start u a + unit_length p.size u)
Touches p (Lay s) y = (s.address ≤ y) × (y < s.address + s.length)
Touches p (Guard g) y = ⊥

-- "a byte of the unit or span protected at that step"
abbrev pub Shielded : Part → ℕ → Step → Type 0
Shielded p setting w = (y : ℕ) × Touches p w y × (is_protected p setting y ≡ true)

-- step i of a job earns this number, at the setting that the guards before it leave
pub data Wrong (p : Part) (setting payload_length : ℕ) (job : List ℕ) (i : ℕ) : ℕ → Type 0 where
  -- 22: "unknown kind, or a byte outside the rules above"
  for_22 : ((w : Step) → Says job (16 * i) w → ⊥) → Wrong p setting payload_length job i 22
  for_23 : (w : Step) → Says job (16 * i) w → Outside p w → Wrong p setting payload_length job i 23
  for_24 : (w : Step) → Says job (16 * i) w → (Outside p w → ⊥) → Beyond payload_length w → Wrong p setting payload_length job i 24
  for_25 : (w : Step) → Says job (16 * i) w → (Outside p w → ⊥) → (Beyond payload_length w → ⊥) → Shielded p setting w
      → Wrong p setting payload_length job i 25

-- it earns none
abbrev pub Right : Part → ℕ → ℕ → List ℕ → ℕ → Type 0
Right p setting payload_length job i = (n : ℕ) → Wrong p setting payload_length job i n → ⊥

-- ---- what a job is turned away for, with which number and at which index

-- "job not whole records or over 64, or payload over 65,536 bytes"
abbrev pub Unfit : List ℕ → ℕ → Type 0
Unfit job payload_length = (length job % 16 ≡ 0 → ⊥) ⊎ (64 < length job / 16) ⊎ (65536 < payload_length)

-- part number, start setting, job, and how long the payload is
pub data JobTurnedAway (part s : ℕ) (job : List ℕ) (payload_length : ℕ) : ℕ → ℕ → Type 0 where
  -- "part number not 1"
  for_1 : is_part part ≡ false → JobTurnedAway part s job payload_length 1 0
  for_20 : is_part part ≡ true → Unfit job payload_length → JobTurnedAway part s job payload_length 20 0
  -- "start setting over 31", the highest that the chip holds
  for_21 : is_part part ≡ true → (Unfit job payload_length → ⊥) → (part_of part).setting_limit < s → JobTurnedAway part s job payload_length 21 0
  -- 22 to 25: step i is the first that is wrong
  for_step : is_part part ≡ true → (Unfit job payload_length → ⊥) → s ≤ (part_of part).setting_limit
      → (n i : ℕ) → i < length job / 16
      → ((j : ℕ) → j < i → Right (part_of part) (setting_at job s j) payload_length job j)
      → Wrong (part_of part) (setting_at job s i) payload_length job i n
      → JobTurnedAway part s job payload_length n i

-- what a translation is turned away for: the job, or else the tape buffer
pub data TurnedAway (part s : ℕ) (job payload : List ℕ) (buffer_length : ℕ) : ℕ → ℕ → Type 0 where
  for_job : (n i : ℕ) → JobTurnedAway part s job (length payload) n i → TurnedAway part s job payload buffer_length n i
  -- "tape buffer too small": shorter than the length that `quote` tells
  for_26 : ((n i : ℕ) → JobTurnedAway part s job (length payload) n i → ⊥)
      → buffer_length < (quote_of part s job (length payload)).bill.length
      → TurnedAway part s job payload buffer_length 26 0
