-- The entries `replay` and `replay_first`: their one answer, and the array at exit.
use Rattle.std.specs.Prelude.{ℕ, true, false, not, List, length, take, Option, Some, None, Result, Ok, Err}
use Rattle.lists.specs.Choice.{if◌then◌otherwise◌, ◌=?◌}
use Rattle.rules.specs.declared.Kept.{Kept}
use Rattle.rules.specs.declared.Meter.{Meter}
use Rattle.rules.specs.declared.Refusal.{Refusal}
use Rattle.rules.specs.declared.Refusal.TheVariants.{UnknownPart, ArrayLength, NotWellFormed, MeterFull, CutTape, BadRecord}
use Rattle.rules.specs.declared.Played.{Played}
use Rattle.rules.specs.Parts.{is_part, part_of}
use Rattle.rules.specs.Status.{regs_of, kept_of}
use Rattle.rules.specs.WellFormed.{well_formed}
use Rattle.rules.specs.Counts.{room}
use Rattle.rules.specs.Refusals.{number_of, index_of, Checked, passes, refused, ◌or_else◌, answered}
use Rattle.rules.specs.Transact.{AnswerTold}
use Rattle.rules.specs.Tape.{whole, first_bad, records, recs_of}
use Rattle.rules.specs.Play.{State, state, play}

-- 31 with the index of the first bad record
abbrev pub bad_record : Option ℕ → Checked
bad_record (Some i) = refused (BadRecord i)
bad_record None = passes

-- ".. 31, 7"
unfoldable pub records_refusal : (meter : Meter) (tape : List ℕ) → Checked
records_refusal meter tape =
    bad_record (first_bad tape) or_else
    if not (room meter (records tape)) then refused MeterFull otherwise
    passes

-- "replay checks 1, 2, 3, 30, 31, 7, all before its first record"
unfoldable pub replay_refusal : (part array_length : ℕ) (kept : Kept) (meter : Meter) (tape : List ℕ) → Checked
replay_refusal part array_length kept meter tape =
    if not (is_part part) then refused UnknownPart otherwise
    if not (array_length =? (part_of part).size) then refused ArrayLength otherwise
    if not (well_formed (part_of part) kept) then refused NotWellFormed otherwise
    if not (whole tape) then refused CutTape otherwise
    records_refusal meter tape

-- a tape that was played to its end, or to the record asked for
abbrev pub played_told : Kept → Meter → AnswerTold
played_told kept meter = record { served = true; number = 0; code = 0; index = 0; regs = kept; meter = meter }

-- the paper's number and values: a refusal leaves the registers and the meter as they were handed in
abbrev pub replay_told : (kept : Kept) (meter : Meter) → Result Played Refusal → AnswerTold
replay_told kept meter (Ok s) = played_told s.regs s.meter
replay_told kept meter (Err z) = record { served = false; number = number_of z; code = 0; index = index_of z; regs = kept; meter = meter }

-- all that a caller sees
pub record ReplaySeen : Type 0 where
  pub answer : AnswerTold
  pub array : List ℕ

abbrev pub replay_seen : (answer : AnswerTold) (array : List ℕ) → ReplaySeen
replay_seen answer array = record { answer = answer; array = array }

unfoldable pub replay_served : (kept : Kept) (meter : Meter) → State → ReplaySeen
replay_served kept meter s = replay_seen (replay_told kept meter (Ok (record { regs = kept_of s.regs; meter = s.meter }))) s.array

unfoldable pub replay_refused : (kept : Kept) (meter : Meter) (array : List ℕ) → Refusal → ReplaySeen
replay_refused kept meter array z = replay_seen (replay_told kept meter (Err z)) array

-- the first k records: the checks are made on the whole tape, then min(k, records) are played
unfoldable pub replay_first_of : (part : ℕ) (kept : Kept) (meter : Meter) (array tape : List ℕ) (k : ℕ) → ReplaySeen
replay_first_of part kept meter array tape k =
    answered (replay_refusal part (length array) kept meter tape)
    (replay_served kept meter (play (part_of part) (take k (recs_of tape)) (state (regs_of kept) array meter)))
    (replay_refused kept meter array)

-- all of them
unfoldable pub replay_of : (part : ℕ) (kept : Kept) (meter : Meter) (array tape : List ℕ) → ReplaySeen
replay_of part kept meter array tape = replay_first_of part kept meter array tape (records tape)
