-- A tape read at a place: the entry `read`. Document 01, "A tape is read through a reader that keeps hold of the caller's bytes and its place".
use Rattle.std.specs.Prelude.{ℕ, ◌+◌, not, List, Option, Some, None, Result, Ok, Err}
use Rattle.lists.specs.Choice.{if◌then◌otherwise◌, ◌=?◌, ◌≤?◌}
use Rattle.rules.specs.declared.Record.{Record}
use Rattle.rules.specs.declared.Record.TheVariants.{Transaction, Finish, PowerCycle}
use Rattle.rules.specs.declared.Fault.{Fault}
use Rattle.rules.specs.declared.Fault.TheVariants.{CutTape, BadRecord}
use Rattle.rules.specs.declared.Sent.{Sent}
use Rattle.rules.specs.Status.{flag}
use Rattle.rules.specs.Tape.{length_at, kind_at, bits_at, bytes_start, leftover_of, high_of, records, whole, good_record}

-- where the tape t holds the bytes of the transaction at place p
abbrev pub sent_at : List ℕ → ℕ → Sent
sent_at t p = record { start = bytes_start p; length = length_at t p; leftover = leftover_of (bits_at t p); high = high_of (bits_at t p) }

-- what record p says, where it is there and good
unfoldable pub said_at : List ℕ → ℕ → Record
said_at t p =
    if kind_at t p =? 0 then Transaction (sent_at t p) otherwise
    if kind_at t p =? 1 then Finish otherwise
    PowerCycle

-- a record, the end, or why there is neither
abbrev pub AtPlace : Type 0
AtPlace = Result (Option Record) Fault

-- the number of a fault
abbrev pub fault_number : Fault → ℕ
fault_number CutTape = 30
fault_number BadRecord = 31

-- what is found at place p: "the fault (30 at every place of such a tape, else 31 for that record)", "the end where no record p is left", or
-- the record
unfoldable pub read_at : List ℕ → ℕ → AtPlace
read_at t p =
    if not (whole t) then Err CutTape otherwise
    if records t ≤? p then Ok None otherwise
    if not (good_record t p) then Err BadRecord otherwise
    Ok (Some (said_at t p))

-- "a record moves the place by one, the end and a fault leave it"
abbrev pub next_place : ℕ → AtPlace → ℕ
next_place p (Ok (Some r)) = p + 1
next_place p (Ok None) = p
next_place p (Err z) = p

-- the paper's kind, number and values; 3 is the end and 4 a fault
pub record ReadTold : Type 0 where
  pub kind : ℕ
  pub number : ℕ
  pub length : ℕ
  pub leftover : ℕ
  pub wp : ℕ
  pub start : ℕ
  pub next : ℕ

-- an answer that is no transaction
abbrev pub plain_told : (kind number next : ℕ) → ReadTold
plain_told kind number next = record { kind = kind; number = number; length = 0; leftover = 0; wp = 0; start = 0; next = next }

abbrev pub read_told : ℕ → AtPlace → ReadTold
read_told p (Ok (Some (Transaction s))) =
    record { kind = 0; number = 0; length = s.length; leftover = s.leftover; wp = flag s.high; start = s.start; next = p + 1 }
read_told p (Ok (Some Finish)) = plain_told 1 0 (p + 1)
read_told p (Ok (Some PowerCycle)) = plain_told 2 0 (p + 1)
read_told p (Ok None) = plain_told 3 0 p
read_told p (Err z) = plain_told 4 (fault_number z) p

-- the entry `read`: nothing that is lent changes, so the answer is all that a caller sees
unfoldable pub read_of : (tape : List ℕ) (place : ℕ) → ReadTold
read_of tape place = read_told place (read_at tape place)
