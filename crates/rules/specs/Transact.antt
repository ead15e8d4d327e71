-- The entry `transact`: its one answer, and what is left of all that was lent.
use Rattle.std.specs.Prelude.{ℕ, Bool, true, false, not, List, ◌++◌, length, drop, Result, Ok, Err}
use Rattle.lists.specs.Choice.{◌=?◌}
use Rattle.rules.specs.declared.Kept.{Kept}
use Rattle.rules.specs.declared.Meter.{Meter}
use Rattle.rules.specs.declared.Refusal.{Refusal}
use Rattle.rules.specs.declared.Served.{Served}
use Rattle.rules.specs.Parts.{part_of}
use Rattle.rules.specs.Status.{regs_of, kept_of}
use Rattle.rules.specs.Verdict.{verdict_told}
use Rattle.rules.specs.Transaction.{Turn, turn_of}
use Rattle.rules.specs.Counts.{meter_after}
use Rattle.rules.specs.Refusals.{number_of, index_of, answered, transact_refusal}

-- the paper's number and values of an answer: whether it was served, the verdict's or the refusal's number, the code of
-- a kind that was carried out, the index, and the registers and the meter, which a refusal leaves as they were handed in
pub record AnswerTold : Type 0 where
  pub served : Bool
  pub number : ℕ
  pub code : ℕ
  pub index : ℕ
  pub regs : Kept
  pub meter : Meter

abbrev pub transact_told : (kept : Kept) (meter : Meter) → Result Served Refusal → AnswerTold
transact_told kept meter (Ok s) =
    record { served = true; number = (verdict_told s.verdict).number; code = (verdict_told s.verdict).code; index = 0; regs = s.regs; meter = s.meter }
transact_told kept meter (Err z) =
    record { served = false; number = number_of z; code = 0; index = index_of z; regs = kept; meter = meter }

-- all that a caller sees
pub record TransactSeen : Type 0 where
  pub answer : AnswerTold
  pub array : List ℕ
  pub out : List ℕ

abbrev pub transact_seen : (answer : AnswerTold) (array out : List ℕ) → TransactSeen
transact_seen answer array out = record { answer = answer; array = array; out = out }

-- a transaction that is served: "success writes only the first n output bytes"
unfoldable pub transact_served : (kept : Kept) (meter : Meter) (out bytes : List ℕ) → Turn → TransactSeen
transact_served kept meter out bytes t =
    transact_seen
    (transact_told kept meter (Ok (record { verdict = t.verdict; regs = kept_of t.regs; meter = meter_after meter t.verdict })))
    t.array
    (t.out ++ drop (length bytes) out)

-- .. and one that is refused with z: "registers, meter, array, output and tape stay"
unfoldable pub transact_refused : (kept : Kept) (meter : Meter) (array out : List ℕ) → Refusal → TransactSeen
transact_refused kept meter array out z = transact_seen (transact_told kept meter (Err z)) array out

-- /WP is low at 0, and else high
abbrev pub is_high : ℕ → Bool
is_high wp = not (wp =? 0)

-- the bytes are those clocked in, and `leftover` the bits after them
unfoldable pub transact_of : (part : ℕ) (kept : Kept) (meter : Meter) (array out bytes : List ℕ) (leftover wp : ℕ) → TransactSeen
transact_of part kept meter array out bytes leftover wp =
    answered (transact_refusal part (length array) kept (length bytes) leftover (length out) meter)
    (transact_served kept meter out bytes (turn_of (part_of part) (regs_of kept) array bytes leftover (is_high wp)))
    (transact_refused kept meter array out)
