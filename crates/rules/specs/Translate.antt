-- The entries `translate` and `quote`: their one answer, and the tape at exit.
use Rattle.std.specs.Prelude.{ℕ, Bool, true, false, List, ◌++◌, length, drop, Result, Ok, Err}
use Rattle.lists.specs.Choice.{if◌then◌otherwise◌, ◌<?◌}
use Rattle.rules.specs.declared.Refusal.{Refusal}
use Rattle.rules.specs.declared.Bill.{Bill}
use Rattle.rules.specs.declared.Refusal.TheVariants.{SmallBuffer}
use Rattle.rules.specs.Part.{Part}
use Rattle.rules.specs.Parts.{part_of}
use Rattle.rules.specs.Tape.{encode}
use Rattle.rules.specs.Job.{steps_of}
use Rattle.rules.specs.JobRefusals.{job_refusal}
use Rattle.rules.specs.Records.{job_recs}
use Rattle.rules.specs.Bill.{no_bill, bill_of}
use Rattle.rules.specs.Refusals.{number_of, index_of, Checked, passes, refused, ◌or_else◌, answered}

-- the tape of a job: its bytes
unfoldable pub tape_of : (p : Part) (job payload : List ℕ) → List ℕ
tape_of p job payload = encode (job_recs p payload (steps_of job))

-- ---- translate

-- ".. then 26": "tape buffer too small"
unfoldable pub translate_refusal : (part setting : ℕ) (job payload : List ℕ) (buffer_length : ℕ) → Checked
translate_refusal part setting job payload buffer_length =
    job_refusal part setting job (length payload) or_else
    if buffer_length <? length (tape_of (part_of part) job payload) then refused SmallBuffer otherwise
    passes

-- the paper's number and values
pub record TapeTold : Type 0 where
  pub served : Bool
  pub number : ℕ
  pub index : ℕ
  pub length : ℕ

abbrev pub translate_told : Result ℕ Refusal → TapeTold
translate_told (Ok n) = record { served = true; number = 0; index = 0; length = n }
translate_told (Err z) = record { served = false; number = number_of z; index = index_of z; length = 0 }

-- all that a caller sees
pub record TranslateSeen : Type 0 where
  pub answer : TapeTold
  pub tape : List ℕ

abbrev pub translate_seen : (answer : TapeTold) (tape : List ℕ) → TranslateSeen
translate_seen answer tape = record { answer = answer; tape = tape }

-- "success writes only .. the tape's own length" of the buffer that is lent; `setting` is the one at the start
unfoldable pub translate_of : (part setting : ℕ) (job payload buffer : List ℕ) → TranslateSeen
translate_of part setting job payload buffer =
    let tape = tape_of (part_of part) job payload in
    answered (translate_refusal part setting job payload (length buffer))
    (translate_seen (translate_told (Ok (length tape))) (tape ++ drop (length tape) buffer))
    (λ z. translate_seen (translate_told (Err z)) buffer)

-- ---- quote: the bill beforehand, with the refusals of translate but 26; nothing that is lent changes

pub record BillTold : Type 0 where
  pub served : Bool
  pub number : ℕ
  pub index : ℕ
  pub bill : Bill

abbrev pub quote_told : Result Bill Refusal → BillTold
quote_told (Ok b) = record { served = true; number = 0; index = 0; bill = b }
quote_told (Err z) = record { served = false; number = number_of z; index = index_of z; bill = no_bill }

unfoldable pub quote_of : (part setting : ℕ) (job : List ℕ) (payload_length : ℕ) → BillTold
quote_of part setting job payload_length =
    answered (job_refusal part setting job payload_length) (quote_told (Ok (bill_of (steps_of job)))) (λ z. quote_told (Err z))
