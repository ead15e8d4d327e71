-- The bill: by how much a job raises the meter, and how long its tape is. From the job alone; no record is looked at.
-- Document 01, "Jobs and tapes": "this is also its rise of programs. An erase or guard raises its own count by one."
use Rattle.std.specs.Prelude.{ℕ, ◌+◌, ◌-◌, ◌*◌, ◌/◌, List, [], ◌∷◌}
use Rattle.rules.specs.declared.Step.{Step}
use Rattle.rules.specs.declared.Step.TheVariants.{EraseAt, Lay, Guard}
use Rattle.rules.specs.declared.Bill.{Bill}
use Rattle.rules.specs.Units.{page}
use Rattle.rules.specs.Tape.{record_length}

infixl 65 ◌plus◌
-- "a lay at A of length L touches floor((A+L-1)/256) - floor(A/256) + 1 pages"
abbrev pub pages_touched : ℕ → ℕ → ℕ
pages_touched a n = (a + n - 1) / page - a / page + 1

-- "becomes three records": the bytes of one command on the tape
abbrev pub command_length : ℕ
command_length = 3 * record_length

-- .. and of n commands
abbrev pub tape_length : ℕ → ℕ
tape_length n = command_length * n

-- programs rise by the pages touched; "an erase or guard raises its own count by one"
abbrev pub step_bill : Step → Bill
step_bill (EraseAt u a) = record { programs = 0; erases = 1; register_writes = 0; length = tape_length 1 }
step_bill (Lay s) =
    record { programs = pages_touched s.address s.length; erases = 0; register_writes = 0; length = tape_length (pages_touched s.address s.length) }
step_bill (Guard g) = record { programs = 0; erases = 0; register_writes = 1; length = tape_length 1 }

abbrev pub no_bill : Bill
no_bill = record { programs = 0; erases = 0; register_writes = 0; length = 0 }

abbrev pub ◌plus◌ : Bill → Bill → Bill
a plus b = record { programs = a.programs + b.programs; erases = a.erases + b.erases; register_writes = a.register_writes + b.register_writes; length = a.length + b.length }

unfoldable pub bill_of : List Step → Bill
bill_of [] = no_bill
bill_of (s ∷ ss) = step_bill s plus bill_of ss
