-- The records that a job becomes. Document 01, "Jobs and tapes".
use Rattle.std.specs.Prelude.{ℕ, zero, suc, ◌+◌, ◌-◌, ◌/◌, ◌%◌, true, List, [], ◌∷◌, ◌++◌, take, drop}
use Rattle.rules.specs.declared.EraseUnit.{EraseUnit}
use Rattle.rules.specs.declared.EraseUnit.TheVariants.{Sector, Block32, Block64, Chip}
use Rattle.rules.specs.declared.Kind.TheVariants.{WriteEnable, Writes}
use Rattle.rules.specs.declared.Write.TheVariants.{Program, Erase}
use Rattle.rules.specs.declared.Step.{Step}
use Rattle.rules.specs.declared.Step.TheVariants.{EraseAt, Lay, Guard}
use Rattle.rules.specs.Kinds.{code_of}
use Rattle.rules.specs.Part.{Part}
use Rattle.rules.specs.Units.{page}
use Rattle.rules.specs.Tape.{Rec, transaction, finish}
use Rattle.rules.specs.Job.{lay_bytes}
use Rattle.rules.specs.Bill.{pages_touched}

-- "three records: 06, the command, finish, the first two with /WP high and no leftover bits"
abbrev pub three_recs : List ℕ → List Rec
three_recs b = transaction (code_of WriteEnable ∷ []) 0 true ∷ transaction b 0 true ∷ finish ∷ []

-- three bytes, high first
abbrev pub address_bytes : ℕ → List ℕ
address_bytes a = a / 65536 % 256 ∷ a / 256 % 256 ∷ a % 256 ∷ []

-- "erase addresses are sent as the job has them; a whole-chip erase is C7"
abbrev pub erase_bytes : EraseUnit → ℕ → List ℕ
erase_bytes Sector a = code_of (Writes (Erase Sector)) ∷ address_bytes a
erase_bytes Block32 a = code_of (Writes (Erase Block32)) ∷ address_bytes a
erase_bytes Block64 a = code_of (Writes (Erase Block64)) ∷ address_bytes a
erase_bytes Chip a = code_of (Writes (Erase Chip)) ∷ []

-- how many bytes from a on lie in the page of a
abbrev pub left_in_page : ℕ → ℕ
left_in_page a = page - a % page

-- n pages of a lay, in ascending order: bs from a on
unfoldable pub page_recs : ℕ → ℕ → List ℕ → List Rec
page_recs zero a bs = []
page_recs (suc n) a bs =
    three_recs (code_of (Writes Program) ∷ address_bytes a ++ take (left_in_page a) bs) ++ page_recs n (a + left_in_page a) (drop (left_in_page a) bs)

-- the records of a step
abbrev pub step_recs : Part → List ℕ → Step → List Rec
step_recs p payload (EraseAt u a) = three_recs (erase_bytes u a)
step_recs p payload (Lay s) = page_recs (pages_touched s.address s.length) s.address (lay_bytes payload s)
step_recs p payload (Guard g) = three_recs (p.guard_bytes g)

-- .. and of a job
unfoldable pub job_recs : Part → List ℕ → List Step → List Rec
job_recs p payload [] = []
job_recs p payload (s ∷ ss) = step_recs p payload s ++ job_recs p payload ss
