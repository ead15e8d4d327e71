-- A tape holds the records of a job: each fits, and together they are as long as the bill says.
use mathlib.Core.Path.{◌≡◌, refl}
use mathlib.Core.List.{List, [], ◌∷◌}
use Prim.Native.Nat.{ℕ, zero, suc, ◌+◌, ◌*◌, ◌≤◌}
use native.Mathlib.Omega.{arith}
use lib.ListN.{length, drop, length-append, length-take}
use Rattle.rules.specs.declared.EraseUnit.{EraseUnit}
use Rattle.rules.specs.declared.EraseUnit.TheVariants.{Sector, Block32, Block64, Chip}
use Rattle.rules.specs.declared.Kind.TheVariants.{WriteEnable}
use Rattle.rules.specs.declared.Step.{Step}
use Rattle.rules.specs.declared.Step.TheVariants.{EraseAt, Lay, Guard}
use Rattle.rules.specs.Kinds.{code_of}
use Rattle.rules.specs.Part.{Part}
use Rattle.rules.specs.Tape.{record_length, sent_limit}
use Rattle.rules.specs.Job.{lay_bytes}
use Rattle.rules.specs.Records.{three_recs, erase_bytes, left_in_page, page_recs, step_recs, job_recs}
use Rattle.rules.specs.Bill.{pages_touched, step_bill, bill_of}
use Rattle.laws.proofs.RecordOk.{RecsOk, no_recs, next, transaction_ok, finish_ok, ok_append}
use Rattle.laws.proofs.Tapeable.{Tapeable}

-- ---- each record fits

pub three_ok : (b : List ℕ) → length b ≤ sent_limit → RecsOk (three_recs b)
three_ok b h = next (transaction_ok {b = code_of WriteEnable ∷ []} {x = 0} (omega arith) (omega arith)) (next (transaction_ok {x = 0} h (omega arith)) (next finish_ok no_recs))

pages_ok : (n a : ℕ) (bs : List ℕ) → RecsOk (page_recs n a bs)
unfolding page_recs
pages_ok zero a bs = no_recs
pages_ok (suc n) a bs = ok_append (three_ok _ (omega (arith, length-take (left_in_page a) bs))) (pages_ok n (a + left_in_page a) (drop (left_in_page a) bs))

erase_short : (u : EraseUnit) (a : ℕ) → length (erase_bytes u a) ≤ sent_limit
erase_short Sector a = omega arith
erase_short Block32 a = omega arith
erase_short Block64 a = omega arith
erase_short Chip a = omega arith

pub step_ok : (p : Part) → Tapeable p → (payload : List ℕ) (w : Step) → RecsOk (step_recs p payload w)
step_ok p law payload (EraseAt u a) = three_ok (erase_bytes u a) (erase_short u a)
step_ok p law payload (Lay s) = pages_ok (pages_touched s.address s.length) s.address (lay_bytes payload s)
step_ok p law payload (Guard g) = let h = law.guard_short g in three_ok _ (omega arith)

pub recs_ok : (p : Part) → Tapeable p → (payload : List ℕ) (ws : List Step) → RecsOk (job_recs p payload ws)
unfolding job_recs
recs_ok p law payload [] = no_recs
recs_ok p law payload (w ∷ ws) = ok_append (step_ok p law payload w) (recs_ok p law payload ws)

-- ---- the length of the tape

pub pages_long : (n a : ℕ) (bs : List ℕ) → length (page_recs n a bs) ≡ 3 * n
unfolding page_recs
pages_long zero a bs = refl
pages_long (suc n) a bs = let ih = pages_long n (a + left_in_page a) (drop (left_in_page a) bs) in omega arith

step_long : (p : Part) (payload : List ℕ) (w : Step) → length (step_recs p payload w) * record_length ≡ (step_bill w).length
step_long p payload (EraseAt u a) = refl
step_long p payload (Lay w) =
    let e = pages_long (pages_touched w.address w.length) w.address (lay_bytes payload w) in omega arith
step_long p payload (Guard g) = refl

pub recs_long : (p : Part) (payload : List ℕ) (ws : List Step) → length (job_recs p payload ws) * record_length ≡ (bill_of ws).length
unfolding job_recs bill_of
recs_long p payload [] = refl
recs_long p payload (w ∷ ws) =
    let ih = recs_long p payload ws in
    let e = step_long p payload w in
    omega (arith, length-append (step_recs p payload w) (job_recs p payload ws))
