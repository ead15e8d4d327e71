-- The records of a whole job: that each fits its place on the tape, how many, and step after step.
use Rattle.std.specs.Prelude.{Option, Some, None}
use mathlib.Core.Path.{◌≡◌, refl, sym, ap, ◌∙◌}
use mathlib.Core.List.{List, ◌++◌}
use Prim.Native.Nat.{ℕ, suc, ◌+◌, ◌-◌, ◌*◌, ◌≤◌, ◌<◌}
use native.Mathlib.Omega.{arith}
use native.Mathlib.Numerals.{add-one}
use lib.ListN.{length, length-append}
use Rattle.rules.specs.declared.Step.{Step}
use Rattle.rules.specs.declared.Step.TheVariants.{EraseAt, Lay, Guard}
use Rattle.rules.specs.Part.{Part}
use Rattle.rules.specs.Parts.{part_of}
use Rattle.rules.specs.Tape.{Rec, encode}
use Rattle.rules.specs.Job.{step_at, steps_from, steps_of, with_step, lay_bytes}
use Rattle.rules.specs.Refusals.{passes}
use Rattle.rules.specs.JobRefusals.{job_refusal}
use Rattle.rules.specs.Records.{step_recs, job_recs}
use Rattle.rules.specs.Bill.{pages_touched, bill_of}
use Rattle.rules.specs.Translate.{tape_of}
use Rattle.laws.proofs.RecordOk.{RecsOk, no_recs}
use Rattle.tape.proofs.Encoded.{encode-length, encode-append}
use Rattle.laws.proofs.Parts.{part_tapeable}
use Rattle.demand.proofs.Holds.{step_ok, pages_long, recs_long}
use Rattle.demand.proofs.JobPlayed.{job_recs_ok}
use Rattle.translate.specs.Spliced.{spliced}
use Rattle.translate.specs.Writable.{Writable, record_count, decoded_recs, decoded_count}
use Rattle.translate.proofs.Splices.{splice_none, splice_recs}

-- ---- each record fits its place

decoded_ok : (part : ℕ) (payload : List ℕ) (d : Option Step) → RecsOk (decoded_recs (part_of part) payload d)
decoded_ok part payload (Some w) = step_ok (part_of part) (part_tapeable part) payload w
decoded_ok part payload None = no_recs

-- ---- how many they are

step_count : (p : Part) (payload : List ℕ) (w : Step) → length (step_recs p payload w) ≡ record_count w
step_count p payload (EraseAt u a) = refl
step_count p payload (Lay s) = pages_long (pages_touched s.address s.length) s.address (lay_bytes payload s)
step_count p payload (Guard g) = refl

pub decoded_count_lem : (p : Part) (payload : List ℕ) (d : Option Step) → length (decoded_recs p payload d) ≡ decoded_count d
decoded_count_lem p payload (Some w) = step_count p payload w
decoded_count_lem p payload None = refl

-- the tape of an accepted job is as long as the bill says
pub tape-long : (part s : ℕ) (job payload : List ℕ) → job_refusal part s job (length payload) ≡ passes → length (tape_of (part_of part) job payload) ≡ (bill_of (steps_of job)).length
unfolding tape_of
tape-long part s job payload ok =
    let e = encode-length (job_recs_ok part s job payload ok) in
    let f = recs_long (part_of part) payload (steps_of job) in
    e ∙ omega (arith, f)

-- ---- step after step

abbrev pub rest_recs : ℕ → List ℕ → List ℕ → ℕ → ℕ → List Rec
rest_recs part payload job i n = job_recs (part_of part) payload (steps_from job i n)

with_recs : (part : ℕ) (payload : List ℕ) (d : Option Step) (ws : List Step) → job_recs (part_of part) payload (with_step d ws) ≡ decoded_recs (part_of part) payload d ++ job_recs (part_of part) payload ws
unfolding job_recs
with_recs part payload (Some w) ws = refl
with_recs part payload None ws = refl

pub recs_next : (part : ℕ) (payload job : List ℕ) (i n : ℕ) → i < n
    → rest_recs part payload job i (n - i) ≡ decoded_recs (part_of part) payload (step_at job i) ++ rest_recs part payload job (i + 1) (n - (i + 1))
unfolding steps_from
recs_next part payload job i n h =
    let e : n - i ≡ suc (n - (i + 1)) = omega arith in
    ap (rest_recs part payload job i) e ∙ with_recs part payload (step_at job i) (steps_from job (suc i) (n - (i + 1)))
    ∙ ap (λ (k : ℕ). decoded_recs (part_of part) payload (step_at job i) ++ rest_recs part payload job k (n - (i + 1))) (sym (add-one i))

-- room for what is left is room for the next step and for what is left then
pub room_next : (part : ℕ) (payload job : List ℕ) (i n k : ℕ) (t : List ℕ) → i < n → 264 * (k + length (rest_recs part payload job i (n - i))) ≤ length t
    → 264 * (k + decoded_count (step_at job i) + length (rest_recs part payload job (i + 1) (n - (i + 1)))) ≤ length t
room_next part payload job i n k t h r =
    let d = decoded_recs (part_of part) payload (step_at job i) in
    let e = ap length (recs_next part payload job i n h) ∙ length-append d (rest_recs part payload job (i + 1) (n - (i + 1))) in
    let f = decoded_count_lem (part_of part) payload (step_at job i) in
    omega (arith, e, f)

-- one step put: what is left to do gives the same in the end
pub step_turn : (part : ℕ) (payload job tape tape' end : List ℕ) (i n k : ℕ) → i < n
    → 264 * (k + decoded_count (step_at job i)) ≤ length tape
    → tape' ≡ spliced tape (264 * k) (encode (decoded_recs (part_of part) payload (step_at job i)))
    → spliced tape (264 * k) (encode (rest_recs part payload job i (n - i))) ≡ end
    → spliced tape' (264 * (k + decoded_count (step_at job i))) (encode (rest_recs part payload job (i + 1) (n - (i + 1)))) ≡ end
step_turn part payload job tape tape' end i n k h room f inv =
    let d = decoded_recs (part_of part) payload (step_at job i) in
    let rest = rest_recs part payload job (i + 1) (n - (i + 1)) in
    let c = decoded_count (step_at job i) in
    let l = encode-length (decoded_ok part payload (step_at job i)) ∙ ap (λ (w : ℕ). 264 * w) (decoded_count_lem (part_of part) payload (step_at job i)) in
    ap (λ (w : List ℕ). spliced w (264 * (k + c)) (encode rest)) f
    ∙ splice_recs tape k c (encode d) (encode rest) l room
    ∙ ap (spliced tape (264 * k)) (sym (encode-append d rest) ∙ ap encode (sym (recs_next part payload job i n h)))
    ∙ inv

pub steps_over : (part : ℕ) (payload job tape end : List ℕ) (i n k : ℕ) → n ≤ i → spliced tape (264 * k) (encode (rest_recs part payload job i (n - i))) ≡ end → tape ≡ end
unfolding steps_from job_recs encode
steps_over part payload job tape end i n k h inv =
    let e : n - i ≡ 0 = omega arith in
    sym (splice_none tape (264 * k)) ∙ ap (λ (m : ℕ). spliced tape (264 * k) (encode (rest_recs part payload job i m))) (sym e) ∙ inv

-- a lay of lay_limit bytes touches 17 pages at most
pub count_few : (p : Part) (payload : List ℕ) (d : Option Step) → ((w : Step) → d ≡ Some w → Writable p payload w) → decoded_count d ≤ 51
count_few p payload None h = omega arith
count_few p payload (Some (EraseAt u a)) h = omega arith
count_few p payload (Some (Lay s)) h = let q = (h (Lay s) refl).lays s refl in omega arith
count_few p payload (Some (Guard g)) h = omega arith
