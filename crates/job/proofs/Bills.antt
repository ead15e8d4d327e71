-- The bills of a job's steps, one step more, and what they come to at most.
use Rattle.std.specs.Prelude.{Option, Some, None}
use mathlib.Core.Path.{◌≡◌, refl, sym, ap, ◌∙◌}
use mathlib.Core.List.{List, []}
use Prim.Native.Nat.{ℕ, zero, suc, ◌+◌, ◌≤◌, ◌<◌}
use native.Mathlib.Nat.{zero-add, add-zero, add_assoc}
use native.Mathlib.Numerals.{add-one}
use native.Mathlib.Omega.{arith}
use Rattle.rules.specs.declared.Step.{Step}
use Rattle.rules.specs.declared.Step.TheVariants.{EraseAt, Lay, Guard}
use Rattle.rules.specs.declared.Bill.{Bill}
use Rattle.rules.specs.Job.{step_at, step_count, with_step, steps_from}
use Rattle.rules.specs.Bill.{step_bill, no_bill, ◌plus◌, bill_of}
use Rattle.job.specs.Counted.{Billable, Counted, Upto, decoded_bill}

-- ---- at most

none_upto : (n : ℕ) → Upto no_bill n
none_upto n = omega arith

step_upto : (w : Step) → Billable w → Upto (step_bill w) 1
step_upto (EraseAt u a) h = omega arith
step_upto (Lay s) h =
    let k = h.lays s refl in
    omega arith
step_upto (Guard g) h = omega arith

plus_upto : (a b : Bill) (n : ℕ) → Upto a n → Upto b 1 → Upto (a plus b) (n + 1)
plus_upto a b n h k = omega arith

-- ---- one step more

plus_assoc : (a b c : Bill) → (a plus b) plus c ≡ a plus (b plus c)
plus_assoc a b c =
    λ i.
    record {
      programs = add_assoc a.programs b.programs c.programs i;
      erases = add_assoc a.erases b.erases c.erases i;
      register_writes = add_assoc a.register_writes b.register_writes c.register_writes i;
      length = add_assoc a.length b.length c.length i;
    }

none_plus : (b : Bill) → no_bill plus b ≡ b
none_plus b =
    λ i.
    record { programs = zero-add b.programs i; erases = zero-add b.erases i; register_writes = zero-add b.register_writes i; length = zero-add b.length i }

plus_none : (b : Bill) → b plus no_bill ≡ b
plus_none b =
    λ i.
    record { programs = add-zero b.programs i; erases = add-zero b.erases i; register_writes = add-zero b.register_writes i; length = add-zero b.length i }

with_bill : (d : Option Step) (ss : List Step) → bill_of (with_step d ss) ≡ decoded_bill d plus bill_of ss
unfolding bill_of
with_bill (Some w) ss = refl
with_bill None ss = sym (none_plus (bill_of ss))

module _ (job : List ℕ) where
  more : (a n : ℕ) → bill_of (steps_from job a (n + 1)) ≡ (bill_of (steps_from job a n) plus decoded_bill (step_at job (a + n)))
  unfolding steps_from bill_of
  more a zero = with_bill (step_at job a) [] ∙ plus_none _ ∙ rw (add-zero a) (sym (none_plus _))
  more a (suc n) =
      let e : suc n + 1 ≡ suc (n + 1) = omega arith in
      let d : suc a + n ≡ a + suc n = omega arith in
      rw (e, ← d) (
      with_bill (step_at job a) (steps_from job (suc a) (n + 1))
      ∙ ap (λ (x : Bill). decoded_bill (step_at job a) plus x) (more (suc a) n)
      ∙ sym (plus_assoc (decoded_bill (step_at job a)) (bill_of (steps_from job (suc a) n)) (decoded_bill (step_at job (suc a + n))))
      ∙ ap (λ (x : Bill). x plus decoded_bill (step_at job (suc a + n))) (sym (with_bill (step_at job a) (steps_from job (suc a) n))))

  pub bill_more : (n : ℕ) → bill_of (steps_from job 0 (n + 1)) ≡ (bill_of (steps_from job 0 n) plus decoded_bill (step_at job n))
  bill_more n = rw zero-add at (more 0 n)

  decoded_upto : (d : Option Step) → ((w : Step) → d ≡ Some w → Billable w) → Upto (decoded_bill d) 1
  decoded_upto (Some w) h = step_upto w (h w refl)
  decoded_upto None h = none_upto 1

  pub step_few : Counted job → (i : ℕ) → i < step_count job → Upto (decoded_bill (step_at job i)) 1
  step_few h i l = decoded_upto (step_at job i) (h.each i l)

  no_steps : bill_of (steps_from job 0 0) ≡ no_bill
  unfolding steps_from bill_of
  no_steps = refl

  pub steps_few : Counted job → (i : ℕ) → i ≤ step_count job → Upto (bill_of (steps_from job 0 i)) i
  steps_few h zero l = rw no_steps (none_upto 0)
  steps_few h (suc i) l =
      rw (← add-one i, bill_more i) (plus_upto _ _ i (steps_few h i (omega arith)) (step_few h i (omega arith)))
