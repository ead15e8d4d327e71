-- One step of an accepted job, played: what the step means.
use mathlib.Core.Path.{◌≡◌, refl, ◌∙◌}
use mathlib.Core.Bool.{Bool, true, false}
use mathlib.Core.List.{List, ◌++◌}
use Prim.Native.Nat.{ℕ, suc, ◌+◌, ◌-◌, ◌/◌, ◌≤◌, ◌<◌}
use native.Mathlib.Omega.{arith}
use lib.ListN.{length, get_or, drop, length-drop}
use lib.Seq.{length-take-le}
use Rattle.lists.proofs.Choice.{by_choice}
use Rattle.lists.proofs.Patched.{patched-length}
use Rattle.rules.specs.declared.EraseUnit.{EraseUnit}
use Rattle.rules.specs.declared.EraseUnit.TheVariants.{Sector, Block32, Block64, Chip}
use Rattle.rules.specs.declared.Write.TheVariants.{Erase, WriteStatus}
use Rattle.rules.specs.declared.Kind.TheVariants.{Writes}
use Rattle.rules.specs.declared.Regs.{Regs}
use Rattle.rules.specs.declared.Span.{Span}
use Rattle.rules.specs.declared.Step.{Step}
use Rattle.rules.specs.declared.Step.TheVariants.{EraseAt, Lay, Guard}
use Rattle.rules.specs.Kinds.{code_of}
use Rattle.rules.specs.Units.{page, unit_start, unit_length}
use Rattle.rules.specs.Part.{Part}
use Rattle.rules.specs.Cells.{erased}
use Rattle.rules.specs.Status.{with_wel, with_busy}
use Rattle.rules.specs.Verdict.{address_of}
use Rattle.rules.specs.Tape.{Rec}
use Rattle.rules.specs.Play.{State, state, play}
use Rattle.rules.specs.Job.{lay_bytes, meant, setting_meant, guarded, regs_meant}
use Rattle.rules.specs.JobRefusals.{beyond}
use Rattle.rules.specs.Records.{erase_bytes, step_recs}
use Rattle.rules.specs.Bill.{pages_touched, step_bill}
use Rattle.laws.proofs.Sound.{unit_end}
use Rattle.laws.proofs.Inside.{lay_inside, erase_inside, unit_offered, guard_held}
use Rattle.laws.proofs.JobPassed.{StepOk, lay-covered}
use Rattle.laws.proofs.Protection.{bare_none}
use Rattle.demand.specs.Raised.{raised}
use Rattle.demand.proofs.Lay.{laid-length}
use Rattle.laws.proofs.Tapeable.{Tapeable}
use Rattle.demand.proofs.Fit.{Calm, Fit, calm_wel}
use Rattle.demand.proofs.Three.{Says, settled_plain, three_play}
use Rattle.demand.proofs.Bare.{Bare}
use Rattle.demand.proofs.Address.{unit_back}
use Rattle.demand.proofs.Rise.{counted-raised}
use Rattle.demand.proofs.Pages.{Layable, pages_play}

-- the state that a step means
abbrev pub after_step : Part → List ℕ → Step → State → State
after_step p payload w s = state (regs_meant p s.regs w) (meant p payload s.array w) (raised s.meter (step_bill w))

lay-length : (payload : List ℕ) (w : Span) → beyond (length payload) (Lay w) ≡ false → length (lay_bytes payload w) ≡ w.length
lay-length payload w e =
    let h = lay-covered (length payload) w e in
    length-take-le w.length (drop w.offset payload) (omega (arith, length-drop w.offset payload))

calm_guarded : (p : Part) (r : Regs) → Calm r → (g : ℕ) → Calm (guarded p r g)
calm_guarded p r c g =
    record { awake = c.awake; idle = c.idle; unlocked = by_choice (λ (b : Bool). b ≡ false) p.guard_clears false r.srp1 refl c.unlocked }

erased_same : (size : ℕ) (l : List ℕ) (u : EraseUnit) (a b : ℕ) → unit_start u a ≡ unit_start u b → erased size l u a ≡ erased size l u b
unfolding erased
erased_same size l u a b e = rw e

erased-length : (size : ℕ) (l : List ℕ) (u : EraseUnit) (a : ℕ) → unit_start u a + unit_length size u ≤ length l → length (erased size l u a) ≡ length l
unfolding erased
erased-length size l u a h = patched-length l (unit_start u a) (unit_length size u) _ h

-- the setting that the next step's check goes by
pub step_setting : (p : Part) (r : Regs) (w : Step) → (regs_meant p r w).setting ≡ setting_meant r.setting w
step_setting p r (EraseAt u a) = refl
step_setting p r (Lay w) = refl
step_setting p r (Guard g) = refl

module _ (p : Part) (law : Tapeable p) where
  erase_says : (u : EraseUnit) (a : ℕ) → p.erases u ≡ true → Says p (Writes (Erase u)) (erase_bytes u a)
  erase_says u a e = record { not_empty = not_empty u; code = code u; offers = law.unit_erased u a e }
    where
      not_empty : (u : EraseUnit) → 0 < length (erase_bytes u a)
      not_empty Sector = omega arith
      not_empty Block32 = omega arith
      not_empty Block64 = omega arith
      not_empty Chip = omega arith

      code : (u : EraseUnit) → get_or (erase_bytes u a) 0 0 ≡ code_of (Writes (Erase u))
      code Sector = refl
      code Block32 = refl
      code Block64 = refl
      code Chip = refl

  guard_says : (g : ℕ) → g ≤ p.setting_limit → Says p (Writes WriteStatus) (p.guard_bytes g)
  guard_says g k = record { not_empty = law.guard_some g; code = law.guard_code g; offers = law.guards g k }

  module _ (payload : List ℕ) (s : State) (fit : Fit p s) where
    -- the records of a step do what it means, and the records es come after them
    pub step_play : (w : Step) → StepOk p s.regs.setting (length payload) w → (es : List Rec)
        → play p (step_recs p payload w ++ es) s ≡ play p es (after_step p payload w s)
    step_play (EraseAt u a) k es =
        let b : List ℕ = erase_bytes u a in
        let back : unit_start u (address_of p b) ≡ unit_start u a = unit_back p law.sound u a (erase_inside p u a k.inside) in
        let free : Bare p s.regs.setting (unit_start u (address_of p b)) (unit_length p.size u) =
        rw back k.bare in
        three_play p law s fit.calm (Erase u) b (erase_says u a (unit_offered p u a k.inside)) free es
        ∙ (λ i. play p es (state (settled_plain s.regs fit.calm i) (erased_same p.size s.array u _ _ back i) (counted-raised s.meter (Erase u) i)))
    step_play (Lay w) k es =
        let bs : List ℕ = lay_bytes payload w in
        let n : ℕ = (w.address + w.length - 1) / page - w.address / page in
        let long : length bs ≡ w.length = lay-length payload w k.covered in
        let i = lay_inside p w k.inside in
        let not_empty = i.not_empty in
        let ends = i.ends in
        let free : Bare p s.regs.setting w.address (length bs) = rw long k.bare in
        let q : Layable p s w.address (length bs) = record { not_empty = omega arith; ends = omega arith; bare = free } in
        let e : pages_touched w.address w.length ≡ suc n = omega arith in
        rw e (pages_play p law n s fit w.address bs q (omega arith) es)
    step_play (Guard g) k es =
        let b : List ℕ = p.guard_bytes g in
        let held : g ≤ p.setting_limit = guard_held p g k.inside in
        let r : Regs = s.regs in
        let free : Bare p r.setting 0 0 = bare_none p r.setting 0 0 (λ x q t. absurd (omega arith)) in
        let regs : with_wel (with_busy (p.status_written (with_wel r true) b) false) false ≡ with_wel (guarded p r g) false =
        rw (law.guard_written (with_wel r true) g held) (settled_plain (guarded p r g) (calm_guarded p r fit.calm g)) in
        three_play p law s fit.calm WriteStatus b (guard_says g held) free es
        ∙ (λ i. play p es (state (regs i) s.array (counted-raised s.meter WriteStatus i)))

    -- .. and leave the chip fit for the next
    pub step_fit : (w : Step) → StepOk p s.regs.setting (length payload) w → Fit p (after_step p payload w s)
    step_fit (EraseAt u a) k =
        let e = unit_end p law.sound u a (erase_inside p u a k.inside) in
        let long = fit.long in
        record { calm = calm_wel s.regs fit.calm false; long = erased-length p.size s.array u a (omega arith) ∙ long }
    step_fit (Lay w) k =
        let e = (lay_inside p w k.inside).ends in
        let n = lay-length payload w k.covered in
        let long = fit.long in
        record { calm = calm_wel s.regs fit.calm false; long = laid-length s.array w.address (lay_bytes payload w) (omega arith) ∙ long }
    step_fit (Guard g) k =
        record { calm = calm_wel (guarded p s.regs g) (calm_guarded p s.regs fit.calm g) false; long = fit.long }
