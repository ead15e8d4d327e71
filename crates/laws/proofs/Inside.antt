-- What the absence of refusal 23 says of a step: what it touches lies in the chip, and the chip has its unit or setting.
use mathlib.Core.Path.{◌≡◌}
use mathlib.Core.Bool.{Bool, true, false, not, ◌||◌}
use Prim.Native.Nat.{ℕ, ◌+◌, ◌≤◌, ◌<◌}
use native.Mathlib.Omega.{arith}
use borrow.Author.Tests.{leb-false, ltb-false, eqb-false, not-false}
use Rattle.lists.specs.Choice.{◌=?◌, ◌<?◌, ◌≤?◌}
use Rattle.lists.proofs.Choice.{either_false}
use Rattle.rules.specs.declared.EraseUnit.{EraseUnit}
use Rattle.rules.specs.declared.Span.{Span}
use Rattle.rules.specs.declared.Step.{Step}
use Rattle.rules.specs.declared.Step.TheVariants.{EraseAt, Lay, Guard}
use Rattle.rules.specs.Part.{Part}
use Rattle.rules.specs.JobRefusals.{lay_limit, chip_not_at_zero, outside, step_start, step_reach}
use Rattle.laws.proofs.Sound.{Sound, unit_end}

pub record Inside (p : Part) (s : Span) : Type 0 where
  pub starts : s.address < p.size
  pub not_empty : 0 < s.length
  pub few : s.length ≤ lay_limit
  pub ends : s.address + s.length ≤ p.size

module _ (p : Part) where
  pub lay_inside : (s : Span) → outside p (Lay s) ≡ false → Inside p s
  lay_inside s e =
      let t1 : Bool = p.size ≤? s.address in
      let t2 : Bool = s.length =? 0 in
      let t3 : Bool = lay_limit <? s.length in
      let a = either_false (t1 || t2 || t3) (p.size <? s.address + s.length) e in
      let b = either_false (t1 || t2) t3 a.0 in
      let c = either_false t1 t2 b.0 in
      let z = eqb-false s.length 0 c.1 in
      record { starts = leb-false _ _ c.0; not_empty = omega arith; few = ltb-false _ _ b.1; ends = ltb-false _ _ a.1 }

  module _ (u : EraseUnit) (a : ℕ) (e : outside p (EraseAt u a) ≡ false) where
    passed : (not (p.erases u) ≡ false) × ((p.size ≤? a) ≡ false)
    passed = either_false (not (p.erases u)) (p.size ≤? a) (either_false (not (p.erases u) || (p.size ≤? a)) (chip_not_at_zero u a) e).0

    pub erase_inside : a < p.size
    erase_inside = leb-false _ _ passed.1

    pub unit_offered : p.erases u ≡ true
    unit_offered = not-false _ passed.0

  pub guard_held : (g : ℕ) → outside p (Guard g) ≡ false → g ≤ p.setting_limit
  guard_held g e = ltb-false p.setting_limit g e

  pub step_end : Sound p → (w : Step) → outside p w ≡ false → step_start w + step_reach p w ≤ p.size
  step_end h (EraseAt u a) e = unit_end p h u a (erase_inside u a e)
  step_end h (Lay s) e = (lay_inside s e).ends
  step_end h (Guard g) e = omega arith
