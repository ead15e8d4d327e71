-- What it takes for a transaction to be carried out: every test of document 01's list of verdicts was passed.
use Rattle.std.specs.Prelude.{Option, Some, None}
use mathlib.Core.Path.{◌≡◌, refl, sym, ap, ◌∙◌, subst}
use mathlib.Core.Bool.{Bool, true, false, not}
use mathlib.Core.List.{List}
use Prim.Native.Nat.{ℕ, ◌<◌}
use native.Mathlib.Omega.{arith}
use lib.ListN.{length, get_or}
use borrow.Author.Tests.{eqb-false, ne_eqb, not-false}
use Rattle.lists.specs.Choice.{if◌then◌otherwise◌, ◌=?◌}
use Rattle.lists.proofs.Choice.{took_other}
use Rattle.rules.specs.declared.Regs.{Regs}
use Rattle.rules.specs.declared.Write.{Write}
use Rattle.rules.specs.declared.Kind.{Kind}
use Rattle.rules.specs.declared.Kind.TheVariants.{WriteEnable, WriteDisable, ReadStatusLow, ReadStatusHigh, Read, FastRead, Sleep, Wake, ReadMakerDevice, ReadJedec, Writes}
use Rattle.rules.specs.declared.Verdict.{Verdict}
use Rattle.rules.specs.declared.Reason.{Reason}
use Rattle.rules.specs.declared.Reason.TheVariants.{Busy, Asleep, NoCommand, Misshapen, NotEnabled, Locked}
use Rattle.rules.specs.declared.Verdict.TheVariants.{CarriedOut, Ignored}
use Rattle.rules.specs.Kinds.{of_write, of_known}
use Rattle.rules.specs.Part.{Part, command_of, shaped}
use Rattle.rules.specs.Protection.{first_protected}
use Rattle.rules.specs.Writes.{reach_start, reach_length, locked_out}
use Rattle.rules.specs.Verdict.{address_of, unheard_asleep, unheard_busy, verdict_of}
use Rattle.laws.specs.Judged.{protection_verdict, write_verdict, kind_verdict, judge_of}
use Rattle.laws.proofs.Judged.{verdict_judged}
use Rattle.rules.specs.Transaction.{turn_by, turn_of}

-- ---- a kind writes nothing, or it writes

pub record Plain (k : Kind) : Type 1 where
  pub writes_nothing : (A : Type 0) (d : A) (f : Write → A) → of_write k d f ≡ d

pub by_write {ℓ} : (P : Kind → Type ℓ) → ((k : Kind) → Plain k → P k) → ((w : Write) → P (Writes w)) → (k : Kind) → P k
unfolding of_write
by_write P f g WriteEnable = f WriteEnable (record { writes_nothing = λ A d h. refl })
by_write P f g WriteDisable = f WriteDisable (record { writes_nothing = λ A d h. refl })
by_write P f g ReadStatusLow = f ReadStatusLow (record { writes_nothing = λ A d h. refl })
by_write P f g ReadStatusHigh = f ReadStatusHigh (record { writes_nothing = λ A d h. refl })
by_write P f g Read = f Read (record { writes_nothing = λ A d h. refl })
by_write P f g FastRead = f FastRead (record { writes_nothing = λ A d h. refl })
by_write P f g Sleep = f Sleep (record { writes_nothing = λ A d h. refl })
by_write P f g Wake = f Wake (record { writes_nothing = λ A d h. refl })
by_write P f g ReadMakerDevice = f ReadMakerDevice (record { writes_nothing = λ A d h. refl })
by_write P f g ReadJedec = f ReadJedec (record { writes_nothing = λ A d h. refl })
by_write P f g (Writes w) = g w

pub not_both : (k : Kind) → Plain k → (w : Write) → k ≡ Writes w → ⊥
unfolding of_write
not_both k h w e =
    let z : ◌≡◌ {A = ℕ} 0 1 = sym (h.writes_nothing ℕ 0 (λ v. 1)) ∙ ap (λ (j : Kind). of_write j 0 (λ v. 1)) e in
    omega arith

-- ---- the tests

-- what is asked of a write at address a: not 14, not 15, not 16
pub record WritePassed (p : Part) (r : Regs) (high : Bool) (a : ℕ) (w : Write) : Type 0 where
  pub enabled : r.wel ≡ true
  pub unlocked : locked_out w r high ≡ false
  pub bare : first_protected p r.setting (reach_start w a) (reach_length p w) ≡ None

-- what is asked of any command: none of 10 to 16
pub record Passed (p : Part) (r : Regs) (b : List ℕ) (x : ℕ) (high : Bool) (k : Kind) : Type 0 where
  pub not_empty : 0 < length b
  pub awake : unheard_asleep p r (get_or b 0 0) ≡ false
  pub idle : unheard_busy p r (get_or b 0 0) ≡ false
  pub known : command_of p (get_or b 0 0) ≡ Some k
  pub formed : shaped p (get_or b 0 0) (length b) x ≡ true
  pub may_write : (w : Write) → k ≡ Writes w → WritePassed p r high (address_of p b) w

-- ---- from the verdict to the tests

-- a choice that is carried out took its other side
other : (t : Bool) (w : Reason) (v : Verdict) (k : Kind) → (if t then Ignored w otherwise v) ≡ CarriedOut k → (t ≡ false) × (v ≡ CarriedOut k)
other t w v k = took_other (λ (u : Verdict). u ≡ CarriedOut k) t (Ignored w) v (λ q. let z : ◌≡◌ {A = ℕ} 0 1 = cc in omega arith)

unprotected : (j k : Kind) (f : Option ℕ) → protection_verdict j f ≡ CarriedOut k → (j ≡ k) × (f ≡ None)
unprotected j k (Some y) e = let z : ◌≡◌ {A = ℕ} 0 1 = cc in absurd (omega arith)
unprotected j k None e = (cc, refl)

is_known : (c : Option Kind) (f : Kind → Verdict) (k : Kind) → of_known c (Ignored NoCommand) f ≡ CarriedOut k → (j : Kind) × (c ≡ Some j) × (f j ≡ CarriedOut k)
unfolding of_known
is_known None f k e = let z : ◌≡◌ {A = ℕ} 0 1 = cc in absurd (omega arith)
is_known (Some j) f k e = (j, refl, e)

module _ (p : Part) (r : Regs) (high : Bool) (a : ℕ) where
  write_passed : (w : Write) (j k : Kind) → write_verdict p r high a j w ≡ CarriedOut k → (j ≡ k) × WritePassed p r high a w
  unfolding write_verdict
  write_passed w j k e =
      let e1 = other (not r.wel) NotEnabled _ k e in
      let e2 = other (locked_out w r high) Locked _ k e1.1 in
      let e3 = unprotected j k _ e2.1 in
      (e3.0, record { enabled = not-false _ e1.0; unlocked = e2.0; bare = e3.1 })

  kind_passed : (k j : Kind) → of_write j (CarriedOut j) (write_verdict p r high a j) ≡ CarriedOut k
      → (j ≡ k) × ((w : Write) → j ≡ Writes w → WritePassed p r high a w)
  unfolding of_write
  kind_passed k =
      by_write
      (λ j. of_write j (CarriedOut j) (write_verdict p r high a j) ≡ CarriedOut k → (j ≡ k) × ((w : Write) → j ≡ Writes w → WritePassed p r high a w))
      (λ j h e. let s = sym (h.writes_nothing Verdict (CarriedOut j) (write_verdict p r high a j)) ∙ e in (cc, λ w q. absurd (not_both j h w q)))
      (λ v e. let h = write_passed v (Writes v) k e in
      (h.0, λ w q. let s : v ≡ w = cc in subst (λ (u : Write). WritePassed p r high a u) s h.1))

pub carried_passed : (p : Part) (r : Regs) (b : List ℕ) (x : ℕ) (high : Bool) (k : Kind) → verdict_of p r b x high ≡ CarriedOut k → Passed p r b x high k
unfolding judge_of kind_verdict
carried_passed p r b x high k e =
    let op = get_or b 0 0 in
    let e1 = other (length b =? 0) NoCommand _ k (sym (verdict_judged p r b x high) ∙ e) in
    let e2 = other (unheard_asleep p r op) Asleep _ k e1.1 in
    let e3 = other (unheard_busy p r op) Busy _ k e2.1 in
    let e4 = is_known (command_of p op) _ k e3.1 in
    let e5 = other (not (shaped p op (length b) x)) Misshapen _ k e4.2 in
    let e6 = kind_passed p r high (address_of p b) k e4.0 e5.1 in
    let n = eqb-false (length b) 0 e1.0 in
    record {
      not_empty = omega arith;
      awake = e2.0;
      idle = e3.0;
      known = e4.1 ∙ ap Some e6.0;
      formed = not-false _ e5.0;
      may_write = λ w q. e6.1 w (e6.0 ∙ q);
    }

-- ---- from the tests to the verdict

module _ (p : Part) (r : Regs) (high : Bool) (a : ℕ) where
  passed_kind : (k : Kind) → ((w : Write) → k ≡ Writes w → WritePassed p r high a w) → of_write k (CarriedOut k) (write_verdict p r high a k) ≡ CarriedOut k
  unfolding of_write write_verdict if◌then◌otherwise◌
  passed_kind =
      by_write
      (λ k. ((w : Write) → k ≡ Writes w → WritePassed p r high a w) → of_write k (CarriedOut k) (write_verdict p r high a k) ≡ CarriedOut k)
      (λ k h q. h.writes_nothing Verdict (CarriedOut k) (write_verdict p r high a k))
      (λ w q. let h = q w refl in simp (h.enabled, h.unlocked, h.bare))

pub passed_carried : (p : Part) (r : Regs) (b : List ℕ) (x : ℕ) (high : Bool) (k : Kind) → Passed p r b x high k → verdict_of p r b x high ≡ CarriedOut k
unfolding judge_of kind_verdict of_known if◌then◌otherwise◌
passed_carried p r b x high k h =
    let n = h.not_empty in
    verdict_judged p r b x high
    ∙ rw (ne_eqb (length b) 0 (λ e. omega arith), h.awake, h.idle, h.known, h.formed) (passed_kind p r high (address_of p b) k h.may_write)

-- ---- the turn that a verdict makes

pub turn_is : (p : Part) (r : Regs) (l b : List ℕ) (x : ℕ) (high : Bool) (v : Verdict) → verdict_of p r b x high ≡ v → turn_of p r l b x high ≡ turn_by p r l b v
unfolding turn_of
turn_is p r l b x high v e = ap (turn_by p r l b) e
