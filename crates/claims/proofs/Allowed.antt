-- Demand 2: a command that document 01 allows is carried out, with its effect; and none other is.
use Rattle.std.specs.Prelude.{Some}
use mathlib.Core.Path.{◌≡◌, refl, sym, ap, subst}
use mathlib.Core.Bool.{Bool, true, false, not, ◌&&◌}
use mathlib.Core.List.{List, ◌++◌}
use mathlib.Core.Logic.{◌⊎◌, inl, inr, ⊎_elim, ⊎_map, ◌↔◌}
use Prim.Native.Nat.{ℕ, ◌<◌}
use native.Mathlib.Omega.{arith}
use lib.ListN.{length, get_or, drop}
use borrow.Author.Tests.{not-false}
use Rattle.lists.specs.Places.{tabulate}
use Rattle.lists.proofs.Choice.{either_false}
use Rattle.rules.specs.declared.Kept.{Kept}
use Rattle.rules.specs.declared.Meter.{Meter}
use Rattle.rules.specs.declared.Regs.{Regs}
use Rattle.rules.specs.declared.Write.{Write}
use Rattle.rules.specs.declared.Write.TheVariants.{Program, Erase, WriteStatus}
use Rattle.rules.specs.declared.Kind.{Kind}
use Rattle.rules.specs.declared.Kind.TheVariants.{Writes}
use Rattle.rules.specs.declared.Verdict.TheVariants.{CarriedOut}
use Rattle.rules.specs.Kinds.{code_of, of_write}
use Rattle.rules.specs.Part.{Part, command_of, shaped}
use Rattle.rules.specs.Parts.{part_of}
use Rattle.rules.specs.Status.{regs_of, kept_of}
use Rattle.rules.specs.Protection.{is_protected}
use Rattle.rules.specs.Writes.{reach_start, reach_length, locked, locked_out, array_written}
use Rattle.rules.specs.Verdict.{address_of, unheard_asleep, unheard_busy, verdict_of}
use Rattle.rules.specs.Transaction.{Turn, driven_at, regs_done, turn_of}
use Rattle.rules.specs.Counts.{counted}
use Rattle.rules.specs.Transact.{TransactSeen, is_high, transact_of}
use Rattle.laws.proofs.Accepted.{Taken}
use Rattle.laws.proofs.Answered.{transact_served_lem}
use Rattle.laws.proofs.Protection.{none_protected, bare_none}
use Rattle.laws.proofs.CarriedOut.{Passed, carried_passed, passed_carried, turn_is}
use Rattle.claims.proofs.Choices.{both_false}
use Rattle.claims.proofs.Reach.{In}
use Rattle.claims.proofs.Entry.{not_refused, answered_0}

-- ---- what document 01 allows

-- "locked when SRP1 is 1, or when SRP0 is 1 and /WP is low and QE is 0", said of the other case
pub record Unlocked (r : Regs) (high : Bool) : Type 0 where
  pub srp1_clear : r.srp1 ≡ false
  pub srp0_moot : (r.srp0 ≡ false) ⊎ (high ≡ true) ⊎ (r.qe ≡ true)

-- a write at address a: WEL is 1, a status write is not locked, no byte of its page or unit is protected
pub record MayWrite (p : Part) (r : Regs) (high : Bool) (a : ℕ) (w : Write) : Type 0 where
  pub enabled : r.wel ≡ true
  pub unlocked : w ≡ WriteStatus → Unlocked r high
  pub bare : (y : ℕ) → In (reach_start w a) (reach_length p w) y → is_protected p r.setting y ≡ false

-- bytes b with x leftover bits, as a command of kind k
pub record Allowed (p : Part) (r : Regs) (b : List ℕ) (x : ℕ) (high : Bool) (k : Kind) : Type 0 where
  -- at least one whole byte
  pub not_empty : 0 < length b
  -- awake, or a code that is heard asleep
  pub awake : (r.awake ≡ true) ⊎ (p.heard_asleep (get_or b 0 0) ≡ true)
  -- idle, or a code that is heard while BUSY is 1
  pub idle : (r.busy ≡ false) ⊎ (p.heard_busy (get_or b 0 0) ≡ true)
  -- the code stands in the table, and byte count and leftover bits are those of its row
  pub known : command_of p (get_or b 0 0) ≡ Some k
  pub formed : shaped p (get_or b 0 0) (length b) x ≡ true
  pub may_write : (w : Write) → k ≡ Writes w → MayWrite p r high (address_of p b) w

-- ---- and what it does then

pub record Effect (p : Part) (r : Regs) (l b : List ℕ) (k : Kind) (t : Turn) : Type 0 where
  pub verdict : t.verdict ≡ CarriedOut k
  pub regs : t.regs ≡ regs_done p r b k
  pub array : t.array ≡ of_write k l (array_written p l b (address_of p b))
  pub out : t.out ≡ tabulate (length b) (driven_at p r l b k)

-- ---- the tests, said positively

unheard_asleep_is : (p : Part) (r : Regs) (op : ℕ) → unheard_asleep p r op ≡ false ↔ (r.awake ≡ true) ⊎ (p.heard_asleep op ≡ true)
unfolding unheard_asleep ⊎_map
unheard_asleep_is p r op =
    let h = both_false (not r.awake) (not (p.heard_asleep op)) in
    (λ e. ⊎_map (not-false _) (not-false _) (h.0 e), λ e. h.1 (⊎_map (ap not) (ap not) e))

unheard_busy_is : (p : Part) (r : Regs) (op : ℕ) → unheard_busy p r op ≡ false ↔ (r.busy ≡ false) ⊎ (p.heard_busy op ≡ true)
unfolding unheard_busy ⊎_map
unheard_busy_is p r op =
    let h = both_false r.busy (not (p.heard_busy op)) in
    (λ e. ⊎_map (λ d. d) (not-false _) (h.0 e), λ e. h.1 (⊎_map (λ d. d) (ap not) e))

locked-is : (r : Regs) (high : Bool) → locked r high ≡ false ↔ Unlocked r high
unfolding locked
locked-is r high =
    let g = both_false r.srp0 (not high) in
    let h = both_false (r.srp0 && not high) (not r.qe) in (
      λ e. let d = either_false r.srp1 _ e in
          record {
            srp1_clear = d.0;
            srp0_moot = ⊎_elim (λ c. ⊎_elim inl (λ w. inr (inl (not-false _ w))) (g.0 c)) (λ q. inr (inr (not-false _ q))) (h.0 d.1);
          },
      λ u. rw u.srp1_clear
          (h.1 (⊎_elim (λ s. inl (g.1 (inl s))) (⊎_elim (λ w. inl (g.1 (inr (ap not w)))) (λ q. inr (ap not q))) u.srp0_moot)),
    )

locked-out-is : (r : Regs) (high : Bool) (w : Write) → locked_out w r high ≡ false ↔ (w ≡ WriteStatus → Unlocked r high)
locked-out-is r high Program = (λ e q. let z : ◌≡◌ {A = ℕ} 0 1 = cc in absurd (omega arith), λ h. refl)
locked-out-is r high (Erase u) = (λ e q. let z : ◌≡◌ {A = ℕ} 0 1 = cc in absurd (omega arith), λ h. refl)
locked-out-is r high WriteStatus = (λ e q. (locked-is r high).0 e, λ h. (locked-is r high).1 (h refl))

-- ---- both ways

module _ (p : Part) (r : Regs) (b : List ℕ) (x : ℕ) (high : Bool) (k : Kind) where
  allowed_passed : Allowed p r b x high k → Passed p r b x high k
  allowed_passed h =
      let op = get_or b 0 0 in
      record {
        not_empty = h.not_empty;
        awake = (unheard_asleep_is p r op).1 h.awake;
        idle = (unheard_busy_is p r op).1 h.idle;
        known = h.known;
        formed = h.formed;
        may_write =
            λ w q. let m = h.may_write w q in
            record {
              enabled = m.enabled;
              unlocked = (locked-out-is r high w).1 m.unlocked;
              bare = bare_none p r.setting (reach_start w (address_of p b)) (reach_length p w) (λ y c d. m.bare y (c, d));
            };
      }

  pub carried_out_is_allowed : verdict_of p r b x high ≡ CarriedOut k → Allowed p r b x high k
  carried_out_is_allowed e =
      let op = get_or b 0 0 in
      let h = carried_passed p r b x high k e in
      record {
        not_empty = h.not_empty;
        awake = (unheard_asleep_is p r op).0 h.awake;
        idle = (unheard_busy_is p r op).0 h.idle;
        known = h.known;
        formed = h.formed;
        may_write =
            λ w q. let m = h.may_write w q in
            record {
              enabled = m.enabled;
              unlocked = (locked-out-is r high w).0 m.unlocked;
              bare = λ y i. none_protected p r.setting (reach_start w (address_of p b)) (reach_length p w) m.bare y i.0 i.1;
            };
      }

  pub allowed_is_carried_out : (l : List ℕ) → Allowed p r b x high k → Effect p r l b k (turn_of p r l b x high)
  allowed_is_carried_out l h =
      rw (turn_is p r l b x high (CarriedOut k) (passed_carried p r b x high k (allowed_passed h)))
      (record { verdict = refl; regs = refl; array = refl; out = refl })

-- ---- and so for a caller of the entry

-- what a caller is left with after a command of kind k: the answer is 0 and the kind's code, "success writes only the first n
-- output bytes", and the meter is brought up to date
pub record EffectLent (part : ℕ) (kept : Kept) (m : Meter) (l o b : List ℕ) (k : Kind) (s : TransactSeen) : Type 0 where
  pub served : s.answer.served ≡ true
  pub number : s.answer.number ≡ 0
  pub code : s.answer.code ≡ code_of k
  pub index : s.answer.index ≡ 0
  pub regs : s.answer.regs ≡ kept_of (regs_done (part_of part) (regs_of kept) b k)
  pub meter : s.answer.meter ≡ of_write k m (counted m)
  pub array : s.array ≡ of_write k l (array_written (part_of part) l b (address_of (part_of part) b))
  pub out : s.out ≡ tabulate (length b) (driven_at (part_of part) (regs_of kept) l b k) ++ drop (length b) o

module _ (part : ℕ) (kept : Kept) (m : Meter) (l o b : List ℕ) (x wp : ℕ) where
  abbrev r : Regs
  r = regs_of kept

  -- a transaction that none of 1 to 7 refuses, of a command that document 01 allows
  pub allowed_is_carried_out_lent : (k : Kind) → Taken part (length l) kept (length b) x (length o) m → Allowed (part_of part) r b x (is_high wp) k
      → EffectLent part kept m l o b k (transact_of part kept m l o b x wp)
  allowed_is_carried_out_lent k c h =
      let e = passed_carried (part_of part) r b x (is_high wp) k (allowed_passed (part_of part) r b x (is_high wp) k h) in
      subst (EffectLent part kept m l o b k)
      (transact_served_lem part kept m l o b x wp (CarriedOut k) (not_refused part (length l) kept (length b) x (length o) m c) (sym e))
      (record { served = refl; number = refl; code = refl; index = refl; regs = refl; meter = refl; array = refl; out = refl })

  -- .. and none other answers 0
  pub carried_out_is_allowed_lent : (transact_of part kept m l o b x wp).answer.number ≡ 0
      → Taken part (length l) kept (length b) x (length o) m × ((k : Kind) × Allowed (part_of part) r b x (is_high wp) k)
  carried_out_is_allowed_lent n =
      let h = answered_0 part kept m l o b x wp n in
      (h.1.unrefused, (h.0, carried_out_is_allowed (part_of part) r b x (is_high wp) h.0 h.1.carried))
