-- What the 16 bytes of a step say, in document 01's words: `decoded_at` finds the step that they say, and Bad where they say none.
use Rattle.std.specs.Prelude.{Option, Some, None}
use mathlib.Core.Path.{◌≡◌, refl, sym, subst}
use mathlib.Core.Bool.{Bool, true, false, not}
use mathlib.Core.List.{List}
use mathlib.Core.Logic.{◌↔◌}
use Prim.Native.Nat.{ℕ, ◌+◌, ◌≤◌}
use native.Mathlib.Omega.{arith}
use lib.Dec.{eqb}
use lib.ListN.{get_or}
use borrow.Author.Tests.{eqb-true, eq-eqb, eqb-false, leb-true, le-leb, not-false}
use Rattle.lists.specs.Choice.{if◌then◌otherwise◌, ◌≤?◌}
use Rattle.lists.proofs.Choice.{both_true, took_other}
use Rattle.lists.proofs.Search.{every_at, at_every}
use Rattle.rules.specs.declared.EraseUnit.{EraseUnit}
use Rattle.rules.specs.declared.EraseUnit.TheVariants.{Sector, Block32, Block64, Chip}
use Rattle.rules.specs.declared.Step.{Step}
use Rattle.rules.specs.Tape.{is_zero}
use Rattle.rules.specs.Job.{zeros, unit_by, decoded_erase, decoded_lay, decoded_guard, decoded_at}
use Rattle.claims.specs.TurnedAway.{Zeros, unit_byte, Says, says_erase, says_lay, says_guard}

zeros-is : (job : List ℕ) (a n : ℕ) → zeros job a n ≡ true ↔ Zeros job a n
zeros-is job a n =
    (λ e y h k. eqb-true (get_or job y 0) 0 (every_at (is_zero job) a n e y h k), λ z. at_every (is_zero job) a n (λ y h k. eq-eqb (get_or job y 0) 0 (z y h k)))

unit_of : (u : EraseUnit) → (unit_byte u ≤ 3) × (unit_by (unit_byte u) ≡ u)
unfolding unit_by if◌then◌otherwise◌
unit_of Sector = (omega arith, refl)
unit_of Block32 = (omega arith, refl)
unit_of Block64 = (omega arith, refl)
unit_of Chip = (omega arith, refl)

byte_of : (n : ℕ) → n ≤ 3 → unit_byte (unit_by n) ≡ n
unfolding unit_by if◌then◌otherwise◌
byte_of n h = go (eqb n 0) (eqb n 1) (eqb n 2) refl refl refl
  where
    go : (s t u : Bool) → eqb n 0 ≡ s → eqb n 1 ≡ t → eqb n 2 ≡ u → unit_byte (if s then Sector otherwise if t then Block32 otherwise if u then Block64 otherwise Chip) ≡ n
    go true t u e f g = sym (eqb-true n 0 e)
    go false true u e f g = sym (eqb-true n 1 f)
    go false false true e f g = sym (eqb-true n 2 g)
    go false false false e f g = let i = eqb-false n 0 e in let j = eqb-false n 1 f in let k = eqb-false n 2 g in omega arith

module _ (job : List ℕ) (a : ℕ) where
  pub said_is_decoded : (w : Step) → Says job a w → decoded_at job a ≡ Some w
  unfolding decoded_at decoded_erase decoded_lay decoded_guard if◌then◌otherwise◌
  said_is_decoded w (says_erase u k c z rest) =
      rw ((zeros-is job (a + 2) 2).1 z, k, c, le-leb (unit_byte u) 3 (unit_of u).0, (zeros-is job (a + 8) 8).1 rest, (unit_of u).1) refl
  said_is_decoded w (says_lay k c z) = rw ((zeros-is job (a + 2) 2).1 z, k, c) refl
  said_is_decoded w (says_guard k c z rest) =
      rw ((zeros-is job (a + 2) 2).1 z, k, le-leb (get_or job (a + 1) 0) 31 c, (zeros-is job (a + 4) 12).1 rest) refl

  if-good : (t : Bool) (v w : Step) → (if t then Some v otherwise None) ≡ Some w → (t ≡ true) × (v ≡ w)
  unfolding if◌then◌otherwise◌
  if-good true v w e = (refl, cc)
  if-good false v w e = let z : ◌≡◌ {A = ℕ} 0 1 = cc in absurd (omega arith)

  erase_said : (w : Step) → get_or job a 0 ≡ 1 → Zeros job (a + 2) 2 → decoded_erase job a ≡ Some w → Says job a w
  unfolding decoded_erase
  erase_said w k z e =
      let h = if-good _ _ w e in
      let c = both_true (get_or job (a + 1) 0 ≤? 3) (zeros job (a + 8) 8) h.0 in
      subst (Says job a) h.1
      (says_erase (unit_by (get_or job (a + 1) 0)) k (sym (byte_of _ (leb-true _ _ c.0))) z ((zeros-is job (a + 8) 8).0 c.1))

  lay_said : (w : Step) → get_or job a 0 ≡ 2 → Zeros job (a + 2) 2 → decoded_lay job a ≡ Some w → Says job a w
  unfolding decoded_lay
  lay_said w k z e =
      let h = if-good _ _ w e in
      subst (Says job a) h.1 (says_lay k (eqb-true _ _ h.0) z)

  guard_said : (w : Step) → get_or job a 0 ≡ 3 → Zeros job (a + 2) 2 → decoded_guard job a ≡ Some w → Says job a w
  unfolding decoded_guard
  guard_said w k z e =
      let h = if-good _ _ w e in
      let c = both_true (get_or job (a + 1) 0 ≤? 31) (zeros job (a + 4) 12) h.0 in
      subst (Says job a) h.1 (says_guard k (leb-true _ _ c.0) z ((zeros-is job (a + 4) 12).0 c.1))

  bad_good : {A : Type 0} (w : Step) → None ≡ Some w → A
  bad_good w e = let z : ◌≡◌ {A = ℕ} 0 1 = cc in absurd (omega arith)

  pub decoded_is_said : (w : Step) → decoded_at job a ≡ Some w → Says job a w
  unfolding decoded_at if◌then◌otherwise◌
  decoded_is_said w e =
      let h = took_other (λ (d : Option Step). d ≡ Some w) (not (zeros job (a + 2) 2)) None _ (λ q. bad_good w q) e in
      let k = get_or job a 0 in
      go ((zeros-is job (a + 2) 2).0 (not-false _ h.0)) (eqb k 1) (eqb k 2) (eqb k 3) refl refl refl h.1
    where
      go : Zeros job (a + 2) 2 → (s t u : Bool) → eqb (get_or job a 0) 1 ≡ s → eqb (get_or job a 0) 2 ≡ t → eqb (get_or job a 0) 3 ≡ u
          → (if s then decoded_erase job a otherwise if t then decoded_lay job a otherwise if u then decoded_guard job a otherwise None) ≡ Some w → Says job a w
      go z true t u e f g q = erase_said w (eqb-true _ _ e) z q
      go z false true u e f g q = lay_said w (eqb-true _ _ f) z q
      go z false false true e f g q = guard_said w (eqb-true _ _ g) z q
      go z false false false e f g q = bad_good w q
