-- Document 01, verdict 16: a protected byte stays, whatever is sent and whatever the verdict.
use mathlib.Core.Path.{◌≡◌, refl, ap}
use mathlib.Core.Bool.{Bool, true}
use mathlib.Core.List.{List}
use Prim.Native.Nat.{ℕ}
use native.Mathlib.Omega.{arith}
use lib.ListN.{length, get_or}
use Rattle.rules.specs.declared.Regs.{Regs}
use Rattle.rules.specs.declared.Kept.{Kept}
use Rattle.rules.specs.declared.Meter.{Meter}
use Rattle.rules.specs.declared.Write.{Write}
use Rattle.rules.specs.declared.Kind.TheVariants.{Writes}
use Rattle.rules.specs.declared.Verdict.{Verdict}
use Rattle.rules.specs.declared.Verdict.TheVariants.{CarriedOut, Ignored}
use Rattle.rules.specs.Kinds.{of_write}
use Rattle.rules.specs.Part.{Part}
use Rattle.rules.specs.Parts.{part_of}
use Rattle.rules.specs.Status.{regs_of}
use Rattle.rules.specs.Protection.{is_protected}
use Rattle.rules.specs.Writes.{reach_start, reach_length, array_written}
use Rattle.rules.specs.Verdict.{address_of, verdict_of}
use Rattle.rules.specs.Transaction.{array_after, turn_of}
use Rattle.rules.specs.Transact.{is_high, transact_of}
use Rattle.laws.proofs.Sound.{Sound}
use Rattle.laws.proofs.Parts.{part_sound}
use Rattle.laws.proofs.Protection.{none_protected}
use Rattle.laws.proofs.CarriedOut.{by_write, carried_passed}
use Rattle.claims.proofs.Reach.{In, address_inside, outside_reach, written_length}
use Rattle.claims.proofs.Entry.{by_answer, by_array}

module _ (p : Part) (sound : Sound p) (r : Regs) (l b : List ℕ) (x : ℕ) (high : Bool) (long : length l ≡ p.size) where
  -- the bytes that a write which is carried out may touch are not protected
  out_of_reach : (w : Write) → verdict_of p r b x high ≡ CarriedOut (Writes w) → (y : ℕ) → is_protected p r.setting y ≡ true
      → In (reach_start w (address_of p b)) (reach_length p w) y → ⊥
  out_of_reach w e y h i =
      let bare = ((carried_passed p r b x high (Writes w) e).may_write w refl).bare in
      let q = none_protected p r.setting (reach_start w (address_of p b)) (reach_length p w) bare y i.0 i.1 in
      let z : ◌≡◌ {A = ℕ} 0 1 = cc in
      omega arith

  stays_at : (y : ℕ) → is_protected p r.setting y ≡ true → (v : Verdict) → verdict_of p r b x high ≡ v → get_or (array_after p l b v) y 0 ≡ get_or l y 0
  unfolding of_write
  stays_at y h (CarriedOut k) e =
      by_write (λ j. verdict_of p r b x high ≡ CarriedOut j → get_or (array_after p l b (CarriedOut j)) y 0 ≡ get_or l y 0)
      (λ j q f. ap (λ (m : List ℕ). get_or m y 0) (q.writes_nothing (List ℕ) l (array_written p l b (address_of p b))))
      (λ w f. outside_reach p sound l b (address_of p b) long (address_inside p sound b) w y (out_of_reach w f y h))
      k e
  stays_at y h (Ignored w) e = refl

pub protected_byte_stays : (p : Part) → Sound p → (r : Regs) (l b : List ℕ) (x : ℕ) (high : Bool) → length l ≡ p.size
    → (y : ℕ) → is_protected p r.setting y ≡ true
    → get_or (turn_of p r l b x high).array y 0 ≡ get_or l y 0
unfolding turn_of
protected_byte_stays p sound r l b x high long y h = stays_at p sound r l b x high long y h (verdict_of p r b x high) refl

-- .. and so in what a caller of the entry is left with, for any part number, registers, meter, array, bytes and level: a
-- refusal leaves the whole array
pub protected_byte_stays_lent : (part : ℕ) (kept : Kept) (m : Meter) (l o b : List ℕ) (x wp : ℕ)
    → (y : ℕ) → is_protected (part_of part) (regs_of kept).setting y ≡ true
    → get_or (transact_of part kept m l o b x wp).array y 0 ≡ get_or l y 0
protected_byte_stays_lent part kept m l o b x wp y h =
    by_array part kept m l o b x wp (λ a. get_or a y 0 ≡ get_or l y 0)
    (λ c k e. protected_byte_stays (part_of part) (part_sound part) (regs_of kept) l b x (is_high wp) c.begun.long y h)
    refl

-- .. and the array has as many bytes as it had
pub array_as_long_lent : (part : ℕ) (kept : Kept) (m : Meter) (l o b : List ℕ) (x wp : ℕ) → length (transact_of part kept m l o b x wp).array ≡ length l
unfolding of_write
array_as_long_lent part kept m l o b x wp =
    let p = part_of part in
    by_answer part kept m l o b x wp (λ s. length s.array ≡ length l)
    (λ c k e.
    by_write (λ j. length (array_after p l b (CarriedOut j)) ≡ length l)
    (λ j q. ap length (q.writes_nothing (List ℕ) l (array_written p l b (address_of p b))))
    (written_length p (part_sound part) l b (address_of p b) c.begun.long (address_inside p (part_sound part) b)) k)
    (λ c w e. refl)
    (λ z e h k. refl)
