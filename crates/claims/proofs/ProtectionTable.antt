-- The protection table in document 01's words, "Status bits and protection": for every setting, which bytes are protected.
use mathlib.Core.Path.{◌≡◌, refl}
use mathlib.Core.Bool.{true, ◌&&◌}
use mathlib.Core.Logic.{◌↔◌}
use Prim.Native.Nat.{ℕ, zero, suc, ◌-◌, ◌%◌, ◌≤◌, ◌<◌}
use native.Mathlib.Omega.{arith}
use borrow.Author.Tests.{leb-true, le-leb, ltb-true, lt-ltb}
use Rattle.lists.specs.Choice.{if◌then◌otherwise◌, ◌<?◌, ◌≤?◌}
use Rattle.lists.proofs.Choice.{both_true}
use Rattle.rules.specs.Fm25q16.{fm_sec0, fm_sec1, fm_area, fm_lo, fm_hi, fm25q16}
use Rattle.rules.specs.Parts.{part_of}
use Rattle.rules.specs.Protection.{is_protected}
use Rattle.claims.specs.ProtectionTable.{Area, bytes, BP, TB, SEC, ◌∣◌∣◌, line_0, line_1, line_2, line_3, line_4, line_5, line_6, line_7, AtTop, AtBottom, AsInTable}

-- each line's two columns are the areas that the chip's description has
area_is : (s b : ℕ) (sec0 sec1 : Area) → s % 8 ≡ b → b ∣ sec0 ∣ sec1 → (SEC s ≡ 0 → fm_area s ≡ bytes sec0) × (SEC s ≡ 1 → fm_area s ≡ bytes sec1)
unfolding fm_area fm_sec0 fm_sec1 if◌then◌otherwise◌
area_is s b sec0 sec1 h line_0 = (λ e. rw (e, h), λ e. rw (e, h))
area_is s b sec0 sec1 h line_1 = (λ e. rw (e, h), λ e. rw (e, h))
area_is s b sec0 sec1 h line_2 = (λ e. rw (e, h), λ e. rw (e, h))
area_is s b sec0 sec1 h line_3 = (λ e. rw (e, h), λ e. rw (e, h))
area_is s b sec0 sec1 h line_4 = (λ e. rw (e, h), λ e. rw (e, h))
area_is s b sec0 sec1 h line_5 = (λ e. rw (e, h), λ e. rw (e, h))
area_is s b sec0 sec1 h line_6 = (λ e. rw (e, h), λ e. rw (e, h))
area_is s b sec0 sec1 h line_7 = (λ e. rw (e, h), λ e. rw (e, h))

between : (lo hi x : ℕ) → ((lo ≤? x) && (x <? hi)) ≡ true ↔ (lo ≤ x) × (x < hi)
between lo hi x = (
  λ e. let h = both_true (lo ≤? x) (x <? hi) e in (leb-true lo x h.0, ltb-true x hi h.1),
  λ h. rw (le-leb lo x h.0, lt-ltb x hi h.1),
)

module _ (s : ℕ) (a : Area) (e : fm_area s ≡ bytes a) (x : ℕ) where
  top : TB s ≡ 0 → is_protected (part_of 1) s x ≡ true ↔ AtTop a x
  unfolding is_protected part_of fm25q16 fm_lo fm_hi if◌then◌otherwise◌
  top t = rw (t, e) (between (2097152 - bytes a) 2097152 x)

  bottom : TB s ≡ 1 → is_protected (part_of 1) s x ≡ true ↔ AtBottom a x
  unfolding is_protected part_of fm25q16 fm_lo fm_hi if◌then◌otherwise◌
  bottom t = let h = between 0 (bytes a) x in rw (t, e) (λ q. (h.0 q).1, λ q. h.1 (omega arith, q))

pub protected_as_in_the_table : (s : ℕ) (sec0 sec1 : Area) → BP s ∣ sec0 ∣ sec1 → AsInTable (part_of 1) s sec0 sec1
protected_as_in_the_table s sec0 sec1 line =
    let area = area_is s (BP s) sec0 sec1 refl line in
    record {
      sec0_top = λ e t x. top s sec0 (area.0 e) x t;
      sec0_bottom = λ e t x. bottom s sec0 (area.0 e) x t;
      sec1_top = λ e t x. top s sec1 (area.1 e) x t;
      sec1_bottom = λ e t x. bottom s sec1 (area.1 e) x t;
    }

-- .. and every setting has its line
line_of : (b : ℕ) → b < 8 → (sec0 : Area) × (sec1 : Area) × (b ∣ sec0 ∣ sec1)
line_of zero h = (_, _, line_0)
line_of (suc zero) h = (_, _, line_1)
line_of (suc (suc zero)) h = (_, _, line_2)
line_of (suc (suc (suc zero))) h = (_, _, line_3)
line_of (suc (suc (suc (suc zero)))) h = (_, _, line_4)
line_of (suc (suc (suc (suc (suc zero))))) h = (_, _, line_5)
line_of (suc (suc (suc (suc (suc (suc zero)))))) h = (_, _, line_6)
line_of (suc (suc (suc (suc (suc (suc (suc zero))))))) h = (_, _, line_7)
line_of (suc (suc (suc (suc (suc (suc (suc (suc b)))))))) h = absurd (omega arith)

pub every_setting_has_a_line : (s : ℕ) → (sec0 : Area) × (sec1 : Area) × (BP s ∣ sec0 ∣ sec1)
every_setting_has_a_line s = line_of (BP s) (omega arith)
