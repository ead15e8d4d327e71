-- Where no byte of a stretch is protected: 25 looks at a lay's span, 16 at the page of each program.
use Rattle.std.specs.Prelude.{Some, None}
use mathlib.Core.Path.{◌≡◌, refl, sym, ◌∙◌}
use mathlib.Core.Bool.{Bool, true, false}
use Prim.Native.Nat.{ℕ, ◌+◌, ◌≤◌, ◌<◌, min, max}
use native.Mathlib.Omega.{arith}
use lib.Dec.{ltb}
use borrow.Author.Tests.{ltb-false}
use Rattle.lists.specs.Choice.{if◌then◌otherwise◌}
use Rattle.lists.proofs.Search.{overlap, overlap_no}
use Rattle.rules.specs.Units.{page, page_start}
use Rattle.rules.specs.Part.{Part}
use Rattle.rules.specs.Protection.{first_protected}
use Rattle.laws.proofs.Sound.{Sound}
use Rattle.laws.proofs.Protection.{first_protected_lem, none_protected, bare_none}

-- no byte of the n from a on is protected at setting s
abbrev pub Bare : Part → ℕ → ℕ → ℕ → Type 0
Bare p s a n = first_protected p s a n ≡ None

-- a stretch inside a bare one
pub bare_part : (p : Part) (s a n b m : ℕ) → a ≤ b → b + m ≤ a + n → Bare p s a n → Bare p s b m
bare_part p s a n b m h k e = bare_none p s b m (λ x q r. none_protected p s a n e x (omega arith) (omega arith))

apart : (lo hi a n : ℕ) → overlap lo hi a n ≡ None → min (a + n) hi ≤ max a lo
unfolding if◌then◌otherwise◌
apart lo hi a n e = go (ltb (max a lo) (min (a + n) hi)) refl e
  where
    go : (t : Bool) → ltb (max a lo) (min (a + n) hi) ≡ t → (if t then Some (max a lo) otherwise None) ≡ None → min (a + n) hi ≤ max a lo
    go true f g = let z : ◌≡◌ {A = ℕ} 0 1 = cc in absurd (omega arith)
    go false f g = ltb-false _ _ f

-- a protected area begins and ends with a page: so where one byte is bare, its page is
pub bare_page : (p : Part) → Sound p → (s a n : ℕ) → 0 < n → Bare p s a n → Bare p s (page_start a) page
bare_page p h s a n k e =
    let lo = h.lo_page s in
    let hi = h.hi_page s in
    let f : min (a + n) (p.hi s) ≤ max a (p.lo s) = apart (p.lo s) (p.hi s) a n (sym (first_protected_lem p s a n) ∙ e) in
    first_protected_lem p s (page_start a) page ∙ overlap_no (p.lo s) (p.hi s) (page_start a) page (omega arith)
