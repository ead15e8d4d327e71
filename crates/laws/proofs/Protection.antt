-- The first protected byte, worked out from the ends of the area; and what it says byte by byte.
use Rattle.std.specs.Prelude.{None}
use mathlib.Core.Path.{◌≡◌}
use mathlib.Core.Bool.{false}
use Prim.Native.Nat.{ℕ, ◌+◌, ◌≤◌, ◌<◌}
use Rattle.lists.proofs.Search.{overlap, first_overlap, first_none, none_first}
use Rattle.rules.specs.Part.{Part}
use Rattle.rules.specs.Protection.{is_protected, first_protected}

pub first_protected_lem : (p : Part) (s a n : ℕ) → first_protected p s a n ≡ overlap (p.lo s) (p.hi s) a n
unfolding first_protected is_protected
first_protected_lem p s a n = first_overlap (p.lo s) (p.hi s) a n

-- where none is found, no byte of the stretch is protected
pub none_protected : (p : Part) (s a n : ℕ) → first_protected p s a n ≡ None → (x : ℕ) → a ≤ x → x < a + n → is_protected p s x ≡ false
unfolding first_protected
none_protected p s a n e = first_none (is_protected p s) a n e

-- .. and the other way round
pub bare_none : (p : Part) (s a n : ℕ) → ((x : ℕ) → a ≤ x → x < a + n → is_protected p s x ≡ false) → first_protected p s a n ≡ None
unfolding first_protected
bare_none p s a n h = none_first (is_protected p s) a n h
