-- What a lent part holds at its places, and what it makes of the whole.
use mathlib.Core.Path.{◌≡◌, ap, ◌∙◌}
use mathlib.Core.List.{List}
use Prim.Native.Nat.{ℕ, ◌+◌, ◌-◌, ◌≤◌, ◌<◌}
use native.Mathlib.Omega.{arith}
use lib.ListN.{length, get_or, drop}
use lib.Seq.{get_or-take, get_or-drop}
use borrow.Rule.Slice.PartMut.{mid_of, put_mid}
use Rattle.lists.specs.Places.{tabulate, patched}
use Rattle.lists.proofs.Tabulate.{tab_same}
use Rattle.lists.proofs.Patched.{put_patched, part_long}

pub mid_at : (l : List ℕ) (a n j : ℕ) → j < n → get_or (mid_of a (a + n - a) l) j 0 ≡ get_or l (a + j) 0
mid_at l a n j h = get_or-take (a + n - a) (drop a l) j 0 (omega arith) ∙ get_or-drop a l j 0

-- a callee that knows only how long its part is left f at its places: so the whole is patched
pub part_patched : (l ys : List ℕ) (a n : ℕ) (f g : ℕ → ℕ) → a + n ≤ length l → ys ≡ tabulate (length (mid_of a (a + n - a) l)) f
    → ((j : ℕ) → j < n → f j ≡ g j) → put_mid a (a + n - a) l ys ≡ patched l a n g
part_patched l ys a n f g h e s =
    put_patched l ys a n g h (e ∙ ap (λ (k : ℕ). tabulate k f) (part_long l a n h) ∙ tab_same n f g s)
