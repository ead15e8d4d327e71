-- The table of commands decides: what a row says of its code is what the chip goes by.
use Rattle.std.specs.Prelude.{Some, None}
use mathlib.Core.Path.{◌≡◌, refl, ap}
use mathlib.Core.Bool.{true, ◌&&◌}
use mathlib.Core.Logic.{◌⊎◌, ⊎_map, ◌↔◌}
use mathlib.Core.List.{List, [], ◌∷◌}
use Prim.Native.Nat.{ℕ, ◌≤◌}
use borrow.Author.Tests.{eqb-true, eq-eqb, leb-true, le-leb}
use Rattle.lists.specs.Choice.{◌=?◌}
use Rattle.lists.proofs.Choice.{both_true, either_true}
use Rattle.rules.specs.declared.Bytes.{Bytes}
use Rattle.rules.specs.declared.Bytes.TheVariants.{Exactly, Either, OrMore}
use Rattle.rules.specs.declared.Leftover.{Leftover}
use Rattle.rules.specs.declared.Leftover.TheVariants.{NoBits, AnyBits}
use Rattle.rules.specs.declared.Row.{Row}
use Rattle.rules.specs.Part.{Part, takes, leaves, row_of, command_by, command_of, shaped}
use Rattle.laws.proofs.Rows.{Each, Unlisted, end, ◌⊳◌, no_row, rows_found}
use Rattle.laws.proofs.Sound.{Sound}

-- n bytes are right for a row, x leftover bits are
abbrev pub Takes : Bytes → ℕ → Type 0
Takes (Exactly k) n = n ≡ k
Takes (Either j k) n = (n ≡ j) ⊎ (n ≡ k)
Takes (OrMore k) n = k ≤ n

abbrev pub Leaves : Leftover → ℕ → Type 0
Leaves NoBits x = x ≡ 0
Leaves AnyBits x = Unit {0}

takes-is : (b : Bytes) (n : ℕ) → takes b n ≡ true ↔ Takes b n
unfolding takes ⊎_map
takes-is (Exactly k) n = (eqb-true n k, eq-eqb n k)
takes-is (Either j k) n =
    let h = either_true (n =? j) (n =? k) in
    (λ e. ⊎_map (eqb-true n j) (eqb-true n k) (h.0 e), λ e. h.1 (⊎_map (eq-eqb n j) (eq-eqb n k) e))
takes-is (OrMore k) n = (leb-true k n, le-leb k n)

leaves-is : (x : Leftover) (n : ℕ) → leaves x n ≡ true ↔ Leaves x n
unfolding leaves
leaves-is NoBits n = (eqb-true n 0, eq-eqb n 0)
leaves-is AnyBits n = (λ e. tt, λ e. refl)

-- a row's rule
rule : (b : Bytes) (y : Leftover) (n x : ℕ) → (takes b n && leaves y x) ≡ true ↔ Takes b n × Leaves y x
rule b y n x = (
  λ e. let d = both_true (takes b n) (leaves y x) e in ((takes-is b n).0 d.0, (leaves-is y x).0 d.1),
  λ h. rw ((takes-is b n).1 h.0) ((leaves-is y x).1 h.1),
)

-- the code of a row says the row's kind, and its byte count and leftover bits are right where the row has them so
abbrev pub Decides : Part → Row → Type 0
Decides p w =
    (command_of p w.code ≡ Some w.kind)
    × ((n x : ℕ) → shaped p w.code n x ≡ true ↔ Takes w.bytes n × Leaves w.leftover x)

found_decides : (p : Part) (w : Row) → row_of p w.code ≡ Some w → Decides p w
found_decides p w e = (ap command_by e, λ n x. rw e (rule w.bytes w.leftover n x))

all_decide : (p : Part) (ws : List Row) → Each (λ w. row_of p w.code ≡ Some w) ws → Each (Decides p) ws
all_decide p [] end = end
all_decide p (w ∷ ws) (h ⊳ hs) = found_decides p w h ⊳ all_decide p ws hs

-- every row of every sound chip
pub rows_decide : (p : Part) → Sound p → Each (Decides p) p.commands
unfolding row_of
rows_decide p sound = all_decide p p.commands (rows_found p.commands sound.has_distinct_codes)

-- a code that no row has is unknown: 12
pub unlisted_is_unknown : (p : Part) (op : ℕ) → Unlisted op p.commands → command_of p op ≡ None
unfolding row_of
unlisted_is_unknown p op h = ap command_by (no_row op p.commands h)
