-- The rows of a chip's table of commands: what holds of each, a code that stands in none, and tests of a whole table.
use Rattle.std.specs.Prelude.{Some, None}
use mathlib.Core.Path.{◌≡◌, refl, sym}
use mathlib.Core.Bool.{Bool, true, false, not, ◌&&◌}
use mathlib.Core.List.{List, [], ◌∷◌}
use Prim.Native.Nat.{ℕ, ◌<◌}
use native.Mathlib.Omega.{arith}
use borrow.Author.Tests.{eq-eqb, ne_eqb, eqb-false, leb-true, not-true}
use Rattle.lists.specs.Choice.{if◌then◌otherwise◌, ◌=?◌, ◌≤?◌}
use Rattle.lists.proofs.Choice.{both_true}
use Rattle.rules.specs.declared.Kind.{Kind}
use Rattle.rules.specs.declared.Row.{Row}
use Rattle.rules.specs.Part.{row_in, command_by}

infixr 5 ◌⊳◌
-- P holds of each row
pub data Each (P : Row → Type 0) : List Row → Type 0 where
  end : Each P []
  ◌⊳◌ : {w : Row} {ws : List Row} → P w → Each P ws → Each P (w ∷ ws)

-- op is the code of no row
abbrev pub Unlisted : ℕ → List Row → Type 0
Unlisted op = Each (λ w. op ≡ w.code → ⊥)

pub no_row : (op : ℕ) (ws : List Row) → Unlisted op ws → row_in ws op ≡ None
unfolding row_in if◌then◌otherwise◌
no_row op [] end = refl
no_row op (w ∷ ws) (h ⊳ hs) = rw (ne_eqb op w.code h) (no_row op ws hs)

-- ---- every code is a byte

unfoldable pub byte_codes : List Row → Bool
byte_codes [] = true
byte_codes (w ∷ ws) = (w.code ≤? 255) && byte_codes ws

pub far : (ws : List Row) → byte_codes ws ≡ true → (op : ℕ) → 255 < op → Unlisted op ws
unfolding byte_codes
far [] e op h = end
far (w ∷ ws) e op h =
    let b = both_true (w.code ≤? 255) (byte_codes ws) e in
    let k = leb-true w.code 255 b.0 in
    (λ (q : op ≡ w.code). omega arith) ⊳ far ws b.1 op h

-- ---- no code stands in two rows

unfoldable pub unlisted_in : ℕ → List Row → Bool
unlisted_in op [] = true
unlisted_in op (w ∷ ws) = not (op =? w.code) && unlisted_in op ws

unfoldable pub distinct_codes : List Row → Bool
distinct_codes [] = true
distinct_codes (w ∷ ws) = unlisted_in w.code ws && distinct_codes ws

-- rows found in ws are found behind a row of another code
behind : (w : Row) (ws vs : List Row) → unlisted_in w.code vs ≡ true
    → Each (λ v. row_in ws v.code ≡ Some v) vs → Each (λ v. row_in (w ∷ ws) v.code ≡ Some v) vs
unfolding unlisted_in row_in if◌then◌otherwise◌
behind w ws [] e end = end
behind w ws (v ∷ vs) e (h ⊳ hs) =
    let b = both_true (not (w.code =? v.code)) (unlisted_in w.code vs) e in
    let apart = ne_eqb v.code w.code (λ q. eqb-false w.code v.code (not-true _ b.0) (sym q)) in
    ◌⊳◌ {w = v} (rw apart h) (behind w ws vs b.1 hs)

-- so the code of each row finds that row
pub rows_found : (ws : List Row) → distinct_codes ws ≡ true → Each (λ w. row_in ws w.code ≡ Some w) ws
unfolding distinct_codes row_in if◌then◌otherwise◌
rows_found [] e = end
rows_found (w ∷ ws) e =
    let b = both_true (unlisted_in w.code ws) (distinct_codes ws) e in
    ◌⊳◌ {w = w} (rw (eq-eqb w.code w.code refl) refl) (behind w ws ws b.0 (rows_found ws b.1))

-- ---- what holds of every row's kind, a test that is computed, holds of what a code says

unfoldable pub every_kind : (Kind → Bool) → List Row → Bool
every_kind f [] = true
every_kind f (w ∷ ws) = f w.kind && every_kind f ws

pub kind_said : (f : Kind → Bool) (ws : List Row) → every_kind f ws ≡ true → (op : ℕ) (k : Kind) → command_by (row_in ws op) ≡ Some k → f k ≡ true
unfolding every_kind row_in if◌then◌otherwise◌
kind_said f [] h op k e = let z : ◌≡◌ {A = ℕ} 0 1 = cc in absurd (omega arith)
kind_said f (w ∷ ws) h op k e =
    let b = both_true (f w.kind) (every_kind f ws) h in
    go (op =? w.code) b.0 (kind_said f ws b.1 op k) e
  where
    go : (t : Bool) → f w.kind ≡ true → (command_by (row_in ws op) ≡ Some k → f k ≡ true) → command_by (if t then Some w otherwise row_in ws op) ≡ Some k → f k ≡ true
    go true a rest q = let s : w.kind ≡ k = cc in rw (← s) a
    go false a rest q = rest q
