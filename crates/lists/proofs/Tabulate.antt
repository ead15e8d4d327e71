-- Laws of lists that are given by their places.
use mathlib.Core.Path.{◌≡◌, refl, sym, ap, ◌∙◌}
use mathlib.Core.Bool.{Bool, true, false}
use mathlib.Core.List.{List}
use Prim.Native.Nat.{ℕ, zero, suc, ◌+◌, ◌<◌}
use native.Mathlib.Omega.{arith}
use native.Mathlib.Nat.{add-zero, add-suc, suc-add, zero-add, le_of_suc-le-suc, not-suc-le-zero}
use lib.ListN.{length, get_or, set, length-replicate, get_or-replicate, length-set}
use lib.Seq.{ext_get_or, get_or-set_same, get_or-set_other}
use lib.Dec.{eqb}
use borrow.Author.Tests.{eqb-true, eqb-false}
use Rattle.lists.specs.Choice.{if◌then◌otherwise◌, ◌=?◌}
use Rattle.lists.specs.Places.{tabulate_from, tabulate}

-- ---- from a number on

from_length : (k n : ℕ) (f : ℕ → ℕ) → length (tabulate_from k n f) ≡ n
unfolding tabulate_from
from_length k zero f = refl
from_length k (suc n) f = ap suc (from_length (suc k) n f)

from_at : (k n : ℕ) (f : ℕ → ℕ) (i : ℕ) → i < n → get_or (tabulate_from k n f) i 0 ≡ f (k + i)
unfolding tabulate_from
from_at k zero f i h = absurd (not-suc-le-zero h)
from_at k (suc n) f zero h = ap f (sym (add-zero k))
from_at k (suc n) f (suc i) h = from_at (suc k) n f i (le_of_suc-le-suc h) ∙ ap f (suc-add k i ∙ sym (add-suc k i))

-- ---- a list by its places

pub tab_length : (n : ℕ) (f : ℕ → ℕ) → length (tabulate n f) ≡ n
unfolding tabulate
tab_length n f = from_length 0 n f

pub tab_at : (n : ℕ) (f : ℕ → ℕ) (i : ℕ) → i < n → get_or (tabulate n f) i 0 ≡ f i
unfolding tabulate
tab_at n f i h = from_at 0 n f i h ∙ ap f (zero-add i)

-- a list with the right length and the right places is it
pub tab_ext : (n : ℕ) (f : ℕ → ℕ) (l : List ℕ) → length l ≡ n → ((j : ℕ) → j < n → get_or l j 0 ≡ f j) → l ≡ tabulate n f
tab_ext n f l e h =
    ext_get_or 0 l (tabulate n f) (e ∙ sym (tab_length n f))
    (λ j k. h j (omega arith) ∙ sym (tab_at n f j (omega arith)))

-- a loop over the places, or a fill, is a list by its places; for a `#[tactic]`, which names no lemma with a dash
pub ruleset by_places = (tab_ext, length-replicate, get_or-replicate, length-set)

-- places that agree below n make the same list
pub tab_same : (n : ℕ) (f g : ℕ → ℕ) → ((j : ℕ) → j < n → f j ≡ g j) → tabulate n f ≡ tabulate n g
tab_same n f g h = tab_ext n g (tabulate n f) (tab_length n f) (λ j k. tab_at n f j k ∙ h j k)

-- ---- a store, by its places

pub set_if : (l : List ℕ) (k j b : ℕ) → k < length l → get_or (set l k b) j 0 ≡ (if k =? j then b otherwise get_or l j 0)
unfolding if◌then◌otherwise◌
set_if l k j b h = go (eqb k j) refl
  where
    go : (t : Bool) → eqb k j ≡ t → get_or (set l k b) j 0 ≡ (if t then b otherwise get_or l j 0)
    go true e = ap (λ (v : ℕ). get_or (set l k b) v 0) (sym (eqb-true k j e)) ∙ get_or-set_same l k b 0 h
    go false e = get_or-set_other l k j b 0 (λ q. eqb-false k j e (sym q))
