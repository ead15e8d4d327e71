-- Lists that are given by their places, and searches among places.
use Rattle.std.specs.Prelude.{ℕ, zero, suc, ◌+◌, Bool, true, ◌&&◌, List, [], ◌∷◌, ◌++◌, take, drop, Option, Some, None}
use Rattle.lists.specs.Choice.{if◌then◌otherwise◌}

-- f k, f (k + 1), .. : n of them
unfoldable pub tabulate_from : ℕ → ℕ → (ℕ → ℕ) → List ℕ
tabulate_from k zero f = []
tabulate_from k (suc n) f = f k ∷ tabulate_from (suc k) n f

-- f 0, f 1, .. : n of them
unfoldable pub tabulate : ℕ → (ℕ → ℕ) → List ℕ
tabulate n f = tabulate_from 0 n f

-- l with the n places from a on replaced by f 0, f 1, ..
unfoldable pub patched : List ℕ → ℕ → ℕ → (ℕ → ℕ) → List ℕ
patched l a n f = take a l ++ (tabulate n f ++ drop (a + n) l)

-- the first of the n numbers from a on at which the test holds
unfoldable pub first_in : (ℕ → Bool) → ℕ → ℕ → Option ℕ
first_in test a zero = None
first_in test a (suc n) = if test a then Some a otherwise first_in test (suc a) n

-- the test holds at each of the n numbers from a on
unfoldable pub every_in : (ℕ → Bool) → ℕ → ℕ → Bool
every_in test a zero = true
every_in test a (suc n) = test a && every_in test (suc a) n
