-- What a page's bytes become, in the terms that the code goes by.
use Rattle.std.specs.Prelude.{ℕ, suc, ◌%◌, List, [], ◌∷◌, get_or}
use Rattle.lists.specs.Choice.{if◌then◌otherwise◌, ◌=?◌}
use Rattle.rules.specs.Units.{page}
use Rattle.rules.specs.Cells.{cell}

-- the last of the data bs that goes to place j of a page, where the first goes to the offset off; d where none does
unfoldable pub last_sent : ℕ → List ℕ → ℕ → ℕ → ℕ
last_sent off [] j d = d
last_sent off (b ∷ bs) j d = last_sent (suc off) bs j (if off % page =? j then b otherwise d)

-- place j of the page l after the data bs
abbrev pub programmed_at : List ℕ → ℕ → List ℕ → ℕ → ℕ
programmed_at l off bs j = cell off bs j (get_or l j 0) (get_or l j 0)
