-- What a program and an erase make of the array. Document 01, "Program".
use Rattle.std.specs.Prelude.{ℕ, suc, ◌+◌, ◌%◌, List, [], ◌∷◌, get_or}
use Rattle.std.specs.Int.Bits.{bit_and}
use Rattle.lists.specs.Choice.{if◌then◌otherwise◌, ◌=?◌}
use Rattle.lists.specs.Places.{patched}
use Rattle.rules.specs.Units.{page, page_start, unit_start, unit_length}
use Rattle.rules.specs.declared.EraseUnit.{EraseUnit}

-- Place j of a page that held old, after the data bs, the first of which goes to the offset off and which wrap inside
-- the page: where a place is sent twice, the last counts; each place sent becomes old AND new; any other keeps `kept`.
unfoldable pub cell : ℕ → List ℕ → ℕ → ℕ → ℕ → ℕ
cell off [] j old kept = kept
cell off (b ∷ bs) j old kept = cell (suc off) bs j old (if off % page =? j then bit_and old b otherwise kept)

-- the data bs go to the page of address a, beginning at its offset; no other byte changes
unfoldable pub programmed : List ℕ → ℕ → List ℕ → List ℕ
programmed l a bs =
    patched l (page_start a) page (λ j. cell (a % page) bs j (get_or l (page_start a + j) 0) (get_or l (page_start a + j) 0))

abbrev pub ff : ℕ → ℕ
ff j = 0xFF

-- the unit that holds address a becomes FF, on a chip of that size
unfoldable pub erased : ℕ → List ℕ → EraseUnit → ℕ → List ℕ
erased size l u a = patched l (unit_start u a) (unit_length size u) ff
