-- Which bytes a setting protects. Document 01, "Status bits and protection".
use Rattle.std.specs.Prelude.{ℕ, Bool, ◌&&◌, Option, is_some}
use Rattle.lists.specs.Choice.{◌<?◌, ◌≤?◌}
use Rattle.lists.specs.Places.{first_in}
use Rattle.rules.specs.Part.{Part}

-- byte x is protected at setting s
unfoldable pub is_protected : Part → ℕ → ℕ → Bool
is_protected p s x = (p.lo s ≤? x) && (x <? p.hi s)

-- the first protected byte among the n from a on
unfoldable pub first_protected : Part → ℕ → ℕ → ℕ → Option ℕ
first_protected p s a n = first_in (is_protected p s) a n

-- some byte of the n from a on is protected
unfoldable pub some_protected : Part → ℕ → ℕ → ℕ → Bool
some_protected p s a n = is_some (first_protected p s a n)
