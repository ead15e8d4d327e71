-- What an entry that is lent an array asks first, as one function of the code asks it.
use Rattle.std.specs.Prelude.{ℕ, not}
use Rattle.lists.specs.Choice.{if◌then◌otherwise◌, ◌=?◌}
use Rattle.rules.specs.declared.Kept.{Kept}
use Rattle.rules.specs.declared.Refusal.TheVariants.{UnknownPart, ArrayLength, NotWellFormed}
use Rattle.rules.specs.Parts.{is_part, part_of}
use Rattle.rules.specs.WellFormed.{well_formed}
use Rattle.rules.specs.Refusals.{Checked, passes, refused}

-- 1, 2, 3, and then w
abbrev pub opened_then : (part array_length : ℕ) (kept : Kept) → Checked → Checked
opened_then part array_length kept w =
    if not (is_part part) then refused UnknownPart otherwise
    if not (array_length =? (part_of part).size) then refused ArrayLength otherwise
    if not (well_formed (part_of part) kept) then refused NotWellFormed otherwise
    w

unfoldable pub opened_refusal : (part array_length : ℕ) (kept : Kept) → Checked
opened_refusal part array_length kept = opened_then part array_length kept passes
