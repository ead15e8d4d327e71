-- What the listing program refuses of a tape, before its first line.
use Rattle.std.specs.Prelude.{not, ◌||◌, List, ℕ, length}
use Rattle.lists.specs.Choice.{if◌then◌otherwise◌, ◌<?◌}
use Rattle.rules.specs.declared.Refusal.TheVariants.{CutTape}
use Rattle.rules.specs.Listing.{listing_limit}
use Rattle.rules.specs.Refusals.{Checked, refused}
use Rattle.rules.specs.Replay.{bad_record}
use Rattle.rules.specs.Tape.{whole, first_bad}

-- 30, then 31 with the index of the first bad record
unfoldable pub fault_of : List ℕ → Checked
fault_of t = if (listing_limit <? length t) || not (whole t) then refused CutTape otherwise bad_record (first_bad t)
