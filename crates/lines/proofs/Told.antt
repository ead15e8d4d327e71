-- The listing is told by its fault: one line where there is one, else a line a record.
use Rattle.std.specs.Prelude.{Option, Some, None}
use mathlib.Core.Path.{◌≡◌, refl}
use mathlib.Core.Bool.{Bool, true, false, not, ◌||◌}
use mathlib.Core.List.{List}
use Prim.Native.Nat.{ℕ}
use lib.ListN.{length}
use Rattle.lists.specs.Choice.{if◌then◌otherwise◌, ◌<?◌}
use Rattle.rules.specs.Listing.{listing_limit, lines_from, refused_line, listed, listing_of}
use Rattle.rules.specs.Refusals.{number_of, index_of, refused, answered}
use Rattle.rules.specs.declared.Refusal.TheVariants.{CutTape}
use Rattle.rules.specs.Replay.{bad_record}
use Rattle.rules.specs.Tape.{records, whole, first_bad}
use Rattle.lines.specs.Fault.{fault_of}

pub listing_is : (t : List ℕ) → listing_of t ≡ answered (fault_of t) (lines_from t 0 (records t)) (λ z. refused_line (number_of z) (index_of z))
unfolding listing_of fault_of answered if◌then◌otherwise◌
listing_is t = go ((listing_limit <? length t) || not (whole t)) (first_bad t)
  where
    go : (b : Bool) (f : Option ℕ) → (if b then refused_line 30 0 otherwise listed t f)
        ≡ answered (if b then refused CutTape otherwise bad_record f) (lines_from t 0 (records t)) (λ z. refused_line (number_of z) (index_of z))
    go true f = refl
    go false (Some i) = refl
    go false None = refl
