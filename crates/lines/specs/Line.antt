-- A line of the listing.
use Rattle.std.specs.Prelude.{List, [], ◌∷◌, ◌++◌, ℕ, Option, Some, None, Result, Ok, Err}
use Rattle.rules.specs.declared.Record.{Record}
use Rattle.rules.specs.Listing.{digits4, space, line_feed, record_text}

-- the line of what a read of the tape t at place p found; the end and a fault, whichever it is, have none
abbrev pub line_of : {E : Type 0} → List ℕ → ℕ → Result (Option Record) E → List ℕ
line_of t p (Ok (Some r)) = digits4 p ++ space ∷ record_text t (Ok (Some r)) ++ line_feed ∷ []
line_of t p (Ok None) = []
line_of t p (Err z) = []
