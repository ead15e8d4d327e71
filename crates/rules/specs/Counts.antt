-- The meter: what counts, and how much room is left. Document 01, "Verdicts" and refusal 7.
use Rattle.std.specs.Prelude.{ℕ, ◌+◌, Bool, ◌&&◌}
use Rattle.lists.specs.Choice.{◌≤?◌}
use Rattle.rules.specs.declared.Meter.{Meter}
use Rattle.rules.specs.declared.Write.{Write}
use Rattle.rules.specs.declared.Write.TheVariants.{Program, Erase, WriteStatus}
use Rattle.rules.specs.declared.Verdict.{Verdict}
use Rattle.rules.specs.declared.Verdict.TheVariants.{CarriedOut, Ignored}
use Rattle.rules.specs.Kinds.{of_write}

-- "four counts up to 4,294,967,295"
abbrev pub count_limit : ℕ
count_limit = 4294967295

-- "an accepted 02 adds one to programs, an accepted erase one to erases, an accepted 01 one to register writes"
abbrev pub counted : Meter → Write → Meter
counted m Program = record { programs = m.programs + 1; erases = m.erases; register_writes = m.register_writes; ignored = m.ignored }
counted m (Erase u) = record { programs = m.programs; erases = m.erases + 1; register_writes = m.register_writes; ignored = m.ignored }
counted m WriteStatus = record { programs = m.programs; erases = m.erases; register_writes = m.register_writes + 1; ignored = m.ignored }

-- "verdicts 10 to 16 add one to ignored"; "nothing else counts"
abbrev pub ignored_counted : Meter → Meter
ignored_counted m = record { programs = m.programs; erases = m.erases; register_writes = m.register_writes; ignored = m.ignored + 1 }

abbrev pub meter_after : Meter → Verdict → Meter
meter_after m (CarriedOut k) = of_write k m (counted m)
meter_after m (Ignored w) = ignored_counted m

-- no count plus n exceeds the limit
unfoldable pub room : Meter → ℕ → Bool
room m n =
    (m.programs + n ≤? count_limit)
    && (m.erases + n ≤? count_limit)
    && (m.register_writes + n ≤? count_limit)
    && (m.ignored + n ≤? count_limit)
