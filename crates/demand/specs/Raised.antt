-- A meter raised by a bill.
use Rattle.std.specs.Prelude.{◌+◌}
use Rattle.rules.specs.declared.Meter.{Meter}
use Rattle.rules.specs.declared.Bill.{Bill}

-- the figures of a bill are added, and nothing is ignored
abbrev pub raised : Meter → Bill → Meter
raised m b = record { programs = m.programs + b.programs; erases = m.erases + b.erases; register_writes = m.register_writes + b.register_writes; ignored = m.ignored }
