-- The entry `count`: the meter by itself, brought up to date by what a transaction answered. Document 01: above the core "the
-- meter is also offered as a record brought up to date where it lies".
use Rattle.std.specs.Prelude.{ℕ, not, ◌&&◌, Result, Ok, Err}
use Rattle.lists.specs.Choice.{if◌then◌otherwise◌, ◌=?◌, ◌≤?◌}
use Rattle.rules.specs.declared.Meter.{Meter}
use Rattle.rules.specs.declared.Uncounted.{Uncounted}
use Rattle.rules.specs.declared.Verdict.TheVariants.{CarriedOut}
use Rattle.rules.specs.Kinds.{of_known}
use Rattle.rules.specs.Part.{Part, command_of}
use Rattle.rules.specs.Parts.{is_part, part_of}
use Rattle.rules.specs.Refusals.{number_of, index_of}
use Rattle.rules.specs.Counts.{ignored_counted, meter_after, room}

-- the meter after a transaction of first byte op that answered with a number: 0 is carried out, 10 to 16 ignored, and any
-- other number counts nothing
unfoldable pub meter_by_answer : (p : Part) (meter : Meter) (number op : ℕ) → Meter
meter_by_answer p meter number op =
    if number =? 0 then of_known (command_of p op) meter (λ k. meter_after meter (CarriedOut k)) otherwise
    if (10 ≤? number) && (number ≤? 16) then ignored_counted meter otherwise
    meter

-- a number with its index, and the meter then
pub record Metered : Type 0 where
  pub number : ℕ
  pub index : ℕ
  pub meter : Meter

-- .. of a number that has no index
abbrev pub metered : (number : ℕ) (meter : Meter) → Metered
metered number meter = record { number = number; index = 0; meter = meter }

-- the paper's number and values of an answer: 0 and the new meter, or a refusal and the meter that comes back
abbrev pub count_told : Result Meter Uncounted → Metered
count_told (Ok meter) = metered 0 meter
count_told (Err u) = record { number = number_of u.refusal; index = index_of u.refusal; meter = u.meter }

-- refused with 1 or 7, and then the meter stays
unfoldable pub count_of : (part : ℕ) (meter : Meter) (number op : ℕ) → Metered
count_of part meter number op =
    if not (is_part part) then metered 1 meter otherwise
    if not (room meter 1) then metered 7 meter otherwise
    metered 0 (meter_by_answer (part_of part) meter number op)
