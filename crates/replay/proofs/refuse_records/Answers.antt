use Rattle.std.specs.Prelude.{Err}
use mathlib.Core.Path.{◌≡◌, ◌∙◌}
use native.Mathlib.Omega.{arith}
use Rattle.lists.specs.Choice.{if◌then◌otherwise◌}
use Rattle.rules.specs.Refusals.{◌or_else◌}
use Rattle.rules.specs.Replay.{records_refusal}
use Rattle.replay.proofs.refuse_records.Goals as goal

pub returns-in_err-bad_record : goal.returns-in_err-bad_record
unfolding records_refusal ◌or_else◌
returns-in_err-bad_record c =
    let same : c.from_residual.result ≡ Err c.in_err-bad_record.field-0.0 = grind arith in
    same ∙ rw (← c.first_bad.ensures, ← c.in_err-bad_record.ensures)

pub returns-then-not-has_room : goal.returns-then-not-has_room
unfolding records_refusal ◌or_else◌ if◌then◌otherwise◌
returns-then-not-has_room c = rw (← c.first_bad.ensures, ← c.in_ok-bad_record.ensures, ← c.record_count.ensures, ← c.has_room.ensures, c.if-not-has_room.true)

pub returns : goal.returns
unfolding records_refusal ◌or_else◌ if◌then◌otherwise◌
returns c = rw (← c.first_bad.ensures, ← c.in_ok-bad_record.ensures, ← c.record_count.ensures, ← c.has_room.ensures, c.if-not-has_room.false)
