-- When we turn a caller away: the checks of a transaction, and those that the two events share. Document 01's table, and the order beneath it.
use Rattle.std.specs.Prelude.{ℕ, not, Result, Ok, Err, ⊤}
use Rattle.lists.specs.Choice.{if◌then◌otherwise◌, ◌=?◌, ◌<?◌}
use Rattle.rules.specs.declared.Kept.{Kept}
use Rattle.rules.specs.declared.Meter.{Meter}
use Rattle.rules.specs.declared.Refusal.{Refusal}
use Rattle.rules.specs.declared.Refusal.TheVariants.{UnknownPart, ArrayLength, NotWellFormed, LongTransaction, LeftoverBits, ShortOutput, MeterFull, UnfitJob, StartSetting, StepUnsaid, StepOutside, StepBeyond, StepProtected, SmallBuffer, CutTape, BadRecord}
use Rattle.rules.specs.Parts.{is_part, part_of}
use Rattle.rules.specs.WellFormed.{well_formed}
use Rattle.rules.specs.Counts.{room}

-- the table's number of a refusal
abbrev pub number_of : Refusal → ℕ
number_of UnknownPart = 1
number_of ArrayLength = 2
number_of NotWellFormed = 3
number_of LongTransaction = 4
number_of LeftoverBits = 5
number_of ShortOutput = 6
number_of MeterFull = 7
number_of UnfitJob = 20
number_of StartSetting = 21
number_of (StepUnsaid i) = 22
number_of (StepOutside i) = 23
number_of (StepBeyond i) = 24
number_of (StepProtected i) = 25
number_of SmallBuffer = 26
number_of CutTape = 30
number_of (BadRecord i) = 31

-- the index of the step or the record that it names, and else 0
abbrev pub index_of : Refusal → ℕ
index_of UnknownPart = 0
index_of ArrayLength = 0
index_of NotWellFormed = 0
index_of LongTransaction = 0
index_of LeftoverBits = 0
index_of ShortOutput = 0
index_of MeterFull = 0
index_of UnfitJob = 0
index_of StartSetting = 0
index_of (StepUnsaid i) = i
index_of (StepOutside i) = i
index_of (StepBeyond i) = i
index_of (StepProtected i) = i
index_of SmallBuffer = 0
index_of CutTape = 0
index_of (BadRecord i) = i

-- what the checks of an entry say: nothing, or why the caller is turned away
abbrev pub Checked : Type 0
Checked = Result ⊤ Refusal

abbrev pub passes : Checked
passes = Ok tt

abbrev pub refused : Refusal → Checked
refused z = Err z

infixr 5 ◌or_else◌
-- the first refusal, and where there is none the second
unfoldable pub ◌or_else◌ : Checked → Checked → Checked
(Ok u) or_else y = y
(Err z) or_else y = Err z

-- what a caller gets who is served, and what one gets who is refused
unfoldable pub answered {ℓ} : {A : Type ℓ} → Checked → A → (Refusal → A) → A
answered (Ok u) served refusing = served
answered (Err z) served refusing = refusing z

-- "transaction over 4,096 bytes"
abbrev pub transaction_limit : ℕ
transaction_limit = 4096

-- "leftover bits over 7"
abbrev pub leftover_limit : ℕ
leftover_limit = 7

-- "a transaction checks 1 to 7 in order": n bytes are clocked in
unfoldable pub transact_refusal : (part array_length : ℕ) (kept : Kept) (n leftover out_length : ℕ) (meter : Meter) → Checked
transact_refusal part array_length kept n leftover out_length meter =
    if not (is_part part) then refused UnknownPart otherwise
    if not (array_length =? (part_of part).size) then refused ArrayLength otherwise
    if not (well_formed (part_of part) kept) then refused NotWellFormed otherwise
    if transaction_limit <? n then refused LongTransaction otherwise
    if leftover_limit <? leftover then refused LeftoverBits otherwise
    if out_length <? n then refused ShortOutput otherwise
    if not (room meter 1) then refused MeterFull otherwise
    passes

-- "finish and power cycle only 1 and 3"
unfoldable pub event_refusal : (part : ℕ) (kept : Kept) → Checked
event_refusal part kept =
    if not (is_part part) then refused UnknownPart otherwise
    if not (well_formed (part_of part) kept) then refused NotWellFormed otherwise
    passes
