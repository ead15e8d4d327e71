-- The paper's numbers and values tell the cases of every answer apart: no two answers are told alike.
use Rattle.std.specs.Prelude.{Some, None, Result, Ok, Err}
use mathlib.Core.Path.{◌≡◌, refl, sym, ap, ◌∙◌}
use mathlib.Core.Bool.{Bool, true, false}
use Prim.Native.Nat.{ℕ}
use native.Mathlib.Omega.{arith}
use borrow.Author.Tests.{ne_eqb}
use Rattle.lists.specs.Choice.{if◌then◌otherwise◌, ◌=?◌}
use Rattle.rules.specs.declared.EraseUnit.TheVariants.{Sector, Block32, Block64, Chip}
use Rattle.rules.specs.declared.Write.TheVariants.{Program, Erase, WriteStatus}
use Rattle.rules.specs.declared.Kind.{Kind}
use Rattle.rules.specs.declared.Kind.TheVariants.{WriteEnable, WriteDisable, ReadStatusLow, ReadStatusHigh, Read, FastRead, Sleep, Wake, ReadMakerDevice, ReadJedec, Writes}
use Rattle.rules.specs.declared.Verdict.{Verdict}
use Rattle.rules.specs.declared.Verdict.TheVariants.{CarriedOut, Ignored}
use Rattle.rules.specs.declared.Kept.{Kept}
use Rattle.rules.specs.declared.Meter.{Meter}
use Rattle.rules.specs.declared.Reason.{Reason}
use Rattle.rules.specs.declared.Reason.TheVariants.{Busy, Asleep, NoCommand, Misshapen, NotEnabled, Locked, Protected}
use Rattle.rules.specs.declared.Refusal.{Refusal}
use Rattle.rules.specs.declared.Refusal.TheVariants.{UnknownPart, ArrayLength, NotWellFormed, LongTransaction, LeftoverBits, ShortOutput, MeterFull, UnfitJob, StartSetting, StepUnsaid, StepOutside, StepBeyond, StepProtected, SmallBuffer, CutTape, BadRecord}
use Rattle.rules.specs.declared.Served.{Served}
use Rattle.rules.specs.declared.Uncounted.{Uncounted}
use Rattle.rules.specs.declared.Played.{Played}
use Rattle.rules.specs.declared.Bill.{Bill}
use Rattle.rules.specs.declared.Record.TheVariants.{Transaction, Finish, PowerCycle}
use Rattle.rules.specs.declared.Fault.{Fault}
use Rattle.rules.specs.declared.Fault.TheVariants as F
use Rattle.rules.specs.Kinds.{code_of, of_known}
use Rattle.rules.specs.Part.{row_in, command_by}
use Rattle.rules.specs.Fm25q16.{fm_commands}
use Rattle.rules.specs.Status.{flag}
use Rattle.rules.specs.Verdict.{reason_number, VerdictTold, verdict_told}
use Rattle.rules.specs.Refusals.{number_of, index_of}
use Rattle.rules.specs.Transact.{AnswerTold, transact_told}
use Rattle.rules.specs.EventEntries.{EventTold, event_told}
use Rattle.rules.specs.CountEntry.{Metered, count_told}
use Rattle.rules.specs.Replay.{replay_told}
use Rattle.rules.specs.Reading.{AtPlace, fault_number, ReadTold, read_told}
use Rattle.rules.specs.Translate.{TapeTold, translate_told, BillTold, quote_told}

-- what can be had back from what is told of it is told apart
apart : {A T : Type 0} (told : A → T) (back : T → A) → ((a : A) → back (told a) ≡ a) → (a b : A) → told a ≡ told b → a ≡ b
apart told back h a b e = sym (h a) ∙ ap back e ∙ h b

-- ---- kinds and verdicts

-- the code of a kind says that kind to the FM25Q16
pub code_back : (k : Kind) → command_by (row_in fm_commands (code_of k)) ≡ Some k
unfolding row_in fm_commands if◌then◌otherwise◌
code_back WriteEnable = refl
code_back WriteDisable = refl
code_back ReadStatusLow = refl
code_back ReadStatusHigh = refl
code_back Read = refl
code_back FastRead = refl
code_back Sleep = refl
code_back Wake = refl
code_back ReadMakerDevice = refl
code_back ReadJedec = refl
code_back (Writes Program) = refl
code_back (Writes (Erase Sector)) = refl
code_back (Writes (Erase Block32)) = refl
code_back (Writes (Erase Block64)) = refl
code_back (Writes (Erase Chip)) = refl
code_back (Writes WriteStatus) = refl

kind_back : ℕ → Kind
kind_back c = of_known (command_by (row_in fm_commands c)) WriteEnable (λ k. k)

kind_back_lem : (k : Kind) → kind_back (code_of k) ≡ k
unfolding kind_back of_known
kind_back_lem k = rw (code_back k)

pub kinds_apart : (k j : Kind) → code_of k ≡ code_of j → k ≡ j
kinds_apart = apart code_of kind_back kind_back_lem

zero_unknown : command_by (row_in fm_commands 0) ≡ None
unfolding row_in fm_commands if◌then◌otherwise◌
zero_unknown = refl

-- no kind has the code 0
coded : (k : Kind) → code_of k ≡ 0 → ⊥
coded k e =
    let q : Some k ≡ None = sym (code_back k) ∙ ap (λ (c : ℕ). command_by (row_in fm_commands c)) e ∙ zero_unknown in
    let z : ◌≡◌ {A = ℕ} 0 1 = cc in
    omega arith

reason_back : ℕ → Reason
reason_back n =
    if n =? 10 then Busy otherwise
    if n =? 11 then Asleep otherwise
    if n =? 12 then NoCommand otherwise
    if n =? 13 then Misshapen otherwise
    if n =? 14 then NotEnabled otherwise
    if n =? 15 then Locked otherwise
    Protected

reason_back_lem : (w : Reason) → reason_back (reason_number w) ≡ w
unfolding reason_back if◌then◌otherwise◌
reason_back_lem Busy = refl
reason_back_lem Asleep = refl
reason_back_lem NoCommand = refl
reason_back_lem Misshapen = refl
reason_back_lem NotEnabled = refl
reason_back_lem Locked = refl
reason_back_lem Protected = refl

verdict_back : VerdictTold → Verdict
verdict_back t = if t.code =? 0 then Ignored (reason_back t.number) otherwise CarriedOut (kind_back t.code)

verdict_back_lem : (v : Verdict) → verdict_back (verdict_told v) ≡ v
unfolding verdict_back if◌then◌otherwise◌
verdict_back_lem (CarriedOut k) = rw (ne_eqb (code_of k) 0 (coded k), kind_back_lem k)
verdict_back_lem (Ignored w) = ap Ignored (reason_back_lem w)

pub verdicts_apart : (v w : Verdict) → verdict_told v ≡ verdict_told w → v ≡ w
verdicts_apart = apart verdict_told verdict_back verdict_back_lem

-- ---- refusals

refusal_back : ℕ → ℕ → Refusal
refusal_back n i =
    if n =? 1 then UnknownPart otherwise
    if n =? 2 then ArrayLength otherwise
    if n =? 3 then NotWellFormed otherwise
    if n =? 4 then LongTransaction otherwise
    if n =? 5 then LeftoverBits otherwise
    if n =? 6 then ShortOutput otherwise
    if n =? 7 then MeterFull otherwise
    if n =? 20 then UnfitJob otherwise
    if n =? 21 then StartSetting otherwise
    if n =? 22 then StepUnsaid i otherwise
    if n =? 23 then StepOutside i otherwise
    if n =? 24 then StepBeyond i otherwise
    if n =? 25 then StepProtected i otherwise
    if n =? 26 then SmallBuffer otherwise
    if n =? 30 then CutTape otherwise
    BadRecord i

refusal_back_lem : (z : Refusal) → refusal_back (number_of z) (index_of z) ≡ z
unfolding refusal_back if◌then◌otherwise◌
refusal_back_lem UnknownPart = refl
refusal_back_lem ArrayLength = refl
refusal_back_lem NotWellFormed = refl
refusal_back_lem LongTransaction = refl
refusal_back_lem LeftoverBits = refl
refusal_back_lem ShortOutput = refl
refusal_back_lem MeterFull = refl
refusal_back_lem UnfitJob = refl
refusal_back_lem StartSetting = refl
refusal_back_lem (StepUnsaid i) = refl
refusal_back_lem (StepOutside i) = refl
refusal_back_lem (StepBeyond i) = refl
refusal_back_lem (StepProtected i) = refl
refusal_back_lem SmallBuffer = refl
refusal_back_lem CutTape = refl
refusal_back_lem (BadRecord i) = refl

-- no refusal is told as another
pub refusals_apart : (z y : Refusal) → number_of z ≡ number_of y → index_of z ≡ index_of y → z ≡ y
refusals_apart z y e f = sym (refusal_back_lem z) ∙ (λ k. refusal_back (e k) (f k)) ∙ refusal_back_lem y

-- no refusal has the number 0
pub some_number : (z : Refusal) → number_of z ≡ 0 → ⊥
some_number UnknownPart e = omega arith
some_number ArrayLength e = omega arith
some_number NotWellFormed e = omega arith
some_number LongTransaction e = omega arith
some_number LeftoverBits e = omega arith
some_number ShortOutput e = omega arith
some_number MeterFull e = omega arith
some_number UnfitJob e = omega arith
some_number StartSetting e = omega arith
some_number (StepUnsaid i) e = omega arith
some_number (StepOutside i) e = omega arith
some_number (StepBeyond i) e = omega arith
some_number (StepProtected i) e = omega arith
some_number SmallBuffer e = omega arith
some_number CutTape e = omega arith
some_number (BadRecord i) e = omega arith

-- ---- answers

transacted_back : AnswerTold → Result Served Refusal
transacted_back t =
    if t.served
    then Ok (record { verdict = verdict_back (record { number = t.number; code = t.code }); regs = t.regs; meter = t.meter })
    otherwise Err (refusal_back t.number t.index)

transacted_back_lem : (kept : Kept) (m : Meter) (a : Result Served Refusal) → transacted_back (transact_told kept m a) ≡ a
unfolding transacted_back if◌then◌otherwise◌
transacted_back_lem kept m (Ok s) = λ i. Ok (record { verdict = verdict_back_lem s.verdict i; regs = s.regs; meter = s.meter })
transacted_back_lem kept m (Err z) = ap Err (refusal_back_lem z)

pub transacted_apart : (kept : Kept) (m : Meter) (a b : Result Served Refusal) → transact_told kept m a ≡ transact_told kept m b → a ≡ b
transacted_apart kept m = apart (transact_told kept m) transacted_back (transacted_back_lem kept m)

event_back : EventTold → Result Kept Refusal
event_back t = if t.served then Ok t.regs otherwise Err (refusal_back t.number t.index)

event_back_lem : (kept : Kept) (a : Result Kept Refusal) → event_back (event_told kept a) ≡ a
unfolding event_back if◌then◌otherwise◌
event_back_lem kept (Ok k) = refl
event_back_lem kept (Err z) = ap Err (refusal_back_lem z)

pub events_apart : (kept : Kept) (a b : Result Kept Refusal) → event_told kept a ≡ event_told kept b → a ≡ b
events_apart kept = apart (event_told kept) event_back (event_back_lem kept)

replayed_back : AnswerTold → Result Played Refusal
replayed_back t = if t.served then Ok (record { regs = t.regs; meter = t.meter }) otherwise Err (refusal_back t.number t.index)

replayed_back_lem : (kept : Kept) (m : Meter) (a : Result Played Refusal) → replayed_back (replay_told kept m a) ≡ a
unfolding replayed_back if◌then◌otherwise◌
replayed_back_lem kept m (Ok s) = refl
replayed_back_lem kept m (Err z) = ap Err (refusal_back_lem z)

pub replayed_apart : (kept : Kept) (m : Meter) (a b : Result Played Refusal) → replay_told kept m a ≡ replay_told kept m b → a ≡ b
replayed_apart kept m = apart (replay_told kept m) replayed_back (replayed_back_lem kept m)

translated_back : TapeTold → Result ℕ Refusal
translated_back t = if t.served then Ok t.length otherwise Err (refusal_back t.number t.index)

translated_back_lem : (a : Result ℕ Refusal) → translated_back (translate_told a) ≡ a
unfolding translated_back if◌then◌otherwise◌
translated_back_lem (Ok n) = refl
translated_back_lem (Err z) = ap Err (refusal_back_lem z)

pub translated_apart : (a b : Result ℕ Refusal) → translate_told a ≡ translate_told b → a ≡ b
translated_apart = apart translate_told translated_back translated_back_lem

quoted_back : BillTold → Result Bill Refusal
quoted_back t = if t.served then Ok t.bill otherwise Err (refusal_back t.number t.index)

quoted_back_lem : (a : Result Bill Refusal) → quoted_back (quote_told a) ≡ a
unfolding quoted_back if◌then◌otherwise◌
quoted_back_lem (Ok b) = refl
quoted_back_lem (Err z) = ap Err (refusal_back_lem z)

pub quoted_apart : (a b : Result Bill Refusal) → quote_told a ≡ quote_told b → a ≡ b
quoted_apart = apart quote_told quoted_back quoted_back_lem

counted_back : Metered → Result Meter Uncounted
counted_back t = if t.number =? 0 then Ok t.meter otherwise Err (record { meter = t.meter; refusal = refusal_back t.number t.index })

counted_back_lem : (a : Result Meter Uncounted) → counted_back (count_told a) ≡ a
unfolding counted_back if◌then◌otherwise◌
counted_back_lem (Ok m) = refl
counted_back_lem (Err u) =
    rw (ne_eqb (number_of u.refusal) 0 (some_number u.refusal)) (λ i. Err (record { meter = u.meter; refusal = refusal_back_lem u.refusal i }))

pub counted_apart : (a b : Result Meter Uncounted) → count_told a ≡ count_told b → a ≡ b
counted_apart = apart count_told counted_back counted_back_lem

-- ---- a read at place p

flag_back : (b : Bool) → (flag b =? 1) ≡ b
flag_back true = refl
flag_back false = refl

fault_back : ℕ → Fault
fault_back n = if n =? 30 then F.CutTape otherwise F.BadRecord

fault_back_lem : (z : Fault) → fault_back (fault_number z) ≡ z
unfolding fault_back if◌then◌otherwise◌
fault_back_lem F.CutTape = refl
fault_back_lem F.BadRecord = refl

read_back : ReadTold → AtPlace
read_back t =
    if t.kind =? 0 then Ok (Some (Transaction (record { start = t.start; length = t.length; leftover = t.leftover; high = t.wp =? 1 }))) otherwise
    if t.kind =? 1 then Ok (Some Finish) otherwise
    if t.kind =? 2 then Ok (Some PowerCycle) otherwise
    if t.kind =? 3 then Ok None otherwise
    Err (fault_back t.number)

read_back_lem : (p : ℕ) (a : AtPlace) → read_back (read_told p a) ≡ a
unfolding read_back if◌then◌otherwise◌
read_back_lem p (Ok (Some (Transaction s))) =
    λ i. Ok (Some (Transaction (record { start = s.start; length = s.length; leftover = s.leftover; high = flag_back s.high i })))
read_back_lem p (Ok (Some Finish)) = refl
read_back_lem p (Ok (Some PowerCycle)) = refl
read_back_lem p (Ok None) = refl
read_back_lem p (Err z) = ap Err (fault_back_lem z)

pub reads_apart : (p : ℕ) (a b : AtPlace) → read_told p a ≡ read_told p b → a ≡ b
reads_apart p = apart (read_told p) read_back (read_back_lem p)
