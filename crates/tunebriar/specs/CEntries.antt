-- What the C entries answer: the same values, as structs of numbers. `served` and the code of a kind are left out: a verdict's
-- number, 0 or 10 to 16, is no refusal's, and the transaction's first byte gives the kind.
use Rattle.std.specs.Prelude.{ℕ, List}
use Rattle.tunebriar.specs.declared.TbAnswer.{TbAnswer}
use Rattle.tunebriar.specs.declared.TbEvent.{TbEvent}
use Rattle.tunebriar.specs.declared.TbTape.{TbTape}
use Rattle.tunebriar.specs.declared.TbBill.{TbBill}
use Rattle.tunebriar.specs.declared.TbRecord.{TbRecord}
use Rattle.rules.specs.Transact.{AnswerTold, TransactSeen}
use Rattle.rules.specs.EventEntries.{EventTold}
use Rattle.rules.specs.Reading.{ReadTold}
use Rattle.rules.specs.Replay.{ReplaySeen}
use Rattle.rules.specs.Translate.{TapeTold, TranslateSeen, BillTold}

abbrev pub tb_answer : AnswerTold → TbAnswer
tb_answer t = record { number = t.number; index = t.index; regs = t.regs; meter = t.meter }

abbrev pub tb_event : EventTold → TbEvent
tb_event t = record { number = t.number; index = t.index; regs = t.regs }

abbrev pub tb_tape : TapeTold → TbTape
tb_tape t = record { number = t.number; index = t.index; length = t.length }

abbrev pub tb_bill : BillTold → TbBill
tb_bill t =
    record {
      number = t.number;
      index = t.index;
      programs = t.bill.programs;
      erases = t.bill.erases;
      register_writes = t.bill.register_writes;
      length = t.bill.length;
    }

abbrev pub tb_record : ReadTold → TbRecord
tb_record t =
    record {
      kind = t.kind;
      number = t.number;
      length = t.length;
      leftover = t.leftover;
      wp = t.wp;
      start = t.start;
      next = t.next;
    }

-- all that a C caller sees of an entry that is lent slices
pub record TbSeen : Type 0 where
  pub answer : TbAnswer
  pub array : List ℕ
  pub out : List ℕ

abbrev pub tb_transact : TransactSeen → TbSeen
tb_transact s = record { answer = tb_answer s.answer; array = s.array; out = s.out }

pub record TbPlayed : Type 0 where
  pub answer : TbAnswer
  pub array : List ℕ

abbrev pub tb_replay : ReplaySeen → TbPlayed
tb_replay s = record { answer = tb_answer s.answer; array = s.array }

pub record TbTranslated : Type 0 where
  pub answer : TbTape
  pub tape : List ℕ

abbrev pub tb_translate : TranslateSeen → TbTranslated
tb_translate s = record { answer = tb_tape s.answer; tape = s.tape }

abbrev pub tb_seen : TbAnswer → List ℕ → List ℕ → TbSeen
tb_seen t l o = record { answer = t; array = l; out = o }

abbrev pub tb_played : TbAnswer → List ℕ → TbPlayed
tb_played t l = record { answer = t; array = l }

abbrev pub tb_translated : TbTape → List ℕ → TbTranslated
tb_translated t w = record { answer = t; tape = w }
