-- The bench readings B1 to B10 as one table. Document 01, "Bench readings".
-- Unless said: awake, status 0000 hex, /WP high, no leftover bits; the array is FF but for the facts of a row.
use Rattle.std.specs.Prelude.{ℕ, Bool, true, List, [], ◌∷◌, length, get_or, set, replicate}
use Rattle.rules.specs.declared.Kept.{Kept}
use Rattle.rules.specs.declared.Meter.{Meter}
use Rattle.rules.specs.Transact.{TransactSeen, transact_of}
use Rattle.rules.specs.EventEntries.{finish_of}

-- a byte of the array
pub record Fact : Type 0 where
  pub place : ℕ
  pub byte : ℕ

abbrev pub holds : ℕ → ℕ → Fact
holds x b = record { place = x; byte = b }

abbrev pub awake_at : ℕ → Kept
awake_at status = record { status = status; awake = 1 }

abbrev pub asleep_at : ℕ → Kept
asleep_at status = record { status = status; awake = 0 }

abbrev pub counts : ℕ → ℕ → ℕ → ℕ → Meter
counts p e w i = record { programs = p; erases = e; register_writes = w; ignored = i }

-- what is seen of a transaction: served, the verdict's number and the code of what was carried out, the output, the
-- registers and the meter, the bytes of the array that are looked at, and the status after each finish event that follows
pub record Seen : Type 0 where
  pub served : Bool
  pub number : ℕ
  pub code : ℕ
  pub out : List ℕ
  pub regs : Kept
  pub meter : Meter
  pub array : List Fact
  pub finishes : List ℕ

pub record Reading : Type 0 where
  pub start : Kept
  pub facts : List Fact
  pub bytes : List ℕ
  pub expected : Seen

-- carried out: the code of the kind, output, registers, meter, array
abbrev pub carried : ℕ → List ℕ → Kept → Meter → List Fact → Seen
carried code out regs m array =
    record { served = true; number = 0; code = code; out = out; regs = regs; meter = m; array = array; finishes = [] }

-- ignored: the number, output, registers, array
abbrev pub ignored_as : ℕ → List ℕ → Kept → List Fact → Seen
ignored_as number out regs array =
    record { served = true; number = number; code = 0; out = out; regs = regs; meter = counts 0 0 0 1; array = array; finishes = [] }

abbrev pub reading : Kept → List Fact → List ℕ → Seen → Reading
reading start facts bytes expected = record { start = start; facts = facts; bytes = bytes; expected = expected }

abbrev pub ff1 : List ℕ
ff1 = 0xFF ∷ []

abbrev pub ff2 : List ℕ
ff2 = 0xFF ∷ ff1

abbrev pub ff4 : List ℕ
ff4 = 0xFF ∷ 0xFF ∷ ff2

abbrev pub ff5 : List ℕ
ff5 = 0xFF ∷ ff4

-- byte 000 of an array that is FF there, looked at in every row
abbrev pub byte0 : List Fact
byte0 = holds 0x000 0xFF ∷ []

unfoldable pub readings : List Reading
readings =
    -- B1 `06`, WEL 0: carried out, WEL 1, output FF
    reading (awake_at 0x0000) [] (0x06 ∷ []) (carried 0x06 ff1 (awake_at 0x0002) (counts 0 0 0 0) byte0)
    -- B2 `06 00`: 13
    ∷ reading (awake_at 0x0000) [] (0x06 ∷ 0x00 ∷ []) (ignored_as 13 ff2 (awake_at 0x0000) byte0)
    -- B3 WEL 1, array FF, `02 00 00 FE 11 22 33 44`: FE=11, FF=22, 000=33, 001=44, 100 stays FF
    ∷ reading (awake_at 0x0002) [] (0x02 ∷ 0x00 ∷ 0x00 ∷ 0xFE ∷ 0x11 ∷ 0x22 ∷ 0x33 ∷ 0x44 ∷ [])
    (carried 0x02 (0xFF ∷ 0xFF ∷ 0xFF ∷ ff5) (awake_at 0x0003) (counts 1 0 0 0)
    (holds 0xFE 0x11 ∷ holds 0xFF 0x22 ∷ holds 0x000 0x33 ∷ holds 0x001 0x44 ∷ holds 0x100 0xFF ∷ []))
    -- B4 WEL 1, byte F0, program 3C: 30
    ∷ reading (awake_at 0x0002) (holds 0x000 0xF0 ∷ []) (0x02 ∷ 0x00 ∷ 0x00 ∷ 0x00 ∷ 0x3C ∷ [])
    (carried 0x02 ff5 (awake_at 0x0003) (counts 1 0 0 0) (holds 0x000 0x30 ∷ []))
    -- B5 `02 00 00 00`, WEL 1: 13
    ∷ reading (awake_at 0x0002) [] (0x02 ∷ 0x00 ∷ 0x00 ∷ 0x00 ∷ []) (ignored_as 13 ff4 (awake_at 0x0002) byte0)
    -- B6 setting 1, WEL 1: one byte at 1F0000 is 16 ..
    ∷ reading (awake_at 0x0006) [] (0x02 ∷ 0x1F ∷ 0x00 ∷ 0x00 ∷ 0x00 ∷ []) (ignored_as 16 ff5 (awake_at 0x0006) byte0)
    -- .. at 1EFFFF is carried out
    ∷ reading (awake_at 0x0006) [] (0x02 ∷ 0x1E ∷ 0xFF ∷ 0xFF ∷ 0x00 ∷ []) (carried 0x02 ff5 (awake_at 0x0007) (counts 1 0 0 0) byte0)
    -- B7 setting 17, WEL 1: 52 at 1F8000 is 16 ..
    ∷ reading (awake_at 0x0046) [] (0x52 ∷ 0x1F ∷ 0x80 ∷ 0x00 ∷ []) (ignored_as 16 ff4 (awake_at 0x0046) byte0)
    -- .. 20 at 1FE000 is carried out
    ∷ reading (awake_at 0x0046) [] (0x20 ∷ 0x1F ∷ 0xE0 ∷ 0x00 ∷ []) (carried 0x20 ff4 (awake_at 0x0047) (counts 0 1 0 0) byte0)
    -- B8 status 0003 hex, `05 00`: FF 03
    ∷ reading (awake_at 0x0003) [] (0x05 ∷ 0x00 ∷ []) (carried 0x05 (0xFF ∷ 0x03 ∷ []) (awake_at 0x0003) (counts 0 0 0 0) byte0)
    -- B9 asleep, `05 00`: 11, FF FF
    ∷ reading (asleep_at 0x0000) [] (0x05 ∷ 0x00 ∷ []) (ignored_as 11 ff2 (asleep_at 0x0000) byte0)
    -- B10 status 0202 hex, `01 04`: 0207, after finish 0204
    ∷ reading (awake_at 0x0202) [] (0x01 ∷ 0x04 ∷ [])
    record { served = true; number = 0; code = 0x01; out = ff2; regs = awake_at 0x0207; meter = counts 0 0 1 0; array = byte0; finishes = 0x0204 ∷ [] }
    ∷ []

-- ---- what the rules make of a row

-- n bytes of FF
unfoldable pub blank : ℕ → List ℕ
blank n = replicate n 0xFF

unfoldable pub stored : List Fact → List ℕ → List ℕ
stored [] l = l
stored (f ∷ fs) l = set (stored fs l) f.place f.byte

-- the array that a row starts from: the whole chip
unfoldable pub array_at : Reading → List ℕ
array_at t = stored t.facts (blank 2097152)

-- the same places of another array
unfoldable pub look_at : List ℕ → List Fact → List Fact
look_at l [] = []
look_at l (f ∷ fs) = holds f.place (get_or l f.place 0) ∷ look_at l fs

-- the status after each of as many finish events
unfoldable pub finishing : Kept → List ℕ → List ℕ
finishing k [] = []
finishing k (s ∷ ss) = (finish_of 1 k).regs.status ∷ finishing (finish_of 1 k).regs ss

unfoldable pub seen_of : Reading → TransactSeen → Seen
seen_of t s =
    record {
      served = s.answer.served;
      number = s.answer.number;
      code = s.answer.code;
      out = s.out;
      regs = s.answer.regs;
      meter = s.answer.meter;
      array = look_at s.array t.expected.array;
      finishes = finishing s.answer.regs t.expected.finishes;
    }

-- an output buffer as long as the row's bytes
abbrev pub buffer : Reading → List ℕ
buffer t = replicate (length t.bytes) 0

-- part 1, an empty meter, no leftover bits, /WP high
unfoldable pub observed : Reading → Seen
observed t = seen_of t (transact_of 1 t.start (counts 0 0 0 0) (array_at t) (buffer t) t.bytes 0 1)
