-- One job with an erase, a lay and a guard, and a chip to play it on: demand 3 speaks of them.
use Rattle.std.specs.Prelude.{ℕ, List, [], ◌∷◌, replicate}
use Rattle.rules.specs.declared.Kept.{Kept}
use Rattle.rules.specs.declared.Meter.{Meter}

-- erase the 4 KB at 001000; lay 4 bytes of the payload at 0010FE, across the end of a page; guard with setting 17
unfoldable pub job : List ℕ
job =
    0x01 ∷ 0x00 ∷ 0x00 ∷ 0x00 ∷ 0x00 ∷ 0x00 ∷ 0x10 ∷ 0x00 ∷ 0x00 ∷ 0x00 ∷ 0x00 ∷ 0x00 ∷ 0x00 ∷ 0x00 ∷ 0x00 ∷ 0x00
    ∷ 0x02 ∷ 0x00 ∷ 0x00 ∷ 0x00 ∷ 0x00 ∷ 0x00 ∷ 0x10 ∷ 0xFE ∷ 0x00 ∷ 0x00 ∷ 0x00 ∷ 0x04 ∷ 0x00 ∷ 0x00 ∷ 0x00 ∷ 0x00
    ∷ 0x03 ∷ 0x11 ∷ 0x00 ∷ 0x00 ∷ 0x00 ∷ 0x00 ∷ 0x00 ∷ 0x00 ∷ 0x00 ∷ 0x00 ∷ 0x00 ∷ 0x00 ∷ 0x00 ∷ 0x00 ∷ 0x00 ∷ 0x00
    ∷ []

abbrev pub payload : List ℕ
payload = 0x11 ∷ 0x22 ∷ 0x33 ∷ 0x44 ∷ []

-- n bytes of 0: the tape buffer, and the chip's array before
unfoldable pub blank : ℕ → List ℕ
blank n = replicate n 0x00

abbrev pub buffer : List ℕ
buffer = blank 3168

abbrev pub array : List ℕ
array = blank 2097152

-- awake, status 0000
abbrev pub kept : Kept
kept = record { status = 0x0000; awake = 1 }

abbrev pub meter : Meter
meter = record { programs = 0; erases = 0; register_writes = 0; ignored = 0 }
