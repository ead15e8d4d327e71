-- What the rules must make of the made-up chip, row by row.
use Rattle.std.specs.Prelude.{ℕ, Bool, true, false, List, [], ◌∷◌}
use Rattle.rules.specs.declared.Kept.{Kept}

-- ---- the verdict's number on bytes sent to an awake chip of that status, /WP low

pub record Reading : Type 0 where
  pub status : ℕ
  pub bytes : List ℕ
  pub number : ℕ

abbrev sent : ℕ → List ℕ → ℕ → Reading
sent w b n = record { status = w; bytes = b; number = n }

unfoldable pub readings : List Reading
readings =
    -- what it offers
    sent 0x00 (0x06 ∷ []) 0
    ∷ sent 0x00 (0x25 ∷ 0x00 ∷ []) 0
    ∷ sent 0x00 (0x9F ∷ 0x00 ∷ []) 0
    ∷ sent 0x02 (0x01 ∷ 0x04 ∷ []) 0
    -- what it lacks: sleep, 35, 0B, and the two small erases
    ∷ sent 0x00 (0xB9 ∷ []) 12
    ∷ sent 0x00 (0x35 ∷ 0x00 ∷ []) 12
    ∷ sent 0x00 (0x0B ∷ 0x00 ∷ 0x00 ∷ 0x00 ∷ 0x00 ∷ []) 12
    ∷ sent 0x3E (0x20 ∷ 0x00 ∷ 0x00 ∷ 0x00 ∷ []) 12
    ∷ sent 0x3E (0x52 ∷ 0x00 ∷ 0x00 ∷ 0x00 ∷ []) 12
    -- it has one status byte
    ∷ sent 0x02 (0x01 ∷ 0x04 ∷ 0x00 ∷ []) 13
    ∷ sent 0x00 (0x01 ∷ 0x04 ∷ []) 14
    -- setting 15 protects from 0F0000 on, and an address is taken modulo 100000
    ∷ sent 0x3E (0x02 ∷ 0x0E ∷ 0xFF ∷ 0xFF ∷ 0x00 ∷ []) 0
    ∷ sent 0x3E (0x02 ∷ 0x0F ∷ 0x00 ∷ 0x00 ∷ 0x00 ∷ []) 16
    ∷ sent 0x3E (0x02 ∷ 0x1E ∷ 0xFF ∷ 0xFF ∷ 0x00 ∷ []) 0
    ∷ sent 0x3E (0x02 ∷ 0x1F ∷ 0x00 ∷ 0x00 ∷ 0x00 ∷ []) 16
    -- setting 0 protects all
    ∷ sent 0x02 (0x02 ∷ 0x00 ∷ 0x00 ∷ 0x00 ∷ 0x00 ∷ []) 16
    ∷ sent 0x02 (0xD8 ∷ 0x00 ∷ 0x00 ∷ 0x00 ∷ []) 16
    ∷ sent 0x02 (0xC7 ∷ []) 16
    -- while BUSY is 1 it hears 05 alone
    ∷ sent 0x03 (0x05 ∷ 0x00 ∷ []) 0
    ∷ sent 0x03 (0x25 ∷ 0x00 ∷ []) 10
    ∷ sent 0x03 (0x35 ∷ 0x00 ∷ []) 10
    ∷ []

-- ---- refusal 3

pub record Word : Type 0 where
  pub kept : Kept
  pub formed : Bool

abbrev kept : ℕ → ℕ → Bool → Word
kept w a t = record { kept = record { status = w; awake = a }; formed = t }

unfoldable pub words : List Word
words =
    kept 0x3E 1 true
    ∷ kept 0x3F 1 true
    -- S6 is none of its bits, BUSY implies WEL, and it has no sleep
    ∷ kept 0x40 1 false
    ∷ kept 0x3D 1 false
    ∷ kept 0x3E 0 false
    ∷ kept 0x3E 2 false
    ∷ []

-- ---- the refusal of a job's bytes, at a start setting, with four bytes of payload

pub record Job : Type 0 where
  pub setting : ℕ
  pub job : List ℕ
  pub number : ℕ
  pub index : ℕ

abbrev asked : ℕ → List ℕ → ℕ → ℕ → Job
asked s j n i = record { setting = s; job = j; number = n; index = i }

-- an erase of unit u in 64 KB block k, a lay of n bytes from the last of block k on, a guard; each before what follows
abbrev erase : ℕ → ℕ → List ℕ → List ℕ
erase u k rest = 1 ∷ u ∷ 0 ∷ 0 ∷ 0 ∷ k ∷ 0 ∷ 0 ∷ 0 ∷ 0 ∷ 0 ∷ 0 ∷ 0 ∷ 0 ∷ 0 ∷ 0 ∷ rest

abbrev lay : ℕ → ℕ → List ℕ → List ℕ
lay k n rest = 2 ∷ 0 ∷ 0 ∷ 0 ∷ 0 ∷ k ∷ 0xFF ∷ 0xFF ∷ 0 ∷ 0 ∷ 0 ∷ n ∷ 0 ∷ 0 ∷ 0 ∷ 0 ∷ rest

abbrev guard : ℕ → List ℕ → List ℕ
guard g rest = 3 ∷ g ∷ 0 ∷ 0 ∷ 0 ∷ 0 ∷ 0 ∷ 0 ∷ 0 ∷ 0 ∷ 0 ∷ 0 ∷ 0 ∷ 0 ∷ 0 ∷ 0 ∷ rest

unfoldable pub jobs : List Job
jobs =
    -- the units that it has no command for, and the settings that it cannot hold
    asked 15 (erase 0 0 []) 23 0
    ∷ asked 15 (erase 1 0 []) 23 0
    ∷ asked 15 (guard 15 []) 0 0
    ∷ asked 15 (guard 16 []) 23 0
    ∷ asked 15 (guard 31 []) 23 0
    ∷ asked 15 (guard 32 []) 22 0
    -- its end: 0FFFFF is its last byte
    ∷ asked 15 (erase 2 0x10 []) 23 0
    ∷ asked 15 (lay 0x0F 2 []) 23 0
    -- its area, before and after a guard
    ∷ asked 0 (erase 2 0 []) 25 0
    ∷ asked 0 (erase 3 0 []) 25 0
    ∷ asked 15 (lay 0x0E 1 []) 0 0
    ∷ asked 15 (lay 0x0E 2 []) 25 0
    ∷ asked 0 (guard 1 (lay 0 2 [])) 25 1
    ∷ asked 0 (guard 2 (lay 0 2 [])) 0 0
    ∷ []
