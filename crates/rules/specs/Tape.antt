-- The format of a tape: its bytes, record by record. Document 01, "Jobs and tapes" and refusals 30 and 31.
use Rattle.std.specs.Prelude.{ℕ, zero, suc, ◌+◌, ◌-◌, ◌*◌, ◌/◌, ◌%◌, Bool, not, ◌&&◌, ◌||◌, List, [], ◌∷◌, ◌++◌, length, get_or, take, drop, replicate, Option}
use Rattle.lists.specs.Choice.{if◌then◌otherwise◌, ◌=?◌, ◌≤?◌}
use Rattle.lists.specs.Places.{every_in, first_in}
use Rattle.rules.specs.Status.{flag}

-- what a record says
pub data Rec : Type 0 where
  -- the bytes, the leftover bits, and whether /WP is high
  transaction : List ℕ → ℕ → Bool → Rec
  finish : Rec
  power_cycle : Rec

-- "records of 264 bytes": four head bytes, then at most 260
abbrev pub record_length : ℕ
record_length = 264

abbrev pub head_length : ℕ
head_length = 4

abbrev pub sent_limit : ℕ
sent_limit = 260

-- ---- record p of a tape t

-- byte i of record p
abbrev pub byte_at : List ℕ → ℕ → ℕ → ℕ
byte_at t p i = get_or t (record_length * p + i) 0

-- 0 and 1 the length, big-endian; 2 the kind; 3 "the leftover bits, plus 8 where /WP is high"
abbrev pub length_at : List ℕ → ℕ → ℕ
length_at t p = byte_at t p 0 * 256 + byte_at t p 1

abbrev pub kind_at : List ℕ → ℕ → ℕ
kind_at t p = byte_at t p 2

abbrev pub bits_at : List ℕ → ℕ → ℕ
bits_at t p = byte_at t p 3

-- "then the bytes"
abbrev pub bytes_start : ℕ → ℕ
bytes_start p = record_length * p + head_length

abbrev pub leftover_of : ℕ → ℕ
leftover_of bits = bits % 8

abbrev pub high_of : ℕ → Bool
high_of bits = 8 ≤? bits

-- what record p says, of a tape that 30 and 31 let pass
unfoldable pub rec_at : List ℕ → ℕ → Rec
rec_at t p =
    if kind_at t p =? 0 then transaction (take (length_at t p) (drop (bytes_start p) t)) (leftover_of (bits_at t p)) (high_of (bits_at t p)) otherwise
    if kind_at t p =? 1 then finish otherwise
    power_cycle

-- n records from record p on
unfoldable pub recs_from : List ℕ → ℕ → ℕ → List Rec
recs_from t p zero = []
recs_from t p (suc n) = rec_at t p ∷ recs_from t (suc p) n

-- how many records a tape has
abbrev pub records : List ℕ → ℕ
records t = length t / record_length

-- all of them
abbrev pub recs_of : List ℕ → List Rec
recs_of t = recs_from t 0 (records t)

-- ---- faults

-- whole records; else 30
abbrev pub whole : List ℕ → Bool
whole t = length t % record_length =? 0

abbrev pub is_zero : List ℕ → ℕ → Bool
is_zero t x = get_or t x 0 =? 0

-- a record is good, or else 31: "length over 260, kind over 2, byte 3 over 15, a byte after its length not 0, or kind 1 or 2 with anything else not 0"
unfoldable pub good_record : List ℕ → ℕ → Bool
good_record t p =
    (length_at t p ≤? sent_limit)
    && (kind_at t p ≤? 2)
    && (bits_at t p ≤? 15)
    && every_in (is_zero t) (bytes_start p + length_at t p) (sent_limit - length_at t p)
    && ((kind_at t p =? 0) || (length_at t p =? 0) && (bits_at t p =? 0))

-- the first bad record
unfoldable pub first_bad : List ℕ → Option ℕ
first_bad t = first_in (λ p. not (good_record t p)) 0 (records t)

-- ---- a record written

unfoldable pub encode_rec : Rec → List ℕ
encode_rec (transaction b x high) =
    length b / 256 ∷ length b % 256 ∷ 0 ∷ (x + flag high * 8) ∷ b ++ replicate (sent_limit - length b) 0
encode_rec finish = 0 ∷ 0 ∷ 1 ∷ 0 ∷ replicate sent_limit 0
encode_rec power_cycle = 0 ∷ 0 ∷ 2 ∷ 0 ∷ replicate sent_limit 0

unfoldable pub encode : List Rec → List ℕ
encode [] = []
encode (r ∷ rs) = encode_rec r ++ encode rs
