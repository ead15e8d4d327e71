-- The lines of the listing program. Document 01, "The listing program".
use Rattle.std.specs.Prelude.{ℕ, zero, suc, ◌+◌, ◌/◌, ◌%◌, not, ◌||◌, List, [], ◌∷◌, ◌++◌, length, get_or, Option, Some, None, Ok, Err}
use Rattle.lists.specs.Choice.{if◌then◌otherwise◌, ◌=?◌, ◌<?◌}
use Rattle.rules.specs.declared.Record.TheVariants.{Transaction, Finish, PowerCycle}
use Rattle.rules.specs.declared.Sent.{Sent}
use Rattle.rules.specs.Tape.{whole, first_bad, records}
use Rattle.rules.specs.Reading.{AtPlace, read_at}

-- "a tape of up to 65,472 bytes (more is 30)"
abbrev pub listing_limit : ℕ
listing_limit = 65472

-- ---- digits, as bytes of text

abbrev pub digit : ℕ → ℕ
digit n = 0x30 + n % 10

-- "index and length are decimal": four digits and three
abbrev pub digits3 : ℕ → List ℕ
digits3 n = digit (n / 100) ∷ digit (n / 10) ∷ digit n ∷ []

abbrev pub digits4 : ℕ → List ℕ
digits4 n = digit (n / 1000) ∷ digits3 n

-- "upper-case hex"
abbrev pub hex_digit : ℕ → ℕ
hex_digit n = if n <? 10 then 0x30 + n otherwise 0x37 + n

abbrev pub hex2 : ℕ → List ℕ
hex2 n = hex_digit (n / 16 % 16) ∷ hex_digit (n % 16) ∷ []

abbrev pub space : ℕ
space = 0x20

abbrev pub line_feed : ℕ
line_feed = 0x0A

-- ---- lines

-- "T with command and length"; "no whole byte prints as T -- 000"
abbrev pub transaction_text : List ℕ → Sent → List ℕ
transaction_text t s =
    0x54 ∷ space ∷ (if s.length =? 0 then 0x2D ∷ 0x2D ∷ [] otherwise hex2 (get_or t s.start 0)) ++ space ∷ digits3 s.length

-- "T .., F, or P"
abbrev pub record_text : List ℕ → AtPlace → List ℕ
record_text t (Ok (Some (Transaction s))) = transaction_text t s
record_text t (Ok (Some Finish)) = 0x46 ∷ []
record_text t (Ok (Some PowerCycle)) = 0x50 ∷ []
record_text t (Ok None) = []
record_text t (Err z) = []

-- "four-digit index, then .."; "each line ends with one line feed"
unfoldable pub record_line : List ℕ → ℕ → List ℕ
record_line t p = digits4 p ++ space ∷ record_text t (read_at t p) ++ line_feed ∷ []

-- n lines from record p on
unfoldable pub lines_from : List ℕ → ℕ → ℕ → List ℕ
lines_from t p zero = []
lines_from t p (suc n) = record_line t p ++ lines_from t (suc p) n

-- "a fault prints only, say, refused 31 0003"
unfoldable pub refused_line : ℕ → ℕ → List ℕ
refused_line number index =
    0x72 ∷ 0x65 ∷ 0x66 ∷ 0x75 ∷ 0x73 ∷ 0x65 ∷ 0x64 ∷ space
    ∷ digit (number / 10) ∷ digit number ∷ space ∷ digits4 index ++ line_feed ∷ []

abbrev pub listed : List ℕ → Option ℕ → List ℕ
listed t (Some i) = refused_line 31 i
listed t None = lines_from t 0 (records t)

unfoldable pub listing_of : (tape : List ℕ) → List ℕ
listing_of tape = if (listing_limit <? length tape) || not (whole tape) then refused_line 30 0 otherwise listed tape (first_bad tape)
