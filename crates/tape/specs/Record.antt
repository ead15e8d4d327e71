-- Parts of `good_record` and of `read_at`, in the terms that the code goes by.
use Rattle.std.specs.Prelude.{ℕ, Bool, ◌&&◌, ◌||◌, List, take, drop}
use Rattle.lists.specs.Choice.{◌=?◌, ◌≤?◌}
use Rattle.rules.specs.declared.Record.{Record}
use Rattle.rules.specs.declared.Record.TheVariants.{Transaction, Finish, PowerCycle}
use Rattle.rules.specs.Tape.{Rec, transaction, finish, power_cycle, sent_limit}

-- what 31 asks of a record's length, kind and byte 3
unfoldable pub head_good : ℕ → ℕ → ℕ → Bool
head_good n kind bits = (n ≤? sent_limit) && (kind ≤? 2) && (bits ≤? 15) && ((kind =? 0) || (n =? 0) && (bits =? 0))

-- the record of the tape t that says so
abbrev pub rec_of : List ℕ → Record → Rec
rec_of t (Transaction s) = transaction (take s.length (drop s.start t)) s.leftover s.high
rec_of t Finish = finish
rec_of t PowerCycle = power_cycle
