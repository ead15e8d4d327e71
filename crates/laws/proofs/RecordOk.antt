-- Records that a tape can hold: "the length 0 to 260", and leftover bits 0 to 7.
use mathlib.Core.Bool.{Bool}
use mathlib.Core.List.{List, [], ◌∷◌, ◌++◌}
use Prim.Native.Nat.{ℕ, ◌≤◌}
use lib.ListN.{length}
use Rattle.rules.specs.Tape.{Rec, transaction, finish, power_cycle, sent_limit}

pub data RecOk : Rec → Type 0 where
  transaction_ok : {b : List ℕ} {x : ℕ} {high : Bool} → length b ≤ sent_limit → x ≤ 7 → RecOk (transaction b x high)
  finish_ok : RecOk finish
  power_ok : RecOk power_cycle

pub data RecsOk : List Rec → Type 0 where
  no_recs : RecsOk []
  next : {r : Rec} {rs : List Rec} → RecOk r → RecsOk rs → RecsOk (r ∷ rs)

pub ok_append : {rs qs : List Rec} → RecsOk rs → RecsOk qs → RecsOk (rs ++ qs)
ok_append no_recs k = k
ok_append (next o h) k = next o (ok_append h k)
