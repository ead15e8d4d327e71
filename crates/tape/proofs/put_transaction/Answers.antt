use mathlib.Core.Path.{◌≡◌, ap, ◌∙◌}
use mathlib.Core.List.{List, ◌∷◌, ◌++◌}
use Prim.Native.Nat.{ℕ, ◌-◌, ◌/◌, ◌%◌}
use native.Mathlib.Omega.{arith}
use lib.ListN.{length, get_or, replicate}
use Rattle.rules.specs.Tape.{encode_rec}
use Rattle.tape.proofs.Written.{transaction_written}
use Rattle.tape.proofs.put_transaction.Goals as goal

pub returns : goal.returns
unfolding encode_rec
returns c =
    let b = c.args.bytes.now in
    let few = c.requires.1 in
    let sent = c.to_be_bytes.ensures in
    let high : get_or c.to_be_bytes.result 0 0 ≡ length b / 256 = ap (λ (l : List ℕ). get_or l 0 0) sent ∙ omega arith in
    let low : get_or c.to_be_bytes.result 1 0 ≡ length b % 256 = ap (λ (l : List ℕ). get_or l 1 0) sent ∙ omega arith in
    transaction_written _ _ _ b _ _ _ 0 _ c.requires.0 few (c.fill.ensures.after (λ y e. e)) c.put.ensures c.put-2.ensures
    ∙ (λ i. high i ∷ low i ∷ 0 ∷ c.bits_of.ensures i ∷ b ++ replicate (260 - length b) 0)
