use Rattle.std.proofs.Common.{rules, ◌≡◌, ◌*◌, ℕ}
use borrow.Author.Tests.{tests}
use native.Mathlib.Omega.{arith}
use mathlib.Core.Path.{ap, ◌∙◌}
use mathlib.Core.List.{List}
use lib.ListN.{get_or, take, drop}
use lib.Seq.{get_or-take}
use Rattle.job.proofs.Bytes.{same_left, made}
use Rattle.job.proofs.decode.step_at.Goals as goal

pub returns-in-Some : goal.returns-in-Some
returns-in-Some c =
    let left = drop (16 * c.args.index) c.args.job.now in
    let step : c.in-Some.step.now ≡ take 16 left = c.in-Some.ensures.cases.same ∙ ap (take 16) c.bytes_from-left.ensures in
    rw c.decoded.ensures (same_left _ _ _ (λ k l. ap (λ (s : List ℕ). get_or s k 0) step ∙ get_or-take 16 left k 0 l))

pub returns-in-None : goal.returns-in-None
returns-in-None c =
    let left = drop (16 * c.args.index) c.args.job.now in
    let e = c.bytes_from-left.ensures in
    rw c.decoded-in-None.ensures (same_left _ _ _ (λ k l. made (λ j. get_or left j 0) _ _ 0 16 (λ j y q h. search (rules, tests)) c.from_fn.ensures.items.each k (omega arith) l))
