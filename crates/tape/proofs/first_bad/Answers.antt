use Rattle.std.proofs.Common.{rules}
use mathlib.Core.Path.{◌≡◌, ap, ◌∙◌}
use mathlib.Core.Bool.{Bool, not}
use mathlib.Core.List.{List}
use Prim.Native.Nat.{ℕ, ◌+◌}
use native.Mathlib.Omega.{arith}
use borrow.Author.Tests.{tests}
use Rattle.std.proofs.lemmas.Iterator.{YieldsList-from_slice}
use Rattle.std.specs.List.{position_from}
use Rattle.std.proofs.lemmas.Iterator.Adapters.{position_from-zero}
use Rattle.std.proofs.lemmas.Iterator.Search.{position_from_yields_List}
use Rattle.rules.specs.Tape.{first_bad, good_record, records}
use Rattle.tape.proofs.Chunks.{good-lone, chunks_first}
use Rattle.tape.proofs.first_bad.Goals as goal

pub returns : goal.returns
unfolding first_bad
returns c =
    let t = c.args.tape.now in
    let bad : List ℕ → Bool = λ r. not (good_record r 0) in
    position_from_yields_List bad _ _ c.position.result c.position.ensures.ran (YieldsList-from_slice _ c.iter.ensures.rest) (λ x b q k. search (rules, tests))
    ∙ position_from-zero bad c.as_chunks.result.0.now
    ∙ ap (position_from bad 0) c.as_chunks.ensures.front
    ∙ chunks_first bad (λ p. not (good_record t p)) 0 (records t) t (λ j h. let e : j ≡ 0 + j = omega arith in ap not (good-lone t j) ∙ ap (λ (p : ℕ). not (good_record t p)) e)
