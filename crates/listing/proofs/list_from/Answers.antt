use Rattle.std.proofs.Common.{rules}
use mathlib.Core.Path.{refl, ◌∙◌}
use Rattle.listing.proofs.Next.{come_on}
use Rattle.listing.proofs.list_from.Goals as goal

pub loop-line-preserved : goal.loop-line-preserved
loop-line-preserved c =
    let l = c.loop-line in
    let line = c.in-Some.ensures in (
      search rules,
      refl,
      come_on _ _ _ _ _ _ _ _ l.invariant.2 l.invariant.0 (search rules) (c.deref.ensures.0 ∙ line.0) (rw c.deref.ensures.0 line.1) (search rules) c.put.ensures,
    )
