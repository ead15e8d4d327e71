use mathlib.Core.Path.{refl, ap}
use Prim.Native.Nat.{ℕ}
use native.Mathlib.Nat.{add-zero}
use lib.ListN.{get_or-replicate}
use Rattle.cells.specs.Page.{last_sent}
use Rattle.cells.proofs.latch.Goals as goal

pub loop-i-init : goal.loop-i-init
loop-i-init c =
    let a = c.args in
    (refl, λ j h. rw (add-zero a.off) (ap (last_sent a.off a.bytes.now j) (get_or-replicate {A = ℕ} 256 j 255 0 h)))
