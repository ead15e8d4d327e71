use Rattle.output.proofs.Rest.{driven}
use mathlib.Core.Path.{◌∙◌}
use native.Mathlib.Omega.{arith}
use Rattle.output.proofs.drive.Goals as goal

pub returns : goal.returns
returns c =
    let s = c.split_at_mut-before.ensures in
    driven _ _ _ _ _ _ _ _ _ _ c.fill.ensures c.drive_rest.ensures (s.front_len ∙ c.first_place.ensures) (omega (arith, s.front_len, s.back_len))
