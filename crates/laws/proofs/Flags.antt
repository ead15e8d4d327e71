-- A flag is a bit.
use mathlib.Core.Bool.{Bool, true, false}
use Prim.Native.Nat.{◌<◌}
use native.Mathlib.Omega.{arith}
use Rattle.rules.specs.Status.{flag}

pub flag_small : (t : Bool) → flag t < 2
flag_small true = omega arith
flag_small false = omega arith
