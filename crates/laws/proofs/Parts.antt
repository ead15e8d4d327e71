-- What each chip keeps, the chip of any part number keeps: nothing else opens `part_of`.
use Prim.Native.Nat.{ℕ}
use Rattle.rules.specs.Part.{Part}
use Rattle.rules.specs.Fm25q16.{fm25q16}
use Rattle.rules.specs.Parts.{part_of}
use Rattle.laws.proofs.Sound.{Sound}
use Rattle.laws.proofs.Tapeable.{Tapeable}
use Rattle.laws.proofs.Steady.{Steady}
use Rattle.laws.proofs.Fm25q16.{fm_sound, fm_tapeable, fm_steady}

pub each_part : (P : Part → Type 0) → P fm25q16 → (k : ℕ) → P (part_of k)
unfolding part_of
each_part P h k = h

pub part_sound : (k : ℕ) → Sound (part_of k)
part_sound = each_part Sound fm_sound

pub part_tapeable : (k : ℕ) → Tapeable (part_of k)
part_tapeable = each_part Tapeable fm_tapeable

pub part_steady : (k : ℕ) → Steady (part_of k)
part_steady = each_part Steady fm_steady
