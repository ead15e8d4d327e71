use Rattle.std.proofs.Common.{◌≡◌, ◌+◌, ◌*◌, arith, get_or}
use Rattle.laws.proofs.Parts.{part_sound}
use Rattle.laws.proofs.Sound.{size_some}
use Rattle.rules.specs.Verdict.{address_of}
use native.Mathlib.Nat.{mod-lt}
use Rattle.judge.proofs.address_of.Goals as goal

pub nonzero_rem-result : goal.nonzero_rem-result
nonzero_rem-result c = omega (arith, c.size_of.ensures, size_some _ (part_sound c.args.part))

pub returns : goal.returns
unfolding address_of
returns c =
    let s = c.size_of in
    let z = size_some _ (part_sound c.args.part) in
    let e : c.from_be_bytes.result ≡ get_or c.args.bytes.now 1 0 * 65536 + get_or c.args.bytes.now 2 0 * 256 + get_or c.args.bytes.now 3 0 = omega (arith, c.from_be_bytes.ensures, c.byte_at-high.ensures, c.byte_at-middle.ensures, c.byte_at-low.ensures) in
    (rw (← e, ← s.ensures), rw (← s.ensures) (mod-lt _ (omega (arith, z))))
