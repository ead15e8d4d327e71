-- What document 01 says of the chip's pieces and of S15, by its numbers.
use mathlib.Core.Path.{◌≡◌, refl}
use mathlib.Core.Bool.{true, false}
use Prim.Native.Nat.{◌*◌, ◌/◌, ◌%◌}
use native.Mathlib.Omega.{arith}
use borrow.Author.Tests.{ltb-true, ne_eqb}
use Rattle.lists.specs.Choice.{◌<?◌}
use Rattle.lists.proofs.Choice.{both_true}
use Rattle.rules.specs.declared.Kept.{Kept}
use Rattle.rules.specs.Units.{page, sector, block32, block64}
use Rattle.rules.specs.Status.{bit0, bit_at, wel_bit, sus_bit}
use Rattle.rules.specs.WellFormed.{implies, word_formed, awake_formed, well_formed}
use Rattle.rules.specs.Fm25q16.{fm_size, fm_pages, fm_sectors, fm_blocks32, fm_blocks64, fm25q16}

-- "Its size is 2,097,152 bytes: 8,192 pages of 256, 512 sectors of 4,096, 64 blocks of 32,768, 32 blocks of 65,536"
pub pieces : (fm_pages * page ≡ fm_size) × (fm_sectors * sector ≡ fm_size) × (fm_blocks32 * block32 ≡ fm_size) × (fm_blocks64 * block64 ≡ fm_size)
pieces = (refl, refl, refl, refl)

-- "S15 SUS"; "well formed when S10 to S15 are 0": no well-formed word of the chip has it
pub sus_clear : (k : Kept) → well_formed fm25q16 k ≡ true → bit_at sus_bit k.status ≡ false
unfolding well_formed word_formed fm25q16
sus_clear k e =
    let w = k.status in
    let h = ltb-true w 1024 (both_true (w <? 1024) (implies (bit0 w) (bit_at wel_bit w)) (both_true _ (awake_formed fm25q16 k) e).0).0 in
    ne_eqb (w / sus_bit % 2) 1 (λ q. omega arith)
