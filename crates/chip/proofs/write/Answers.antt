use Rattle.laws.proofs.Sound.{reach_end, unit_end}
use Rattle.laws.proofs.Parts.{part_sound}
use Rattle.rules.specs.declared.Write.TheVariants.{Program}
use Rattle.rules.specs.Parts.{part_of}
use Rattle.rules.specs.Cells.{erased}
use native.Mathlib.Omega.{arith}
use Rattle.chip.proofs.write.Goals as goal

pub program_at-requires : goal.program_at-requires
program_at-requires c =
    let a = c.address_of-a in
    let p = part_of c.args.part in
    let g = reach_end p (part_sound c.args.part) Program a.result a.ensures.1 in
    omega (arith, g, c.requires)

pub erase-requires : goal.erase-requires
erase-requires c =
    let a = c.address_of-a in
    let p = part_of c.args.part in
    let g = unit_end p (part_sound c.args.part) c.in-Erase.u a.result a.ensures.1 in
    omega (arith, g, c.requires, c.unit_start-start.ensures, c.unit_length-n.ensures)

pub returns-in-Erase : goal.returns-in-Erase
unfolding erased
returns-in-Erase c =
    let a = c.address_of-a in
    rw (c.in-Erase.is, ← a.ensures.0, ← c.unit_start-start.ensures, ← c.unit_length-n.ensures) c.erase.ensures
