use Rattle.std.proofs.Common.{arith}
use Rattle.show.specs.Shown.{file_headed, file_held, file_shown}
use Rattle.show.proofs.print_file.Goals as goal

pub print_header-requires : goal.print_header-requires
print_header-requires c = file_headed _ _ c.in-Ok.ensures

pub invariant_of-root : goal.invariant_of-root
invariant_of-root c = record { ordered = omega arith; held = file_held _ _ c.in-Ok.ensures (record { small = λ i. omega (arith, c.type_inv.src i) }) }

pub print_trees-requires : goal.print_trees-requires
print_trees-requires c = file_shown _ _ c.in-Ok.ensures (record { small = λ i. omega (arith, c.type_inv.src i) })
