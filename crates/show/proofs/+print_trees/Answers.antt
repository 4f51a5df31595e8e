use Rattle.std.proofs.Common.{arith}
use Rattle.show.specs.Shown.{has_kind, shown_kids}
use Rattle.show.proofs.+print_trees.Goals as goal

pub print_record-requires : goal.print_record-requires
print_record-requires t c = has_kind c.in-Some.node (rw c.in-Some.ensures.steps.0 at c.loop-node.invariant).0

pub print_trees-requires : goal.print_trees-requires
print_trees-requires t c =
    let s = (rw c.in-Some.ensures.steps.0 at c.loop-node.invariant).0 in
    (omega (arith, c.decreases, s.low), rw c.children.ensures.trees (shown_kids s))
