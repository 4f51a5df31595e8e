use Rattle.std.proofs.Common.{◌+◌, ◌*◌, ◌-◌}
use Rattle.tree.specs.Tree.{size}
use Rattle.readings.specs.View.{tree}
use Rattle.reducer.specs.Children.{Walking}
use Rattle.reducer.proofs.expression.Reduction.+expression.Given as goal

-- Remaining depth, then remaining records, then the order in which the functions call one another on the same node.
abbrev pub decreases-reduce_child : goal.decreases-reduce_child
decreases-reduce_child l = l.depth * 1048576 + size (tree l.node) * 8 + 3

abbrev pub decreases-reduce_children : goal.decreases-reduce_children
decreases-reduce_children l = l.depth * 1048576 + (l.list.end - l.list.at) * 8 + 4

abbrev pub decreases-reduce_conditional : goal.decreases-reduce_conditional
decreases-reduce_conditional l = l.depth * 1048576 + size (tree l.node) * 8 + 1

abbrev pub decreases-reduce_rewritten : goal.decreases-reduce_rewritten
decreases-reduce_rewritten l = l.depth * 1048576 + size (tree l.node) * 8 + 1

abbrev pub decreases-remove_unused_expression : goal.decreases-remove_unused_expression
decreases-remove_unused_expression l = l.depth * 1048576 + size (tree l.node) * 8 + 2

abbrev pub invariant-reduce_children-loop-node : goal.invariant-reduce_children-loop-node
invariant-reduce_children-loop-node l =
    Walking l.list l.depth l.part l.fn.self l.pos l.node-iterator l.self l.waiting
