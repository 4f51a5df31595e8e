use Rattle.std.proofs.Common.{◌-◌}
use Rattle.tree.specs.Tree.{All}
use Rattle.readings.specs.View.{left}
use Rattle.show.specs.Shown.{Shown}
use Rattle.show.proofs.+print_trees.Given as goal

abbrev pub decreases-print_trees : goal.decreases-print_trees
decreases-print_trees l = 66 - l.level

abbrev pub invariant-loop-node : goal.invariant-loop-node
invariant-loop-node l = All (Shown l.level) (left l.node-iterator)
