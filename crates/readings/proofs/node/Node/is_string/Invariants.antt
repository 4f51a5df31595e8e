use Rattle.std.proofs.Common.{◌≡◌}
use Rattle.tree.specs.Symbol.{is_string}
use Rattle.tree.specs.Tree.{size}
use Rattle.readings.specs.View.{tree}
use Rattle.readings.proofs.node.Node.is_string.Given as goal

abbrev pub invariant-loop-left : goal.invariant-loop-left
invariant-loop-left l = is_string (tree l.node) ≡ is_string (tree l.self)

abbrev pub decreases-loop-left : goal.decreases-loop-left
decreases-loop-left l = size (tree l.node)
