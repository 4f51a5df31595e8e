use Rattle.tree.specs.Tree.{size}
use Rattle.readings.specs.View.{tree}
use Rattle.readings.proofs.node.Node.+last_expression_in_sequence.Given as goal

abbrev pub decreases-last_expression_in_sequence : goal.decreases-last_expression_in_sequence
decreases-last_expression_in_sequence l = size (tree l.self)
