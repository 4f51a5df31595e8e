-- The measure is the size of the tree.
use Rattle.tree.specs.Tree.{size}
use Rattle.readings.specs.View.{tree}
use Rattle.addition.proofs.+fold_string_addition_chain.Given as goal

abbrev pub decreases-fold_string_addition_chain : goal.decreases-fold_string_addition_chain
decreases-fold_string_addition_chain l = size (tree l.node)
