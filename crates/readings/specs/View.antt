-- The tree that a node is, and the trees that are left to walk.
use Rattle.std.specs.Prelude.{List, ◌-◌}
use Rattle.tree.specs.Tree.{Tree, trees}
use Rattle.readings.specs.At.{forest_at, tree_at}
use Rattle.readings.specs.declared.node.Node.{Node}
use Rattle.readings.specs.declared.node.Trees.{Trees}

abbrev pub tree : Node → Tree
tree n = tree_at n.record.src.now n.record.at

abbrev pub left : Trees → List Tree
left w = trees (forest_at w.src.now w.at (w.end - w.at))
