use Rattle.std.specs.Prelude.{◌≡◌, ◌+◌, ◌-◌}
use Rattle.std.proofs.Common.{arith, ap}
use Rattle.tree.specs.Fields.{subtree_at}
use Rattle.tree.specs.Tree.{trees}
use Rattle.readings.specs.At.{node_size, node_kids, tree_at, forest_at}
use Rattle.readings.proofs.node.Node.children.Goals as goal

pub invariant_of-result : goal.invariant_of-result
invariant_of-result c =
    let n = node_size c.args.self.record.src.now c.args.self.record.at c.args.self.stands in
    let e : c.args.self.record.at + c.size.result - (c.args.self.record.at + 1) ≡ subtree_at c.args.self.record.src.now c.args.self.record.at - 1 = omega (arith, c.size.ensures.records, n) in
    record { ordered = omega (arith, c.args.self.stands.0.2, c.size.ensures.records); held = rw e (node_kids _ _ c.args.self.stands) }

pub returns-clause-trees : goal.returns-clause-trees
unfolding tree_at
returns-clause-trees c =
    let n = node_size c.args.self.record.src.now c.args.self.record.at c.args.self.stands in
    let e : c.args.self.record.at + c.size.result - (c.args.self.record.at + 1) ≡ subtree_at c.args.self.record.src.now c.args.self.record.at - 1 = omega (arith, c.size.ensures.records, n) in
    ap (λ m. trees (forest_at c.args.self.record.src.now (c.args.self.record.at + 1) m)) e
