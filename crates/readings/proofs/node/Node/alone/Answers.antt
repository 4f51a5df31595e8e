use Rattle.std.proofs.Common.{arith}
use Rattle.readings.specs.Entered.{alone_held, alone_trees}
use Rattle.readings.proofs.node.Node.alone.Goals as goal

pub invariant_of-result : goal.invariant_of-result
invariant_of-result c = record { ordered = omega arith; held = alone_held _ _ _ c.args.self.stands c.size.ensures.records }

pub returns-clause-trees : goal.returns-clause-trees
returns-clause-trees c = alone_trees _ _ _ c.args.self.stands c.size.ensures.records
