use Rattle.std.proofs.Common.{arith}
use Rattle.output.specs.Trees.{copied_trees}
use Rattle.output.proofs.record.copy_trees.Goals as goal

pub returns : goal.returns
returns c = let h = c.args.trees.held in copied_trees _ h.0 (omega (arith, h.1)) c.copy_records.ensures
