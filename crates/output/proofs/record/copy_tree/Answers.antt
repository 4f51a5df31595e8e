use Rattle.output.specs.Trees.{copied_tree}
use Rattle.output.proofs.record.copy_tree.Goals as goal

pub returns : goal.returns
returns c = copied_tree c.copy_records.ensures
