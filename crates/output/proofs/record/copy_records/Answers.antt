use Rattle.std.proofs.Common.{rules}
use Rattle.tree.specs.Room.{span_by}
use Rattle.output.specs.Records.{moved_records}
use Rattle.output.proofs.record.copy_records.Goals as goal

pub returns : goal.returns
returns c = moved_records c.requires.2 c.start-from.ensures.0 c.start-to.ensures.0 (span_by _ c.args.n c.width_of.ensures) (search rules) c.copy_bytes.ensures
