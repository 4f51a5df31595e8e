use Rattle.std.proofs.Common.{arith}
use Rattle.tree.specs.Room.{record_inside, header_inside}
use Rattle.fields.proofs.record.Record.start.Goals as goal

pub file_length-requires : goal.file_length-requires
file_length-requires c = (header_inside _ _ c.args.self.inside, omega (arith, record_inside _ _ _ c.args.self.inside))
