use Rattle.tree.specs.Room.{header_inside}
use Rattle.show.proofs.print_record.Goals as goal

pub has_ends-requires : goal.has_ends-requires
has_ends-requires c = header_inside _ _ c.args.node.inside
