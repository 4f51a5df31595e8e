use Rattle.file.specs.Symbols.{part_given}
use Rattle.file.proofs.symbols.additions_ok.Goals as goal

pub part_ok-requires : goal.part_ok-requires
part_ok-requires c = part_given c.loop-at.invariant c.loop-at-test.true _ c.goes_on-on.ensures
