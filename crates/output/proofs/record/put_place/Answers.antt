use Rattle.std.proofs.Common.{rules}
use Rattle.output.specs.Bytes.{placed_start, placed_both}
use Rattle.output.proofs.record.put_place.Goals as goal

pub returns-then-ends : goal.returns-then-ends
returns-then-ends c = rw c.if-ends.true (placed_both _ c.put32.ensures c.put32-then-ends.ensures (search rules) (rw c.if-ends.true at c.requires))

pub returns-else-ends : goal.returns-else-ends
returns-else-ends c = rw c.if-ends.false (placed_start _ c.put32.ensures (rw c.if-ends.false at c.requires))
