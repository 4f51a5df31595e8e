use Rattle.std.proofs.Common.{refl, arith}
use Rattle.rewrite.specs.Made.{made_few}
use Rattle.rewrite.specs.Becomes.{list_made, stays_some}
use Rattle.rewrite.proofs.close.stays_with.Goals as goal

pub overflow_cast-counts : goal.overflow_cast-counts
overflow_cast-counts c = omega (arith, made_few (list_made c.requires) c.count_trees-n.ensures)

pub returns : goal.returns
returns c = stays_some c.if-end-first.false c.count_trees-n.ensures refl c.keep_at.ensures
