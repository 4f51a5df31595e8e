use Rattle.std.proofs.Common.{refl, arith}
use Rattle.rewrite.specs.Made.{made_few, made_over}
use Rattle.rewrite.proofs.made.make_over.Goals as goal

pub overflow_cast-counts : goal.overflow_cast-counts
overflow_cast-counts c = omega (arith, made_few c.requires c.count_trees-n.ensures)

pub returns : goal.returns
returns c = made_over c.count_trees-n.ensures refl c.make_at.ensures
