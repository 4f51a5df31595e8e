use Rattle.std.proofs.Common.{rules}
use Rattle.output.specs.Parts.{made_at}
use Rattle.output.proofs.record.make_at.Goals as goal

pub returns : goal.returns
returns c = made_at c.args.out.now c.make.new.part c.args.pos c.requires c.start-p.result c.start-p.ensures.0 (search rules) _ _ _ _ _ _ (rw c.has_ends-ends.ensures c.make.ensures)
