use Rattle.std.proofs.Common.{arith, rules}
use Rattle.output.specs.Parts.{kept_at}
use Rattle.output.proofs.record.keep_at.Goals as goal

pub returns : goal.returns
returns c = kept_at _ _ _ (omega (arith, c.copy_records.ensures.below.room)) _ c.start-p.ensures.0 (search rules) _ _ _ _ _ c.copy_records.ensures c.patch.ensures
