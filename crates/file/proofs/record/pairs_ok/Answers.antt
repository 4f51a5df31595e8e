use Rattle.std.proofs.Common.{refl, arith}
use Rattle.tree.specs.Below.{all_below}
use Rattle.tree.specs.Record.{pairs_ok}
use Rattle.file.specs.Facts.{pairs_is}
use Rattle.file.proofs.record.pairs_ok.Goals as goal

pub returns : goal.returns
unfolding all_below pairs_ok
returns c = pairs_is _ refl _ (omega arith)
