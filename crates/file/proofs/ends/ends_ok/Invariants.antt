use Rattle.std.proofs.Common.{◌≡◌, true}
use Rattle.tree.specs.Below.{all_below}
use Rattle.tree.specs.Fields.{head_at}
use Rattle.tree.specs.Record.{end_ok}
use Rattle.file.proofs.ends.ends_ok.Given as goal

abbrev pub invariant-loop-at : goal.invariant-loop-at
invariant-loop-at l = all_below (λ j. end_ok (head_at l.src j).place) l.at ≡ true
