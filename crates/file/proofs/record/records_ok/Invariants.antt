use Rattle.std.proofs.Common.{◌≡◌, true}
use Rattle.tree.specs.Below.{all_below}
use Rattle.tree.specs.Fields.{head_at}
use Rattle.tree.specs.Record.{record_ok}
use Rattle.file.proofs.record.records_ok.Given as goal

abbrev pub invariant-loop-at : goal.invariant-loop-at
invariant-loop-at l = all_below (λ j. record_ok (head_at l.src j)) l.at ≡ true
