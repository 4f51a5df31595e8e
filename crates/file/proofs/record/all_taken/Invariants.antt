use Rattle.std.proofs.Common.{◌≡◌, true}
use Rattle.tree.specs.Below.{all_below}
use Rattle.tree.specs.Fields.{head_at}
use Rattle.tree.specs.Record.{taken}
use Rattle.file.proofs.record.all_taken.Given as goal

abbrev pub invariant-loop-at : goal.invariant-loop-at
invariant-loop-at l = all_below (λ j. taken l.logicals (head_at l.src j)) l.at ≡ true
