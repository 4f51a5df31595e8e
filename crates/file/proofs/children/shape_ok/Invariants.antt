use Rattle.std.proofs.Common.{◌≡◌, true}
use Rattle.tree.specs.Below.{all_below}
use Rattle.tree.specs.Refusal.{shape_at}
use Rattle.file.proofs.children.shape_ok.Given as goal

abbrev pub invariant-loop-at : goal.invariant-loop-at
invariant-loop-at l = all_below (shape_at l.src l.n) l.at ≡ true
