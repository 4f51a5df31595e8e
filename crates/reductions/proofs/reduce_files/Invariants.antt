use Rattle.std.proofs.Common.{◌≡◌}
use Rattle.reductions.proofs.reduce_files.Given as goal

abbrev pub invariant-loop-head : goal.invariant-loop-head
invariant-loop-head l = l.head-iterator.head ≡ 5
