use Rattle.std.proofs.Common.{◌-◌}
use Rattle.file.specs.Depth.{Walked}
use Rattle.file.proofs.depth.+levels_ok.Given as goal

abbrev pub decreases-levels_ok : goal.decreases-levels_ok
decreases-levels_ok l = l.depth

abbrev pub invariant-loop-next : goal.invariant-loop-next
invariant-loop-next l = Walked l.src l.at l.size l.depth l.next l.end

abbrev pub decreases-loop-next : goal.decreases-loop-next
decreases-loop-next l = l.end - l.next
