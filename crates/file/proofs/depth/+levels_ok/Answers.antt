-- Where a level fails or the walk ends, what it found of the trees that are left answers for all of them.
use Rattle.file.specs.Depth.{walk_done, walk_high, walk_on, walk_few}
use Rattle.file.proofs.depth.+levels_ok.Goals as goal
use Rattle.file.proofs.depth.+levels_ok.Goals.{else-depth-subtree-via-then-depth-subtree+else-not-levels_ok, else-depth-subtree-via-else-depth-subtree}

pub returns-then-not-levels_ok : goal.returns-then-not-levels_ok
returns-then-not-levels_ok t c =
    walk_high c.loop-next.invariant c.loop-next-test.true c.if-depth-eq0.false _ c.subtree-subtree.ensures.0 _ c.levels_ok.ensures c.if-not-levels_ok.true

pub loop-next-preserved : goal.loop-next-preserved
loop-next-preserved t c =
    elim c.else-depth-subtree.branch [
      | else-depth-subtree-via-then-depth-subtree+else-not-levels_ok w ↦
          walk_on c.loop-next.invariant c.loop-next-test.true c.if-depth-eq0.false _ c.subtree-subtree.ensures.0 _ w.levels_ok.ensures w.if-not-levels_ok.false
      | else-depth-subtree-via-else-depth-subtree w ↦
          walk_few c.loop-next.invariant c.loop-next-test.true _ c.subtree-subtree.ensures.0 w.if-depth-subtree.false
    ]

pub returns : goal.returns
returns t c = walk_done c.loop-next.invariant c.loop-next-test.false
