use Rattle.std.proofs.Common.{refl, arith}
use Rattle.tree.specs.Layout.{version_in}
use Rattle.tree.specs.Room.{span_by, start_next}
use Rattle.output.specs.Records.{moved_records}
use Rattle.output.proofs.record.move_down.Goals as goal

pub returns : goal.returns
returns c =
    moved_records refl (omega (arith, c.start-to.ensures, c.width_of-width.ensures, start_next (version_in c.args.out.now) c.args.pos)) c.start-to.ensures.0
    (omega (arith, c.loop-q.auto.q-end, c.loop-q-test.false, c.loop-q.invariant.ahead, span_by _ c.args.n c.width_of-width.ensures)) c.loop-q.auto.out c.loop-q.invariant.shifted
