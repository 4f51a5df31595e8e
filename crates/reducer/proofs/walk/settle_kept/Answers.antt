use Rattle.std.proofs.Common.{refl}
use Rattle.tree.specs.Room.{place_said}
use Rattle.reducer.specs.Settled.{settled_left}
use Rattle.reducer.proofs.walk.settle_kept.Goals as goal

pub returns : goal.returns
returns c =
    let place = place_said c.args.out.now c.args.out.now c.args.waiting.next refl c.place-place.ensures in
    rw c.none.ensures (settled_left c.if-end-next.false place c.flush_template.ensures)
