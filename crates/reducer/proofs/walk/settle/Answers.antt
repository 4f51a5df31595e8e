use Rattle.tree.specs.Room.{place_said}
use Rattle.reducer.specs.Settled.{settled_object, settles_as}
use Rattle.reducer.proofs.walk.settle.Goals as goal

pub returns-in-Object : goal.returns-in-Object
returns-in-Object c =
    let place = place_said c.args.node.src.now c.args.out.now c.args.node.at c.requires.same c.place.ensures in
    rw c.none.ensures (settles_as _ c.in-Object.is (settled_object c.requires.list place c.flush_object.ensures))
