use Rattle.tree.specs.Room.{place_said}
use Rattle.rules.specs.Made.{make_template}
use Rattle.reducer.specs.Close.{closing_list, closed}
use Rattle.reducer.proofs.close.close_template.Goals as goal

pub none_one_several-requires : goal.none_one_several-requires
none_one_several-requires c = closing_list make_template c.flush_template.ensures c.requires

pub returns : goal.returns
returns c =
    let place = place_said c.args.node.src.now c.args.out.now c.args.node.at c.requires.same c.place.ensures in
    closed make_template c.flush_template.ensures place c.none_one_several.ensures
