use Rattle.tree.specs.Room.{place_said}
use Rattle.rewrite.specs.Join.{join_one, second_inside, pair_given, join_two, join_several}
use Rattle.rewrite.proofs.join.join_kept.Goals as goal

pub returns-then-second-end : goal.returns-then-second-end
returns-then-second-end c = join_one c.subtree.ensures.0 c.if-end-first.false c.if-second-end.true c.none_one_several.ensures

pub invariant_of-right : goal.invariant_of-right
invariant_of-right c = record { inside = second_inside c.subtree.ensures.0 c.if-end-first.false c.if-second-end.false c.requires }

pub join_sequence-requires : goal.join_sequence-requires
join_sequence-requires c = pair_given c.subtree.ensures.0 c.if-end-first.false c.if-second-end.false _ c.subtree-2.ensures.0 c.if-second-subtree.true c.requires

pub returns-then-second-subtree : goal.returns-then-second-subtree
returns-then-second-subtree c =
    join_two c.subtree.ensures.0 c.if-end-first.false c.if-second-end.false _ c.subtree-2.ensures.0 c.if-second-subtree.true
    (place_said c.args.node.src.now c.args.out.now c.args.node.at c.requires.same c.place.ensures)
    c.join_sequence.ensures

pub returns : goal.returns
returns c = join_several c.subtree.ensures.0 c.if-end-first.false c.if-second-end.false _ c.subtree-2.ensures.0 c.if-second-subtree.false c.none_one_several-2.ensures
