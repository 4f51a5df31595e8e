use Rattle.tree.specs.Room.{place_said}
use Rattle.rewrite.specs.Arms.{arms_list, arms_made, consequent_gone, alternate_gone, both_stay}
use Rattle.rewrite.proofs.arms.join_arms.Goals as goal

pub make_logical-requires : goal.make_logical-requires
make_logical-requires c = arms_made c.requires

pub returns-then-middle-arms : goal.returns-then-middle-arms
returns-then-middle-arms c =
    consequent_gone (place_said c.args.node.src.now c.args.out.now c.args.node.at c.requires.same c.place.ensures) c.if-middle-arms.true c.requires.some c.make_logical.ensures

pub make_logical-requires-then-end-middle : goal.make_logical-requires-then-end-middle
make_logical-requires-then-end-middle c = arms_made c.requires

pub returns-then-end-middle : goal.returns-then-end-middle
returns-then-end-middle c =
    alternate_gone (place_said c.args.node.src.now c.args.out.now c.args.node.at c.requires.same c.place-then-end-middle.ensures) c.if-middle-arms.false c.if-end-middle.true
    c.make_logical-then-end-middle.ensures

pub stays_with-requires : goal.stays_with-requires
stays_with-requires c = arms_list c.requires

pub returns : goal.returns
returns c = both_stay c.if-middle-arms.false c.if-end-middle.false c.stays_with.ensures
