use Rattle.std.proofs.Common.{inl, inr}
use Rattle.tree.specs.Room.{place_said}
use Rattle.rewrite.specs.Becomes.{OneOf, list_one, list_several}
use Rattle.rewrite.proofs.close.close_list.Goals.{then-alone, else-alone}
use Rattle.rewrite.proofs.close.close_list.Goals as goal

pub returns-then-first-one : goal.returns-then-first-one
returns-then-first-one c =
    let o : OneOf c.args.alone c.if-alone.one c.subtree-size.result = elim c.if-alone.branch [ then-alone w ↦ inl (w.if-alone.true, w.one-is) | else-alone w ↦ inr (w.if-alone.false, w.one-is) ] in
    list_one c.subtree-size.ensures.0 c.if-end-first.false _ o c.if-first-one.true c.move_down.ensures

pub returns : goal.returns
returns c =
    let o : OneOf c.args.alone c.if-alone.one c.subtree-size.result = elim c.if-alone.branch [ then-alone w ↦ inl (w.if-alone.true, w.one-is) | else-alone w ↦ inr (w.if-alone.false, w.one-is) ] in
    list_several c.subtree-size.ensures.0 c.if-end-first.false _ o c.if-first-one.false (place_said c.args.node.src.now c.args.out.now c.args.node.at c.requires.same c.place.ensures) c.make_sequence.ensures
