use Rattle.std.proofs.Common.{refl, ◌∙◌}
use Rattle.tree.specs.Room.{place_said}
use Rattle.readings.specs.At.{tree_at}
use Rattle.readings.specs.View.{tree}
use Rattle.rewrite.specs.Waiting.{wrapped_gone, wrapped_kept}
use Rattle.rewrite.proofs.waiting.wrap_spread.Goals as goal

pub returns-then-is_flagged : goal.returns-then-is_flagged
unfolding tree_at
returns-then-is_flagged c =
    wrapped_kept (tree c.args.node) c.is_flagged.ensures c.if-is_flagged.true c.args.node.stands.0 c.copy_tree-next.ensures
    (place_said c.args.node.record.src.now c.copy_tree-next.new.out c.args.node.record.at (c.copy_tree-next.ensures.frame.same ∙ c.requires.2) c.place.ensures)
    refl (rw c.from.ensures at c.make_at.ensures)

pub returns : goal.returns
returns c = wrapped_gone (tree c.args.node) c.is_flagged.ensures c.if-is_flagged.false
