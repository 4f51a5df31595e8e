use Rattle.std.specs.Prelude.{refl, drop, ◌-◌, ◌≤◌}
use Rattle.std.proofs.Common.{ap, arith, sym, ◌∙◌}
use Rattle.tree.specs.Tree.{forest, forest_trees, one, records, size}
use Rattle.rules.proofs.Lists.{all_drop}
use Rattle.readings.specs.At.{tree_at}
use Rattle.readings.specs.Given.{given}
use Rattle.readings.specs.View.{tree}
use Rattle.effects.specs.Listing.{listable_kids, some_level}
use Rattle.effects.specs.Taken.{others}
use Rattle.handlers.specs.declared.outcome.Outcome.TheVariants as outcomes
use Rattle.handlers.specs.declared.outcome.Rewrite.TheVariants as rewrites
use Rattle.output.specs.Given.{step_size, trees_size}
use Rattle.output.specs.Trees.{copied_trees}
use Rattle.rewrite.specs.Waiting.{waits_after}
use Rattle.reducer.specs.Child.{child_held, child_settled, given_settle, node_reduced, node_wrapped}
use Rattle.reducer.specs.Children.{next_given, walk_done, walk_on}
use Rattle.reducer.specs.Conditional.{Arms, arms_given, arms_size, both_gone, conditional_done, first_given, second_given, test_given, test_room}
use Rattle.reducer.specs.Expression.{arguments_wrote, as_made, as_outcome, becomes_left, in_order_wrote, inner_given, kids_few, list_given, object_done, others_few, outcome_done, outer_given, removable_done, template_done, walked_as, walked_given}
use Rattle.reducer.specs.Given.{Reduced, stays_all, stays_both, stays_written}
use Rattle.reducer.specs.Walked.{left_of}
use Rattle.reducer.proofs.expression.Reduction.+expression.Goals.{reduce_child-then-wraps, reduce_child-else-wraps}
use Rattle.reducer.proofs.expression.Reduction.+expression.Goals as goal

-- ---- one child

pub reduce_child-returns-then-waits : goal.reduce_child-returns-then-waits
reduce_child-returns-then-waits t c = child_held c.args.part (tree c.args.node) c.waits.ensures c.if-waits.true (stays_written c.args.self.now c.hold.auto.out) (c.hold.ensures.by (tree c.args.node) c.args.node.stands.0 c.size.ensures.records)

pub reduce_child-settle-requires : goal.reduce_child-settle-requires
reduce_child-settle-requires t c =
    let left : Reduced c.args.self.now c.if-wraps.self c.args.waiting.next c.if-wraps.end (left_of c.args.part (given c.args.self.now.settings) (tree c.args.node)) =
    elim c.if-wraps.branch [
      | reduce_child-then-wraps w ↦ rw (w.self-is, w.end-is) (node_wrapped c.args.part c.args.node c.wraps.ensures w.if-wraps.true (stays_written _ w.wrap_spread-end.auto.out) (w.wrap_spread-end.ensures.by w.size-then-wraps.ensures.records))
      | reduce_child-else-wraps w ↦ rw (w.self-is, w.end-is) (node_reduced c.args.part c.args.node c.wraps.ensures w.if-wraps.false w.remove_unused_expression-end.ensures)
    ] in
    given_settle c.requires c.args.part (given c.args.self.now.settings) left.wrote

pub reduce_child-returns : goal.reduce_child-returns
unfolding tree_at
reduce_child-returns t c =
    let left : Reduced c.args.self.now c.if-wraps.self c.args.waiting.next c.if-wraps.end (left_of c.args.part (given c.args.self.now.settings) (tree c.args.node)) =
    elim c.if-wraps.branch [
      | reduce_child-then-wraps w ↦ rw (w.self-is, w.end-is) (node_wrapped c.args.part c.args.node c.wraps.ensures w.if-wraps.true (stays_written _ w.wrap_spread-end.auto.out) (w.wrap_spread-end.ensures.by w.size-then-wraps.ensures.records))
      | reduce_child-else-wraps w ↦ rw (w.self-is, w.end-is) (node_reduced c.args.part c.args.node c.wraps.ensures w.if-wraps.false w.remove_unused_expression-end.ensures)
    ] in
    child_settled c.args.part (tree c.args.node) c.waits.ensures c.if-waits.false left (stays_written _ c.settle.auto.out) c.settle.ensures

-- ---- a list

pub reduce_children-reduce_child-waiting-requires : goal.reduce_children-reduce_child-waiting-requires
reduce_children-reduce_child-waiting-requires t c =
    let k = c.loop-node.invariant in
    let y = c.in-Some.ensures.steps in (
      omega (arith, c.decreases, step_size c.loop-node.node-iterator c.next.new.self c.in-Some.node (y.0, y.1, y.2), k.few, k.behind, waits_after k.waits),
      next_given c.args.list c.args.part c.loop-node.node-iterator k c.next.new.self c.in-Some.node (y.0, y.1, y.2),
    )

pub reduce_children-loop-node-preserved : goal.reduce_children-loop-node-preserved
reduce_children-loop-node-preserved t c =
    let k = c.loop-node.invariant in
    let y = c.in-Some.ensures.steps in
    walk_on c.args.list c.args.part c.loop-node.node-iterator k c.next.new.self c.in-Some.node (y.0, y.1, y.2) c.reduce_child-waiting.ensures

pub reduce_children-returns : goal.reduce_children-returns
reduce_children-returns t c =
    walk_done c.args.list c.args.part c.loop-node.node-iterator c.loop-node.invariant c.in-None.ensures.steps.0.0

-- ---- a node that is rewritten

pub reduce_rewritten-reduce_children-waiting-requires : goal.reduce_rewritten-reduce_children-waiting-requires
reduce_rewritten-reduce_children-waiting-requires t c =
    let w = c.children.result in
    let z : w.end - w.at ≤ size (tree c.args.node) - 1 = omega (arith, sym (trees_size w), ap (λ l. records (forest l)) c.children.ensures.trees, ap records (forest_trees (tree c.args.node).kids)) in (
      omega (arith, c.decreases, some_level c.requires.tree.listable, z, c.requires.tree.small),
      inner_given c.requires.tree c.children.ensures.source z (rw c.children.ensures.trees (listable_kids c.requires.tree.listable)),
    )

pub reduce_rewritten-remove_unused_sequence_expr-requires : goal.reduce_rewritten-remove_unused_sequence_expr-requires
reduce_rewritten-remove_unused_sequence_expr-requires t c =
    let a = (walked_as rewrites.Sequence c.part_under-part.ensures c.in-Sequence.is (rw c.children.ensures.trees at c.reduce_children-waiting.ensures)) in
    list_given c.requires.tree _ (in_order_wrote a) (omega (arith, kids_few c.args.node refl a))

pub reduce_rewritten-returns-in-Sequence : goal.reduce_rewritten-returns-in-Sequence
reduce_rewritten-returns-in-Sequence t c =
    let a = (walked_as rewrites.Sequence c.part_under-part.ensures c.in-Sequence.is (rw c.children.ensures.trees at c.reduce_children-waiting.ensures)) in
    record {
      wrote = outcome_done (outcomes.Rewritten rewrites.Sequence) (as_made rewrites.Sequence c.in-Sequence.is c.requires.handles) (becomes_left c.args.node c.remove_unused_sequence_expr.ensures _ (in_order_wrote a));
      stays = stays_both a.stays (stays_written _ c.remove_unused_sequence_expr.auto.out);
    }

pub reduce_rewritten-remove_unused_array_expr-requires : goal.reduce_rewritten-remove_unused_array_expr-requires
reduce_rewritten-remove_unused_array_expr-requires t c =
    let a = (walked_as rewrites.Array c.part_under-part.ensures c.in-Array.is (rw c.children.ensures.trees at c.reduce_children-waiting.ensures)) in
    list_given c.requires.tree _ (in_order_wrote a) (omega (arith, kids_few c.args.node refl a))

pub reduce_rewritten-returns-in-Array : goal.reduce_rewritten-returns-in-Array
reduce_rewritten-returns-in-Array t c =
    let a = (walked_as rewrites.Array c.part_under-part.ensures c.in-Array.is (rw c.children.ensures.trees at c.reduce_children-waiting.ensures)) in
    record {
      wrote = outcome_done (outcomes.Rewritten rewrites.Array) (as_made rewrites.Array c.in-Array.is c.requires.handles) (becomes_left c.args.node c.remove_unused_array_expr.ensures _ (in_order_wrote a));
      stays = stays_both a.stays (stays_written _ c.remove_unused_array_expr.auto.out);
    }

pub reduce_rewritten-join_kept-requires : goal.reduce_rewritten-join_kept-requires
reduce_rewritten-join_kept-requires t c =
    let a = (walked_as rewrites.Comparison c.part_under-part.ensures c.in-Comparison.is (rw c.children.ensures.trees at c.reduce_children-waiting.ensures)) in
    list_given c.requires.tree _ (in_order_wrote a) (omega (arith, kids_few c.args.node refl a))

pub reduce_rewritten-returns-in-Comparison : goal.reduce_rewritten-returns-in-Comparison
reduce_rewritten-returns-in-Comparison t c =
    let a = (walked_as rewrites.Comparison c.part_under-part.ensures c.in-Comparison.is (rw c.children.ensures.trees at c.reduce_children-waiting.ensures)) in
    record {
      wrote = outcome_done (outcomes.Rewritten rewrites.Comparison) (as_made rewrites.Comparison c.in-Comparison.is c.requires.handles) (becomes_left c.args.node c.join_kept.ensures _ (in_order_wrote a));
      stays = stays_both a.stays (stays_written _ c.join_kept.auto.out);
    }

pub reduce_rewritten-close_template-requires : goal.reduce_rewritten-close_template-requires
reduce_rewritten-close_template-requires t c = walked_given c.args.node _ c.requires.tree (walked_as rewrites.Template c.part_under-part.ensures c.in-Template.is (rw c.children.ensures.trees at c.reduce_children-waiting.ensures))

pub reduce_rewritten-returns-in-Template : goal.reduce_rewritten-returns-in-Template
reduce_rewritten-returns-in-Template t c =
    let a = (walked_as rewrites.Template c.part_under-part.ensures c.in-Template.is (rw c.children.ensures.trees at c.reduce_children-waiting.ensures)) in
    record {
      wrote = template_done c.args.node (as_made rewrites.Template c.in-Template.is c.requires.handles) a c.close_template.ensures;
      stays = stays_both a.stays (stays_written _ c.close_template.auto.out);
    }

pub reduce_rewritten-close_object-requires : goal.reduce_rewritten-close_object-requires
reduce_rewritten-close_object-requires t c = walked_given c.args.node _ c.requires.tree (walked_as rewrites.Object c.part_under-part.ensures c.in-Object.is (rw c.children.ensures.trees at c.reduce_children-waiting.ensures))

pub reduce_rewritten-returns-in-Object : goal.reduce_rewritten-returns-in-Object
reduce_rewritten-returns-in-Object t c =
    let a = (walked_as rewrites.Object c.part_under-part.ensures c.in-Object.is (rw c.children.ensures.trees at c.reduce_children-waiting.ensures)) in
    record {
      wrote = object_done c.args.node (as_made rewrites.Object c.in-Object.is c.requires.handles) a c.close_object.ensures;
      stays = stays_both a.stays (stays_written _ c.close_object.auto.out);
    }

-- ---- a conditional

pub reduce_conditional-three_children-requires : goal.reduce_conditional-three_children-requires
reduce_conditional-three_children-requires t c = c.requires.handles.has.1

pub reduce_conditional-remove_unused_expression-middle-requires : goal.reduce_conditional-remove_unused_expression-middle-requires
reduce_conditional-remove_unused_expression-middle-requires t c =
    let a : Arms c.args.node c.three_children.result.0 c.three_children.result.1 c.three_children.result.2 = record { kids = c.three_children.ensures.kids; source = c.three_children.ensures.source } in
    (omega (arith, c.decreases, some_level c.requires.given.listable, arms_size a, c.requires.given.small), rw c.size.ensures.records (first_given a c.requires))

pub reduce_conditional-remove_unused_expression-end-requires : goal.reduce_conditional-remove_unused_expression-end-requires
reduce_conditional-remove_unused_expression-end-requires t c =
    let a : Arms c.args.node c.three_children.result.0 c.three_children.result.1 c.three_children.result.2 = record { kids = c.three_children.ensures.kids; source = c.three_children.ensures.source } in
    let x = rw c.size.ensures.records at c.remove_unused_expression-middle.ensures in (
      omega (arith, c.decreases, some_level c.requires.given.listable, arms_size a, c.requires.given.small),
      second_given a c.requires x.wrote,
    )

pub reduce_conditional-remove_unused_expression-requires : goal.reduce_conditional-remove_unused_expression-requires
reduce_conditional-remove_unused_expression-requires t c =
    let a : Arms c.args.node c.three_children.result.0 c.three_children.result.1 c.three_children.result.2 = record { kids = c.three_children.ensures.kids; source = c.three_children.ensures.source } in
    let x = rw c.size.ensures.records at c.remove_unused_expression-middle.ensures in
    let y = rw x.stays.settings at c.remove_unused_expression-end.ensures in (
      omega (arith, c.decreases, some_level c.requires.given.listable, arms_size a, c.requires.given.small),
      test_given a c.requires x.wrote y.wrote,
    )

pub reduce_conditional-returns-then-end-arms : goal.reduce_conditional-returns-then-end-arms
reduce_conditional-returns-then-end-arms t c =
    let a : Arms c.args.node c.three_children.result.0 c.three_children.result.1 c.three_children.result.2 = record { kids = c.three_children.ensures.kids; source = c.three_children.ensures.source } in
    let x = rw c.size.ensures.records at c.remove_unused_expression-middle.ensures in
    let y = rw x.stays.settings at c.remove_unused_expression-end.ensures in
    let z = rw (y.stays.settings ∙ x.stays.settings) at c.remove_unused_expression.ensures in
    record {
      wrote = both_gone a c.requires x.wrote y.wrote (rw c.size.ensures.records at c.if-end-arms.true) z.wrote;
      stays = stays_both x.stays (stays_both y.stays z.stays);
    }

pub reduce_conditional-copy_records-requires : goal.reduce_conditional-copy_records-requires
reduce_conditional-copy_records-requires t c =
    let a : Arms c.args.node c.three_children.result.0 c.three_children.result.1 c.three_children.result.2 = record { kids = c.three_children.ensures.kids; source = c.three_children.ensures.source } in
    let x = rw c.size.ensures.records at c.remove_unused_expression-middle.ensures in
    let y = rw x.stays.settings at c.remove_unused_expression-end.ensures in
    let g = test_room a c.requires x.wrote y.wrote in
    (omega (arith, c.size-2.ensures.records, c.three_children.result.0.stands.1), omega (arith, c.size-2.ensures.records, g.fits), g.same)

pub reduce_conditional-join_arms-requires : goal.reduce_conditional-join_arms-requires
reduce_conditional-join_arms-requires t c =
    let a : Arms c.args.node c.three_children.result.0 c.three_children.result.1 c.three_children.result.2 = record { kids = c.three_children.ensures.kids; source = c.three_children.ensures.source } in
    let x = rw c.size.ensures.records at c.remove_unused_expression-middle.ensures in
    let y = rw x.stays.settings at c.remove_unused_expression-end.ensures in
    let n = c.three_children.result.0 in
    rw c.size.ensures.records
    (arms_given a c.requires x.wrote y.wrote
    (copied_trees (one (tree n)) n.stands.0 (omega (arith, c.size-2.ensures.records)) c.copy_records.ensures) (rw c.size-2.ensures.records at c.copy_records.ensures.above)
    (λ e. c.if-end-arms.false (omega (arith, e, c.size.ensures.records))))

pub reduce_conditional-returns : goal.reduce_conditional-returns
reduce_conditional-returns t c =
    let a : Arms c.args.node c.three_children.result.0 c.three_children.result.1 c.three_children.result.2 = record { kids = c.three_children.ensures.kids; source = c.three_children.ensures.source } in
    let x = rw c.size.ensures.records at c.remove_unused_expression-middle.ensures in
    let y = rw x.stays.settings at c.remove_unused_expression-end.ensures in
    let n = c.three_children.result.0 in
    record {
      wrote =
          conditional_done a c.requires x.wrote y.wrote
          (copied_trees (one (tree n)) n.stands.0 (omega (arith, c.size-2.ensures.records)) c.copy_records.ensures) (rw c.size-2.ensures.records at c.copy_records.ensures.above)
          (rw c.size.ensures.records at c.join_arms.ensures);
      stays = stays_both x.stays (stays_both y.stays (stays_written _ (c.join_arms.auto.out ∙ c.copy_records.auto.out)));
    }

-- ---- an expression, by its outcome

pub remove_unused_expression-reduce_children-waiting-requires : goal.remove_unused_expression-reduce_children-waiting-requires
remove_unused_expression-reduce_children-waiting-requires t c =
    let w = c.children.result in
    let z : w.end - w.at ≤ size (tree c.args.node) - 1 = omega (arith, sym (trees_size w), ap (λ l. records (forest l)) c.children.ensures.trees, ap records (forest_trees (tree c.args.node).kids)) in (
      omega (arith, c.decreases, some_level c.requires.listable, z, c.requires.small),
      outer_given c.requires c.children.ensures.source z (rw c.children.ensures.trees (listable_kids c.requires.listable)),
    )

pub remove_unused_expression-reduce_rewritten-requires : goal.remove_unused_expression-reduce_rewritten-requires
remove_unused_expression-reduce_rewritten-requires t c =
    (omega (arith, c.decreases), (c.requires, as_outcome (outcomes.Rewritten c.in-Rewritten.made) c.requires.listable c.handle.ensures c.in-Rewritten.is))

pub remove_unused_expression-reduce_conditional-requires : goal.remove_unused_expression-reduce_conditional-requires
remove_unused_expression-reduce_conditional-requires t c =
    (omega (arith, c.decreases), record { given = c.requires; handles = as_outcome outcomes.Conditional c.requires.listable c.handle.ensures c.in-Conditional.is })

pub remove_unused_expression-returns-in-Removable : goal.remove_unused_expression-returns-in-Removable
remove_unused_expression-returns-in-Removable t c = record { wrote = removable_done (as_outcome outcomes.Removable c.requires.listable c.handle.ensures c.in-Removable.is); stays = stays_all _ }

pub remove_unused_expression-returns-in-Unchanged : goal.remove_unused_expression-returns-in-Unchanged
remove_unused_expression-returns-in-Unchanged t c =
    record {
      wrote = outcome_done outcomes.Unchanged (as_outcome outcomes.Unchanged c.requires.listable c.handle.ensures c.in-Unchanged.is) c.copy_node.ensures;
      stays = stays_written _ c.copy_node.auto.out;
    }

pub remove_unused_expression-returns-in-Unwrapped : goal.remove_unused_expression-returns-in-Unwrapped
remove_unused_expression-returns-in-Unwrapped t c =
    let a = rw c.children.ensures.trees at c.reduce_children-waiting.ensures in
    record { wrote = outcome_done outcomes.Unwrapped (as_outcome outcomes.Unwrapped c.requires.listable c.handle.ensures c.in-Unwrapped.is) (in_order_wrote a); stays = a.stays }

pub remove_unused_expression-returns-in-Addition : goal.remove_unused_expression-returns-in-Addition
remove_unused_expression-returns-in-Addition t c =
    record {
      wrote = outcome_done outcomes.Addition (as_outcome outcomes.Addition c.requires.listable c.handle.ensures c.in-Addition.is) c.remove_unused_addition.ensures;
      stays = stays_written _ c.remove_unused_addition.auto.out;
    }

pub remove_unused_expression-returns-in-Class : goal.remove_unused_expression-returns-in-Class
remove_unused_expression-returns-in-Class t c =
    record {
      wrote = outcome_done outcomes.Class (as_outcome outcomes.Class c.requires.listable c.handle.ensures c.in-Class.is) c.remove_unused_class.ensures;
      stays = stays_written _ c.remove_unused_class.auto.out;
    }

-- A call's arguments, behind the callee.
pub remove_unused_expression-reduce_children-waiting-requires-in-Arguments : goal.remove_unused_expression-reduce_children-waiting-requires-in-Arguments
remove_unused_expression-reduce_children-waiting-requires-in-Arguments t c =
    let w = c.next.new.self in
    let e = others c.children-arguments.result w c.next.result c.next.ensures.steps.0 ∙ ap (drop 1) c.children-arguments.ensures.trees in
    let z = others_few c.args.node w e in (
      omega (arith, c.decreases, some_level c.requires.listable, z, c.requires.small),
      inner_given c.requires (c.next.ensures.steps.1 ∙ c.children-arguments.ensures.source) z (rw e (all_drop _ 1 _ (listable_kids c.requires.listable))),
    )

pub remove_unused_expression-none_one_several-requires : goal.remove_unused_expression-none_one_several-requires
remove_unused_expression-none_one_several-requires t c =
    let w = c.next.new.self in
    let e = others c.children-arguments.result w c.next.result c.next.ensures.steps.0 ∙ ap (drop 1) c.children-arguments.ensures.trees in
    let a = c.reduce_children-waiting-in-Arguments.ensures in
    list_given c.requires _ (arguments_wrote a) (omega (arith, a.few, trees_size w, others_few c.args.node w e))

pub remove_unused_expression-returns-in-Arguments : goal.remove_unused_expression-returns-in-Arguments
remove_unused_expression-returns-in-Arguments t c =
    let w = c.next.new.self in
    let e = others c.children-arguments.result w c.next.result c.next.ensures.steps.0 ∙ ap (drop 1) c.children-arguments.ensures.trees in
    let a = rw e at c.reduce_children-waiting-in-Arguments.ensures in
    record {
      wrote = outcome_done outcomes.Arguments (as_outcome outcomes.Arguments c.requires.listable c.handle.ensures c.in-Arguments.is) (becomes_left c.args.node c.none_one_several.ensures _ (arguments_wrote a));
      stays = stays_both a.stays (stays_written _ c.none_one_several.auto.out);
    }
