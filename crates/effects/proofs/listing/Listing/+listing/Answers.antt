use Rattle.std.specs.Prelude.{◌≡◌, List, ℕ, ◌++◌, take, drop}
use Rattle.std.proofs.Common.{sym, ap, ◌∙◌, arith}
use Rattle.tree.specs.Tree.{Head, trees}
use Rattle.tree.specs.Symbol.{Sides, string_fact}
use Rattle.fields.specs.Record.{head, node}
use Rattle.rules.specs.Class.{heritage, elements, static_value}
use Rattle.rules.specs.Lists.{concat_map}
use Rattle.rules.specs.Effects.{evaluate, effects, effects_of, addition_effect, class_is_effect, itself_if}
use Rattle.rules.proofs.Lists.{all_take, all_drop}
use Rattle.rules.proofs.Addition.{effects_sides}
use Rattle.rules.proofs.Effects.{key_is, static_is}
use Rattle.readings.specs.Alone.{own_string_fact, own_static_value, own_static_block}
use Rattle.readings.specs.At.{head_is}
use Rattle.readings.specs.Given.{given}
use Rattle.readings.specs.View.{tree}
use Rattle.readings.specs.declared.node.Node.{Node}
use Rattle.effects.specs.declared.listing.Listing.{Listing}
use Rattle.effects.specs.Listing.{HasRoom, Listed, listable_kids, node_ok_of, some_level, listed_none, listed_both, listed_as, room_first, room_after, room_after_both, listed_after_both}
use Rattle.effects.specs.Entry.{own_itself}
use Rattle.effects.specs.Passed.{own_passed, passes_is}
use Rattle.effects.specs.Plan.{is_passed, planned_as}
use Rattle.effects.specs.Sum.{has_two, sides_are, right_coerced, string_left, left_coerced, itself_listed, string_right}
use Rattle.effects.specs.Taken.{taken, others, first_some, first_none}
use Rattle.effects.specs.Walking.{walk_done, walk_first, walk_on, walk_pass, tree_room, pass_room, pass_smaller}
use Rattle.effects.proofs.listing.Listing.+listing.Goals.{list_children-After-passed_itself-itself, list_class-After-list_any, list_class-After-list_if, list_class-After-list_keys, list_addition-After-unwrap, list_addition-After-list_side-second, list_addition-After-has_string_fact, list_static-then-has_static_value, list_static-else-has_static_value}
use Rattle.effects.proofs.listing.Listing.+listing.Goals as goal

-- ---- the walk over a list
kind_passed : (n : Node) → is_passed (tree n).head.kind ≡ is_passed (head n.record).kind
kind_passed n = ap (λ (h : Head). is_passed h.kind) (head_is _ _)

-- Of a node that is passed, itself is listed before its children.
passed : {t : ℕ} (c : list_children-After-passed_itself-itself t)
    → effects (given c.args.self.now.settings) (tree c.in-Some.node)
    ≡ itself_if c.passed_itself-itself.result (node c.in-Some.node.record) ++ effects_of (given c.args.self.now.settings) (trees (tree c.in-Some.node).kids)
passed c =
    let w = c.loop-node.invariant in
    let p = passes_is (given c.args.self.now.settings) (tree c.in-Some.node) (node_ok_of (walk_first w _ _ (first_some _ _ c.in-Some.ensures))) (kind_passed c.in-Some.node ∙ sym c.is_passed.ensures ∙ c.if-is_passed.true) in
    rw (sym (rw w.listed.settings at c.passed_itself-itself.ensures ∙ own_passed _ _ _), sym (own_itself c.in-Some.node.record.src.now c.in-Some.node.record.at)) at p

pub list_children-list_if-requires : goal.list_children-list_if-requires
list_children-list_if-requires t c =
    pass_room c.loop-node.invariant _ _ (first_some _ _ c.in-Some.ensures) _ (passed (goal.at.list_children-list_if-requires t c).After-passed_itself-itself) c.requires.room

pub list_children-loop-node-smaller-then-is_passed : goal.list_children-loop-node-smaller-then-is_passed
list_children-loop-node-smaller-then-is_passed t c = rw c.enter.ensures (pass_smaller _ _ _ (first_some _ _ c.in-Some.ensures))

pub list_children-loop-node-preserved-then-is_passed : goal.list_children-loop-node-preserved-then-is_passed
list_children-loop-node-preserved-then-is_passed t c =
    let e = first_some _ _ c.in-Some.ensures in
    rw (c.enter.ensures, e)
    (walk_pass c.loop-node.invariant _ _ e _ (passed (goal.at.list_children-loop-node-preserved-then-is_passed t c).After-passed_itself-itself) c.list_if.ensures)

pub list_children-list_expr-requires : goal.list_children-list_expr-requires
list_children-list_expr-requires t c =
    let w = c.loop-node.invariant in
    let e = first_some _ _ c.in-Some.ensures in
    (omega (arith, c.decreases), (kind_passed c.in-Some.node ∙ sym c.is_passed.ensures ∙ c.if-is_passed.false, (walk_first w _ _ e, rw w.listed.settings (tree_room w _ _ e c.requires.room))))

pub list_children-loop-node-preserved : goal.list_children-loop-node-preserved
list_children-loop-node-preserved t c =
    let w = c.loop-node.invariant in
    let e = first_some _ _ c.in-Some.ensures in
    rw (others c.loop-node.walk c.next.new.self c.next.result c.next.ensures.steps.0) (walk_on w _ _ e (rw w.listed.settings at c.list_expr.ensures))

pub list_children-returns : goal.list_children-returns
list_children-returns t c = walk_done c.loop-node.invariant (first_none _ c.in_default.ensures)

-- ---- what is listed of each tree of a list
pub list_coerced-list_side-string-requires : goal.list_coerced-list_side-string-requires
list_coerced-list_side-string-requires t c =
    let w = c.loop-node.invariant in
    let e = c.in-Some.ensures.steps.0 in
    (omega (arith, c.decreases), rw w.listed.settings (walk_first w _ _ e, room_first _ _ _ _ (tree_room w _ _ e c.requires.room)))

pub list_coerced-list_coercion-requires-clause-room : goal.list_coerced-list_coercion-requires-clause-room
list_coerced-list_coercion-requires-clause-room t c =
    let w = c.loop-node.invariant in
    room_after _ (rw w.listed.settings at c.list_side-string.ensures.listed) (tree_room w _ _ c.in-Some.ensures.steps.0 c.requires.room)

pub list_coerced-loop-node-preserved : goal.list_coerced-loop-node-preserved
list_coerced-loop-node-preserved t c =
    let w = c.loop-node.invariant in
    walk_on w _ _ c.in-Some.ensures.steps.0 (listed_both (rw w.listed.settings at c.list_side-string.ensures.listed) c.list_coercion.ensures)

pub list_keys-list_any-requires : goal.list_keys-list_any-requires
list_keys-list_any-requires t c =
    let w = c.loop-element.invariant in
    let e = c.in-Some.ensures.steps.0 in
    let l = walk_first w _ _ e in
    let r = rw (key_is _ _) at (tree_room w _ _ e c.requires.room) in
    (omega (arith, c.decreases, some_level l), rw (c.key_and_value.ensures.first, w.listed.settings) (all_take _ _ _ (listable_kids l), r))

pub list_keys-loop-element-preserved : goal.list_keys-loop-element-preserved
list_keys-loop-element-preserved t c =
    let w = c.loop-element.invariant in
    let x = rw (c.key_and_value.ensures.first, w.listed.settings) at c.list_any.ensures in
    walk_on w _ _ c.in-Some.ensures.steps.0 (listed_as x (sym (key_is _ _)))

pub list_statics-list_static-requires : goal.list_statics-list_static-requires
list_statics-list_static-requires t c =
    let w = c.loop-element.invariant in
    let e = c.in-Some.ensures.steps.0 in
    (omega (arith, c.decreases), rw w.listed.settings (walk_first w _ _ e, tree_room w _ _ e c.requires.room))

pub list_statics-loop-element-preserved : goal.list_statics-loop-element-preserved
list_statics-loop-element-preserved t c =
    let w = c.loop-element.invariant in
    walk_on w _ _ c.in-Some.ensures.steps.0 (rw w.listed.settings at c.list_static.ensures)

-- ---- an expression by its plan
pub list_expr-list_children-requires : goal.list_expr-list_children-requires
list_expr-list_children-requires t c =
    let r = rw (planned_as _ _ c.requires.inner c.plan_of.ensures _ c.in-Children.is) at c.requires.room in
    (omega (arith, c.decreases), rw c.children-children.ensures.trees (listable_kids c.requires.listable, room_first _ _ _ _ r))

pub list_expr-returns-in-Children : goal.list_expr-returns-in-Children
list_expr-returns-in-Children t c =
    let e = planned_as _ _ c.requires.inner c.plan_of.ensures _ c.in-Children.is in
    listed_as (listed_both (rw c.children-children.ensures.trees at c.list_children.ensures) (rw (own_itself _ _) at c.list_if.ensures)) (sym e)

pub list_expr-list_coerced-requires : goal.list_expr-list_coerced-requires
list_expr-list_coerced-requires t c =
    let r = rw (planned_as _ _ c.requires.inner c.plan_of.ensures _ c.in-Coerced.is) at c.requires.room in
    (omega (arith, c.decreases), rw c.children-children.ensures.trees (listable_kids c.requires.listable, r))

pub list_expr-list_children-requires-in-Arguments : goal.list_expr-list_children-requires-in-Arguments
list_expr-list_children-requires-in-Arguments t c =
    let r = rw (planned_as _ _ c.requires.inner c.plan_of.ensures _ c.in-Arguments.is) at c.requires.room in
    let o = others c.children-children.result c.next.new.self c.next.result c.next.ensures.steps.0 ∙ ap (drop 1) c.children-children.ensures.trees in
    (omega (arith, c.decreases), rw o (all_drop _ 1 _ (listable_kids c.requires.listable), r))

pub list_expr-list_any-requires : goal.list_expr-list_any-requires
list_expr-list_any-requires t c =
    let r = rw (planned_as _ _ c.requires.inner c.plan_of.ensures _ c.in-Test.is) at c.requires.room in
    let o = taken c.children-children.result c.next-in-Test.new.self c.next-in-Test.result c.next-in-Test.ensures.steps.0 ∙ ap (take 1) c.children-children.ensures.trees in
    (omega (arith, c.decreases), rw o (all_take _ 1 _ (listable_kids c.requires.listable), r))

pub list_expr-list_arm-requires : goal.list_expr-list_arm-requires
list_expr-list_arm-requires t c =
    let r = rw (planned_as _ _ c.requires.inner c.plan_of.ensures _ c.in-Arm.is) at c.requires.room in
    (omega (arith, c.decreases), rw c.children-children.ensures.trees (listable_kids c.requires.listable, r))

-- ---- the test and an arm
pub list_arm-returns-then-when : goal.list_arm-returns-then-when
list_arm-returns-then-when t c =
    let a = taken c.args.list c.next-test.new.self c.next-test.result c.next-test.ensures.steps.0 in
    let b = others c.args.list c.next-test.new.self c.next-test.result c.next-test.ensures.steps.0 in
    let d = taken c.next-test.new.self c.next-consequent.new.self c.next-consequent.result c.next-consequent.ensures.steps.0 ∙ ap (take 1) b in
    rw c.if-when.true (listed_both (rw a at c.list_any.ensures) (rw (c.list_any.ensures.settings, d) at c.list_any-then-when.ensures))

pub list_arm-returns-else-when : goal.list_arm-returns-else-when
list_arm-returns-else-when t c =
    let a = taken c.args.list c.next-test.new.self c.next-test.result c.next-test.ensures.steps.0 in
    let b = others c.args.list c.next-test.new.self c.next-test.result c.next-test.ensures.steps.0 in
    let d = others c.next-test.new.self c.next-consequent.new.self c.next-consequent.result c.next-consequent.ensures.steps.0 ∙ ap (drop 1) b in
    rw c.if-when.false (listed_both (rw a at c.list_any.ensures) (rw (c.list_any.ensures.settings, d) at c.list_children.ensures))

-- ---- a class
heritage_listed : {t : ℕ} (c : list_class-After-list_any t)
    → Listed c.args.self.now c.list_any.new.self (effects_of (given c.args.self.now.settings) (heritage (tree c.args.node)))
heritage_listed c = rw c.heritage_and_elements.ensures.first at c.list_any.ensures

class_listed : {t : ℕ} (c : list_class-After-list_if t) → Listed c.list_any.new.self c.list_if.new.self (itself_if (class_is_effect (tree c.args.node)) (tree c.args.node))
class_listed c = rw (c.class_is_effect.ensures, own_itself _ _) at c.list_if.ensures

keys_listed : {t : ℕ} (c : list_class-After-list_keys t)
    → Listed c.list_if.new.self c.list_keys.new.self (concat_map (λ e. (evaluate (given c.args.self.now.settings) e).key) (elements (tree c.args.node)))
keys_listed c = rw (c.heritage_and_elements.ensures.others, c.list_if.ensures.settings, c.list_any.ensures.settings) at c.list_keys.ensures

pub list_class-list_any-requires : goal.list_class-list_any-requires
list_class-list_any-requires t c =
    (omega (arith, c.decreases), rw c.heritage_and_elements.ensures.first (all_take _ _ _ (listable_kids c.requires.listable), room_first _ _ _ _ c.requires.room))

pub list_class-list_if-requires : goal.list_class-list_if-requires
list_class-list_if-requires t c =
    rw (c.class_is_effect.ensures, own_itself _ _) (room_first _ _ _ _ (room_after _ (heritage_listed (goal.at.list_class-list_if-requires t c).After-list_any) c.requires.room))

pub list_class-list_keys-requires : goal.list_class-list_keys-requires
list_class-list_keys-requires t c =
    let p = goal.at.list_class-list_keys-requires t c in
    let f = room_first _ _ _ _ (room_after_both (heritage_listed p.After-list_any) (class_listed p.After-list_if) _ c.requires.room) in
    (omega (arith, c.decreases), rw (c.heritage_and_elements.ensures.others, c.list_if.ensures.settings, c.list_any.ensures.settings) (all_drop _ _ _ (listable_kids c.requires.listable), f))

pub list_class-list_statics-requires : goal.list_class-list_statics-requires
list_class-list_statics-requires t c =
    let p = goal.at.list_class-list_statics-requires t c in
    let f = room_after _ (keys_listed p.After-list_keys) (room_after_both (heritage_listed p.After-list_any) (class_listed p.After-list_if) _ c.requires.room) in
    (omega (arith, c.decreases), rw (c.heritage_and_elements.ensures.others, c.list_keys.ensures.settings, c.list_if.ensures.settings, c.list_any.ensures.settings) (all_drop _ _ _ (listable_kids c.requires.listable), f))

pub list_class-returns : goal.list_class-returns
list_class-returns t c =
    let p = goal.at.list_class-returns t c in
    let s = rw (c.heritage_and_elements.ensures.others, c.list_keys.ensures.settings, c.list_if.ensures.settings, c.list_any.ensures.settings) at c.list_statics.ensures in
    listed_after_both (heritage_listed p.After-list_any) (class_listed p.After-list_if) (listed_both (keys_listed p.After-list_keys) s)

-- ---- an addition
sides : {t : ℕ} (c : list_addition-After-unwrap t) → Sides (tree c.args.node) (tree c.unwrap.result.0) (tree c.unwrap.result.1)
sides c = sides_are c.requires.listable c.requires.addition _ c.first_two.ensures c.unwrap.result c.unwrap.ensures

right_fact : {t : ℕ} (c : list_addition-After-has_string_fact t) → c.has_string_fact.result ≡ string_fact (tree c.unwrap.result.1)
right_fact c = c.has_string_fact.ensures ∙ own_string_fact _ _

-- Both sides are listed, and then a, which follows them.
module _ {t : ℕ} (c : list_addition-After-list_side-second t) (S : Sides (tree c.args.node) (tree c.unwrap.result.0) (tree c.unwrap.result.1)) where
  second : Listed c.list_side-first.new.self c.list_side-second.new.self (effects (given c.args.self.now.settings) (tree c.unwrap.result.1))
  second = rw c.list_side-first.ensures.listed.settings at c.list_side-second.ensures.listed

  module _ (a : List ℕ) (e : addition_effect (tree c.args.node) (tree c.unwrap.result.0) (tree c.unwrap.result.1) ≡ a) where
    room_then : HasRoom c.list_side-second.new.self a
    room_then = rw e at (room_after_both c.list_side-first.ensures.listed second _ (rw (effects_sides _ _ _ _ S) at c.requires.room))

    listed_then : {new : Listing} → Listed c.list_side-second.new.self new a → Listed c.args.self.now new (effects (given c.args.self.now.settings) (tree c.args.node))
    listed_then x = listed_as (listed_after_both c.list_side-first.ensures.listed second (listed_as x (sym e))) (sym (effects_sides _ _ _ _ S))

pub list_addition-unwrap-requires : goal.list_addition-unwrap-requires
list_addition-unwrap-requires t c = has_two c.requires.listable c.requires.addition _ c.first_two.ensures

pub list_addition-list_side-first-requires : goal.list_addition-list_side-first-requires
list_addition-list_side-first-requires t c =
    let S = sides (goal.at.list_addition-list_side-first-requires t c).After-unwrap in
    (omega (arith, c.decreases), ((rw S.kids at (listable_kids c.requires.listable)).0, room_first _ _ _ _ (rw (effects_sides _ _ _ _ S) at c.requires.room)))

pub list_addition-list_side-second-requires : goal.list_addition-list_side-second-requires
list_addition-list_side-second-requires t c =
    let S = sides (goal.at.list_addition-list_side-second-requires t c).After-unwrap in
    let r = room_after _ c.list_side-first.ensures.listed (rw (effects_sides _ _ _ _ S) at c.requires.room) in
    (omega (arith, c.decreases), ((rw S.kids at (listable_kids c.requires.listable)).1.0, rw c.list_side-first.ensures.listed.settings (room_first _ _ _ _ r)))

pub list_addition-list_coercion-requires-clause-room : goal.list_addition-list_coercion-requires-clause-room
list_addition-list_coercion-requires-clause-room t c =
    let p = goal.at.list_addition-list_coercion-requires-clause-room t c in
    let S = sides p.After-unwrap in
    room_then p.After-list_side-second S _ (right_coerced S c.list_side-first.ensures.string c.if-first.true)

pub list_addition-returns-then-first : goal.list_addition-returns-then-first
list_addition-returns-then-first t c =
    let p = goal.at.list_addition-returns-then-first t c in
    let S = sides p.After-unwrap in
    let f = c.list_side-first.ensures.string in
    record { listed = listed_then p.After-list_side-second S _ (right_coerced S f c.if-first.true) c.list_coercion.ensures; string = string_left S f c.if-first.true }

pub list_addition-list_coercion-requires-then-has_string_fact-clause-room : goal.list_addition-list_coercion-requires-then-has_string_fact-clause-room
list_addition-list_coercion-requires-then-has_string_fact-clause-room t c =
    let p = goal.at.list_addition-list_coercion-requires-then-has_string_fact-clause-room t c in
    let S = sides p.After-unwrap in
    room_then p.After-list_side-second S _ (left_coerced S c.list_side-first.ensures.string c.if-first.false (right_fact p.After-has_string_fact) c.if-has_string_fact.true)

pub list_addition-returns-then-has_string_fact : goal.list_addition-returns-then-has_string_fact
list_addition-returns-then-has_string_fact t c =
    let p = goal.at.list_addition-returns-then-has_string_fact t c in
    let S = sides p.After-unwrap in
    let f = c.list_side-first.ensures.string in
    let g = right_fact p.After-has_string_fact in
    record {
      listed = listed_then p.After-list_side-second S _ (left_coerced S f c.if-first.false g c.if-has_string_fact.true) c.list_coercion-then-has_string_fact.ensures;
      string = string_right S f c.if-first.false g c.if-has_string_fact.true;
    }

pub list_addition-list_if-requires : goal.list_addition-list_if-requires
list_addition-list_if-requires t c =
    let p = goal.at.list_addition-list_if-requires t c in
    let S = sides p.After-unwrap in
    let e = itself_listed S c.list_side-first.ensures.string c.if-first.false (right_fact p.After-has_string_fact) c.if-has_string_fact.false in
    rw (c.is_flagged.ensures, own_itself _ _) (room_then p.After-list_side-second S _ e)

pub list_addition-returns : goal.list_addition-returns
list_addition-returns t c =
    let p = goal.at.list_addition-returns t c in
    let S = sides p.After-unwrap in
    let f = c.list_side-first.ensures.string in
    let g = right_fact p.After-has_string_fact in
    record {
      listed = listed_then p.After-list_side-second S _ (itself_listed S f c.if-first.false g c.if-has_string_fact.false) (rw (c.is_flagged.ensures, own_itself _ _) at c.list_if.ensures);
      string = string_right S f c.if-first.false g c.if-has_string_fact.false;
    }

-- ---- a static value or block
pub list_static-list_children-requires : goal.list_static-list_children-requires
list_static-list_children-requires t c =
    let h = sym (c.has_static_value.ensures ∙ own_static_value _ _) ∙ c.if-has_static_value.true in
    let f = room_first (effects_of (given c.args.self.now.settings) (static_value (tree c.args.node))) _ _ _ (rw (static_is _ _) at c.requires.room) in
    (omega (arith, c.decreases), rw c.key_and_value.ensures.others (all_drop _ _ _ (listable_kids c.requires.listable), rw h at f))

pub list_static-returns : goal.list_static-returns
list_static-returns t c =
    let h = sym (c.has_static_value.ensures ∙ own_static_value _ _) in
    let v : Listed c.args.self.now c.if-has_static_value.self (effects_of (given c.args.self.now.settings) (static_value (tree c.args.node))) =
    elim c.if-has_static_value.branch [
      | list_static-then-has_static_value w ↦ rw (w.self-is, h ∙ w.if-has_static_value.true) (rw w.key_and_value.ensures.others at w.list_children.ensures)
      | list_static-else-has_static_value w ↦ rw (w.self-is, h ∙ w.if-has_static_value.false) (listed_none _)
    ] in
    let b = rw (c.nonempty_static_block-block.ensures ∙ own_static_block _ _, own_itself _ _) at c.list_if.ensures in
    listed_as (listed_both v b) (sym (static_is _ _))
