-- An expression, by its outcome.
use Rattle.std.specs.Prelude.{◌≡◌, refl, List, [], ◌∷◌, ◌++◌, drop, map, ℕ, ◌+◌, ◌*◌, ◌-◌, ◌≤◌}
use Rattle.std.proofs.Common.{sym, ap, subst, ◌∙◌, arith}
use Rattle.tree.specs.Tree.{Place, Tree, All, trees, forest, records, size, forest_trees}
use Rattle.tree.specs.Layout.{version_in}
use Rattle.fields.specs.Record.{head}
use Rattle.rules.specs.Lists.{concat_map}
use Rattle.rules.specs.Settings.{Settings}
use Rattle.rules.specs.Made.{place_of, make_template, make_object}
use Rattle.rules.specs.Reduce.{reduce, flush, none_one_several, fold_arguments_into_needed_expressions}
use Rattle.rules.specs.Results.{reduced}
use Rattle.readings.specs.At.{tree_at}
use Rattle.readings.specs.Given.{given}
use Rattle.readings.specs.View.{left, tree}
use Rattle.readings.specs.declared.node.Node.{Node}
use Rattle.readings.specs.declared.node.Trees.{Trees}
use Rattle.effects.specs.Listing.{Listable, node_ok_of}
use Rattle.handlers.specs.Choice.{choice}
use Rattle.handlers.specs.Kinds.{choice_handled}
use Rattle.handlers.specs.Outcome.{HandledAs, outcome, rewritten}
use Rattle.handlers.specs.declared.outcome.Outcome.{Outcome}
use Rattle.handlers.specs.declared.outcome.Outcome.TheVariants.{Removable, Rewritten}
use Rattle.handlers.specs.declared.outcome.Rewrite.{Rewrite}
use Rattle.handlers.specs.declared.outcome.Rewrite.TheVariants as rewrites
use Rattle.output.specs.Records.{before_all}
use Rattle.output.specs.Trees.{Wrote, wrote_none, wrote_over, wrote_as}
use Rattle.output.specs.Given as whole
use Rattle.output.specs.Given.{trees_size}
use Rattle.classes.specs.Class.{GivenClass}
use Rattle.rewrite.specs.declared.waiting.Waiting.{Waiting}
use Rattle.rewrite.specs.Waiting.{none_at, waits_none}
use Rattle.rewrite.specs.Becomes.{GivenList, Becomes}
use Rattle.reducer.specs.declared.expression.Reduction.{Reduction}
use Rattle.reducer.specs.declared.walk.Part.{Part}
use Rattle.reducer.specs.declared.walk.Part.TheVariants.{InOrder, Argument, Template, Object}
use Rattle.reducer.specs.Walked.{Progress, part_under, walked}
use Rattle.reducer.specs.Laws.{template_walked, object_walked, in_order_walked, arguments_walked}
use Rattle.reducer.specs.Settled.{Stepped}
use Rattle.reducer.specs.Close.{GivenWalked, Closes}
use Rattle.reducer.specs.Given.{GivenTree, GivenChildren, ReducedChildren}

-- The outcome that the match found is the tree's.
pub as_outcome : {depth : ℕ} {st : Settings} {t : Tree} {o : Outcome} (q : Outcome) → Listable depth t → o ≡ choice st t → o ≡ q → HandledAs st t q
as_outcome {depth} {st} {t} q l h e = subst (λ (x : Outcome). HandledAs st t x) (sym h ∙ e) (choice_handled st t (node_ok_of l))

-- A walk in which none waited at first and none waits at the end: what it settled was written.
settled_all : {old new : List ℕ} {pos : ℕ} {at : Waiting} {q : Progress} (ts : List Tree) → q ≡ record { done = ts; waiting = [] } → Stepped old new pos at q → Wrote old new pos at.next ts
settled_all {old} {new} {pos} {at} {q} ts e d =
    let x : Stepped old new pos at (record { done = ts; waiting = [] }) = subst (λ (y : Progress). Stepped old new pos at y) e d in
    let z : at.slot ≡ at.next = omega (arith, x.waiting.ends) in
    rw z at x.done

-- The room for a copy, and for what is left of the children behind a free record or with none.
module _ {u : Node} {depth : ℕ} {old : List ℕ} {pos : ℕ} (g : GivenTree u depth old pos) where
  pub copy_given : whole.GivenTree u old pos
  copy_given = record { same = g.same; fits = omega (arith, g.fits) }

  -- All of the node's children, or some of the last of them.
  module _ {w : Trees} (source : w.src.now ≡ u.record.src.now) (size_is : w.end - w.at ≤ size (tree u) - 1) (l : All (Listable (depth - 1)) (left w)) where
    pub inner_given : GivenChildren w (depth - 1) old (pos + 1)
    inner_given = record { listable = l; same = g.same ∙ ap version_in (sym source); fits = omega (arith, g.fits, size_is); small = omega (arith, g.small, size_is) }

    pub outer_given : GivenChildren w (depth - 1) old pos
    outer_given = record { listable = l; same = g.same ∙ ap version_in (sym source); fits = omega (arith, g.fits, size_is); small = omega (arith, g.small, size_is) }

-- A list behind the free record at pos, and what it becomes.
module _ {old mid : List ℕ} {pos next : ℕ} where
  pub list_given : {u : Node} {depth : ℕ} → GivenTree u depth old pos → (ts : List Tree) → Wrote old mid (pos + 1) next ts → next + 2 ≤ pos + 1 + 2 * size (tree u) → GivenList u.record mid pos next
  list_given g ts w l = record {
    same = w.frame.same ∙ g.same;
    list = ts;
    spans = w.spans;
    inside = omega (arith, w.frame.room, g.fits);
    small = omega (arith, g.small);
  }

  pub becomes_left : (u : Node) {f : Tree → List Tree → List Tree} {new : List ℕ} {r : ℕ} → Becomes f u.record mid new pos next r → (ts : List Tree) → Wrote old mid (pos + 1) next ts → Wrote old new pos r (f (tree u) ts)
  unfolding tree_at
  becomes_left u b ts w = wrote_over w (omega arith) (b.by (tree u) refl ts w.spans)

module _ {st : Settings} {t : Tree} where
  pub removable_done : HandledAs st t Removable → {old : List ℕ} {pos : ℕ} → Wrote old old pos pos (reduce st t)
  removable_done h {old} {pos} = wrote_as (wrote_none (before_all old pos)) (sym h.is)

  pub outcome_done : (o : Outcome) → HandledAs st t o → {old new : List ℕ} {pos r : ℕ} → Wrote old new pos r (outcome o st t) → Wrote old new pos r (reduce st t)
  outcome_done o h w = wrote_as w (sym h.is)

-- What is left of a list of children, none of which waits.
module _ {ts : List Tree} {old mid : Reduction} {pos : ℕ} {at : Waiting} where
  pub walked_stepped : (part : Part) → ReducedChildren ts part old mid (none_at pos) at → Stepped old.out.now mid.out.now pos at (walked part (given old.settings) [] ts)
  walked_stepped part a = a.by [] (waits_none old.out.now pos)

  pub in_order_wrote : ReducedChildren ts InOrder old mid (none_at pos) at → Wrote old.out.now mid.out.now pos at.next (concat_map (reduce (given old.settings)) ts)
  in_order_wrote a = settled_all (concat_map (reduce (given old.settings)) ts) (in_order_walked (given old.settings) ts) (walked_stepped InOrder a)

  pub arguments_wrote : ReducedChildren ts Argument old mid (none_at pos) at → Wrote old.out.now mid.out.now pos at.next (fold_arguments_into_needed_expressions (map (reduced (given old.settings)) ts))
  arguments_wrote a = settled_all (fold_arguments_into_needed_expressions (map (reduced (given old.settings)) ts)) (arguments_walked (given old.settings) ts) (walked_stepped Argument a)

-- Children of which some may wait, behind the free record at pos.
module _ (u : Node) {old mid : Reduction} {pos : ℕ} {at : Waiting} where
  pub walked_given : (part : Part) {depth : ℕ} → GivenTree u depth old.out.now pos → ReducedChildren (trees (tree u).kids) part old mid (none_at (pos + 1)) at → GivenWalked u.record mid.out.now pos at
  walked_given part g a =
      let d = walked_stepped part a in
      let k = ap records (forest_trees (tree u).kids) in
      record {
        same = d.done.frame.same ∙ g.same;
        progress = walked part (given old.settings) [] (trees (tree u).kids);
        settled = d.done.spans;
        waits = d.waiting;
        inside = omega (arith, d.done.frame.room, g.fits, a.few, k);
        small = omega (arith, g.small, a.few, k);
      }

  closes_done : (part : Part) (o : Rewrite) (make : Place → List Tree → Tree)
      → none_one_several (place_of (tree u)) ((walked part (given old.settings) [] (trees (tree u).kids)).done ++ flush make (place_of (tree u)) (walked part (given old.settings) [] (trees (tree u).kids)).waiting) ≡ rewritten o (given old.settings) (tree u)
      → HandledAs (given old.settings) (tree u) (Rewritten o) → ReducedChildren (trees (tree u).kids) part old mid (none_at (pos + 1)) at
      → {new : List ℕ} {r : ℕ} → Closes make (head u.record).place mid.out.now new pos at r → Wrote old.out.now new pos r (reduce (given old.settings) (tree u))
  unfolding tree_at
  closes_done part o make e h a b =
      let d = walked_stepped part a in
      wrote_as (wrote_over d.done (omega arith) (b.by (walked part (given old.settings) [] (trees (tree u).kids)) d.done.spans d.waiting)) (e ∙ sym h.is)

  pub template_done : HandledAs (given old.settings) (tree u) (Rewritten rewrites.Template) → ReducedChildren (trees (tree u).kids) Template old mid (none_at (pos + 1)) at
      → {new : List ℕ} {r : ℕ} → Closes make_template (head u.record).place mid.out.now new pos at r → Wrote old.out.now new pos r (reduce (given old.settings) (tree u))
  template_done = closes_done Template rewrites.Template make_template (ap (none_one_several (place_of (tree u))) (sym (template_walked (given old.settings) (place_of (tree u)) [] (trees (tree u).kids))))

  pub object_done : HandledAs (given old.settings) (tree u) (Rewritten rewrites.Object) → ReducedChildren (trees (tree u).kids) Object old mid (none_at (pos + 1)) at
      → {new : List ℕ} {r : ℕ} → Closes make_object (head u.record).place mid.out.now new pos at r → Wrote old.out.now new pos r (reduce (given old.settings) (tree u))
  object_done = closes_done Object rewrites.Object make_object (ap (none_one_several (place_of (tree u))) (sym (object_walked (given old.settings) (place_of (tree u)) [] (trees (tree u).kids))))

-- A class: room for what it gives up.
pub class_given : {u : Node} {depth : ℕ} {old : List ℕ} {pos : ℕ} → GivenTree u depth old pos → GivenClass u old pos
class_given g = record { same = g.same; fits = omega (arith, g.fits); small = omega (arith, g.small) }

-- The walk over the children as the rewrite that the match found asks for it.
pub walked_as : {made : Rewrite} {part : Part} (r : Rewrite) → part ≡ part_under made → made ≡ r → {ts : List Tree} {old new : Reduction} {at at' : Waiting} → ReducedChildren ts part old new at at' → ReducedChildren ts (part_under r) old new at at'
walked_as {part = part} r p e {ts} {old} {new} {at} {at'} a = subst (λ (x : Part). ReducedChildren ts x old new at at') (p ∙ ap part_under e) a

pub as_made : {st : Settings} {t : Tree} {made : Rewrite} (r : Rewrite) → made ≡ r → HandledAs st t (Rewritten made) → HandledAs st t (Rewritten r)
as_made {st} {t} r e h = subst (λ (x : Rewrite). HandledAs st t (Rewritten x)) e h

-- What is left of all of a node's children takes at most twice the records.
pub kids_few : (u : Node) {ts : List Tree} {part : Part} {old new : Reduction} {pos : ℕ} {at : Waiting} → ts ≡ trees (tree u).kids → ReducedChildren ts part old new (none_at pos) at
    → at.next + 2 ≤ pos + 2 * size (tree u)
kids_few u e a = omega (arith, a.few, ap (λ (l : List Tree). records (forest l)) e, ap records (forest_trees (tree u).kids))

-- The children behind the first one take no more than all.
drop_few : (l : List Tree) → records (forest (drop 1 l)) ≤ records (forest l)
drop_few [] = omega arith
drop_few (x ∷ l) = omega arith

pub others_few : (u : Node) (w : Trees) → left w ≡ drop 1 (trees (tree u).kids) → w.end - w.at ≤ size (tree u) - 1
others_few u w e = omega (arith, trees_size w, ap (λ (l : List Tree). records (forest l)) e, drop_few (trees (tree u).kids), ap records (forest_trees (tree u).kids))
