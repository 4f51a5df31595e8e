-- What each outcome of a handler leaves of a node.
use Rattle.std.specs.Prelude.{◌≡◌, cond, not, List, [], ◌∷◌, map, ◌≤◌, drop}
use Rattle.tree.specs.Tree.{Tree, trees, count}
use Rattle.tree.specs.Kind as kind
use Rattle.tree.specs.Children as children
use Rattle.rules.specs.Lists.{any, keep_if, concat_map}
use Rattle.rules.specs.Settings.{Settings}
use Rattle.rules.specs.Handler.{is_literal, is_spread}
use Rattle.rules.specs.Made.{place_of}
use Rattle.rules.specs.Addition.{fold_string_addition_chain}
use Rattle.rules.specs.Class.{extracted}
use Rattle.rules.specs.Conditional.{test, consequent_of, alternate_of}
use Rattle.rules.specs.Reduce.{reduce, none_one_several, stays_with, transform_template, transform_object, join_kept, fold_arguments_into_needed_expressions, sequence_if_any, join_arms}
use Rattle.rules.specs.Results.{reduced}
use Rattle.handlers.specs.declared.outcome.Outcome.{Outcome}
use Rattle.handlers.specs.declared.outcome.Outcome.TheVariants.{Removable, Unchanged, Unwrapped, Rewritten, Arguments, Addition, Class, Conditional}
use Rattle.handlers.specs.declared.outcome.Rewrite.{Rewrite}
use Rattle.handlers.specs.declared.outcome.Rewrite.TheVariants.{Sequence, Array, Template, Object, Comparison}

-- "children reduced, removable ones dropped"
abbrev pub children_left : Settings → Tree → List Tree
children_left s t = concat_map (reduce s) (trees t.kids)

-- What a rewrite makes of the list of what is left of the children: each handler's own rule.
abbrev pub rewritten : Rewrite → Settings → Tree → List Tree
rewritten Sequence s t = stays_with t (children_left s t)
rewritten Array s t =
    cond (any is_spread (children_left s t)) (stays_with t (children_left s t)) (none_one_several (place_of t) (children_left s t))
rewritten Template s t = none_one_several (place_of t) (transform_template (place_of t) [] (map (reduced s) (trees t.kids)))
rewritten Object s t = none_one_several (place_of t) (transform_object (place_of t) [] (map (reduced s) (trees t.kids)))
rewritten Comparison s t = join_kept (place_of t) (children_left s t)

abbrev pub outcome : Outcome → Settings → Tree → List Tree
outcome Removable s t = []
outcome Unchanged s t = t ∷ []
outcome Unwrapped s t = children_left s t
outcome (Rewritten r) s t = rewritten r s t
outcome Arguments s t = none_one_several (place_of t) (fold_arguments_into_needed_expressions (map (reduced s) (drop 1 (trees t.kids))))
outcome Addition s t = keep_if (not (is_literal (fold_string_addition_chain t))) (fold_string_addition_chain t)
outcome Class s t = sequence_if_any (place_of t) (extracted t)
outcome Conditional s t =
    join_arms t (concat_map (reduce s) (test t)) (concat_map (reduce s) (consequent_of (trees t.kids))) (concat_map (reduce s) (alternate_of (trees t.kids)))

-- What an outcome counts on in the node.
abbrev pub HasChildren : Outcome → Tree → Type 0
HasChildren Removable t = Unit {0}
HasChildren Unchanged t = Unit {0}
HasChildren Unwrapped t = Unit {0}
HasChildren (Rewritten r) t = Unit {0}
HasChildren Arguments t = 1 ≤ count t.kids
HasChildren Addition t = (t.head.kind ≡ kind.binary) × (t.head.sub ≡ 2) × (count t.kids ≡ 2)
HasChildren Class t = (t.head.kind ≡ kind.class) × (children.heritage t.head ≤ count t.kids)
HasChildren Conditional t = (t.head.kind ≡ kind.conditional) × (count t.kids ≡ 3)

pub record HandledAs (s : Settings) (t : Tree) (o : Outcome) : Type 0 where
  pub is : reduce s t ≡ outcome o s t
  pub has : HasChildren o t
