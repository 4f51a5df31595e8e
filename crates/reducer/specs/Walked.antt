-- A list of children walked one by one: what is left of them so far, and what waits.
use Rattle.std.specs.Prelude.{Bool, false, cond, List, [], ◌∷◌, ◌++◌}
use Rattle.tree.specs.Tree.{Place, Tree}
use Rattle.rules.specs.Settings.{Settings}
use Rattle.rules.specs.Handler.{is_spread}
use Rattle.rules.specs.Facts.{possible_symbol}
use Rattle.rules.specs.Made.{place_of, make_template, make_object}
use Rattle.rules.specs.Reduce.{flush, fold_argument, reduce}
use Rattle.rules.specs.Results.{reduced}
use Rattle.handlers.specs.declared.outcome.Rewrite.{Rewrite}
use Rattle.handlers.specs.declared.outcome.Rewrite.TheVariants as rewrites
use Rattle.reducer.specs.declared.walk.Part.{Part}
use Rattle.reducer.specs.declared.walk.Part.TheVariants.{InOrder, Argument, Template, Object}

-- What a walk leaves: trees that are settled, and trees that wait behind them.
pub record Progress : Type 0 where
  pub done : List Tree
  pub waiting : List Tree

-- What a node that is rewritten asks of its children.
abbrev pub part_under : Rewrite → Part
part_under rewrites.Sequence = InOrder
part_under rewrites.Array = InOrder
part_under rewrites.Template = Template
part_under rewrites.Object = Object
part_under rewrites.Comparison = InOrder

-- "a possible symbol waits unreduced"; "adjacent spreads, flagged or not, wait"
abbrev pub waits : Part → Tree → Bool
waits InOrder t = false
waits Argument t = false
waits Template t = possible_symbol t
waits Object t = is_spread t

-- "a spread first wrapped in an array"
abbrev pub wraps : Part → Tree → Bool
wraps InOrder t = false
wraps Argument t = is_spread t
wraps Template t = false
wraps Object t = false

-- What is left of a child that does not wait.
abbrev pub left_of : Part → Settings → Tree → List Tree
left_of InOrder s t = reduce s t
left_of Argument s t = fold_argument (reduced s t)
left_of Template s t = reduce s t
left_of Object s t = reduce s t

-- "Before each kept one, all waiting make a template .. at the kept one's place after reduction"; one of which nothing is left
-- leaves them waiting.
abbrev pub settled_kept : List Tree → List Tree → Progress
settled_kept w [] = record { done = []; waiting = w }
settled_kept w (x ∷ xs) = record { done = flush make_template (place_of x) w ++ (x ∷ xs); waiting = [] }

-- "the next property makes them an object at its own place"
abbrev pub settled : Part → Place → List Tree → List Tree → Progress
settled InOrder p w r = settled_kept w r
settled Argument p w r = settled_kept w r
settled Template p w r = settled_kept w r
settled Object p w r = record { done = flush make_object p w ++ r; waiting = [] }

-- One child, behind those that wait.
abbrev pub step : Part → Settings → List Tree → Tree → Progress
step part s w t = cond (waits part t) (record { done = []; waiting = w ++ (t ∷ []) }) (settled part (place_of t) w (left_of part s t))

-- The children in order.
abbrev pub walked : Part → Settings → List Tree → List Tree → Progress
walked part s w [] = record { done = []; waiting = w }
walked part s w (t ∷ ts) = record {
  done = (step part s w t).done ++ (walked part s (step part s w t).waiting ts).done;
  waiting = (walked part s (step part s w t).waiting ts).waiting;
}
