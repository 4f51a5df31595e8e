-- Each recursion by one level: its rule at a node, over the children beside their own results. What else is proved rests on these.
use Rattle.std.specs.Prelude.{Bool, true, false, cond, not, ◌&&◌, List, [], ◌∷◌, ◌++◌, map, ◌≡◌, refl, drop}
use Rattle.std.proofs.Common.{append-nil, ◌∙◌}
use Rattle.std.proofs.Math.Path.{ap}
use Rattle.tree.specs.Tree.{Head, Tree, trees, forest, recur_is, recur_made}
use Rattle.rules.specs.Lists.{keep_if, concat_map, filter}
use Rattle.rules.specs.Settings.{Settings}
use Rattle.rules.specs.Handler.{Handler, handler, is_spread}
use Rattle.rules.specs.Facts.{flagged, clear, possible_symbol, of_identifier, pure_new, pure_call, has_side_effects_or_preserved_iife, unchanged_template, only_spreads, flagged_child}
use Rattle.rules.specs.Class.{kept_class}
use Rattle.rules.specs.Conditional.{arms_of}
use Rattle.rules.specs.Reduce.{kept, remove_unused_expression, reduce_rule, reduce, both_arms_go}
use Rattle.rules.specs.Effects.{children_in_order, effects_by, evaluate_rule, evaluate, effects, effects_of}
use Rattle.rules.specs.Reads.{ReadIn, read_in_all, fold_reads, class_reads, read_at, reduced_children, reads_rule, reads}
use Rattle.rules.specs.ReadsBy.{read_in_all_but, reads_by}
use Rattle.rules.specs.Results.{reduced, evaluated, read_in}
use Rattle.rules.proofs.Lists.{concat_map_map}

-- What is read at a node and in the children that are reduced, handler by handler.
all_but : (waits : Tree → Bool) (cs : List ReadIn) → read_in_all (filter (λ c. not (waits c.tree)) cs) ≡ read_in_all_but waits cs
all_but waits [] = refl
all_but waits (c ∷ cs) = go (waits c.tree) (all_but waits cs)
  where
    go : (b : Bool) → read_in_all (filter (λ c. not (waits c.tree)) cs) ≡ read_in_all_but waits cs
        → read_in_all (keep_if (not b) c ++ filter (λ c. not (waits c.tree)) cs) ≡ cond b [] c.result ++ read_in_all_but waits cs
    go true e = e
    go false e = ap (c.result ++◌) e

unless : (b : Bool) (cs : List ReadIn) → read_in_all (cond b [] cs) ≡ cond b [] (read_in_all cs)
unless true cs = refl
unless false cs = refl

of_pure : (pure gone : Bool) (t : Tree) (cs : List ReadIn)
    → keep_if (not pure && not gone) t ++ read_in_all (cond pure cs []) ≡ cond pure (read_in_all cs) (keep_if (not gone) t)
of_pure true gone t cs = refl
of_pure false gone t cs = append-nil (keep_if (not gone) t)

of_object_lem : (only flag : Bool) (ts : List Tree) (cs : List ReadIn)
    → cond (only && not flag) ts [] ++ read_in_all (cond only [] (filter (λ c. not (is_spread c.tree)) cs)) ≡ cond only (cond flag [] ts) (read_in_all_but is_spread cs)
of_object_lem true true ts cs = refl
of_object_lem true false ts cs = append-nil ts
of_object_lem false flag ts cs = all_but is_spread cs

reads_by_handler : (k : Handler) (s : Settings) (t : Tree) (cs : List ReadIn) → read_at k s t ++ read_in_all (reduced_children k s t cs) ≡ reads_by k s t cs
reads_by_handler Handler.leaf s t cs = append-nil (keep_if (clear t) t)
reads_by_handler Handler.this s t cs = refl
reads_by_handler Handler.void_or_not s t cs = refl
reads_by_handler Handler.typeof s t cs = unless (of_identifier t) cs
reads_by_handler Handler.other_unary s t cs = append-nil (keep_if (clear t) t)
reads_by_handler Handler.sequence s t cs = refl
reads_by_handler Handler.array s t cs = refl
reads_by_handler Handler.template s t cs =
    unless (unchanged_template t) (filter (λ c. not (possible_symbol c.tree)) cs) ∙ ap (cond (unchanged_template t) []) (all_but possible_symbol cs)
reads_by_handler Handler.object s t cs = of_object_lem (only_spreads t) (flagged_child t) (trees t.kids) cs
reads_by_handler Handler.comparison s t cs = refl
reads_by_handler Handler.addition s t cs = append-nil (cond (flagged t) (fold_reads t) (t ∷ []))
reads_by_handler Handler.other_binary s t cs = append-nil (keep_if (clear t) t)
reads_by_handler Handler.call s t cs = of_pure (pure_call s t) (has_side_effects_or_preserved_iife s t) t (drop 1 cs)
reads_by_handler Handler.new s t cs = of_new_lem (pure_new s t)
  where
    of_new_lem : (pure : Bool) → read_in_all (cond pure (drop 1 cs) []) ≡ cond pure (read_in_all (drop 1 cs)) []
    of_new_lem true = refl
    of_new_lem false = refl
reads_by_handler Handler.class s t cs = append-nil (cond (kept_class t) [] (class_reads t))
reads_by_handler Handler.conditional s t cs = of_flagged (flagged t)
  where
    of_flagged : (b : Bool) → keep_if (not b) t ++ read_in_all (cond b (cond (both_arms_go s t) cs (arms_of cs)) []) ≡ cond b (read_in_all (cond (both_arms_go s t) cs (arms_of cs))) (t ∷ [])
    of_flagged true = refl
    of_flagged false = refl
reads_by_handler Handler.logical_and s t cs = refl
reads_by_handler Handler.logical_or s t cs = refl
reads_by_handler Handler.elision s t cs = refl
reads_by_handler Handler.spread s t cs = append-nil (keep_if (clear t) t)
reads_by_handler Handler.property s t cs = refl
reads_by_handler Handler.element s t cs = refl
reads_by_handler Handler.left_out s t cs = refl

module _ (s : Settings) where
  pub reduce_is : (t : Tree) → reduce s t ≡ remove_unused_expression (handler t.head) s t (map (reduced s) (trees t.kids))
  unfolding reduce reduce_rule
  reduce_is t = recur_is (reduce_rule s) t

  pub reads_is : (t : Tree) → reads s t ≡ reads_by (handler t.head) s t (map (read_in s) (trees t.kids))
  unfolding reads reads_rule
  reads_is t = recur_is (reads_rule s) t ∙ reads_by_handler (handler t.head) s t (map (read_in s) (trees t.kids))

  pub evaluate_is : (t : Tree) → evaluate s t ≡ evaluate_rule s t (map (evaluated s) (trees t.kids))
  unfolding evaluate
  evaluate_is t = recur_is (evaluate_rule s) t

  pub effects_is : (t : Tree) → effects s t ≡ effects_by (handler t.head) s t (map (evaluated s) (trees t.kids))
  unfolding effects evaluate_rule
  effects_is t = ap (λ r. r.in_order) (evaluate_is t)

  -- The same at a node made of a list.
  pub effects_made : (h : Head) (ts : List Tree)
      → effects s (record { head = h; kids = forest ts }) ≡ effects_by (handler h) s (record { head = h; kids = forest ts }) (map (evaluated s) ts)
  unfolding effects evaluate evaluate_rule
  effects_made h ts = ap (λ r. r.in_order) (recur_made (evaluate_rule s) h ts)

  -- The children's results one after the other.
  pub kept_is : (ts : List Tree) → kept (map (reduced s) ts) ≡ concat_map (reduce s) ts
  kept_is ts = concat_map_map (λ c. c.result) (reduced s) ts

  pub read_in_all_is : (ts : List Tree) → read_in_all (map (read_in s) ts) ≡ concat_map (reads s) ts
  read_in_all_is ts = concat_map_map (λ c. c.result) (read_in s) ts

  pub in_order_is : (ts : List Tree) → children_in_order (map (evaluated s) ts) ≡ effects_of s ts
  unfolding effects
  in_order_is ts = concat_map_map (λ c. c.result.in_order) (evaluated s) ts
