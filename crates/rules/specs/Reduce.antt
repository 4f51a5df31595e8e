-- The rule of `remove_unused_expression`, a function for each handler, named after the Rust's. "'Reduced' means this same rule
-- applied to a child." `reduce s t` is what is left of t: nothing if it is removable, else the one tree that is kept. (Of a
-- property, which is a part of an object, it is what is left of its key and of its value.)
use Rattle.std.specs.Prelude.{Bool, cond, not, List, [], ◌∷◌, ◌++◌, drop}
use Rattle.tree.specs.Tree.{Place, Tree, trees, Paired, recur}
use Rattle.rules.specs.Lists.{is_empty, any, keep_if, concat_map}
use Rattle.rules.specs.Settings.{Settings, derived}
use Rattle.rules.specs.Handler.{Handler, handler, is_literal, is_spread}
use Rattle.rules.specs.Facts.{flagged, possible_symbol, of_identifier, pure_new, pure_call, has_side_effects_or_preserved_iife, unchanged_template, only_spreads, flagged_child}
use Rattle.rules.specs.Made.{place_of, make_sequence, make_template, make_object, make_array, and_sub, or_sub, make_logical, with_children, join_sequence}
use Rattle.rules.specs.Addition.{fold_string_addition_chain}
use Rattle.rules.specs.Conditional.{test_of, arms_of, consequent_of, alternate_of, test}
use Rattle.rules.specs.Class.{kept_class, extracted}

-- A child beside what is left of it.
abbrev pub Reduced : Type 0
Reduced = Paired (List Tree)

-- "children reduced, removable ones dropped"
abbrev pub kept : List Reduced → List Tree
kept cs = concat_map (λ c. c.result) cs

-- "None: removable; one: itself; else a sequence", at p.
abbrev pub none_one_several : Place → List Tree → List Tree
none_one_several p [] = []
none_one_several p (x ∷ []) = x ∷ []
none_one_several p (x ∷ y ∷ ys) = make_sequence p (x ∷ y ∷ ys) ∷ []

-- The node over what is left of its children; "none is removable".
abbrev pub stays_with : Tree → List Tree → List Tree
stays_with t [] = []
stays_with t (x ∷ xs) = with_children t (x ∷ xs) ∷ []

-- The waiting nodes, if any, made into one.
abbrev pub flush : (Place → List Tree → Tree) → Place → List Tree → List Tree
flush make p [] = []
flush make p (w ∷ ws) = make p (w ∷ ws) ∷ []

-- Leaf: "removable exactly if not flagged".
abbrev pub remove_unused_leaf : Tree → List Tree
remove_unused_leaf t = keep_if (flagged t) t

-- This: "removable unless the derived setting is on, flagged or not".
abbrev pub remove_unused_this : Settings → Tree → List Tree
remove_unused_this s t = keep_if (derived s) t

-- Unary (`unwrap_unary`): "void and not become their reduced argument".
abbrev pub unwrap_unary : List Reduced → List Tree
unwrap_unary cs = kept cs

-- "Typeof of an identifier reference is removable, flagged or not; other typeof becomes its reduced argument."
abbrev pub remove_unused_typeof : Tree → List Reduced → List Tree
remove_unused_typeof t cs = cond (of_identifier t) [] (unwrap_unary cs)

-- Other unary: "removable exactly if not flagged".
abbrev pub remove_unused_other_unary : Tree → List Tree
remove_unused_other_unary t = keep_if (flagged t) t

-- Sequence: "children reduced, removable ones dropped. One left stays a sequence of one; none is removable."
abbrev pub remove_unused_sequence_expr : Tree → List Reduced → List Tree
remove_unused_sequence_expr t cs = stays_with t (kept cs)

-- Array: "elisions and unflagged spreads go, other elements are reduced. None left: removable. A spread left: stays an array. Else
-- the one child, or a sequence at the array's place."
abbrev pub remove_unused_array_expr : Tree → List Reduced → List Tree
remove_unused_array_expr t cs = cond (any is_spread (kept cs)) (stays_with t (kept cs)) (none_one_several (place_of t) (kept cs))

-- Template. "Before each kept one, all waiting make a template with text 0 at the kept one's place after reduction"; one of which
-- nothing is left leaves them waiting. `go` goes on with what waits.
abbrev pub flush_template_before : List Tree → List Tree → (List Tree → List Tree) → List Tree
flush_template_before waiting [] go = go waiting
flush_template_before waiting (x ∷ xs) go = flush make_template (place_of x) waiting ++ ((x ∷ xs) ++ go [])

-- "in order: a possible symbol waits unreduced; others are reduced", "the rest wait until the end and take the template's place"
abbrev pub transform_template : Place → List Tree → List Reduced → List Tree
transform_template p waiting [] = flush make_template p waiting
transform_template p waiting (c ∷ cs) =
    cond (possible_symbol c.tree) (transform_template p (waiting ++ (c.tree ∷ [])) cs)
    (flush_template_before waiting c.result (λ w. transform_template p w cs))

-- "no expressions: removable. All possibly symbols and text 0: unchanged. Otherwise .. None: removable; one: itself; else a sequence."
abbrev pub remove_unused_template_literal : Tree → List Reduced → List Tree
remove_unused_template_literal t cs =
    cond (unchanged_template t) (t ∷ []) (none_one_several (place_of t) (transform_template (place_of t) [] cs))

-- Object. "adjacent spreads, flagged or not, wait; the next property makes them an object at its own place, the end at the object's
-- place. Property by property, its key node, then its value, is reduced."
abbrev pub transform_object : Place → List Tree → List Reduced → List Tree
transform_object p waiting [] = flush make_object p waiting
transform_object p waiting (c ∷ cs) =
    cond (is_spread c.tree) (transform_object p (waiting ++ (c.tree ∷ [])) cs)
    (flush make_object (place_of c.tree) waiting ++ (c.result ++ transform_object p [] cs))

-- "empty: removable. Only spreads: removable exactly if none is flagged, else unchanged. Otherwise .. None, one, several as for
-- templates."
abbrev pub remove_unused_object_expr : Tree → List Reduced → List Tree
remove_unused_object_expr t cs =
    cond (only_spreads t) (keep_if (flagged_child t) t) (none_one_several (place_of t) (transform_object (place_of t) [] cs))

-- Comparison: "both sides reduced; two kept go to `join_sequence`". A comparison has two sides, so the last clause meets no
-- accepted tree.
abbrev pub join_kept : Place → List Tree → List Tree
join_kept p [] = []
join_kept p (x ∷ []) = x ∷ []
join_kept p (x ∷ y ∷ []) = join_sequence p x y ∷ []
join_kept p (x ∷ y ∷ z ∷ zs) = make_sequence p (x ∷ y ∷ z ∷ zs) ∷ []

abbrev pub remove_unused_comparison : Tree → List Reduced → List Tree
remove_unused_comparison t cs = join_kept (place_of t) (kept cs)

-- Addition: "unflagged: removable. Else `fold_string_addition_chain`, then removable exactly if a string literal remains."
abbrev pub remove_unused_addition : Tree → List Tree
remove_unused_addition t =
    cond (flagged t) (keep_if (not (is_literal (fold_string_addition_chain t))) (fold_string_addition_chain t)) []

-- Other binary: "removable exactly if not flagged".
abbrev pub remove_unused_other_binary : Tree → List Tree
remove_unused_other_binary t = keep_if (flagged t) t

-- Call, new: "its arguments are reduced, a spread first wrapped in an array at the spread's place".
abbrev pub fold_argument : Reduced → List Tree
fold_argument c =
    cond (is_spread c.tree) (remove_unused_array_expr (make_array (place_of c.tree) (c.tree ∷ [])) (c ∷ [])) c.result

abbrev pub fold_arguments_into_needed_expressions : List Reduced → List Tree
fold_arguments_into_needed_expressions arguments = concat_map fold_argument arguments

-- "A pure one loses its callee; its arguments are reduced ..; none, one, several as above."
abbrev pub without_callee : Tree → List Reduced → List Tree
without_callee t cs = none_one_several (place_of t) (fold_arguments_into_needed_expressions (drop 1 cs))

-- "An impure call is removable exactly if unflagged, and not if tree-shake-only is on and the callee is a function or arrow."
abbrev pub remove_unused_call_expr : Settings → Tree → List Reduced → List Tree
remove_unused_call_expr s t cs =
    cond (pure_call s t) (without_callee t cs) (keep_if (has_side_effects_or_preserved_iife s t) t)

-- "An impure new always stays."
abbrev pub remove_unused_new_expr : Settings → Tree → List Reduced → List Tree
remove_unused_new_expr s t cs = cond (pure_new s t) (without_callee t cs) (t ∷ [])

-- Class: "None: removable. One or more: always a sequence."
abbrev pub sequence_if_any : Place → List Tree → List Tree
sequence_if_any p [] = []
sequence_if_any p (x ∷ xs) = make_sequence p (x ∷ xs) ∷ []

abbrev pub remove_unused_class_expr : Tree → List Tree
remove_unused_class_expr t = cond (kept_class t) (t ∷ []) (sequence_if_any (place_of t) (extracted t))

-- 02, N1. Conditional, of what is left of its test, its consequent and its alternate: "both gone leaves the reduced test, or removable
-- if the test goes too. One gone leaves a logical node .. of the unreduced test and the arm that stays. It takes the conditional's
-- place: a dropped consequent gives or, a dropped alternate and. Neither gone keeps the conditional and its facts, with reduced arms."
abbrev pub join_arms : Tree → List Tree → List Tree → List Tree → List Tree
join_arms t q [] [] = q
join_arms t q [] (a ∷ bs) = make_logical or_sub (place_of t) (test t ++ (a ∷ bs)) ∷ []
join_arms t q (c ∷ cs) [] = make_logical and_sub (place_of t) (test t ++ (c ∷ cs)) ∷ []
join_arms t q (c ∷ cs) (a ∷ bs) = with_children t (test t ++ ((c ∷ cs) ++ (a ∷ bs))) ∷ []

-- "Unflagged is removable. Else both arms are reduced".
abbrev pub remove_unused_conditional_expr : Tree → List Reduced → List Tree
remove_unused_conditional_expr t cs =
    cond (flagged t) (join_arms t (kept (test_of cs)) (kept (consequent_of cs)) (kept (alternate_of cs))) []

abbrev pub remove_unused_expression : Handler → Settings → Tree → List Reduced → List Tree
remove_unused_expression Handler.leaf s t cs = remove_unused_leaf t
remove_unused_expression Handler.this s t cs = remove_unused_this s t
remove_unused_expression Handler.void_or_not s t cs = unwrap_unary cs
remove_unused_expression Handler.typeof s t cs = remove_unused_typeof t cs
remove_unused_expression Handler.other_unary s t cs = remove_unused_other_unary t
remove_unused_expression Handler.sequence s t cs = remove_unused_sequence_expr t cs
remove_unused_expression Handler.array s t cs = remove_unused_array_expr t cs
remove_unused_expression Handler.template s t cs = remove_unused_template_literal t cs
remove_unused_expression Handler.object s t cs = remove_unused_object_expr t cs
remove_unused_expression Handler.comparison s t cs = remove_unused_comparison t cs
remove_unused_expression Handler.addition s t cs = remove_unused_addition t
remove_unused_expression Handler.other_binary s t cs = remove_unused_other_binary t
remove_unused_expression Handler.call s t cs = remove_unused_call_expr s t cs
remove_unused_expression Handler.new s t cs = remove_unused_new_expr s t cs
remove_unused_expression Handler.class s t cs = remove_unused_class_expr t
remove_unused_expression Handler.conditional s t cs = remove_unused_conditional_expr t cs
-- A logical node is left whole: Reduce refuses a file with one, and what it makes it does not read again.
remove_unused_expression Handler.logical_and s t cs = t ∷ []
remove_unused_expression Handler.logical_or s t cs = t ∷ []
-- Parts of a parent: "elisions and unflagged spreads go"; a property gives its key, then its value; a class reads its elements itself.
remove_unused_expression Handler.elision s t cs = []
remove_unused_expression Handler.spread s t cs = keep_if (flagged t) t
remove_unused_expression Handler.property s t cs = kept cs
remove_unused_expression Handler.element s t cs = t ∷ []
remove_unused_expression Handler.left_out s t cs = t ∷ []

unfoldable pub reduce_rule : Settings → Tree → List Reduced → List Tree
reduce_rule s t cs = remove_unused_expression (handler t.head) s t cs

unfoldable pub reduce : Settings → Tree → List Tree
reduce s t = recur (reduce_rule s) t

-- Of a conditional: "both gone", which is where its test is reduced.
unfoldable pub both_arms_go : Settings → Tree → Bool
both_arms_go s t = is_empty (concat_map (reduce s) (arms_of (trees t.kids)))
