-- The effect list of a node, "in ECMA-262's order". Where a clause of ECMA-262 gives the order it is named.
use Rattle.std.specs.Prelude.{Bool, cond, ◌||◌, List, [], ◌++◌, ℕ, ◌+◌, ◌*◌, drop}
use Rattle.tree.specs.Tree.{Tree, Paired, recur, of_two}
use Rattle.tree.specs.Symbol.{string_fact, is_string}
use Rattle.rules.specs.Lists.{any, keep_if, concat_map}
use Rattle.rules.specs.Settings.{Settings, derived}
use Rattle.rules.specs.Handler.{Handler, handler}
use Rattle.rules.specs.Facts.{flagged, possible_symbol, of_identifier, pure_new, pure_call, test_is_yes}
use Rattle.rules.specs.Conditional.{test_of, arms_of, consequent_of, alternate_of}
use Rattle.rules.specs.Class.{heritage_of, elements_of, key_of, static_value_of, elements, decorated_class, decorated_element, nonempty_static_block, arrow_heritage}

-- What evaluating a node does: its effect list; and of a class element, which its class takes in two parts, what its computed key
-- does, and what its static value or block does after all keys.
pub record Evaluation : Type 0 where
  pub in_order : List ℕ
  pub key : List ℕ
  pub static : List ℕ

abbrev pub Evaluated : Type 0
Evaluated = Paired Evaluation

-- "An effect is place × 512 + kind × 2 + 1 if a coercion; a coercion has the place and kind of the node coerced."
unfoldable pub itself : Tree → ℕ
itself t = t.head.place.start * 512 + t.head.kind * 2

unfoldable pub coercion_number : Tree → ℕ
coercion_number t = itself t + 1

abbrev pub itself_if : Bool → Tree → List ℕ
itself_if b t = keep_if b (itself t)

-- The coercion of a node, "if a possible symbol".
unfoldable pub coercion : Tree → List ℕ
coercion t = keep_if (possible_symbol t) (coercion_number t)

-- "Children in order"
abbrev pub children_in_order : List Evaluated → List ℕ
children_in_order cs = concat_map (λ c. c.result.in_order) cs

-- "Template child: its coercion follows it if a possible symbol." ECMA-262: Template Literals, Evaluation: each is converted before
-- the next is evaluated.
abbrev pub template_child : Evaluated → List ℕ
template_child c = c.result.in_order ++ coercion c.tree

-- What follows both sides, l and r, of an addition t: "Addition with a string left: coercion of a possibly symbolic right; else with
-- a string right: of a possibly symbolic left; else itself if flagged." ECMA-262: ApplyStringOrNumericBinaryOperator.
unfoldable pub addition_effect : Tree → Tree → Tree → List ℕ
addition_effect t l r = cond (is_string l) (coercion r) (cond (string_fact r) (coercion l) (itself_if (flagged t) t))

-- "itself if decorated, element decorated or arrow heritage"
unfoldable pub class_is_effect : Tree → Bool
class_is_effect t = decorated_class t || (any decorated_element (elements t) || arrow_heritage t)

-- "Class: heritage; itself ..; computed keys; then static values and nonempty blocks". ECMA-262: ClassDefinitionEvaluation.
abbrev pub class_effects : Tree → List Evaluated → List ℕ
class_effects t cs =
    children_in_order (heritage_of t cs)
    ++ (itself_if (class_is_effect t) t
    ++ (concat_map (λ e. e.result.key) (elements_of t cs) ++ concat_map (λ e. e.result.static) (elements_of t cs)))

-- "Pure call or new: arguments only", else the callee first, and last "itself if flagged". ECMA-262: ArgumentListEvaluation, then
-- EvaluateCall or EvaluateNew.
abbrev pub call_effects : Bool → Tree → List Evaluated → List ℕ
call_effects pure t cs = cond pure (children_in_order (drop 1 cs)) (children_in_order cs ++ itself_if (flagged t) t)

-- 02, N1: "The effect list has the test, then the arm run". ECMA-262: Conditional Operator and Binary Logical Operators, Evaluation.
abbrev pub test_then : Settings → Tree → List Evaluated → List ℕ → List ℕ → List ℕ
test_then s t cs on_yes on_no = children_in_order (test_of cs) ++ cond (test_is_yes s t) on_yes on_no

abbrev pub effects_by : Handler → Settings → Tree → List Evaluated → List ℕ
-- "kinds 1–5 ..: itself if flagged"; a leaf has no children.
effects_by Handler.leaf s t cs = itself_if (flagged t) t
-- "This: itself if derived." ECMA-262: ResolveThisBinding.
effects_by Handler.this s t cs = itself_if (derived s) t
-- ECMA-262: Unary Operators, Evaluation: the argument, and "Typeof identifier: nothing".
effects_by Handler.void_or_not s t cs = children_in_order cs
effects_by Handler.typeof s t cs = cond (of_identifier t) [] (children_in_order cs)
effects_by Handler.other_unary s t cs = children_in_order cs ++ itself_if (flagged t) t
-- ECMA-262: Comma Operator, Evaluation.
effects_by Handler.sequence s t cs = children_in_order cs
-- ECMA-262: ArrayAccumulation.
effects_by Handler.array s t cs = children_in_order cs
effects_by Handler.template s t cs = concat_map template_child cs
-- ECMA-262: PropertyDefinitionEvaluation.
effects_by Handler.object s t cs = children_in_order cs
-- ECMA-262: Relational Operators and Equality Operators, Evaluation: both sides, left first.
effects_by Handler.comparison s t cs = children_in_order cs
effects_by Handler.addition s t cs =
    children_in_order cs ++ of_two (λ l r. addition_effect t l.tree r.tree) (itself_if (flagged t) t) cs
-- ECMA-262: EvaluateStringOrNumericBinaryExpression.
effects_by Handler.other_binary s t cs = children_in_order cs ++ itself_if (flagged t) t
effects_by Handler.call s t cs = call_effects (pure_call s t) t cs
effects_by Handler.new s t cs = call_effects (pure_new s t) t cs
effects_by Handler.class s t cs = class_effects t cs
effects_by Handler.conditional s t cs = test_then s t cs (children_in_order (consequent_of cs)) (children_in_order (alternate_of cs))
-- "its right side running on yes for and, on no for or"
effects_by Handler.logical_and s t cs = test_then s t cs (children_in_order (arms_of cs)) []
effects_by Handler.logical_or s t cs = test_then s t cs [] (children_in_order (arms_of cs))
effects_by Handler.elision s t cs = []
-- "Spread: itself if flagged."
effects_by Handler.spread s t cs = children_in_order cs ++ itself_if (flagged t) t
effects_by Handler.property s t cs = children_in_order cs
effects_by Handler.element s t cs = children_in_order cs
effects_by Handler.left_out s t cs = children_in_order cs

-- "static values and nonempty blocks (the block itself)"
unfoldable pub evaluate_rule : Settings → Tree → List Evaluated → Evaluation
evaluate_rule s t cs = record {
  in_order = effects_by (handler t.head) s t cs;
  key = children_in_order (key_of t cs);
  static = children_in_order (static_value_of t cs) ++ itself_if (nonempty_static_block t) t;
}

unfoldable pub evaluate : Settings → Tree → Evaluation
evaluate s t = recur (evaluate_rule s) t

-- "The effect list of a node is all of these from it and what is under it, in this order, repeats kept, under the file's settings"
unfoldable pub effects : Settings → Tree → List ℕ
effects s t = (evaluate s t).in_order

abbrev pub effects_of : Settings → List Tree → List ℕ
effects_of s ts = concat_map (effects s) ts
