-- A tree of N records has fewer than 2 N effects: a node adds at most one of its own, and one more where it is a template's child.
use Rattle.std.specs.Prelude.{Bool, true, false, cond, List, [], ◌∷◌, ◌++◌, map, ◌≡◌, refl, ℕ, suc, ◌+◌, ◌*◌, ◌≤◌, length, take, drop}
use Rattle.std.proofs.Common.{◌∙◌, ap, zero-le, suc-le-suc, le_refl, le_trans, arith, length-append}
use Rattle.tree.specs.Tree.{Tree, trees, size, All, ind, of_two}
use Rattle.tree.specs.Record.{bit}
use Rattle.tree.specs.Symbol.{string_fact, is_string}
use Rattle.tree.specs.Children as children
use Rattle.rules.specs.Lists.{keep_if, concat_map}
use Rattle.rules.specs.Settings.{Settings, derived}
use Rattle.rules.specs.Handler.{Handler, handler}
use Rattle.rules.specs.Facts.{flagged, possible_symbol, of_identifier, pure_new, pure_call, test_is_yes}
use Rattle.rules.specs.Class as class
use Rattle.rules.specs.Conditional.{arms_of, consequent_of, alternate_of}
use Rattle.rules.specs.Effects.{Evaluated, effects, effects_of, effects_by, itself, itself_if, coercion_number, coercion, addition_effect, children_in_order, class_is_effect, call_effects, test_then}
use Rattle.rules.proofs.Lists.{by_cond, all_map, all_take, all_drop, take_map, drop_map}
use Rattle.rules.specs.Results.{evaluated}
use Rattle.rules.proofs.Unfold.{effects_is, in_order_is}
use Rattle.rules.proofs.Effects.{coerced_of, coerced_is, static_effects, class_is}
use Rattle.rules.proofs.Scale.{by_records, sum, sum_split, sum_grow, own, own_kids}

-- The records of a list of trees.
abbrev records_of : List Tree → ℕ
records_of ts = sum by_records (own by_records) ts

split : (n : ℕ) (ts : List Tree) → records_of (take n ts) + records_of (drop n ts) ≡ records_of ts
split = sum_split by_records (own by_records)

length_concat_map : {A B : Type 0} (f : A → List B) (xs : List A) → length (concat_map f xs) ≡ sum by_records (λ x. length (f x)) xs
length_concat_map f [] = refl
length_concat_map f (x ∷ xs) = length-append (f x) (concat_map f xs) ∙ ap (length (f x) +◌) (length_concat_map f xs)

within : (f : Tree → List ℕ) (ts : List Tree) → All (λ t. length (f t) ≤ 2 * own by_records t) ts → length (concat_map f ts) ≤ 2 * records_of ts
within f ts h = rw (length_concat_map f ts) (sum_grow by_records (λ t. length (f t)) (own by_records) ts h)

at_most_one : {A : Type 0} (b : Bool) (x : A) → length (keep_if b x) ≤ 1
at_most_one true x = suc-le-suc zero-le
at_most_one false x = zero-le

coercion_one : (t : Tree) → length (coercion t) ≤ 1
unfolding coercion
coercion_one t = at_most_one (possible_symbol t) (coercion_number t)

addition_one : (t l r : Tree) → length (addition_effect t l r) ≤ 1
unfolding addition_effect
addition_one t l r =
    by_cond (λ x. length x ≤ 1) (is_string l) (coercion r) (cond (string_fact r) (coercion l) (itself_if (flagged t) t)) (λ _. coercion_one r)
    (λ _. by_cond (λ x. length x ≤ 1) (string_fact r) (coercion l) (itself_if (flagged t) t) (λ _. coercion_one l) (λ _. at_most_one (flagged t) (itself t)))

module _ (s : Settings) where
  record Few (t : Tree) : Type 0 where
    list : suc (length (effects s t)) ≤ 2 * own by_records t
    parts : length (effects_of s (class.computed_key t)) + length (static_effects s t) ≤ 2 * own by_records t

  few_list : (ts : List Tree) → All Few ts → length (effects_of s ts) ≤ 2 * records_of ts
  few_list ts fs = within (effects s) ts (all_map (λ t f. omega (arith, f.list)) ts fs)

  few_coerced : (ts : List Tree) → All Few ts → length (coerced_of s ts) ≤ 2 * records_of ts
  few_coerced ts fs = within (λ t. effects s t ++ coercion t) ts (all_map both ts fs)
    where
      both : (t : Tree) → Few t → length (effects s t ++ coercion t) ≤ 2 * own by_records t
      both t f = rw (length-append (effects s t) (coercion t)) (omega (arith, f.list, coercion_one t))

  few_elements : (es : List Tree) → All Few es → length (concat_map (λ e. effects_of s (class.computed_key e)) es) + length (concat_map (static_effects s) es) ≤ 2 * records_of es
  few_elements [] fs = zero-le
  few_elements (e ∷ es) fs =
      rw (length-append (effects_of s (class.computed_key e)) (concat_map (λ e. effects_of s (class.computed_key e)) es), length-append (static_effects s e) (concat_map (static_effects s) es))
      (omega (arith, fs.0.parts, few_elements es fs.1))

  module _ (t : Tree) (fs : All Few (trees t.kids)) where
    abbrev ts : List Tree
    ts = trees t.kids

    abbrev evaluations : List Evaluated
    evaluations = map (evaluated s) ts

    abbrev Within : List ℕ → Type 0
    Within l = length l ≤ suc (2 * records_of ts)

    in_order_lem : Within (children_in_order evaluations)
    in_order_lem = rw (in_order_is s ts) (omega (arith, few_list ts fs))

    and_one : (l : List ℕ) → length l ≤ 1 → Within (children_in_order evaluations ++ l)
    and_one l h = rw (length-append (children_in_order evaluations) l, in_order_is s ts) (omega (arith, few_list ts fs))

    of_itself : (b : Bool) → Within (itself_if b t)
    of_itself b = le_trans (at_most_one b (itself t)) (suc-le-suc zero-le)

    few_call : (pure : Bool) → Within (call_effects pure t evaluations)
    few_call true = rw (drop_map (evaluated s) 1 ts, in_order_is s (drop 1 ts)) (omega (arith, few_list (drop 1 ts) (all_drop Few 1 ts fs), split 1 ts))
    few_call false = and_one (itself_if (flagged t) t) (at_most_one (flagged t) (itself t))

    few_addition : (ts : List Tree) → length (of_two (λ l r. addition_effect t l.tree r.tree) (itself_if (flagged t) t) (map (evaluated s) ts)) ≤ 1
    few_addition [] = at_most_one (flagged t) (itself t)
    few_addition (l ∷ []) = at_most_one (flagged t) (itself t)
    few_addition (l ∷ r ∷ []) = addition_one t l r
    few_addition (l ∷ r ∷ x ∷ xs) = at_most_one (flagged t) (itself t)

    -- A test, and one of its arms.
    abbrev Arm : List ℕ → Type 0
    Arm l = length l ≤ 2 * records_of (drop 1 ts)

    few_test : (on_yes on_no : List ℕ) → Arm on_yes → Arm on_no → Within (test_then s t evaluations on_yes on_no)
    few_test on_yes on_no y n =
        rw (take_map (evaluated s) 1 ts, in_order_is s (take 1 ts), length-append (effects_of s (take 1 ts)) (cond (test_is_yes s t) on_yes on_no))
        (omega (arith, few_list (take 1 ts) (all_take Few 1 ts fs), by_cond Arm (test_is_yes s t) on_yes on_no (λ _. y) (λ _. n), split 1 ts))

    few_right : Arm (children_in_order (arms_of evaluations))
    few_right = rw (drop_map (evaluated s) 1 ts, in_order_is s (drop 1 ts)) (few_list (drop 1 ts) (all_drop Few 1 ts fs))

    few_arms : Within (effects_by Handler.conditional s t evaluations)
    few_arms =
        let arms = all_drop Few 1 ts fs in
        few_test (children_in_order (consequent_of evaluations)) (children_in_order (alternate_of evaluations))
        (rw (drop_map (evaluated s) 1 ts, take_map (evaluated s) 1 (drop 1 ts), in_order_is s (consequent_of ts))
        (omega (arith, few_list (consequent_of ts) (all_take Few 1 (drop 1 ts) arms), split 1 (drop 1 ts))))
        (rw (drop_map (evaluated s) 1 ts, drop_map (evaluated s) 1 (drop 1 ts), in_order_is s (alternate_of ts))
        (omega (arith, few_list (alternate_of ts) (all_drop Few 1 (drop 1 ts) arms), split 1 (drop 1 ts))))

    few_class : Within (effects_by Handler.class s t evaluations)
    few_class =
        let n = children.heritage t.head in
        let hs = effects_of s (class.heritage t) in
        let own = itself_if (class_is_effect t) t in
        let keys = concat_map (λ e. effects_of s (class.computed_key e)) (class.elements t) in
        let statics = concat_map (static_effects s) (class.elements t) in
        rw (class_is s t, length-append hs (own ++ (keys ++ statics)), length-append own (keys ++ statics), length-append keys statics)
        (omega (arith, at_most_one (class_is_effect t) (itself t), few_list (class.heritage t) (all_take Few n ts fs), few_elements (class.elements t) (all_drop Few n ts fs), split n ts))

    by_handler : (k : Handler) → Within (effects_by k s t evaluations)
    by_handler Handler.leaf = of_itself (flagged t)
    by_handler Handler.this = of_itself (derived s)
    by_handler Handler.void_or_not = in_order_lem
    by_handler Handler.typeof = by_cond Within (of_identifier t) [] (children_in_order evaluations) (λ _. zero-le) (λ _. in_order_lem)
    by_handler Handler.other_unary = and_one (itself_if (flagged t) t) (at_most_one (flagged t) (itself t))
    by_handler Handler.sequence = in_order_lem
    by_handler Handler.array = in_order_lem
    by_handler Handler.template = rw (coerced_is s ts) (omega (arith, few_coerced ts fs))
    by_handler Handler.object = in_order_lem
    by_handler Handler.comparison = in_order_lem
    by_handler Handler.addition = and_one (of_two (λ l r. addition_effect t l.tree r.tree) (itself_if (flagged t) t) evaluations) (few_addition ts)
    by_handler Handler.other_binary = and_one (itself_if (flagged t) t) (at_most_one (flagged t) (itself t))
    by_handler Handler.call = few_call (pure_call s t)
    by_handler Handler.new = few_call (pure_new s t)
    by_handler Handler.class = few_class
    by_handler Handler.conditional = few_arms
    by_handler Handler.logical_and = few_test (children_in_order (arms_of evaluations)) [] few_right zero-le
    by_handler Handler.logical_or = few_test [] (children_in_order (arms_of evaluations)) zero-le few_right
    by_handler Handler.elision = zero-le
    by_handler Handler.spread = and_one (itself_if (flagged t) t) (at_most_one (flagged t) (itself t))
    by_handler Handler.property = in_order_lem
    by_handler Handler.element = in_order_lem
    by_handler Handler.left_out = in_order_lem

    few_value : length (effects_of s (class.static_value t)) ≤ length (effects_of s (class.value_of t ts))
    few_value =
        by_cond (λ l. length (effects_of s l) ≤ length (effects_of s (class.value_of t ts))) (class.has_static_value t) (class.value_of t ts) []
        (λ _. le_refl (length (effects_of s (class.value_of t ts)))) (λ _. zero-le)

    few_parts : length (effects_of s (class.computed_key t)) + length (static_effects s t) ≤ suc (2 * records_of ts)
    few_parts =
        let n = bit 4 t.head.sub in
        rw (length-append (effects_of s (class.static_value t)) (itself_if (class.nonempty_static_block t) t))
        (omega (
          arith,
          few_value,
          at_most_one (class.nonempty_static_block t) (itself t),
          few_list (class.computed_key t) (all_take Few n ts fs),
          few_list (class.value_of t ts) (all_drop Few n ts fs),
          split n ts,
        ))

  step : (t : Tree) → All Few (trees t.kids) → Few t
  step t fs = record {
    list = rw (effects_is s t, own_kids by_records t) (omega (arith, by_handler t fs (handler t.head)));
    parts = rw (own_kids by_records t) (omega (arith, few_parts t fs));
  }

  pub few : (t : Tree) → suc (length (effects s t)) ≤ 2 * size t
  unfolding own
  few t = (ind Few step t).list
