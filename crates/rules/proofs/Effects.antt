-- The effect lists of made nodes, of nodes that stay over other children, and of a class by its parts.
use Rattle.std.specs.Prelude.{Bool, cond, ◌≡◌, ℕ}
use Rattle.std.proofs.Math.Bool.{true, false}
use mathlib.Core.List.{List, [], ◌∷◌, ◌++◌, map, append-nil}
use Rattle.std.proofs.Math.Path.{refl, ap}
use Rattle.std.proofs.Common.{sym, ◌∙◌, ap₂}
use Rattle.tree.specs.Tree.{Place, Tree, trees}
use Rattle.rules.specs.Lists.{concat_map}
use Rattle.rules.specs.Settings.{Settings}
use Rattle.rules.specs.Handler.{Handler, handler, is_sequence}
use Rattle.rules.specs.Made.{make_sequence, make_template, make_object, and_sub, or_sub, make_logical, empty_literal, with_children, joined, join_sequence}
use Rattle.rules.specs.Facts.{test_is_yes}
use Rattle.rules.specs.Class as class
use Rattle.rules.specs.Effects.{evaluate, evaluate_rule, effects, effects_of, effects_by, itself_if, coercion, template_child, children_in_order, class_is_effect, class_effects, test_then}
use Rattle.rules.proofs.Lists.{by_cond, take_map, drop_map, concat_map_append, concat_map_map, concat_map_same, always}
use Rattle.rules.specs.Results.{evaluated}
use Rattle.rules.proofs.Unfold.{evaluate_is, effects_is, effects_made, in_order_is}
use Rattle.rules.proofs.Facts.{empty_handled, empty_clear, sequence_handled, same_test}

module _ (s : Settings) where
  pub whole : (t : Tree) → effects_of s (t ∷ []) ≡ effects s t
  whole t = append-nil (effects s t)

  pub effects_of_append : (xs ys : List Tree) → effects_of s (xs ++ ys) ≡ effects_of s xs ++ effects_of s ys
  effects_of_append = concat_map_append (effects s)

  -- A node at its handler.
  pub own : (t : Tree) (k : Handler) → handler t.head ≡ k → effects s t ≡ effects_by k s t (map (evaluated s) (trees t.kids))
  own t k e = effects_is s t ∙ ap (λ k. effects_by k s t (map (evaluated s) (trees t.kids))) e

  pub stays_own : (t : Tree) (k : Handler) → handler t.head ≡ k → (ts : List Tree)
      → effects s (with_children t ts) ≡ effects_by k s (with_children t ts) (map (evaluated s) ts)
  unfolding with_children
  stays_own t k e ts = effects_made s t.head ts ∙ ap (λ k. effects_by k s (with_children t ts) (map (evaluated s) ts)) e

  -- Nodes that a rule makes.
  pub effects_sequence : (p : Place) (ts : List Tree) → effects s (make_sequence p ts) ≡ effects_of s ts
  unfolding make_sequence handler
  effects_sequence p ts = effects_made s (make_sequence p ts).head ts ∙ in_order_is s ts

  pub effects_object : (p : Place) (ts : List Tree) → effects s (make_object p ts) ≡ effects_of s ts
  unfolding make_object handler
  effects_object p ts = effects_made s (make_object p ts).head ts ∙ in_order_is s ts

  -- A template's children, each with its coercion.
  abbrev pub coerced_of : List Tree → List ℕ
  coerced_of ts = concat_map (λ t. effects s t ++ coercion t) ts

  pub coerced_is : (ts : List Tree) → concat_map template_child (map (evaluated s) ts) ≡ coerced_of ts
  unfolding effects
  coerced_is ts = concat_map_map template_child (evaluated s) ts

  pub coerced_of_append : (xs ys : List Tree) → coerced_of (xs ++ ys) ≡ coerced_of xs ++ coerced_of ys
  coerced_of_append = concat_map_append (λ t. effects s t ++ coercion t)

  pub effects_template : (p : Place) (ts : List Tree) → effects s (make_template p ts) ≡ coerced_of ts
  unfolding make_template handler
  effects_template p ts = effects_made s (make_template p ts).head ts ∙ coerced_is ts

  pub effects_empty : (p : Place) → effects s (empty_literal p) ≡ []
  effects_empty p = own (empty_literal p) Handler.leaf (empty_handled p) ∙ rw (empty_clear p)

  sequence_effects : (x : Tree) → is_sequence x ≡ true → effects s x ≡ effects_of s (trees x.kids)
  sequence_effects x e = own x Handler.sequence (sequence_handled x e) ∙ in_order_is s (trees x.kids)

  joined_effects : (a b : Tree) → effects_of s (joined a b) ≡ effects s a ++ effects s b
  joined_effects a b =
      by_cond (λ l. effects_of s l ≡ effects s a ++ effects s b) (is_sequence a) (trees a.kids ++ (b ∷ [])) (cond (is_sequence b) (a ∷ trees b.kids) (a ∷ b ∷ []))
      (λ e. effects_of_append (trees a.kids) (b ∷ []) ∙ ap₂ (◌++◌) (sym (sequence_effects a e)) (whole b))
      (λ _. by_cond (λ l. effects_of s l ≡ effects s a ++ effects s b) (is_sequence b) (a ∷ trees b.kids) (a ∷ b ∷ [])
      (λ e. ap (effects s a ++◌) (sym (sequence_effects b e))) (λ _. ap (effects s a ++◌) (whole b)))

  pub effects_joined : (p : Place) (a b : Tree) → effects s (join_sequence p a b) ≡ effects s a ++ effects s b
  unfolding join_sequence
  effects_joined p a b = effects_sequence p (joined a b) ∙ joined_effects a b

  -- A test, and what follows it: of a node u, and of a node t with the same test.
  alone : (x : Tree) → children_in_order (evaluated s x ∷ []) ≡ effects s x
  unfolding effects
  alone x = append-nil (evaluate s x).in_order

  test_then_lem : (t u q : Tree) (xs ys : List Tree) → trees t.kids ≡ q ∷ xs → trees u.kids ≡ q ∷ ys → {y n y' n' : List ℕ} → y ≡ y' → n ≡ n'
      → test_then s u (map (evaluated s) (q ∷ ys)) y n ≡ effects s q ++ cond (test_is_yes s t) y' n'
  test_then_lem t u q xs ys e f g h = ap₂ (◌++◌) (alone q) (λ i. cond (same_test s u t q ys xs f e i) (g i) (h i))

  -- A conditional by its parts, and what it may be made into.
  module _ (t q c a : Tree) (are : trees t.kids ≡ q ∷ c ∷ a ∷ []) where
    pub effects_conditional : handler t.head ≡ Handler.conditional → effects s t ≡ effects s q ++ cond (test_is_yes s t) (effects s c) (effects s a)
    effects_conditional e = own t Handler.conditional e ∙ rw are (test_then_lem t t q (c ∷ a ∷ []) (c ∷ a ∷ []) are are (alone c) (alone a))

    pub effects_and : (p : Place) (x : Tree) → effects s (make_logical and_sub p (q ∷ x ∷ [])) ≡ effects s q ++ cond (test_is_yes s t) (effects s x) []
    unfolding make_logical handler
    effects_and p x =
        let u = make_logical and_sub p (q ∷ x ∷ []) in effects_made s u.head (q ∷ x ∷ []) ∙ test_then_lem t u q (c ∷ a ∷ []) (x ∷ []) are refl (alone x) refl

    pub effects_or : (p : Place) (x : Tree) → effects s (make_logical or_sub p (q ∷ x ∷ [])) ≡ effects s q ++ cond (test_is_yes s t) [] (effects s x)
    unfolding make_logical handler
    effects_or p x =
        let u = make_logical or_sub p (q ∷ x ∷ []) in effects_made s u.head (q ∷ x ∷ []) ∙ test_then_lem t u q (c ∷ a ∷ []) (x ∷ []) are refl refl (alone x)

    pub effects_arms : handler t.head ≡ Handler.conditional → (x y : Tree) → effects s (with_children t (q ∷ x ∷ y ∷ [])) ≡ effects s q ++ cond (test_is_yes s t) (effects s x) (effects s y)
    unfolding with_children
    effects_arms e x y =
        let u = with_children t (q ∷ x ∷ y ∷ []) in
        stays_own t Handler.conditional e (q ∷ x ∷ y ∷ []) ∙ test_then_lem t u q (c ∷ a ∷ []) (x ∷ y ∷ []) are refl (alone x) (alone y)

  -- A class by its parts.
  pub key_is : (e : Tree) → (evaluate s e).key ≡ effects_of s (class.computed_key e)
  unfolding evaluate_rule
  key_is e = ap (λ r. r.key) (evaluate_is s e) ∙ rw (take_map (evaluated s)) (in_order_is s (class.computed_key e))

  abbrev pub static_effects : Tree → List ℕ
  static_effects e = effects_of s (class.static_value e) ++ itself_if (class.nonempty_static_block e) e

  pub static_is : (e : Tree) → (evaluate s e).static ≡ static_effects e
  unfolding evaluate_rule
  static_is e =
      ap (λ r. r.static) (evaluate_is s e)
      ∙ ap (λ l. l ++ itself_if (class.nonempty_static_block e) e) (value (class.has_static_value e))
    where
      value : (b : Bool) → children_in_order (cond b (class.value_of e (map (evaluated s) (trees e.kids))) []) ≡ effects_of s (cond b (class.value_of e (trees e.kids)) [])
      value true = rw (drop_map (evaluated s)) (in_order_is s (class.value_of e (trees e.kids)))
      value false = refl

  pub class_is : (t : Tree) → class_effects t (map (evaluated s) (trees t.kids))
      ≡ effects_of s (class.heritage t)
      ++ (itself_if (class_is_effect t) t
      ++ (concat_map (λ e. effects_of s (class.computed_key e)) (class.elements t) ++ concat_map static_effects (class.elements t)))
  class_is t =
      rw (take_map (evaluated s), drop_map (evaluated s), in_order_is s (class.heritage t))
      (ap (λ l. effects_of s (class.heritage t) ++ (itself_if (class_is_effect t) t ++ l))
      (ap₂ (◌++◌)
      (concat_map_map (λ e. e.result.key) (evaluated s) (class.elements t)
      ∙ concat_map_same (λ e. (evaluate s e).key) (λ e. effects_of s (class.computed_key e)) (class.elements t) (always key_is (class.elements t)))
      (concat_map_map (λ e. e.result.static) (evaluated s) (class.elements t)
      ∙ concat_map_same (λ e. (evaluate s e).static) static_effects (class.elements t) (always static_is (class.elements t)))))
