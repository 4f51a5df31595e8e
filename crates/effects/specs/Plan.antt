-- What the effect list of a node is made of.
use Rattle.std.specs.Prelude.{◌≡◌, refl, Bool, true, false, cond, ◌||◌, List, [], ◌∷◌, ◌++◌, map, ℕ, eqb, drop}
use Rattle.std.proofs.Common.{sym, ap, ap₂, ◌∙◌, true≢false, append-nil, take-append-drop}
use Rattle.std.proofs.Math.Bool.{or-true}
use Rattle.tree.specs.Tree.{Head, Tree, trees, of_two}
use Rattle.tree.specs.Below.{and_both}
use Rattle.tree.specs.Kind as kind
use Rattle.tree.specs.Symbol.{is_addition}
use Rattle.rules.specs.Lists.{concat_map}
use Rattle.rules.specs.Settings.{Settings}
use Rattle.rules.specs.Handler.{Handler, handler, unary_handler, binary_handler, logical_handler}
use Rattle.rules.specs.Facts.{flagged, of_identifier, pure_new, pure_call, test_is_yes}
use Rattle.rules.specs.Conditional.{test_of, arms_of, consequent_of, alternate_of}
use Rattle.rules.specs.Class.{heritage, elements}
use Rattle.rules.specs.Effects.{evaluate, effects, effects_of, effects_by, itself_if, coercion, addition_effect, children_in_order, class_is_effect}
use Rattle.rules.proofs.Lists.{by_cond, take_map, drop_map, concat_map_map}
use Rattle.rules.specs.Results.{evaluated}
use Rattle.rules.proofs.Unfold.{in_order_is}
use Rattle.rules.proofs.Effects.{own, effects_of_append, coerced_is}
use Rattle.effects.specs.Listing.{tested}
use Rattle.effects.specs.declared.plan.Plan.{Plan}
use Rattle.effects.specs.declared.plan.Plan.TheVariants.{Nothing, Children, Coerced, Arguments, Test, Arm, Addition, Class}

-- The effect list of a node by its plan.
abbrev pub planned : Plan → Settings → Tree → List ℕ
planned Nothing s t = []
planned (Children when) s t = effects_of s (trees t.kids) ++ itself_if when t
planned Coerced s t = concat_map (λ c. effects s c ++ coercion c) (trees t.kids)
planned Arguments s t = effects_of s (drop 1 (trees t.kids))
planned Test s t = effects_of s (test_of (trees t.kids))
planned (Arm when) s t = tested when s (trees t.kids)
planned Addition s t = effects_of s (trees t.kids) ++ of_two (addition_effect t) (itself_if (flagged t) t) (trees t.kids)
planned Class s t =
    effects_of s (heritage t)
    ++ (itself_if (class_is_effect t) t
    ++ (concat_map (λ e. (evaluate s e).key) (elements t) ++ concat_map (λ e. (evaluate s e).static) (elements t)))

abbrev pub plan_by : Handler → Settings → Tree → Plan
plan_by Handler.spread s t = Children (flagged t)
plan_by Handler.template s t = Coerced
plan_by Handler.typeof s t = cond (of_identifier t) Nothing (Children false)
plan_by Handler.other_unary s t = Children (flagged t)
plan_by Handler.addition s t = Addition
plan_by Handler.other_binary s t = Children (flagged t)
plan_by Handler.call s t = cond (pure_call s t) Arguments (Children (flagged t))
plan_by Handler.new s t = cond (pure_new s t) Arguments (Children (flagged t))
plan_by Handler.class s t = Class
plan_by Handler.logical_and s t = cond (test_is_yes s t) (Children false) Test
plan_by Handler.logical_or s t = cond (test_is_yes s t) Test (Children false)
plan_by Handler.conditional s t = Arm (test_is_yes s t)
plan_by _ s t = Children false

-- The plan of a node that is not passed.
unfoldable pub plan : Settings → Tree → Plan
plan s t = plan_by (handler t.head) s t

abbrev pub is_passed : ℕ → Bool
is_passed k =
    kind.is_leaf k
    || (eqb k kind.this || (eqb k kind.elision || (eqb k kind.array || (eqb k kind.object || (eqb k kind.property || eqb k kind.sequence)))))

-- The handlers whose nodes may have another effect list than their plan's; each is passed.
abbrev childless : Handler → Bool
childless Handler.leaf = true
childless Handler.this = true
childless Handler.elision = true
childless _ = false

-- What holds of each handler that a kind may have holds of a node's.
by_kind : (P : Handler → Type 0) (h : Head) → (kind.is_leaf h.kind ≡ true → P Handler.leaf) → (eqb h.kind kind.this ≡ true → P Handler.this) → P Handler.array
    → (eqb h.kind kind.elision ≡ true → P Handler.elision) → P Handler.spread → P Handler.object → P Handler.property → P Handler.template → P Handler.sequence
    → P (unary_handler h.sub) → (eqb h.kind kind.binary ≡ true → P (binary_handler h.sub)) → P Handler.call → P Handler.new → P Handler.class → P Handler.element
    → P (logical_handler h.sub) → P Handler.conditional → P Handler.left_out → P (handler h)
unfolding handler
by_kind P h leaf this array elision spread object property template sequence unary binary call new class element logical conditional other =
    by_cond P (kind.is_leaf h.kind) Handler.leaf _ leaf
    (λ _. by_cond P (eqb h.kind kind.this) Handler.this _ this
    (λ _. by_cond P (eqb h.kind kind.array) Handler.array _ (λ _. array)
    (λ _. by_cond P (eqb h.kind kind.elision) Handler.elision _ elision
    (λ _. by_cond P (eqb h.kind kind.spread) Handler.spread _ (λ _. spread)
    (λ _. by_cond P (eqb h.kind kind.object) Handler.object _ (λ _. object)
    (λ _. by_cond P (eqb h.kind kind.property) Handler.property _ (λ _. property)
    (λ _. by_cond P (eqb h.kind kind.template) Handler.template _ (λ _. template)
    (λ _. by_cond P (eqb h.kind kind.sequence) Handler.sequence _ (λ _. sequence)
    (λ _. by_cond P (eqb h.kind kind.unary) (unary_handler h.sub) _ (λ _. unary)
    (λ _. by_cond P (eqb h.kind kind.binary) (binary_handler h.sub) _ binary
    (λ _. by_cond P (eqb h.kind kind.call) Handler.call _ (λ _. call)
    (λ _. by_cond P (eqb h.kind kind.new) Handler.new _ (λ _. new)
    (λ _. by_cond P (eqb h.kind kind.class) Handler.class _ (λ _. class)
    (λ _. by_cond P (eqb h.kind kind.element) Handler.element _ (λ _. element)
    (λ _. by_cond P (eqb h.kind kind.logical) (logical_handler h.sub) _ (λ _. logical)
    (λ _. by_cond P (eqb h.kind kind.conditional) Handler.conditional _ (λ _. conditional) (λ _. other)))))))))))))))))

not_childless : (h : Head) → is_passed h.kind ≡ false → childless (handler h) ≡ false
not_childless h e =
    by_kind (λ x. childless x ≡ false) h (λ a. absurd (true≢false (rw a at e))) (λ a. absurd (true≢false (rw (a, or-true (kind.is_leaf h.kind)) at e))) refl
    (λ a. absurd (true≢false (rw (a, or-true (eqb h.kind kind.this), or-true (kind.is_leaf h.kind)) at e))) refl refl refl refl refl
    (unary_runs (eqb h.sub 1) (eqb h.sub 2) (eqb h.sub 3))
    (λ _. binary_runs (eqb h.sub 1) (eqb h.sub 2)) refl refl refl refl
    (logical_runs (eqb h.sub 1)) refl refl
  where
    unary_runs : (one two three : Bool) → childless (cond (one || two) Handler.void_or_not (cond three Handler.typeof Handler.other_unary)) ≡ false
    unary_runs true two three = refl
    unary_runs false true three = refl
    unary_runs false false true = refl
    unary_runs false false false = refl

    binary_runs : (one two : Bool) → childless (cond one Handler.comparison (cond two Handler.addition Handler.other_binary)) ≡ false
    binary_runs true two = refl
    binary_runs false true = refl
    binary_runs false false = refl

    logical_runs : (one : Bool) → childless (cond one Handler.logical_and Handler.logical_or) ≡ false
    logical_runs true = refl
    logical_runs false = refl

-- An addition by its plan is one.
abbrev adds : Plan → Bool
adds Addition = true
adds _ = false

pub plan_addition : (s : Settings) (t : Tree) → plan s t ≡ Addition → is_addition t ≡ true
unfolding plan is_addition
plan_addition s t e =
    by_kind (λ x. adds (plan_by x s t) ≡ true → is_addition t ≡ true) t.head (λ _ x. no x) (λ _ x. no x) no (λ _ x. no x) no no no no no
    (by_cond Q (eqb t.head.sub 1 || eqb t.head.sub 2) Handler.void_or_not _ (λ _. no) (λ _. by_cond Q (eqb t.head.sub 3) Handler.typeof Handler.other_unary (λ _. either (of_identifier t)) (λ _. no)))
    (λ k. by_cond Q (eqb t.head.sub 1) Handler.comparison _ (λ _. no) (λ _. by_cond Q (eqb t.head.sub 2) Handler.addition Handler.other_binary (λ u _. and_both k u) (λ _. no)))
    (called_no (pure_call s t)) (called_no (pure_new s t)) no no
    (by_cond Q (eqb t.head.sub 1) Handler.logical_and Handler.logical_or (λ _. yes_no (test_is_yes s t)) (λ _. no_yes (test_is_yes s t))) no no
    (ap adds e)
  where
    Q : Handler → Type 0
    Q x = adds (plan_by x s t) ≡ true → is_addition t ≡ true

    no : false ≡ true → is_addition t ≡ true
    no x = absurd (true≢false (sym x))

    either : (b : Bool) → adds (cond b Nothing (Children false)) ≡ true → is_addition t ≡ true
    either true x = no x
    either false x = no x

    called_no : (b : Bool) → adds (cond b Arguments (Children (flagged t))) ≡ true → is_addition t ≡ true
    called_no true x = no x
    called_no false x = no x

    yes_no : (b : Bool) → adds (cond b (Children false) Test) ≡ true → is_addition t ≡ true
    yes_no true x = no x
    yes_no false x = no x

    no_yes : (b : Bool) → adds (cond b Test (Children false)) ≡ true → is_addition t ≡ true
    no_yes true x = no x
    no_yes false x = no x

two_evaluated : (s : Settings) (f : Tree → Tree → List ℕ) (other : List ℕ) (xs : List Tree)
    → of_two (λ l r. f l.tree r.tree) other (map (evaluated s) xs) ≡ of_two f other xs
two_evaluated s f other [] = refl
two_evaluated s f other (x ∷ []) = refl
two_evaluated s f other (x ∷ y ∷ []) = refl
two_evaluated s f other (x ∷ y ∷ z ∷ zs) = refl

module _ (s : Settings) (t : Tree) where
  abbrev ts : List Tree
  ts = trees t.kids

  arguments_is : children_in_order (drop 1 (map (evaluated s) ts)) ≡ effects_of s (drop 1 ts)
  arguments_is = rw (drop_map (evaluated s)) (in_order_is s (drop 1 ts))

  test_is : children_in_order (test_of (map (evaluated s) ts)) ≡ effects_of s (test_of ts)
  test_is = rw (take_map (evaluated s)) (in_order_is s (test_of ts))

  arm_is : (when : Bool)
      → cond when (children_in_order (consequent_of (map (evaluated s) ts))) (children_in_order (alternate_of (map (evaluated s) ts)))
      ≡ effects_of s (cond when (consequent_of ts) (alternate_of ts))
  arm_is true = rw (drop_map (evaluated s), take_map (evaluated s)) (in_order_is s (consequent_of ts))
  arm_is false = rw (drop_map (evaluated s), drop_map (evaluated s)) (in_order_is s (alternate_of ts))

  both_are : effects_of s (test_of ts) ++ effects_of s (arms_of ts) ≡ effects_of s ts
  both_are = sym (effects_of_append s (test_of ts) (arms_of ts)) ∙ ap (effects_of s) (take-append-drop 1 ts)

  in_order : children_in_order (map (evaluated s) ts) ≡ planned (Children false) s t
  in_order = in_order_is s ts ∙ sym (append-nil (effects_of s ts))

  then_itself : children_in_order (map (evaluated s) ts) ++ itself_if (flagged t) t ≡ planned (Children (flagged t)) s t
  then_itself = ap (◌++ itself_if (flagged t) t) (in_order_is s ts)

  called : (pure : Bool)
      → cond pure (children_in_order (drop 1 (map (evaluated s) ts))) (children_in_order (map (evaluated s) ts) ++ itself_if (flagged t) t)
      ≡ planned (cond pure Arguments (Children (flagged t))) s t
  called true = arguments_is
  called false = then_itself

  both_run : children_in_order (test_of (map (evaluated s) ts)) ++ children_in_order (arms_of (map (evaluated s) ts)) ≡ planned (Children false) s t
  both_run = ap₂ (◌++◌) test_is arguments_is ∙ both_are ∙ sym (append-nil (effects_of s ts))

  test_runs : children_in_order (test_of (map (evaluated s) ts)) ++ [] ≡ planned Test s t
  test_runs = append-nil (children_in_order (test_of (map (evaluated s) ts))) ∙ test_is

  by_handler : (h : Handler) → childless h ≡ false → effects_by h s t (map (evaluated s) ts) ≡ planned (plan_by h s t) s t
  by_handler Handler.leaf e = absurd (true≢false e)
  by_handler Handler.this e = absurd (true≢false e)
  by_handler Handler.elision e = absurd (true≢false e)
  by_handler Handler.void_or_not e = in_order
  by_handler Handler.typeof e = go (of_identifier t)
    where
      go : (b : Bool) → cond b [] (children_in_order (map (evaluated s) ts)) ≡ planned (cond b Nothing (Children false)) s t
      go true = refl
      go false = in_order
  by_handler Handler.other_unary e = then_itself
  by_handler Handler.sequence e = in_order
  by_handler Handler.array e = in_order
  by_handler Handler.template e = coerced_is s ts
  by_handler Handler.object e = in_order
  by_handler Handler.comparison e = in_order
  by_handler Handler.addition e = ap₂ (◌++◌) (in_order_is s ts) (two_evaluated s (addition_effect t) (itself_if (flagged t) t) ts)
  by_handler Handler.other_binary e = then_itself
  by_handler Handler.call e = called (pure_call s t)
  by_handler Handler.new e = called (pure_new s t)
  by_handler Handler.class e =
      rw (take_map (evaluated s), drop_map (evaluated s), in_order_is s (heritage t))
      (ap (λ (l : List ℕ). effects_of s (heritage t) ++ (itself_if (class_is_effect t) t ++ l))
      (ap₂ (◌++◌) (concat_map_map (λ e. e.result.key) (evaluated s) (elements t)) (concat_map_map (λ e. e.result.static) (evaluated s) (elements t))))
  by_handler Handler.conditional e = ap₂ (◌++◌) test_is (arm_is (test_is_yes s t))
  by_handler Handler.logical_and e = go (test_is_yes s t)
    where
      go : (b : Bool) → children_in_order (test_of (map (evaluated s) ts)) ++ cond b (children_in_order (arms_of (map (evaluated s) ts))) []
          ≡ planned (cond b (Children false) Test) s t
      go true = both_run
      go false = test_runs
  by_handler Handler.logical_or e = go (test_is_yes s t)
    where
      go : (b : Bool) → children_in_order (test_of (map (evaluated s) ts)) ++ cond b [] (children_in_order (arms_of (map (evaluated s) ts)))
          ≡ planned (cond b Test (Children false)) s t
      go true = test_runs
      go false = both_run
  by_handler Handler.spread e = then_itself
  by_handler Handler.property e = in_order
  by_handler Handler.element e = in_order
  by_handler Handler.left_out e = in_order

  -- The effect list by the plan p that was found, which is q.
  pub planned_as : is_passed t.head.kind ≡ false → {p : Plan} → p ≡ plan s t → (q : Plan) → p ≡ q → effects s t ≡ planned q s t
  unfolding plan
  planned_as e x q y =
      own s t (handler t.head) refl
      ∙ by_handler (handler t.head) (not_childless t.head e)
      ∙ ap (λ (p : Plan). planned p s t) (sym x ∙ y)
