-- Demand 3, handler by handler: what is kept of a node has the node's effects, if the nodes whose clear flag is read have none.
use Rattle.std.specs.Prelude.{Bool, cond, not, ◌≡◌, ℕ, ◌≤◌, eqb, length, drop}
use Rattle.std.proofs.Math.Bool.{true, false}
use Rattle.std.proofs.Common.{true≢false, ◌∙◌, arith}
use mathlib.Core.List.{List, [], ◌∷◌, ◌++◌, map, append_assoc, append-nil}
use Rattle.std.proofs.Math.Path.{refl, sym, ap, ap₂}
use Rattle.std.proofs.lemmas.Bool.{not-false}
use Rattle.tree.specs.Below.{and_right}
use Rattle.tree.specs.Tree.{Place, Tree, trees, count, All, ind}
use Rattle.tree.specs.Symbol.{Sides}
use Rattle.rules.specs.Lists.{is_empty, any, every, keep_if, concat_map, filter}
use Rattle.rules.specs.Settings.{Settings, derived}
use Rattle.rules.specs.Handler.{Handler, handler, is_literal, is_spread}
use Rattle.rules.specs.Facts.{flagged, clear, possible_symbol, of_identifier, pure_new, pure_call, has_side_effects_or_preserved_iife, unchanged_template, only_spreads, flagged_child, test_is_yes}
use Rattle.rules.specs.Made.{place_of, make_sequence, make_template, make_object, make_array, and_sub, or_sub, make_logical, with_children, join_sequence}
use Rattle.rules.specs.Addition.{fold_string_addition_chain}
use Rattle.rules.specs.Class as class
use Rattle.rules.specs.Conditional.{test_of, arms_of, consequent_of, alternate_of}
use Rattle.rules.specs.Reduce.{Reduced, kept, none_one_several, stays_with, flush, flush_template_before, transform_template, transform_object, join_kept, sequence_if_any, fold_argument, fold_arguments_into_needed_expressions, without_callee, remove_unused_array_expr, join_arms, remove_unused_expression, reduce, both_arms_go}
use Rattle.rules.specs.Effects.{Evaluated, effects, effects_of, effects_by, children_in_order, coercion, class_effects, call_effects}
use Rattle.rules.specs.Reads.{ReadIn, read_in_all, side_reads, fold_reads, element_reads, class_reads, reads, NoEffects, Premise}
use Rattle.rules.specs.ReadsBy.{read_in_all_but, reads_by}
use Rattle.rules.proofs.Lists.{by_cond, all_append, all_drop, kept_all, all_concat_map, all_map, all_zip, every_all, none_all, drop_map, concat_map_same, concat_map_none, concat_map_concat_map}
use Rattle.rules.specs.Results.{reduced, evaluated, read_in}
use Rattle.rules.proofs.Unfold.{reduce_is, reads_is, effects_is, in_order_is}
use Rattle.rules.proofs.Everywhere.{Everywhere, kids_everywhere}
use Rattle.rules.proofs.Facts.{literal_handled, array_handled, NotKept, not_kept, no_flagged_value}
use Rattle.rules.proofs.Effects.{whole, effects_of_append, own, stays_own, effects_sequence, effects_object, coerced_of, coerced_is, coerced_of_append, effects_template, effects_joined, effects_conditional, effects_and, effects_or, effects_arms, static_effects, class_is}
use Rattle.rules.proofs.Addition.{NoSides, by_chain, fold_sides_lem, fold_reads_sides, fold_string, Folds, fold_step}
use Rattle.rules.proofs.Shape.{is_expr, exactly, three, NodeGood, good_kids}
use Rattle.rules.proofs.Accepted.{LiteralClear, literals_clear}
use Rattle.rules.proofs.Single.{at_most_one}

module _ (s : Settings) where
  -- What is to be shown of a node.
  abbrev Keeps : Tree → Type 0
  Keeps t = NoEffects s (reads s t) → effects_of s (reduce s t) ≡ effects s t

  split : (xs ys : List Tree) → NoEffects s (xs ++ ys) → NoEffects s xs × NoEffects s ys
  split = all_append (λ n. effects s n ≡ [])

  no_effects_list : (ts : List Tree) → NoEffects s ts → effects_of s ts ≡ []
  no_effects_list ts h = concat_map_none (effects s) ts h

  keep_if_lem : (b : Bool) (t : Tree) → (b ≡ false → effects s t ≡ []) → effects_of s (keep_if b t) ≡ effects s t
  keep_if_lem true t h = whole s t
  keep_if_lem false t h = sym (h refl)

  -- A node that is kept if b, and of which the clear flag is read if not.
  by_flag : (b : Bool) (t : Tree) → NoEffects s (keep_if (not b) t) → effects_of s (keep_if b t) ≡ effects s t
  by_flag b t h = keep_if_lem b t (λ e. kept_all (λ n. effects s n ≡ []) (not b) t h (ap not e))

  -- Lists of what is left.
  kept_effects : (ts : List Tree) → All Keeps ts → NoEffects s (read_in_all (map (read_in s) ts)) → effects_of s (kept (map (reduced s) ts)) ≡ effects_of s ts
  kept_effects [] ks h = refl
  kept_effects (t ∷ ts) ks h =
      let (h₀, h₁) = split (reads s t) (read_in_all (map (read_in s) ts)) h in
      effects_of_append s (reduce s t) (kept (map (reduced s) ts)) ∙ ap₂ (◌++◌) (ks.0 h₀) (kept_effects ts ks.1 h₁)

  none_one_several_lem : (p : Place) (ts : List Tree) → effects_of s (none_one_several p ts) ≡ effects_of s ts
  none_one_several_lem p [] = refl
  none_one_several_lem p (x ∷ []) = refl
  none_one_several_lem p (x ∷ y ∷ ys) = whole s (make_sequence p (x ∷ y ∷ ys)) ∙ effects_sequence s p (x ∷ y ∷ ys)

  sequence_if_any_lem : (p : Place) (ts : List Tree) → effects_of s (sequence_if_any p ts) ≡ effects_of s ts
  sequence_if_any_lem p [] = refl
  sequence_if_any_lem p (x ∷ xs) = whole s (make_sequence p (x ∷ xs)) ∙ effects_sequence s p (x ∷ xs)

  join_kept_lem : (p : Place) (ts : List Tree) → effects_of s (join_kept p ts) ≡ effects_of s ts
  join_kept_lem p [] = refl
  join_kept_lem p (x ∷ []) = refl
  join_kept_lem p (x ∷ y ∷ []) = whole s (join_sequence p x y) ∙ effects_joined s p x y ∙ ap (effects s x ++◌) (sym (whole s y))
  join_kept_lem p (x ∷ y ∷ z ∷ zs) = whole s (make_sequence p (x ∷ y ∷ z ∷ zs)) ∙ effects_sequence s p (x ∷ y ∷ z ∷ zs)

  -- A node whose effects are its children's in order.
  stays_with_lem : (t : Tree) (ts : List Tree) → effects s (with_children t ts) ≡ effects_of s ts → effects_of s (stays_with t ts) ≡ effects_of s ts
  stays_with_lem t [] h = refl
  stays_with_lem t (x ∷ xs) h = whole s (with_children t (x ∷ xs)) ∙ h

  array_effects : (t : Tree) (cs : List Reduced) → handler t.head ≡ Handler.array → effects_of s (remove_unused_array_expr t cs) ≡ effects_of s (kept cs)
  array_effects t cs e =
      by_cond (λ l. effects_of s l ≡ effects_of s (kept cs)) (any is_spread (kept cs)) (stays_with t (kept cs)) (none_one_several (place_of t) (kept cs))
      (λ _. stays_with_lem t (kept cs) (stays_own s t Handler.array e (kept cs) ∙ in_order_is s (kept cs))) (λ _. none_one_several_lem (place_of t) (kept cs))

  -- Templates.
  flush_template : (p : Place) (w : List Tree) → effects_of s (flush make_template p w) ≡ coerced_of s w
  flush_template p [] = refl
  flush_template p (x ∷ xs) = whole s (make_template p (x ∷ xs)) ∙ effects_template s p (x ∷ xs)

  flush_before : (w d : List Tree) (go : List Tree → List Tree) (rest : List ℕ) → ((w : List Tree) → effects_of s (go w) ≡ coerced_of s w ++ rest)
      → effects_of s (flush_template_before w d go) ≡ coerced_of s w ++ (effects_of s d ++ rest)
  flush_before w [] go rest h = h w
  flush_before w (x ∷ xs) go rest h =
      effects_of_append s (flush make_template (place_of x) w) ((x ∷ xs) ++ go [])
      ∙ ap₂ (◌++◌) (flush_template (place_of x) w) (effects_of_append s (x ∷ xs) (go []) ∙ ap (effects_of s (x ∷ xs) ++◌) (h []))

  template_effects : (p : Place) (w ts : List Tree) → All Keeps ts → NoEffects s (read_in_all_but possible_symbol (map (read_in s) ts))
      → effects_of s (transform_template p w (map (reduced s) ts)) ≡ coerced_of s w ++ coerced_of s ts
  unfolding coercion
  template_effects p w [] ks h = flush_template p w ∙ sym (append-nil (coerced_of s w))
  template_effects p w (t ∷ ts) ks h = go (possible_symbol t) refl h (λ w. template_effects p w ts ks.1)
    where
      go : (b : Bool) → possible_symbol t ≡ b → NoEffects s (cond b [] (reads s t) ++ read_in_all_but possible_symbol (map (read_in s) ts))
          → ((w : List Tree) → NoEffects s (read_in_all_but possible_symbol (map (read_in s) ts)) → effects_of s (transform_template p w (map (reduced s) ts)) ≡ coerced_of s w ++ coerced_of s ts)
          → effects_of s (cond b (transform_template p (w ++ (t ∷ [])) (map (reduced s) ts)) (flush_template_before w (reduce s t) (λ w. transform_template p w (map (reduced s) ts))))
          ≡ coerced_of s w ++ ((effects s t ++ coercion t) ++ coerced_of s ts)
      go true e h ih = ih (w ++ (t ∷ [])) h ∙ rw (coerced_of_append s w (t ∷ []), append-nil (effects s t ++ coercion t)) (append_assoc (coerced_of s w) (effects s t ++ coercion t) (coerced_of s ts))
      go false e h ih =
          let (h₀, h₁) = split (reads s t) (read_in_all_but possible_symbol (map (read_in s) ts)) h in
          flush_before w (reduce s t) (λ w. transform_template p w (map (reduced s) ts)) (coerced_of s ts) (λ w. ih w h₁)
          ∙ rw (ks.0 h₀, e, append-nil (effects s t))

  -- Objects.
  flush_object : (p : Place) (w : List Tree) → effects_of s (flush make_object p w) ≡ effects_of s w
  flush_object p [] = refl
  flush_object p (x ∷ xs) = whole s (make_object p (x ∷ xs)) ∙ effects_object s p (x ∷ xs)

  object_effects : (p : Place) (w ts : List Tree) → All Keeps ts → NoEffects s (read_in_all_but is_spread (map (read_in s) ts))
      → effects_of s (transform_object p w (map (reduced s) ts)) ≡ effects_of s w ++ effects_of s ts
  object_effects p w [] ks h = flush_object p w ∙ sym (append-nil (effects_of s w))
  object_effects p w (t ∷ ts) ks h = go (is_spread t) h (λ w. object_effects p w ts ks.1)
    where
      go : (b : Bool) → NoEffects s (cond b [] (reads s t) ++ read_in_all_but is_spread (map (read_in s) ts))
          → ((w : List Tree) → NoEffects s (read_in_all_but is_spread (map (read_in s) ts)) → effects_of s (transform_object p w (map (reduced s) ts)) ≡ effects_of s w ++ effects_of s ts)
          → effects_of s (cond b (transform_object p (w ++ (t ∷ [])) (map (reduced s) ts)) (flush make_object (place_of t) w ++ (reduce s t ++ transform_object p [] (map (reduced s) ts))))
          ≡ effects_of s w ++ (effects s t ++ effects_of s ts)
      go true h ih = ih (w ++ (t ∷ [])) h ∙ rw (effects_of_append s w (t ∷ []), append-nil (effects s t)) (append_assoc (effects_of s w) (effects s t) (effects_of s ts))
      go false h ih =
          let (h₀, h₁) = split (reads s t) (read_in_all_but is_spread (map (read_in s) ts)) h in
          effects_of_append s (flush make_object (place_of t) w) (reduce s t ++ transform_object p [] (map (reduced s) ts))
          ∙ ap₂ (◌++◌) (flush_object (place_of t) w) (effects_of_append s (reduce s t) (transform_object p [] (map (reduced s) ts)) ∙ ap₂ (◌++◌) (ks.0 h₀) (ih [] h₁))

  -- A pure call or new: each argument, a spread behind its array.
  argument_effects : (t : Tree) → effects_of s (fold_argument (reduced s t)) ≡ effects_of s (reduce s t)
  argument_effects t =
      by_cond (λ l. effects_of s l ≡ effects_of s (reduce s t)) (is_spread t) (remove_unused_array_expr (make_array (place_of t) (t ∷ [])) (reduced s t ∷ [])) (reduce s t)
      (λ _. array_effects (make_array (place_of t) (t ∷ [])) (reduced s t ∷ []) (array_handled (place_of t) (t ∷ [])) ∙ ap (effects_of s) (append-nil (reduce s t))) (λ _. refl)

  arguments_effects : (ts : List Tree) → All Keeps ts → NoEffects s (read_in_all (map (read_in s) ts)) → effects_of s (fold_arguments_into_needed_expressions (map (reduced s) ts)) ≡ effects_of s ts
  arguments_effects [] ks h = refl
  arguments_effects (t ∷ ts) ks h =
      let (h₀, h₁) = split (reads s t) (read_in_all (map (read_in s) ts)) h in
      effects_of_append s (fold_argument (reduced s t)) (fold_arguments_into_needed_expressions (map (reduced s) ts))
      ∙ ap₂ (◌++◌) (argument_effects t ∙ ks.0 h₀) (arguments_effects ts ks.1 h₁)

  -- Classes.
  filter_effects : (ts : List Tree) → NoEffects s (filter clear ts) → effects_of s (filter flagged ts) ≡ effects_of s ts
  filter_effects [] h = refl
  filter_effects (t ∷ ts) h =
      let (h₀, h₁) = split (keep_if (clear t) t) (filter clear ts) h in
      effects_of_append s (keep_if (flagged t) t) (filter flagged ts) ∙ ap₂ (◌++◌) (by_flag (flagged t) t h₀) (filter_effects ts h₁)

  clear_effects : (ts : List Tree) → any flagged ts ≡ false → NoEffects s (filter clear ts) → effects_of s ts ≡ []
  clear_effects ts e h =
      no_effects_list ts
      (all_zip (λ t e h. kept_all (λ n. effects s n ≡ []) (clear t) t h (ap not e)) ts (none_all flagged ts e)
      (all_concat_map (λ n. effects s n ≡ []) (λ t. keep_if (clear t) t) ts h))

  -- An element of an extracted class: its key's effects are kept, and its value and block have none.
  record Extracted (e : Tree) : Type 0 where
    key : effects_of s (class.extracted_of_element e) ≡ effects_of s (class.computed_key e)
    static : static_effects s e ≡ []

  extracted_element : (e : Tree) → class.nonempty_static_block e ≡ false → class.flagged_static_value e ≡ false → NoEffects s (element_reads e) → Extracted e
  extracted_element e b v h =
      let (h₀, h₁) = split (filter clear (class.computed_key e)) (filter clear (class.static_value e)) h in
      let value = clear_effects (class.static_value e) (no_flagged_value e v) h₁ in
      record {
        key = effects_of_append s (filter flagged (class.computed_key e)) (class.static_value e)
            ∙ ap₂ (◌++◌) (filter_effects (class.computed_key e) h₀) value ∙ append-nil (effects_of s (class.computed_key e));
        static = ap₂ (◌++◌) value (rw b);
      }

  extracted_elements : (t : Tree) → NotKept t → NoEffects s (concat_map element_reads (class.elements t)) → All Extracted (class.elements t)
  extracted_elements t n h =
      all_zip (λ e f h. f h) (class.elements t)
      (all_zip extracted_element (class.elements t) (none_all class.nonempty_static_block (class.elements t) n.no_block) (none_all class.flagged_static_value (class.elements t) n.no_value))
      (all_concat_map (λ n. effects s n ≡ []) element_reads (class.elements t) h)

  extracted_effects : (t : Tree) → NotKept t → NoEffects s (class_reads t) → effects_of s (class.extracted t) ≡ class_effects t (map (evaluated s) (trees t.kids))
  unfolding class_reads class.extracted
  extracted_effects t n h =
      let es = class.elements t in
      let (h₀, h₁) = split (filter clear (class.heritage t)) (concat_map element_reads es) h in
      let xs = extracted_elements t n h₁ in
      effects_of_append s (filter flagged (class.heritage t)) (concat_map class.extracted_of_element es)
      ∙ ap₂ (◌++◌) (filter_effects (class.heritage t) h₀)
      (concat_map_concat_map (effects s) class.extracted_of_element es
      ∙ concat_map_same (λ e. effects_of s (class.extracted_of_element e)) (λ e. effects_of s (class.computed_key e)) es (all_map (λ e x. x.key) es xs)
      ∙ sym (append-nil (concat_map (λ e. effects_of s (class.computed_key e)) es))
      ∙ ap (concat_map (λ e. effects_of s (class.computed_key e)) es ++◌) (sym (concat_map_none (static_effects s) es (all_map (λ e x. x.static) es xs))))
      ∙ sym (class_is s t ∙ rw n.no_effect)

  -- Additions.
  literal_no_effects : (t : Tree) → LiteralClear t → is_literal t ≡ true → effects s t ≡ []
  literal_no_effects t c l = own s t Handler.leaf (literal_handled t l) ∙ rw (c l)

  chain : (t : Tree) → Everywhere LiteralClear t → NoEffects s (fold_reads t) → Folds s t (fold_string_addition_chain t)
  chain = by_chain (λ t. Everywhere LiteralClear t → NoEffects s (fold_reads t) → Folds s t (fold_string_addition_chain t)) other sum
    where
      other : (t : Tree) → NoSides t → Everywhere LiteralClear t → NoEffects s (fold_reads t) → Folds s t (fold_string_addition_chain t)
      other t n c h = rw n.folds (record { same = refl; front = λ _. refl; literal = literal_no_effects t c.0 })

      sum : (t l r : Tree) → Sides t l r → (Everywhere LiteralClear l → NoEffects s (fold_reads l) → Folds s l (fold_string_addition_chain l))
          → Everywhere LiteralClear t → NoEffects s (fold_reads t) → Folds s t (fold_string_addition_chain t)
      sum t l r S ih c h =
          let cs : All (Everywhere LiteralClear) (l ∷ r ∷ []) = rw S.kids at (kids_everywhere LiteralClear t.kids c.1) in
          let (h₀, h₁) = split (fold_reads l) (side_reads (fold_string_addition_chain l) r) (rw (fold_reads_sides t l r S) at h) in
          rw (fold_sides_lem t l r S) (fold_step s t l r (fold_string_addition_chain l) S (fold_string l) (ih cs.0 h₀) h₁)

  -- A conditional, of each of whose arms one tree is left at most.
  either : {A : Type 0} (b : Bool) (x : A) → cond b x x ≡ x
  either true x = refl
  either false x = refl

  module _ (t q c a : Tree) (are : trees t.kids ≡ q ∷ c ∷ a ∷ []) (e : handler t.head ≡ Handler.conditional) where
    arms_effects : (qs cs bs : List Tree) → length cs ≤ 1 → length bs ≤ 1 → effects_of s cs ≡ effects s c → effects_of s bs ≡ effects s a
        → (is_empty (cs ++ bs) ≡ true → effects_of s qs ≡ effects s q) → effects_of s (join_arms t qs cs bs) ≡ effects s q ++ cond (test_is_yes s t) (effects s c) (effects s a)
    arms_effects qs [] [] lc la hc ha hq = hq refl ∙ rw (← hc, ← ha) (sym (append-nil (effects s q)) ∙ ap (effects s q ++◌) (sym (either (test_is_yes s t) [])))
    arms_effects qs [] (y ∷ []) lc la hc ha hq =
        rw (are, ← hc, ← ha) (whole s (make_logical or_sub (place_of t) (q ∷ y ∷ [])) ∙ effects_or s t q c a are (place_of t) y ∙ rw (append-nil (effects s y)))
    arms_effects qs (x ∷ []) [] lc la hc ha hq =
        rw (are, ← hc, ← ha) (whole s (make_logical and_sub (place_of t) (q ∷ x ∷ [])) ∙ effects_and s t q c a are (place_of t) x ∙ rw (append-nil (effects s x)))
    arms_effects qs (x ∷ []) (y ∷ []) lc la hc ha hq =
        rw (are, ← hc, ← ha) (whole s (with_children t (q ∷ x ∷ y ∷ [])) ∙ effects_arms s t q c a are e x y ∙ rw (append-nil (effects s x), append-nil (effects s y)))
    arms_effects qs [] (y ∷ z ∷ zs) lc la hc ha hq = absurd (omega (arith, la))
    arms_effects qs (x ∷ []) (y ∷ z ∷ zs) lc la hc ha hq = absurd (omega (arith, la))
    arms_effects qs (x ∷ z ∷ zs) bs lc la hc ha hq = absurd (omega (arith, lc))

    both_go : both_arms_go s t ≡ is_empty (reduce s c ++ reduce s a)
    unfolding both_arms_go
    both_go = rw (are, append-nil (reduce s a))

  -- What is read in a conditional: in its arms, and in its test where both go.
  record ArmsRead (q c a : Tree) (go : Bool) : Type 0 where
    test : go ≡ true → NoEffects s (reads s q)
    consequent : NoEffects s (reads s c)
    alternate : NoEffects s (reads s a)

  arms_read : (q c a : Tree) (go : Bool) → NoEffects s (read_in_all (cond go (map (read_in s) (q ∷ c ∷ a ∷ [])) (map (read_in s) (c ∷ a ∷ [])))) → ArmsRead q c a go
  arms_read q c a true h =
      let (h₀, h₁) = split (reads s q) (reads s c ++ (reads s a ++ [])) h in
      let (h₂, h₃) = split (reads s c) (reads s a ++ []) h₁ in
      record { test = λ _. h₀; consequent = h₂; alternate = (split (reads s a) [] h₃).0 }
  arms_read q c a false h =
      let (h₂, h₃) = split (reads s c) (reads s a ++ []) h in
      record { test = λ e. absurd (true≢false (sym e)); consequent = h₂; alternate = (split (reads s a) [] h₃).0 }

  -- Each handler, over its children's own facts.
  module _ (t : Tree) (ks : All Keeps (trees t.kids)) where
    abbrev ts : List Tree
    ts = trees t.kids

    abbrev reductions : List Reduced
    reductions = map (reduced s) ts

    abbrev reading : List ReadIn
    reading = map (read_in s) ts

    abbrev evaluations : List Evaluated
    evaluations = map (evaluated s) ts

    in_order_lem : NoEffects s (read_in_all reading) → effects_of s (kept reductions) ≡ children_in_order evaluations
    in_order_lem h = kept_effects ts ks h ∙ sym (in_order_is s ts)

    keeps_own : (k : Handler) → handler t.head ≡ k → (b : Bool) → NoEffects s (keep_if (not b) t) → effects_of s (keep_if b t) ≡ effects_by k s t evaluations
    keeps_own k e b h = by_flag b t h ∙ own s t k e

    keeps_typeof : NoEffects s (reads_by Handler.typeof s t reading) → effects_of s (remove_unused_expression Handler.typeof s t reductions) ≡ effects_by Handler.typeof s t evaluations
    keeps_typeof = go (of_identifier t)
      where
        go : (b : Bool) → NoEffects s (cond b [] (read_in_all reading)) → effects_of s (cond b [] (kept reductions)) ≡ cond b [] (children_in_order evaluations)
        go true h = refl
        go false h = in_order_lem h

    keeps_sequence : handler t.head ≡ Handler.sequence → NoEffects s (read_in_all reading) → effects_of s (stays_with t (kept reductions)) ≡ children_in_order evaluations
    keeps_sequence e h = stays_with_lem t (kept reductions) (stays_own s t Handler.sequence e (kept reductions) ∙ in_order_is s (kept reductions)) ∙ in_order_lem h

    keeps_template : handler t.head ≡ Handler.template → NoEffects s (reads_by Handler.template s t reading)
        → effects_of s (remove_unused_expression Handler.template s t reductions) ≡ effects_by Handler.template s t evaluations
    keeps_template e = go (unchanged_template t)
      where
        go : (b : Bool) → NoEffects s (cond b [] (read_in_all_but possible_symbol reading))
            → effects_of s (cond b (t ∷ []) (none_one_several (place_of t) (transform_template (place_of t) [] reductions))) ≡ effects_by Handler.template s t evaluations
        go true h = whole s t ∙ own s t Handler.template e
        go false h =
            none_one_several_lem (place_of t) (transform_template (place_of t) [] reductions) ∙ template_effects (place_of t) [] ts ks h ∙ sym (coerced_is s ts)

    keeps_object : handler t.head ≡ Handler.object → NoEffects s (reads_by Handler.object s t reading)
        → effects_of s (remove_unused_expression Handler.object s t reductions) ≡ effects_by Handler.object s t evaluations
    keeps_object e = go (only_spreads t) (flagged_child t)
      where
        go : (b c : Bool) → NoEffects s (cond b (cond c [] ts) (read_in_all_but is_spread reading))
            → effects_of s (cond b (keep_if c t) (none_one_several (place_of t) (transform_object (place_of t) [] reductions))) ≡ children_in_order evaluations
        go true true h = whole s t ∙ own s t Handler.object e
        go true false h = sym (in_order_is s ts ∙ no_effects_list ts h)
        go false c h =
            none_one_several_lem (place_of t) (transform_object (place_of t) [] reductions) ∙ object_effects (place_of t) [] ts ks h ∙ sym (in_order_is s ts)

    keeps_addition : Everywhere LiteralClear t → NoEffects s (reads_by Handler.addition s t reading)
        → effects_of s (remove_unused_expression Handler.addition s t reductions) ≡ effects s t
    keeps_addition c = go (flagged t)
      where
        go : (b : Bool) → NoEffects s (cond b (fold_reads t) (t ∷ []))
            → effects_of s (cond b (keep_if (not (is_literal (fold_string_addition_chain t))) (fold_string_addition_chain t)) []) ≡ effects s t
        go false h = sym h.0
        go true h =
            let F = chain t c h in
            keep_if_lem (not (is_literal (fold_string_addition_chain t))) (fold_string_addition_chain t) (λ n. F.literal (not-false (is_literal (fold_string_addition_chain t)) n)) ∙ F.same

    keeps_pure : NoEffects s (read_in_all (drop 1 reading)) → effects_of s (without_callee t reductions) ≡ children_in_order (drop 1 evaluations)
    keeps_pure =
        rw (drop_map (read_in s) 1 ts, drop_map (reduced s) 1 ts, drop_map (evaluated s) 1 ts)
        (λ h. none_one_several_lem (place_of t) (fold_arguments_into_needed_expressions (map (reduced s) (drop 1 ts)))
        ∙ arguments_effects (drop 1 ts) (all_drop Keeps 1 ts ks) h ∙ sym (in_order_is s (drop 1 ts)))

    -- A call or new: its arguments alone if it is pure; else `left` is left of it, and `read` is read.
    keeps_call : (pure : Bool) → effects s t ≡ call_effects pure t evaluations → (left read : List Tree) → (NoEffects s read → effects_of s left ≡ effects s t)
        → NoEffects s (cond pure (read_in_all (drop 1 reading)) read)
        → effects_of s (cond pure (without_callee t reductions) left) ≡ call_effects pure t evaluations
    keeps_call true e left read impure h = keeps_pure h
    keeps_call false e left read impure h = impure h ∙ e

    keeps_class_lem : handler t.head ≡ Handler.class → NoEffects s (reads_by Handler.class s t reading)
        → effects_of s (remove_unused_expression Handler.class s t reductions) ≡ effects_by Handler.class s t evaluations
    keeps_class_lem e = go (class.kept_class t) refl
      where
        go : (b : Bool) → class.kept_class t ≡ b → NoEffects s (cond b [] (class_reads t))
            → effects_of s (cond b (t ∷ []) (sequence_if_any (place_of t) (class.extracted t))) ≡ effects_by Handler.class s t evaluations
        go true k h = whole s t ∙ own s t Handler.class e
        go false k h = sequence_if_any_lem (place_of t) (class.extracted t) ∙ extracted_effects t (not_kept t k) h

    keeps_conditional : Everywhere NodeGood t → handler t.head ≡ Handler.conditional → NoEffects s (reads_by Handler.conditional s t reading)
        → effects_of s (remove_unused_expression Handler.conditional s t reductions) ≡ effects s t
    keeps_conditional g e = go (flagged t)
      where
        ok : exactly 3 t.kids ≡ true
        ok = good_kids t Handler.conditional e g.0

        go : (b : Bool) → NoEffects s (cond b (read_in_all (cond (both_arms_go s t) reading (arms_of reading))) (t ∷ []))
            → effects_of s (cond b (join_arms t (kept (test_of reductions)) (kept (consequent_of reductions)) (kept (alternate_of reductions))) []) ≡ effects s t
        go false h = sym h.0
        go true h =
            let T = three t.kids ok in
            let q = T.test in
            let c = T.consequent in
            let a = T.alternate in
            let gs : All (Everywhere NodeGood) (q ∷ c ∷ a ∷ []) = rw T.are at (kids_everywhere NodeGood t.kids g.1) in
            let xs : All (λ x. is_expr x ≡ true) (q ∷ c ∷ a ∷ []) = rw T.are at (every_all is_expr ts (and_right (eqb (count t.kids) 3) (every is_expr ts) ok)) in
            let fs : All Keeps (q ∷ c ∷ a ∷ []) = rw T.are at ks in
            let R = arms_read q c a (both_arms_go s t) (rw T.are at h) in
            let hq : is_empty (reduce s c ++ reduce s a) ≡ true → effects_of s (reduce s q) ≡ effects s q =
            λ z. fs.0 (R.test (both_go t q c a T.are e ∙ z)) in
            rw (T.are, append-nil (reduce s q), append-nil (reduce s c), append-nil (reduce s a))
            (arms_effects t q c a T.are e (reduce s q) (reduce s c) (reduce s a)
            (at_most_one s c (gs.1.0, xs.1.0)) (at_most_one s a (gs.1.1.0, xs.1.1.0)) (fs.1.0 R.consequent) (fs.1.1.0 R.alternate) hq
            ∙ sym (effects_conditional s t q c a T.are e))

    by_handler : Everywhere NodeGood t → (k : Handler) → handler t.head ≡ k → NoEffects s (reads_by k s t reading)
        → effects_of s (remove_unused_expression k s t reductions) ≡ effects_by k s t evaluations
    by_handler c Handler.leaf e h = keeps_own Handler.leaf e (flagged t) h
    by_handler c Handler.this e h = keep_if_lem (derived s) t (λ d. own s t Handler.this e ∙ rw d) ∙ own s t Handler.this e
    by_handler c Handler.void_or_not e h = in_order_lem h
    by_handler c Handler.typeof e h = keeps_typeof h
    by_handler c Handler.other_unary e h = keeps_own Handler.other_unary e (flagged t) h
    by_handler c Handler.sequence e h = keeps_sequence e h
    by_handler c Handler.array e h = array_effects t reductions e ∙ in_order_lem h
    by_handler c Handler.template e h = keeps_template e h
    by_handler c Handler.object e h = keeps_object e h
    by_handler c Handler.comparison e h = join_kept_lem (place_of t) (kept reductions) ∙ in_order_lem h
    by_handler c Handler.addition e h = keeps_addition (literals_clear t c) h ∙ own s t Handler.addition e
    by_handler c Handler.other_binary e h = keeps_own Handler.other_binary e (flagged t) h
    by_handler c Handler.call e h =
        keeps_call (pure_call s t) (own s t Handler.call e) (keep_if (has_side_effects_or_preserved_iife s t) t) (keep_if (not (has_side_effects_or_preserved_iife s t)) t)
        (by_flag (has_side_effects_or_preserved_iife s t) t) h
    by_handler c Handler.new e h = keeps_call (pure_new s t) (own s t Handler.new e) (t ∷ []) [] (λ _. whole s t) h
    by_handler c Handler.class e h = keeps_class_lem e h
    by_handler c Handler.conditional e h = keeps_conditional c e h ∙ own s t Handler.conditional e
    by_handler c Handler.logical_and e h = whole s t ∙ own s t Handler.logical_and e
    by_handler c Handler.logical_or e h = whole s t ∙ own s t Handler.logical_or e
    by_handler c Handler.elision e h = refl
    by_handler c Handler.spread e h = keeps_own Handler.spread e (flagged t) h
    by_handler c Handler.property e h = in_order_lem h
    by_handler c Handler.element e h = whole s t ∙ own s t Handler.element e
    by_handler c Handler.left_out e h = whole s t ∙ own s t Handler.left_out e

  step : (t : Tree) → All (λ t. Everywhere NodeGood t → Keeps t) (trees t.kids) → Everywhere NodeGood t → Keeps t
  step t ks c =
      rw (reduce_is s t, reads_is s t, effects_is s t)
      (by_handler t (all_zip (λ t k c. k c) (trees t.kids) ks (kids_everywhere NodeGood t.kids c.1)) c (handler t.head) refl)

  pub demand_3 : (t : Tree) → Everywhere NodeGood t → Premise s t → effects_of s (reduce s t) ≡ effects s t
  demand_3 = ind (λ t. Everywhere NodeGood t → Keeps t) step
