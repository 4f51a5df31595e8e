-- No reduction raises the potential, handler by handler. So the result is within 01's bounds, by records and by levels.
use Rattle.std.specs.Prelude.{Bool, true, false, not, ◌≡◌, refl, take, drop, eqb}
use Rattle.std.proofs.Math.Bool.{cond}
use mathlib.Core.List.{List, [], ◌∷◌, ◌++◌, map}
use Rattle.std.proofs.Common.{sym, ◌∙◌, subst}
use Rattle.std.proofs.Math.Path.{ap}
use Prim.Native.Nat.{ℕ, suc, ◌≤◌, zero-le, suc-le-suc}
use Rattle.std.proofs.Math.Nat.{le_refl, le_trans, le_step, le_of_eq}
use Rattle.tree.specs.Below.{and_left, and_right}
use Rattle.tree.specs.Tree.{Place, Tree, trees, forest, All, ind}
use Rattle.tree.specs.Record.{bit}
use Rattle.tree.specs.Symbol.{string_fact, is_string, Sides}
use Rattle.rules.specs.Lists.{any, every, keep_if, filter, concat_map}
use Rattle.rules.specs.Settings.{Settings, derived}
use Rattle.rules.specs.Handler.{Handler, handler, is_literal, is_spread, is_sequence}
use Rattle.rules.specs.Facts.{flagged, possible_symbol, pure_new, pure_call, has_side_effects_or_preserved_iife, of_identifier, unchanged_template, only_spreads, flagged_child}
use Rattle.rules.specs.Made.{place_of, make_sequence, make_template, make_object, make_array, and_sub, or_sub, make_logical, empty_literal, with_children, joined, join_sequence}
use Rattle.rules.specs.Addition.{emptied_unless_flagged, is_dropped_right, fold_sides, fold_string_addition_chain}
use Rattle.rules.specs.Class as class
use Rattle.rules.specs.Conditional.{test_of, arms_of, consequent_of, alternate_of, test}
use Rattle.rules.specs.Reduce.{Reduced, kept, none_one_several, stays_with, flush, flush_template_before, transform_template, transform_object, join_kept, sequence_if_any, fold_argument, fold_arguments_into_needed_expressions, without_callee, remove_unused_array_expr, join_arms, remove_unused_expression, reduce}
use Rattle.rules.proofs.Lists.{by_cond, all_take, all_drop, always, take_map, drop_map}
use Rattle.rules.specs.Results.{reduced}
use Rattle.rules.proofs.Unfold.{reduce_is, kept_is}
use Rattle.rules.proofs.Facts.{sequence_handled, spread_handled, addition_handled, array_handled, empty_handled, made_template_unchanged, made_object_only_spreads}
use Rattle.rules.proofs.Addition.{NoSides, by_chain, fold_sides_lem}
use Rattle.rules.proofs.Scale.{Scale, sum, sum_one, sum_append, sum_split, sum_le, sum_append_le, sum_concat_map, sum_keep, sum_filter, left_le, right_le, own, own_made, measure_forest, wrapped}
use Rattle.rules.proofs.Potential.{Measured, measured, over_parts, over_waiting, over_class, whole_by, whole, parts, mixed, whole_is, whole_made, over_parts_is, over_waiting_is, over_class_is, parts_is, between}

every_join : (p : Tree → Bool) (xs : List Tree) (t : Tree) → every p xs ≡ true → p t ≡ true → every p (xs ++ (t ∷ [])) ≡ true
every_join p [] t e h = rw h
every_join p (x ∷ xs) t e h = rw (and_left (p x) (every p xs) e, every_join p xs t (and_right (p x) (every p xs) e) h)

module _ (S : Scale) (s : Settings) where
  abbrev pub potential_of : List Tree → ℕ
  potential_of ts = sum S (whole S s) ts

  -- What is to be shown of a node.
  abbrev NotRaised : Tree → Type 0
  NotRaised t = potential_of (reduce s t) ≤ whole S s t

  one : (t : Tree) → potential_of (t ∷ []) ≡ whole S s t
  one t = sum_one S (whole S s) t

  append_le : (xs ys : List Tree) (a b : ℕ) → potential_of xs ≤ a → potential_of ys ≤ b → potential_of (xs ++ ys) ≤ S.plus a b
  append_le = sum_append_le S (whole S s)

  some : (t : Tree) → 1 ≤ whole S s t
  unfolding own
  some t = le_trans (suc-le-suc zero-le) (between S s t).low

  -- A node at its handler.
  whole_by_lem : (t : Tree) (k : Handler) → handler t.head ≡ k → whole S s t ≡ whole_by S s k t (map (measured S s) (trees t.kids))
  whole_by_lem t k e = whole_is S s t ∙ ap (λ k. whole_by S s k t (map (measured S s) (trees t.kids))) e

  stays_by : (t : Tree) (k : Handler) (ts : List Tree) → handler t.head ≡ k → whole S s (with_children t ts) ≡ whole_by S s k (with_children t ts) (map (measured S s) ts)
  unfolding with_children
  stays_by t k ts e = whole_made S s t.head ts ∙ ap (λ k. whole_by S s k (with_children t ts) (map (measured S s) ts)) e

  made_sequence : (p : Place) (ts : List Tree) → whole S s (make_sequence p ts) ≡ suc (potential_of ts)
  unfolding make_sequence handler
  made_sequence p ts = whole_made S s (make_sequence p ts).head ts ∙ over_parts_is S s ts

  made_template : (p : Place) (x : Tree) (xs : List Tree) → every possible_symbol (x ∷ xs) ≡ true → whole S s (make_template p (x ∷ xs)) ≡ suc (sum S (own S) (x ∷ xs))
  unfolding make_template handler
  made_template p x xs e =
      whole_made S s (make_template p (x ∷ xs)).head (x ∷ xs) ∙ rw (made_template_unchanged p x xs e) (own_made S (make_template p (x ∷ xs)).head (x ∷ xs))

  made_object : (p : Place) (ts : List Tree) → every is_spread ts ≡ true → whole S s (make_object p ts) ≡ suc (sum S (own S) ts)
  unfolding make_object handler
  made_object p ts e = whole_made S s (make_object p ts).head ts ∙ rw (made_object_only_spreads p ts e) (own_made S (make_object p ts).head ts)

  -- Lists of what is left.
  kept_le : (ts : List Tree) → All NotRaised ts → potential_of (kept (map (reduced s) ts)) ≤ potential_of ts
  kept_le ts hs = rw (kept_is s ts) (sum_concat_map S (whole S s) (reduce s) (whole S s) ts hs)

  none_one_several_lem : (p : Place) (ts : List Tree) → potential_of (none_one_several p ts) ≤ suc (potential_of ts)
  none_one_several_lem p [] = zero-le
  none_one_several_lem p (x ∷ []) = le_step (le_refl (potential_of (x ∷ [])))
  none_one_several_lem p (x ∷ y ∷ ys) = le_of_eq (one (make_sequence p (x ∷ y ∷ ys)) ∙ made_sequence p (x ∷ y ∷ ys))

  sequence_if_any_lem : (p : Place) (ts : List Tree) → potential_of (sequence_if_any p ts) ≤ suc (potential_of ts)
  sequence_if_any_lem p [] = zero-le
  sequence_if_any_lem p (x ∷ xs) = le_of_eq (one (make_sequence p (x ∷ xs)) ∙ made_sequence p (x ∷ xs))

  kids_le : (x : Tree) → is_sequence x ≡ true → potential_of (trees x.kids) ≤ whole S s x
  kids_le x e = rw (whole_by_lem x Handler.sequence (sequence_handled x e), over_parts_is S s (trees x.kids)) (le_step (le_refl (potential_of (trees x.kids))))

  joined_le : (a b : Tree) → potential_of (joined a b) ≤ potential_of (a ∷ b ∷ [])
  joined_le a b =
      by_cond (λ l. potential_of l ≤ potential_of (a ∷ b ∷ [])) (is_sequence a) (trees a.kids ++ (b ∷ [])) (cond (is_sequence b) (a ∷ trees b.kids) (a ∷ b ∷ []))
      (λ e. append_le (trees a.kids) (b ∷ []) (whole S s a) (potential_of (b ∷ [])) (kids_le a e) (le_refl (potential_of (b ∷ []))))
      (λ _. by_cond (λ l. potential_of l ≤ potential_of (a ∷ b ∷ [])) (is_sequence b) (a ∷ trees b.kids) (a ∷ b ∷ [])
      (λ e. S.mono (le_refl (whole S s a)) (le_trans (kids_le b e) (le_of_eq (sym (one b))))) (λ _. le_refl (potential_of (a ∷ b ∷ []))))

  join_kept_lem : (p : Place) (ts : List Tree) → potential_of (join_kept p ts) ≤ suc (potential_of ts)
  unfolding join_sequence
  join_kept_lem p [] = zero-le
  join_kept_lem p (x ∷ []) = le_step (le_refl (potential_of (x ∷ [])))
  join_kept_lem p (x ∷ y ∷ []) = rw (one (make_sequence p (joined x y)), made_sequence p (joined x y)) (suc-le-suc (joined_le x y))
  join_kept_lem p (x ∷ y ∷ z ∷ zs) = le_of_eq (one (make_sequence p (x ∷ y ∷ z ∷ zs)) ∙ made_sequence p (x ∷ y ∷ z ∷ zs))

  stays_with_lem : (t : Tree) (ts : List Tree) → whole S s (with_children t ts) ≡ suc (potential_of ts) → potential_of (stays_with t ts) ≤ suc (potential_of ts)
  stays_with_lem t [] e = zero-le
  stays_with_lem t (x ∷ xs) e = le_of_eq (one (with_children t (x ∷ xs)) ∙ e)

  array_le : (t : Tree) (cs : List Reduced) → handler t.head ≡ Handler.array → potential_of (remove_unused_array_expr t cs) ≤ suc (potential_of (kept cs))
  array_le t cs e =
      by_cond (λ l. potential_of l ≤ suc (potential_of (kept cs))) (any is_spread (kept cs)) (stays_with t (kept cs)) (none_one_several (place_of t) (kept cs))
      (λ _. stays_with_lem t (kept cs) (stays_by t Handler.array (kept cs) e ∙ over_parts_is S s (kept cs))) (λ _. none_one_several_lem (place_of t) (kept cs))

  -- What waits, and what is kept after it.
  flush_template : (p : Place) (w : List Tree) → every possible_symbol w ≡ true → potential_of (flush make_template p w) ≤ S.grow (sum S (own S) w)
  flush_template p [] e = zero-le
  flush_template p (x ∷ xs) e = rw (one (make_template p (x ∷ xs)), made_template p x xs e) (wrapped S x xs)

  flush_object : (p : Place) (w : List Tree) → every is_spread w ≡ true → potential_of (flush make_object p w) ≤ S.grow (sum S (own S) w)
  flush_object p [] e = zero-le
  flush_object p (x ∷ xs) e = rw (one (make_object p (x ∷ xs)), made_object p (x ∷ xs) e) (wrapped S x xs)

  one_more_waits : (w : List Tree) (t : Tree) (m : ℕ) → S.plus (S.grow (sum S (own S) (w ++ (t ∷ [])))) m ≡ S.plus (S.grow (sum S (own S) w)) (S.plus (S.grow (own S t)) m)
  one_more_waits w t m =
      rw (sum_append S (own S) w (t ∷ []), sum_one S (own S) t, ← (S.grow_plus (sum S (own S) w) (own S t)))
      (S.assoc (S.grow (sum S (own S) w)) (S.grow (own S t)) m)

  then_rest : (t : Tree) (d rest : List Tree) (m : ℕ) → potential_of d ≤ whole S s t → potential_of rest ≤ S.plus (S.grow 0) m → potential_of (d ++ rest) ≤ S.plus (whole S s t) m
  then_rest t d rest m p q = le_trans (append_le d rest (whole S s t) (S.plus (S.grow 0) m) p q) (S.absorb (some t) m)

  flush_before : (w d : List Tree) (go : List Tree → List Tree) (t : Tree) (m : ℕ) → every possible_symbol w ≡ true → potential_of d ≤ whole S s t
      → ((w : List Tree) → every possible_symbol w ≡ true → potential_of (go w) ≤ S.plus (S.grow (sum S (own S) w)) m)
      → potential_of (flush_template_before w d go) ≤ S.plus (S.grow (sum S (own S) w)) (S.plus (whole S s t) m)
  flush_before w [] go t m e h n = le_trans (n w e) (S.mono (le_refl (S.grow (sum S (own S) w))) (right_le S (whole S s t) m))
  flush_before w (x ∷ xs) go t m e h n =
      append_le (flush make_template (place_of x) w) ((x ∷ xs) ++ go []) (S.grow (sum S (own S) w)) (S.plus (whole S s t) m)
      (flush_template (place_of x) w e) (then_rest t (x ∷ xs) (go []) m h (n [] refl))

  template_le : (p : Place) (w ts : List Tree) → every possible_symbol w ≡ true → All NotRaised ts
      → potential_of (transform_template p w (map (reduced s) ts)) ≤ S.plus (S.grow (sum S (own S) w)) (sum S (mixed S s possible_symbol) ts)
  template_le p w [] e hs = rw (S.plus_zero (S.grow (sum S (own S) w))) (flush_template p w e)
  template_le p w (t ∷ ts) e hs = go (possible_symbol t) refl (λ w e. template_le p w ts e hs.1)
    where
      go : (b : Bool) → possible_symbol t ≡ b
          → ((w : List Tree) → every possible_symbol w ≡ true → potential_of (transform_template p w (map (reduced s) ts)) ≤ S.plus (S.grow (sum S (own S) w)) (sum S (mixed S s possible_symbol) ts))
          → potential_of (cond b (transform_template p (w ++ (t ∷ [])) (map (reduced s) ts)) (flush_template_before w (reduce s t) (λ w. transform_template p w (map (reduced s) ts))))
          ≤ S.plus (S.grow (sum S (own S) w)) (S.plus (cond b (S.grow (own S t)) (whole S s t)) (sum S (mixed S s possible_symbol) ts))
      go true b ih = subst (λ n. potential_of (transform_template p (w ++ (t ∷ [])) (map (reduced s) ts)) ≤ n) (one_more_waits w t (sum S (mixed S s possible_symbol) ts)) (ih (w ++ (t ∷ [])) (every_join possible_symbol w t e b))
      go false b ih = flush_before w (reduce s t) (λ w. transform_template p w (map (reduced s) ts)) t (sum S (mixed S s possible_symbol) ts) e hs.0 ih

  object_le : (p : Place) (w ts : List Tree) → every is_spread w ≡ true → All NotRaised ts
      → potential_of (transform_object p w (map (reduced s) ts)) ≤ S.plus (S.grow (sum S (own S) w)) (sum S (mixed S s is_spread) ts)
  object_le p w [] e hs = rw (S.plus_zero (S.grow (sum S (own S) w))) (flush_object p w e)
  object_le p w (t ∷ ts) e hs = go (is_spread t) refl (λ w e. object_le p w ts e hs.1)
    where
      go : (b : Bool) → is_spread t ≡ b
          → ((w : List Tree) → every is_spread w ≡ true → potential_of (transform_object p w (map (reduced s) ts)) ≤ S.plus (S.grow (sum S (own S) w)) (sum S (mixed S s is_spread) ts))
          → potential_of (cond b (transform_object p (w ++ (t ∷ [])) (map (reduced s) ts)) (flush make_object (place_of t) w ++ (reduce s t ++ transform_object p [] (map (reduced s) ts))))
          ≤ S.plus (S.grow (sum S (own S) w)) (S.plus (cond b (S.grow (own S t)) (whole S s t)) (sum S (mixed S s is_spread) ts))
      go true b ih = subst (λ n. potential_of (transform_object p (w ++ (t ∷ [])) (map (reduced s) ts)) ≤ n) (one_more_waits w t (sum S (mixed S s is_spread) ts)) (ih (w ++ (t ∷ [])) (every_join is_spread w t e b))
      go false b ih =
          append_le (flush make_object (place_of t) w) (reduce s t ++ transform_object p [] (map (reduced s) ts)) (S.grow (sum S (own S) w)) (S.plus (whole S s t) (sum S (mixed S s is_spread) ts))
          (flush_object (place_of t) w e) (then_rest t (reduce s t) (transform_object p [] (map (reduced s) ts)) (sum S (mixed S s is_spread) ts) hs.0 (ih [] refl))

  -- Arguments.
  spread_le : (t : Tree) → is_spread t ≡ true → NotRaised t → potential_of (remove_unused_array_expr (make_array (place_of t) (t ∷ [])) (reduced s t ∷ [])) ≤ S.grow (own S t)
  spread_le t e h =
      le_trans (array_le (make_array (place_of t) (t ∷ [])) (reduced s t ∷ []) (array_handled (place_of t) (t ∷ [])))
      (le_trans (suc-le-suc (le_trans (kept_le (t ∷ []) (h, tt)) (le_of_eq (one t ∙ whole_by_lem t Handler.spread (spread_handled t e)))))
      (subst (λ n. suc n ≤ S.grow n) (sum_one S (own S) t) (wrapped S t [])))

  argument_le : (t : Tree) → NotRaised t → potential_of (fold_argument (reduced s t)) ≤ mixed S s is_spread t
  argument_le t h = go (is_spread t) refl
    where
      go : (b : Bool) → is_spread t ≡ b → potential_of (cond b (remove_unused_array_expr (make_array (place_of t) (t ∷ [])) (reduced s t ∷ [])) (reduce s t)) ≤ cond b (S.grow (own S t)) (whole S s t)
      go true e = spread_le t e h
      go false e = h

  arguments_le : (ts : List Tree) → All NotRaised ts → potential_of (fold_arguments_into_needed_expressions (map (reduced s) ts)) ≤ sum S (mixed S s is_spread) ts
  arguments_le [] hs = zero-le
  arguments_le (t ∷ ts) hs =
      append_le (fold_argument (reduced s t)) (fold_arguments_into_needed_expressions (map (reduced s) ts)) (mixed S s is_spread t) (sum S (mixed S s is_spread) ts) (argument_le t hs.0) (arguments_le ts hs.1)

  -- Additions.
  empty_le : (p : Place) (t : Tree) → whole S s (empty_literal p) ≤ whole S s t
  unfolding own empty_literal
  empty_le p t = le_trans (le_of_eq (whole_by_lem (empty_literal p) Handler.leaf (empty_handled p) ∙ ap suc S.measure_nil)) (some t)

  emptied_le : (t : Tree) → whole S s (emptied_unless_flagged t) ≤ whole S s t
  unfolding emptied_unless_flagged
  emptied_le t = by_cond (λ x. whole S s x ≤ whole S s t) (flagged t) t (empty_literal (place_of t)) (λ _. le_refl (whole S s t)) (λ _. empty_le (place_of t) t)

  module _ (t l r f : Tree) (sides : Sides t l r) (F : whole S s f ≤ whole S s l) where
    sides_whole : whole S s t ≡ suc (potential_of (l ∷ r ∷ []))
    sides_whole = whole_by_lem t Handler.addition (addition_handled t sides.addition) ∙ over_parts_is S s (trees t.kids) ∙ rw sides.kids

    stays_le : (x y : Tree) → whole S s x ≤ whole S s l → whole S s y ≤ whole S s r → whole S s (with_children t (x ∷ y ∷ [])) ≤ whole S s t
    stays_le x y p q =
        rw (stays_by t Handler.addition (x ∷ y ∷ []) (addition_handled t sides.addition), over_parts_is S s (x ∷ y ∷ []), sides_whole)
        (suc-le-suc (S.mono p (S.mono q zero-le)))

    sides_le : whole S s (fold_sides t f r) ≤ whole S s t
    unfolding fold_sides
    sides_le =
        by_cond (λ x. whole S s x ≤ whole S s t) (is_string f)
        (cond (is_dropped_right r) (emptied_unless_flagged f) (with_children t (emptied_unless_flagged f ∷ r ∷ []))) (with_children t (f ∷ cond (string_fact r) (emptied_unless_flagged r) r ∷ []))
        (λ _. by_cond (λ x. whole S s x ≤ whole S s t) (is_dropped_right r) (emptied_unless_flagged f) (with_children t (emptied_unless_flagged f ∷ r ∷ []))
        (λ _. le_trans (emptied_le f) (le_trans F (rw sides_whole (le_step (left_le S (whole S s l) (potential_of (r ∷ [])))))))
        (λ _. stays_le (emptied_unless_flagged f) r (le_trans (emptied_le f) F) (le_refl (whole S s r))))
        (λ _. stays_le f (cond (string_fact r) (emptied_unless_flagged r) r) F
        (by_cond (λ x. whole S s x ≤ whole S s r) (string_fact r) (emptied_unless_flagged r) r (λ _. emptied_le r) (λ _. le_refl (whole S s r))))

  fold_le : (t : Tree) → whole S s (fold_string_addition_chain t) ≤ whole S s t
  fold_le = by_chain (λ t. whole S s (fold_string_addition_chain t) ≤ whole S s t) other sum_of
    where
      other : (t : Tree) → NoSides t → whole S s (fold_string_addition_chain t) ≤ whole S s t
      other t n = rw n.folds (le_refl (whole S s t))

      sum_of : (t l r : Tree) → Sides t l r → whole S s (fold_string_addition_chain l) ≤ whole S s l → whole S s (fold_string_addition_chain t) ≤ whole S s t
      sum_of t l r sides h = rw (fold_sides_lem t l r sides) (sides_le t l r (fold_string_addition_chain l) sides h)

  -- Classes.
  element_le : (e : Tree) → potential_of (class.extracted_of_element e) ≤ parts S s e
  element_le e =
      let n = bit 4 e.head.sub in
      rw (parts_is S s e)
      (le_step (le_trans (append_le (filter flagged (class.computed_key e)) (class.static_value e) (potential_of (class.computed_key e)) (potential_of (class.value_of e (trees e.kids)))
      (sum_filter S (whole S s) flagged (class.computed_key e))
      (by_cond (λ l. potential_of l ≤ potential_of (class.value_of e (trees e.kids))) (class.has_static_value e) (class.value_of e (trees e.kids)) [] (λ _. le_refl (potential_of (class.value_of e (trees e.kids)))) (λ _. zero-le)))
      (le_of_eq (sum_split S (whole S s) n (trees e.kids)))))

  extracted_le : (t : Tree) → potential_of (class.extracted t) ≤ S.plus (potential_of (class.heritage t)) (sum S (parts S s) (class.elements t))
  unfolding class.extracted
  extracted_le t =
      append_le (filter flagged (class.heritage t)) (concat_map class.extracted_of_element (class.elements t)) (potential_of (class.heritage t)) (sum S (parts S s) (class.elements t))
      (sum_filter S (whole S s) flagged (class.heritage t))
      (sum_concat_map S (whole S s) class.extracted_of_element (parts S s) (class.elements t) (always element_le (class.elements t)))

  -- Conditionals: a logical is left whole.
  made_logical : (sub : ℕ) (p : Place) (ts : List Tree) → whole S s (make_logical sub p ts) ≡ suc (sum S (own S) ts)
  unfolding make_logical handler
  made_logical sub p ts =
      whole_made S s (make_logical sub p ts).head ts
      ∙ by_cond (λ k. whole_by S s k (make_logical sub p ts) (map (measured S s) ts) ≡ suc (sum S (own S) ts)) (eqb sub and_sub) Handler.logical_and Handler.logical_or
      (λ _. own_made S (make_logical sub p ts).head ts) (λ _. own_made S (make_logical sub p ts).head ts)

  logical_le : (sub : ℕ) (p : Place) (xs ys : List Tree) (m n : ℕ) → potential_of xs ≤ m → potential_of ys ≤ n → potential_of (make_logical sub p (xs ++ ys) ∷ []) ≤ suc (S.plus m n)
  logical_le sub p xs ys m n x y =
      rw (one (make_logical sub p (xs ++ ys)), made_logical sub p (xs ++ ys))
      (suc-le-suc (le_trans (sum_le S (own S) (whole S s) (xs ++ ys) (always (λ t. (between S s t).low) (xs ++ ys))) (append_le xs ys m n x y)))

  arms_le : (t : Tree) (q cs bs : List Tree) (l m n : ℕ) → handler t.head ≡ Handler.conditional → potential_of q ≤ l → potential_of (test t) ≤ l → potential_of cs ≤ m → potential_of bs ≤ n
      → potential_of (join_arms t q cs bs) ≤ suc (S.plus l (S.plus m n))
  arms_le t q [] [] l m n e hq ht hc ha = le_step (le_trans hq (left_le S l (S.plus m n)))
  arms_le t q [] (a ∷ bs) l m n e hq ht hc ha =
      le_trans (logical_le or_sub (place_of t) (test t) (a ∷ bs) l n ht ha) (suc-le-suc (S.mono (le_refl l) (right_le S m n)))
  arms_le t q (c ∷ cs) [] l m n e hq ht hc ha =
      le_trans (logical_le and_sub (place_of t) (test t) (c ∷ cs) l m ht hc) (suc-le-suc (S.mono (le_refl l) (left_le S m n)))
  arms_le t q (c ∷ cs) (a ∷ bs) l m n e hq ht hc ha =
      let xs = test t ++ ((c ∷ cs) ++ (a ∷ bs)) in
      le_trans (le_of_eq (one (with_children t xs) ∙ stays_by t Handler.conditional xs e ∙ over_parts_is S s xs))
      (suc-le-suc (append_le (test t) ((c ∷ cs) ++ (a ∷ bs)) l (S.plus m n) ht (append_le (c ∷ cs) (a ∷ bs) m n hc ha)))

  -- One test on both sides.
  both : (b : Bool) (x y : List Tree) (m n : ℕ) → (b ≡ true → potential_of x ≤ m) → (b ≡ false → potential_of y ≤ n) → potential_of (cond b x y) ≤ cond b m n
  both true x y m n f g = f refl
  both false x y m n f g = g refl

  -- Each handler, over its children's own facts.
  module _ (t : Tree) (hs : All NotRaised (trees t.kids)) where
    abbrev ts : List Tree
    ts = trees t.kids

    abbrev reductions : List Reduced
    reductions = map (reduced s) ts

    abbrev measures : List Measured
    measures = map (measured S s) ts

    stays : (k : Handler) → handler t.head ≡ k → (b : Bool) → potential_of (keep_if b t) ≤ whole_by S s k t measures
    stays k e b = le_trans (sum_keep S (whole S s) b t) (le_of_eq (whole_by_lem t k e))

    over_parts_lem : (xs : List Tree) → potential_of xs ≤ suc (potential_of (kept reductions)) → potential_of xs ≤ over_parts S s measures
    over_parts_lem xs h = rw (over_parts_is S s ts) (le_trans h (suc-le-suc (kept_le ts hs)))

    kept_over_parts : potential_of (kept reductions) ≤ over_parts S s measures
    kept_over_parts = over_parts_lem (kept reductions) (le_step (le_refl (potential_of (kept reductions))))

    over_waiting_lem : (waits : Tree → Bool) (p : Place) (xs : List Tree) → potential_of xs ≤ S.plus (S.grow 0) (sum S (mixed S s waits) ts)
        → potential_of (none_one_several p xs) ≤ over_waiting S s waits measures
    over_waiting_lem waits p xs h = rw (over_waiting_is S s waits ts) (le_trans (none_one_several_lem p xs) (suc-le-suc h))

    pure : potential_of (without_callee t reductions) ≤ over_waiting S s is_spread measures
    pure =
        over_waiting_lem is_spread (place_of t) (fold_arguments_into_needed_expressions (drop 1 reductions))
        (rw (drop_map (reduced s) 1 ts)
        (le_trans (arguments_le (drop 1 ts) (all_drop NotRaised 1 ts hs))
        (le_trans (le_trans (right_le S (sum S (mixed S s is_spread) (take 1 ts)) (sum S (mixed S s is_spread) (drop 1 ts))) (le_of_eq (sum_split S (mixed S s is_spread) 1 ts)))
        (right_le S (S.grow 0) (sum S (mixed S s is_spread) ts)))))

    conditional_le : handler t.head ≡ Handler.conditional → potential_of (join_arms t (kept (test_of reductions)) (kept (consequent_of reductions)) (kept (alternate_of reductions))) ≤ over_parts S s measures
    conditional_le e =
        let arms = all_drop NotRaised 1 ts hs in
        rw (over_parts_is S s ts, take_map (reduced s) 1 ts, drop_map (reduced s) 1 ts, take_map (reduced s) 1 (drop 1 ts), drop_map (reduced s) 1 (drop 1 ts))
        (le_trans (arms_le t (kept (map (reduced s) (test_of ts))) (kept (map (reduced s) (consequent_of ts))) (kept (map (reduced s) (alternate_of ts)))
        (potential_of (test_of ts)) (potential_of (consequent_of ts)) (potential_of (alternate_of ts)) e
        (kept_le (test_of ts) (all_take NotRaised 1 ts hs)) (le_refl (potential_of (test_of ts)))
        (kept_le (consequent_of ts) (all_take NotRaised 1 (drop 1 ts) arms)) (kept_le (alternate_of ts) (all_drop NotRaised 1 (drop 1 ts) arms)))
        (le_of_eq (ap suc (ap (S.plus (potential_of (test_of ts))) (sum_split S (whole S s) 1 (arms_of ts)) ∙ sum_split S (whole S s) 1 ts))))

    by_handler : (k : Handler) → handler t.head ≡ k → potential_of (remove_unused_expression k s t reductions) ≤ whole_by S s k t measures
    by_handler Handler.leaf e = stays Handler.leaf e (flagged t)
    by_handler Handler.this e = stays Handler.this e (derived s)
    by_handler Handler.void_or_not e = kept_over_parts
    by_handler Handler.typeof e = by_cond (λ l. potential_of l ≤ over_parts S s measures) (of_identifier t) [] (kept reductions) (λ _. zero-le) (λ _. kept_over_parts)
    by_handler Handler.other_unary e = stays Handler.other_unary e (flagged t)
    by_handler Handler.sequence e =
        over_parts_lem (stays_with t (kept reductions)) (stays_with_lem t (kept reductions) (stays_by t Handler.sequence (kept reductions) e ∙ over_parts_is S s (kept reductions)))
    by_handler Handler.array e = over_parts_lem (remove_unused_array_expr t reductions) (array_le t reductions e)
    by_handler Handler.template e =
        both (unchanged_template t) (t ∷ []) (none_one_several (place_of t) (transform_template (place_of t) [] reductions)) (own S t) (over_waiting S s possible_symbol measures)
        (λ b. le_trans (stays Handler.template e true) (le_of_eq (rw b)))
        (λ _. over_waiting_lem possible_symbol (place_of t) (transform_template (place_of t) [] reductions) (template_le (place_of t) [] ts refl hs))
    by_handler Handler.object e =
        both (only_spreads t) (keep_if (flagged_child t) t) (none_one_several (place_of t) (transform_object (place_of t) [] reductions)) (own S t) (over_waiting S s is_spread measures)
        (λ b. le_trans (stays Handler.object e (flagged_child t)) (le_of_eq (rw b)))
        (λ _. over_waiting_lem is_spread (place_of t) (transform_object (place_of t) [] reductions) (object_le (place_of t) [] ts refl hs))
    by_handler Handler.comparison e = over_parts_lem (join_kept (place_of t) (kept reductions)) (join_kept_lem (place_of t) (kept reductions))
    by_handler Handler.addition e =
        by_cond (λ l. potential_of l ≤ over_parts S s measures) (flagged t) (keep_if (not (is_literal (fold_string_addition_chain t))) (fold_string_addition_chain t)) []
        (λ _. le_trans (sum_keep S (whole S s) (not (is_literal (fold_string_addition_chain t))) (fold_string_addition_chain t)) (le_trans (fold_le t) (le_of_eq (whole_by_lem t Handler.addition e)))) (λ _. zero-le)
    by_handler Handler.other_binary e = stays Handler.other_binary e (flagged t)
    by_handler Handler.call e =
        both (pure_call s t) (without_callee t reductions) (keep_if (has_side_effects_or_preserved_iife s t) t) (over_waiting S s is_spread measures) (own S t)
        (λ _. pure) (λ b. le_trans (stays Handler.call e (has_side_effects_or_preserved_iife s t)) (le_of_eq (rw b)))
    by_handler Handler.new e =
        both (pure_new s t) (without_callee t reductions) (t ∷ []) (over_waiting S s is_spread measures) (own S t)
        (λ _. pure) (λ b. le_trans (stays Handler.new e true) (le_of_eq (rw b)))
    by_handler Handler.class e =
        both (class.kept_class t) (t ∷ []) (sequence_if_any (place_of t) (class.extracted t)) (own S t) (over_class S s t measures)
        (λ b. le_trans (stays Handler.class e true) (le_of_eq (rw b)))
        (λ _. rw (over_class_is S s t) (le_trans (sequence_if_any_lem (place_of t) (class.extracted t)) (suc-le-suc (extracted_le t))))
    by_handler Handler.conditional e =
        by_cond (λ l. potential_of l ≤ over_parts S s measures) (flagged t) (join_arms t (kept (test_of reductions)) (kept (consequent_of reductions)) (kept (alternate_of reductions))) []
        (λ _. conditional_le e) (λ _. zero-le)
    by_handler Handler.logical_and e = stays Handler.logical_and e true
    by_handler Handler.logical_or e = stays Handler.logical_or e true
    by_handler Handler.elision e = zero-le
    by_handler Handler.spread e = stays Handler.spread e (flagged t)
    by_handler Handler.property e = kept_over_parts
    by_handler Handler.element e = stays Handler.element e true
    by_handler Handler.left_out e = stays Handler.left_out e true

  step : (t : Tree) → All NotRaised (trees t.kids) → NotRaised t
  step t hs = rw (reduce_is s t, whole_is S s t) (by_handler t hs (handler t.head) refl)

  pub no_higher : (t : Tree) → potential_of (reduce s t) ≤ whole S s t
  no_higher = ind NotRaised step

  -- The measure of what is left, of a tree within the bound.
  pub bounded : (t : Tree) → S.measure (forest (reduce s t)) ≤ suc (S.grow (S.measure t.kids))
  bounded t =
      rw (measure_forest S (reduce s t))
      (le_trans (sum_le S (own S) (whole S s) (reduce s t) (always (λ t. (between S s t).low) (reduce s t))) (le_trans (no_higher t) (between S s t).high))
