-- What is kept of an accepted tree is accepted, handler by handler.
use Rattle.std.specs.Prelude.{Bool, not, ◌&&◌, ◌||◌, ◌≡◌, ℕ, ◌+◌, ◌≤◌, leb, ltb, length, take, drop}
use Rattle.std.proofs.Math.Bool.{true, false, cond}
use Rattle.std.proofs.Common.{true≢false, sym, ◌∙◌, ap, subst, arith}
use mathlib.Core.List.{List, [], ◌∷◌, ◌++◌, map, append-nil}
use Rattle.std.proofs.Math.Path.{refl}
use Rattle.std.proofs.Math.Dec.{eqb}
use Rattle.tree.specs.Tree.{Place, Head, Forest, nil, node, Tree, trees, forest, trees_forest, count, All, ind}
use Rattle.tree.specs.Kind as kind
use Rattle.tree.specs.Below.{all_below, and_left, and_right}
use Rattle.tree.specs.Symbol.{is_addition, string_fact, is_string, Sides}
use Rattle.tree.specs.Record as rec
use Rattle.tree.specs.Children as children
use Rattle.rules.specs.Lists.{any, every, keep_if, filter, concat_map}
use Rattle.rules.specs.Settings.{Settings, derived}
use Rattle.rules.specs.Handler.{Handler, handler, is_kind, is_literal, is_spread, is_sequence}
use Rattle.rules.specs.Facts.{flagged, possible_symbol, pure_new, pure_call, has_side_effects_or_preserved_iife, of_identifier, unchanged_template, only_spreads, flagged_child}
use Rattle.rules.specs.Made.{place_of, made_head, flag_of, make_sequence, make_template, make_object, make_array, and_sub, or_sub, make_logical, empty_literal, with_children, joined, join_sequence}
use Rattle.rules.specs.Addition.{emptied_unless_flagged, is_dropped_right, fold_sides, fold_string_addition_chain}
use Rattle.rules.specs.Class as class
use Rattle.rules.specs.Conditional.{test_of, consequent_of, alternate_of}
use Rattle.rules.specs.Reduce.{Reduced, kept, none_one_several, stays_with, flush, flush_template_before, transform_template, transform_object, join_kept, sequence_if_any, fold_argument, fold_arguments_into_needed_expressions, without_callee, remove_unused_array_expr, join_arms, remove_unused_expression, reduce}
use Rattle.rules.proofs.Lists.{by_cond, or_true_l, or_true_r, or_rest, all_join, all_take, all_drop, all_keep, concat_map_all, all_map, all_zip, every_all, all_every, none_all, drop_map}
use Rattle.rules.specs.Results.{reduced}
use Rattle.rules.proofs.Unfold.{reduce_is, kept_is}
use Rattle.rules.proofs.Everywhere.{Everywhere, kids_everywhere, forest_everywhere, everywhere_map}
use Rattle.rules.proofs.Facts.{handled, spread_handled, sequence_handled, addition_handled, array_handled}
use Rattle.rules.proofs.Addition.{NoSides, by_chain, fold_sides_lem, string_left, string_right, fold_string}
use Rattle.rules.proofs.Shape.{is_expr, is_array_part, is_argument, is_object_part, is_element, exactly, after_first, after_heritage, kids_by, three, expr_by, expr_by_lem, NodeGood, HeadGood, good_head, good_kids, good_node}
use Rattle.rules.proofs.Single.{at_most_one}

-- The heads that a rule makes are accepted.
by_flag_of : (ts : List Tree) (P : ℕ → Type 0) → P 1 → P 0 → P (flag_of ts)
unfolding flag_of
by_flag_of ts P p q = by_cond P (any flagged ts) 1 0 (λ _. p) (λ _. q)

-- The facts of a made node fit a byte and record no symbol.
abbrev pub is_made_facts : ℕ → Bool
is_made_facts f = ltb f 256 && not (eqb (rec.symbol_pair f) 2)

flag_made : (ts : List Tree) → is_made_facts (flag_of ts) ≡ true
flag_made ts = by_flag_of ts (λ f. is_made_facts f ≡ true) refl refl

record MadeHeads (p : Place) : Type 0 where
  literal : HeadGood (made_head kind.literal 0 18 p)
  template : HeadGood (made_head kind.template 0 1 p)
  flagged_array : HeadGood (made_head kind.array 0 1 p)
  clear_array : HeadGood (made_head kind.array 0 0 p)
  flagged_object : HeadGood (made_head kind.object 0 1 p)
  clear_object : HeadGood (made_head kind.object 0 0 p)
  flagged_sequence : HeadGood (made_head kind.sequence 0 1 p)
  clear_sequence : HeadGood (made_head kind.sequence 0 0 p)
  flagged_and : HeadGood (made_head kind.logical and_sub 1 p)
  clear_and : HeadGood (made_head kind.logical and_sub 0 p)
  flagged_or : HeadGood (made_head kind.logical or_sub 1 p)
  clear_or : HeadGood (made_head kind.logical or_sub 0 p)

made_heads : (p : Place) → MadeHeads p
unfolding rec.record_ok rec.included rec.facts_ok rec.bits_within all_below rec.allowed_facts rec.pairs_ok rec.literal_ok rec.symbol_ok rec.symbol_yes rec.sub_ok
made_heads p = record {
  literal = record { recorded = refl; is_included = refl };
  template = record { recorded = refl; is_included = refl };
  flagged_array = record { recorded = refl; is_included = refl };
  clear_array = record { recorded = refl; is_included = refl };
  flagged_object = record { recorded = refl; is_included = refl };
  clear_object = record { recorded = refl; is_included = refl };
  flagged_sequence = record { recorded = refl; is_included = refl };
  clear_sequence = record { recorded = refl; is_included = refl };
  flagged_and = record { recorded = refl; is_included = refl };
  clear_and = record { recorded = refl; is_included = refl };
  flagged_or = record { recorded = refl; is_included = refl };
  clear_or = record { recorded = refl; is_included = refl };
}

argument_part : (c : Tree) → is_argument c ≡ true → is_array_part c ≡ true
argument_part c = go (is_expr c) (eqb c.head.kind kind.spread)
  where
    go : (a b : Bool) → (a || b) ≡ true → (a || (b || eqb c.head.kind kind.elision)) ≡ true
    go true b e = refl
    go false true e = refl
    go false false e = absurd (true≢false (sym e))

expr_stays : (t : Tree) (ts : List Tree) → is_expr t ≡ true → is_expr (with_children t ts) ≡ true
unfolding with_children
expr_stays t ts x = x

-- A node that is accepted, and of which H holds; an expression of such nodes.
abbrev pub Node : (Tree → Type 0) → Tree → Type 0
Node H t = NodeGood t × H t

abbrev pub Expr : (Tree → Type 0) → Tree → Type 0
Expr H t = Everywhere (Node H) t × (is_expr t ≡ true)

-- A node over other children: an addition is a string exactly if it was one.
abbrev pub SameString : Tree → List Tree → Type 0
SameString t ts = is_addition t ≡ true → is_string (with_children t ts) ≡ is_string t

-- A node of another handler is no addition: of some children f the two handlers do not say the same.
abbrev two : Forest
two = let x = made_head kind.literal 0 18 (record { start = 0; end = 0 }) in node x nil (node x nil nil)

no_addition : (t : Tree) (k : Handler) (f : Forest) (ts : List Tree) → handler t.head ≡ k → kids_by k t.head f ≡ not (kids_by Handler.addition t.head f) → SameString t ts
no_addition t k f ts e n a = absurd (no_fix (kids_by Handler.addition t.head f) (ap (λ k. kids_by k t.head f) (sym (addition_handled t a) ∙ e) ∙ n))
  where
    no_fix : (b : Bool) → b ≡ not b → ⊥
    no_fix true e = true≢false e
    no_fix false e = true≢false (sym e)

-- A node may be made at place p, over any children.
abbrev pub MadeAt : (Tree → Type 0) → Place → Type 0
MadeAt H p = (k sub facts : ℕ) → ltb k 256 ≡ true → ltb sub 256 ≡ true → is_made_facts facts ≡ true → (ts : List Tree) → H (record { head = made_head k sub facts p; kids = forest ts })

-- H: what else is to hold of each node. A node may be made at the place of a node of which H holds, and such a node may stay over other
-- children.
module _ (H : Tree → Type 0) (at_place : (t : Tree) → H t → MadeAt H (place_of t)) (over_others : (t : Tree) → H t → (ts : List Tree) → SameString t ts → H (with_children t ts)) where
  abbrev Good : Tree → Type 0
  Good t = Everywhere (Node H) t

  place_good : (t : Tree) → Good t → MadeAt H (place_of t)
  place_good t g = at_place t g.0.1

  abbrev Fit : (Tree → Bool) → Tree → Type 0
  Fit p t = Good t × (p t ≡ true)

  fit_every : (p : Tree → Bool) (ts : List Tree) → All (Fit p) ts → every p ts ≡ true
  fit_every p ts fs = all_every p ts (all_map (λ t f. f.1) ts fs)

  fit_all : (p : Tree → Bool) (ts : List Tree) → All Good ts → every p ts ≡ true → All (Fit p) ts
  fit_all p ts gs e = all_zip (λ t g e. (g, e)) ts gs (every_all p ts e)

  kids_good : (t : Tree) → Good t → All Good (trees t.kids)
  kids_good t g = kids_everywhere (Node H) t.kids g.1

  -- The node of a head that is accepted, over children that are.
  over : (p : Tree → Bool) (h : Head) (k : Handler) (ts : List Tree) → HeadGood h → H (record { head = h; kids = forest ts }) → handler h ≡ k → All (Fit p) ts
      → kids_by k h (forest ts) ≡ true → Good (record { head = h; kids = forest ts })
  over p h k ts o w e fs ok = ((good_node h k (forest ts) o e ok, w), forest_everywhere (Node H) ts (all_map (λ t f. f.0) ts fs))

  good_sequence : (p : Place) (ts : List Tree) → MadeAt H p → All (Expr H) ts → Expr H (make_sequence p ts)
  unfolding make_sequence handler
  good_sequence p ts m gs =
      let o = by_flag_of ts (λ f. HeadGood (made_head kind.sequence 0 f p)) (made_heads p).flagged_sequence (made_heads p).clear_sequence in
      (over is_expr (made_head kind.sequence 0 (flag_of ts) p) Handler.sequence ts o (m kind.sequence 0 (flag_of ts) refl refl (flag_made ts) ts) refl gs (rw (trees_forest ts) (fit_every is_expr ts gs)), refl)

  good_template : (p : Place) (ts : List Tree) → MadeAt H p → All (Expr H) ts → Expr H (make_template p ts)
  unfolding make_template handler
  good_template p ts m gs =
      (over is_expr (made_head kind.template 0 1 p) Handler.template ts (made_heads p).template (m kind.template 0 1 refl refl refl ts) refl gs (rw (trees_forest ts) (fit_every is_expr ts gs)), refl)

  good_object : (p : Place) (ts : List Tree) → MadeAt H p → All (Fit is_spread) ts → Expr H (make_object p ts)
  unfolding make_object handler is_kind
  good_object p ts m gs =
      let o = by_flag_of ts (λ f. HeadGood (made_head kind.object 0 f p)) (made_heads p).flagged_object (made_heads p).clear_object in (
        over is_spread (made_head kind.object 0 (flag_of ts) p) Handler.object ts o (m kind.object 0 (flag_of ts) refl refl (flag_made ts) ts) refl gs
            (rw (trees_forest ts) (all_every is_object_part ts (all_map (λ t f. or_true_l (is_spread t) (eqb t.head.kind kind.property) f.1) ts gs))),
        refl,
      )

  good_array : (p : Place) (t : Tree) → MadeAt H p → Fit is_spread t → Expr H (make_array p (t ∷ []))
  unfolding make_array handler is_kind
  good_array p t m g =
      let o = by_flag_of (t ∷ []) (λ f. HeadGood (made_head kind.array 0 f p)) (made_heads p).flagged_array (made_heads p).clear_array in (
        over is_spread (made_head kind.array 0 (flag_of (t ∷ [])) p) Handler.array (t ∷ []) o (m kind.array 0 (flag_of (t ∷ [])) refl refl (flag_made (t ∷ [])) (t ∷ [])) refl (g, tt)
            (rw (or_true_r (is_expr t) (is_spread t || eqb t.head.kind kind.elision) (or_true_l (is_spread t) (eqb t.head.kind kind.elision) g.1))),
        refl,
      )

  good_literal : (p : Place) → MadeAt H p → Expr H (empty_literal p)
  unfolding empty_literal handler
  good_literal p m = (over is_expr (made_head kind.literal 0 18 p) Handler.leaf [] (made_heads p).literal (m kind.literal 0 18 refl refl refl []) refl tt refl, refl)

  good_and : (p : Place) (q x : Tree) → MadeAt H p → Expr H q → Expr H x → Expr H (make_logical and_sub p (q ∷ x ∷ []))
  unfolding make_logical handler
  good_and p q x m f g =
      let ts = q ∷ x ∷ [] in
      let o = by_flag_of ts (λ f. HeadGood (made_head kind.logical and_sub f p)) (made_heads p).flagged_and (made_heads p).clear_and in
      (over is_expr (made_head kind.logical and_sub (flag_of ts) p) Handler.logical_and ts o (m kind.logical and_sub (flag_of ts) refl refl (flag_made ts) ts) refl (f, (g, tt)) (rw (f.1, g.1)), refl)

  good_or : (p : Place) (q x : Tree) → MadeAt H p → Expr H q → Expr H x → Expr H (make_logical or_sub p (q ∷ x ∷ []))
  unfolding make_logical handler
  good_or p q x m f g =
      let ts = q ∷ x ∷ [] in
      let o = by_flag_of ts (λ f. HeadGood (made_head kind.logical or_sub f p)) (made_heads p).flagged_or (made_heads p).clear_or in
      (over is_expr (made_head kind.logical or_sub (flag_of ts) p) Handler.logical_or ts o (m kind.logical or_sub (flag_of ts) refl refl (flag_made ts) ts) refl (f, (g, tt)) (rw (f.1, g.1)), refl)

  -- A node that stays over other children.
  good_stays : (p : Tree → Bool) (t : Tree) (k : Handler) (ts : List Tree) → Good t → handler t.head ≡ k → SameString t ts → All (Fit p) ts
      → kids_by k t.head (forest ts) ≡ true → Good (with_children t ts)
  unfolding with_children
  good_stays p t k ts g e w fs ok = over p t.head k ts (good_head t g.0.0) (over_others t g.0.1 ts w) e fs ok

  -- Additions.
  emptied_fit : (t : Tree) → Expr H t → Expr H (emptied_unless_flagged t)
  unfolding emptied_unless_flagged
  emptied_fit t g = by_cond (Expr H) (flagged t) t (empty_literal (place_of t)) (λ _. g) (λ _. good_literal (place_of t) (place_good t g.0))

  sides_stay : (t x y : Tree) → handler t.head ≡ Handler.addition → SameString t (x ∷ y ∷ []) → Expr H t → Expr H x → Expr H y → Expr H (with_children t (x ∷ y ∷ []))
  sides_stay t x y e w g f h =
      (good_stays is_expr t Handler.addition (x ∷ y ∷ []) g.0 e w (f, (h, tt)) (rw (f.1, h.1)), expr_stays t (x ∷ y ∷ []) g.1)

  sides_fit : (t l f r : Tree) → handler t.head ≡ Handler.addition → Sides t l r → is_string f ≡ is_string l → Expr H t → Expr H f → Expr H r → Expr H (fold_sides t f r)
  unfolding fold_sides
  sides_fit t l f r e S w g x y =
      by_cond (Expr H) (is_string f)
      (cond (is_dropped_right r) (emptied_unless_flagged f) (with_children t (emptied_unless_flagged f ∷ r ∷ []))) (with_children t (f ∷ cond (string_fact r) (emptied_unless_flagged r) r ∷ []))
      (λ z. by_cond (Expr H) (is_dropped_right r) (emptied_unless_flagged f) (with_children t (emptied_unless_flagged f ∷ r ∷ []))
      (λ _. emptied_fit f x) (λ _. sides_stay t (emptied_unless_flagged f) r e (λ _. string_left t l r f S w z) g (emptied_fit f x) y))
      (λ _. sides_stay t f (cond (string_fact r) (emptied_unless_flagged r) r) e (λ _. string_right t l r f S w) g x (by_cond (Expr H) (string_fact r) (emptied_unless_flagged r) r (λ _. emptied_fit r y) (λ _. y)))

  exactly_fit : (n : ℕ) (t : Tree) → Good t → exactly n t.kids ≡ true → All (Expr H) (trees t.kids)
  exactly_fit n t g ok = fit_all is_expr (trees t.kids) (kids_good t g) (and_right (eqb (count t.kids) n) (every is_expr (trees t.kids)) ok)

  fold_fit : (t : Tree) → Expr H t → Expr H (fold_string_addition_chain t)
  fold_fit = by_chain (λ t. Expr H t → Expr H (fold_string_addition_chain t)) other sum
    where
      other : (t : Tree) → NoSides t → Expr H t → Expr H (fold_string_addition_chain t)
      other t n g = rw n.folds g

      sum : (t l r : Tree) → Sides t l r → (Expr H l → Expr H (fold_string_addition_chain l)) → Expr H t → Expr H (fold_string_addition_chain t)
      sum t l r S ih g =
          let e = addition_handled t S.addition in
          let ks : All (Expr H) (l ∷ r ∷ []) = rw S.kids at (exactly_fit 2 t g.0 (good_kids t Handler.addition e g.0.0.0)) in
          rw (fold_sides_lem t l r S) (sides_fit t l (fold_string_addition_chain l) r e S (fold_string l) g (ih ks.0) ks.1.0)

  -- Classes.
  filter_fit : (ts : List Tree) → All (Expr H) ts → All (Expr H) (filter flagged ts)
  filter_fit ts gs = concat_map_all (Expr H) (λ t. keep_if (flagged t) t) ts (all_map (λ t g. all_keep (Expr H) (flagged t) t (λ _. g)) ts gs)

  element_fit : (e : Tree) → Fit is_element e → All (Expr H) (class.extracted_of_element e)
  unfolding handler is_kind
  element_fit e f =
      let n = rec.bit 4 e.head.sub in
      let ks = exactly_fit (children.element_children e.head.sub) e f.0 (good_kids e Handler.element (handled e kind.element f.1) f.0.0.0) in
      all_join (Expr H) (filter flagged (class.computed_key e)) (class.static_value e)
      (filter_fit (class.computed_key e) (all_take (Expr H) n (trees e.kids) ks))
      (by_cond (All (Expr H)) (class.has_static_value e) (class.value_of e (trees e.kids)) [] (λ _. all_drop (Expr H) n (trees e.kids) ks) (λ _. tt))

  extracted_fit : (t : Tree) → Good t → after_heritage t.head t.kids ≡ true → All (Expr H) (class.extracted t)
  unfolding class.extracted
  extracted_fit t g ok =
      let n = children.heritage t.head in
      let parts = and_right (leb n (count t.kids)) (every is_expr (class.heritage t) && every is_element (class.elements t)) ok in
      all_join (Expr H) (filter flagged (class.heritage t)) (concat_map class.extracted_of_element (class.elements t))
      (filter_fit (class.heritage t)
      (fit_all is_expr (class.heritage t) (all_take Good n (trees t.kids) (kids_good t g)) (and_left (every is_expr (class.heritage t)) (every is_element (class.elements t)) parts)))
      (concat_map_all (Expr H) class.extracted_of_element (class.elements t)
      (all_map element_fit (class.elements t)
      (fit_all is_element (class.elements t) (all_drop Good n (trees t.kids) (kids_good t g)) (and_right (every is_expr (class.heritage t)) (every is_element (class.elements t)) parts))))

  -- Lists of what is left.
  none_one_several_lem : (p : Place) (ts : List Tree) → MadeAt H p → All (Expr H) ts → All (Expr H) (none_one_several p ts)
  none_one_several_lem p [] m gs = tt
  none_one_several_lem p (x ∷ []) m gs = gs
  none_one_several_lem p (x ∷ y ∷ ys) m gs = (good_sequence p (x ∷ y ∷ ys) m gs, tt)

  sequence_if_any_lem : (p : Place) (ts : List Tree) → MadeAt H p → All (Expr H) ts → All (Expr H) (sequence_if_any p ts)
  sequence_if_any_lem p [] m gs = tt
  sequence_if_any_lem p (x ∷ xs) m gs = (good_sequence p (x ∷ xs) m gs, tt)

  sequence_parts : (t : Tree) → is_sequence t ≡ true → Good t → All (Expr H) (trees t.kids)
  sequence_parts t e g = fit_all is_expr (trees t.kids) (kids_good t g) (good_kids t Handler.sequence (sequence_handled t e) g.0.0)

  joined_fit : (a b : Tree) → Expr H a → Expr H b → All (Expr H) (joined a b)
  joined_fit a b f g =
      by_cond (All (Expr H)) (is_sequence a) (trees a.kids ++ (b ∷ [])) (cond (is_sequence b) (a ∷ trees b.kids) (a ∷ b ∷ []))
      (λ e. all_join (Expr H) (trees a.kids) (b ∷ []) (sequence_parts a e f.0) (g, tt))
      (λ _. by_cond (All (Expr H)) (is_sequence b) (a ∷ trees b.kids) (a ∷ b ∷ []) (λ e. (f, sequence_parts b e g.0)) (λ _. (f, (g, tt))))

  join_kept_lem : (p : Place) (ts : List Tree) → MadeAt H p → All (Expr H) ts → All (Expr H) (join_kept p ts)
  unfolding join_sequence
  join_kept_lem p [] m gs = tt
  join_kept_lem p (x ∷ []) m gs = gs
  join_kept_lem p (x ∷ y ∷ []) m gs = (good_sequence p (joined x y) m (joined_fit x y gs.0 gs.1.0), tt)
  join_kept_lem p (x ∷ y ∷ z ∷ zs) m gs = (good_sequence p (x ∷ y ∷ z ∷ zs) m gs, tt)

  stays_with_lem : (p : Tree → Bool) (t : Tree) (k : Handler) (ts : List Tree) → Good t → is_expr t ≡ true → handler t.head ≡ k → SameString t ts → All (Fit p) ts
      → kids_by k t.head (forest ts) ≡ true → All (Expr H) (stays_with t ts)
  stays_with_lem p t k [] g x e w fs ok = tt
  stays_with_lem p t k (y ∷ ys) g x e w fs ok = ((good_stays p t k (y ∷ ys) g e w fs ok, expr_stays t (y ∷ ys) x), tt)

  -- Arrays: of expressions and spreads, and where no spread is left of expressions alone.
  no_spread : (ts : List Tree) → any is_spread ts ≡ false → All (Fit is_argument) ts → All (Expr H) ts
  unfolding is_kind
  no_spread ts e fs = all_zip (λ t n f. (f.0, or_rest (is_expr t) (is_spread t) f.1 n)) ts (none_all is_spread ts e) fs

  array_fit : (t : Tree) (cs : List Reduced) → handler t.head ≡ Handler.array → Expr H t → All (Fit is_argument) (kept cs) → All (Expr H) (remove_unused_array_expr t cs)
  array_fit t cs e g fs =
      by_cond (All (Expr H)) (any is_spread (kept cs)) (stays_with t (kept cs)) (none_one_several (place_of t) (kept cs))
      (λ _. stays_with_lem is_argument t Handler.array (kept cs) g.0 g.1 e (no_addition t Handler.array nil (kept cs) e refl) fs
      (rw (trees_forest (kept cs)) (all_every is_array_part (kept cs) (all_map (λ c f. argument_part c f.1) (kept cs) fs))))
      (λ n. none_one_several_lem (place_of t) (kept cs) (place_good t g.0) (no_spread (kept cs) n fs))

  -- A conditional's arms, of each of which one tree is left at most.
  arms_fit : (t q c a : Tree) → trees t.kids ≡ q ∷ c ∷ a ∷ [] → handler t.head ≡ Handler.conditional → Expr H t → Expr H q
      → (qs cs bs : List Tree) → All (Expr H) qs → All (Expr H) cs → All (Expr H) bs → length cs ≤ 1 → length bs ≤ 1 → All (Expr H) (join_arms t qs cs bs)
  arms_fit t q c a are e g f qs [] [] hq hc ha lc la = hq
  arms_fit t q c a are e g f qs [] (y ∷ []) hq hc ha lc la = rw are (good_or (place_of t) q y (place_good t g.0) f ha.0, tt)
  arms_fit t q c a are e g f qs (x ∷ []) [] hq hc ha lc la = rw are (good_and (place_of t) q x (place_good t g.0) f hc.0, tt)
  arms_fit t q c a are e g f qs (x ∷ []) (y ∷ []) hq hc ha lc la =
      rw are ((good_stays is_expr t Handler.conditional (q ∷ x ∷ y ∷ []) g.0 e (no_addition t Handler.conditional two (q ∷ x ∷ y ∷ []) e refl) (f, (hc.0, (ha.0, tt))) (rw (f.1, hc.0.1, ha.0.1)), expr_stays t (q ∷ x ∷ y ∷ []) g.1), tt)
  arms_fit t q c a are e g f qs [] (y ∷ z ∷ zs) hq hc ha lc la = absurd (omega (arith, la))
  arms_fit t q c a are e g f qs (x ∷ []) (y ∷ z ∷ zs) hq hc ha lc la = absurd (omega (arith, la))
  arms_fit t q c a are e g f qs (x ∷ z ∷ zs) bs hq hc ha lc la = absurd (omega (arith, lc))

  -- What waits.
  flush_template : (p : Place) (w : List Tree) → MadeAt H p → All (Expr H) w → All (Expr H) (flush make_template p w)
  flush_template p [] m gs = tt
  flush_template p (x ∷ xs) m gs = (good_template p (x ∷ xs) m gs, tt)

  flush_object : (p : Place) (w : List Tree) → MadeAt H p → All (Fit is_spread) w → All (Expr H) (flush make_object p w)
  flush_object p [] m gs = tt
  flush_object p (x ∷ xs) m gs = (good_object p (x ∷ xs) m gs, tt)

  flush_before : (w d : List Tree) (go : List Tree → List Tree) → All (Expr H) w → All (Expr H) d → ((w : List Tree) → All (Expr H) w → All (Expr H) (go w)) → All (Expr H) (flush_template_before w d go)
  flush_before w [] go gs hs n = n w gs
  flush_before w (x ∷ xs) go gs hs n =
      all_join (Expr H) (flush make_template (place_of x) w) ((x ∷ xs) ++ go []) (flush_template (place_of x) w (place_good x hs.0.0) gs) (all_join (Expr H) (x ∷ xs) (go []) hs (n [] tt))

  module _ (s : Settings) where
    -- What is left of an expression, and of a property, is expressions.
    record LeavesExprs (t : Tree) : Type 0 where
      expr : is_expr t ≡ true → All (Expr H) (reduce s t)
      property : is_kind kind.property t ≡ true → All (Expr H) (reduce s t)

    kept_fit : (p : Tree → Bool) (ts : List Tree) → All (λ c. All (Fit p) (reduce s c)) ts → All (Fit p) (kept (map (reduced s) ts))
    kept_fit p ts hs = rw (kept_is s ts) (concat_map_all (Fit p) (reduce s) ts hs)

    exprs : (ts : List Tree) → every is_expr ts ≡ true → All LeavesExprs ts → All (λ c. All (Expr H) (reduce s c)) ts
    exprs ts e hs = all_zip (λ c x h. h.expr x) ts (every_all is_expr ts e) hs

    kept_exprs : (ts : List Tree) → every is_expr ts ≡ true → All LeavesExprs ts → All (Expr H) (kept (map (reduced s) ts))
    kept_exprs ts e hs = kept_fit is_expr ts (exprs ts e hs)

    spread_is : (t : Tree) → is_spread t ≡ true → reduce s t ≡ keep_if (flagged t) t
    spread_is t e = reduce_is s t ∙ rw (spread_handled t e)

    elision_is : (t : Tree) → is_kind kind.elision t ≡ true → reduce s t ≡ []
    unfolding handler
    elision_is t e = reduce_is s t ∙ rw (handled t kind.elision e)

    expr_argument : (c : Tree) → Expr H c → Fit is_argument c
    expr_argument c f = (f.0, or_true_l (is_expr c) (eqb c.head.kind kind.spread) f.1)

    spread_argument : (t : Tree) → Fit is_spread t → All (Fit is_argument) (reduce s t)
    unfolding is_kind
    spread_argument t g =
        rw (spread_is t g.1)
        (all_keep (Fit is_argument) (flagged t) t (λ _. (g.0, or_true_r (is_expr t) (is_spread t) g.1)))

    -- An array's element: an expression, a spread or an elision.
    part_fit : (t : Tree) → Fit is_array_part t → LeavesExprs t → All (Fit is_argument) (reduce s t)
    unfolding is_kind
    part_fit t f h = go (is_expr t) refl (is_spread t) refl f.1
      where
        go : (a : Bool) → is_expr t ≡ a → (b : Bool) → is_spread t ≡ b → (a || (b || eqb t.head.kind kind.elision)) ≡ true → All (Fit is_argument) (reduce s t)
        go true ea b eb e = all_map expr_argument (reduce s t) (h.expr ea)
        go false ea true eb e = spread_argument t (f.0, eb)
        go false ea false eb e = rw (elision_is t e) tt

    template_fit : (p : Place) (w ts : List Tree) → MadeAt H p → All (Expr H) w → All (Expr H) ts → All (λ c. All (Expr H) (reduce s c)) ts → All (Expr H) (transform_template p w (map (reduced s) ts))
    template_fit p w [] m gs es hs = flush_template p w m gs
    template_fit p w (t ∷ ts) m gs es hs =
        by_cond (All (Expr H)) (possible_symbol t) (transform_template p (w ++ (t ∷ [])) (map (reduced s) ts)) (flush_template_before w (reduce s t) (λ w. transform_template p w (map (reduced s) ts)))
        (λ _. template_fit p (w ++ (t ∷ [])) ts m (all_join (Expr H) w (t ∷ []) gs (es.0, tt)) es.1 hs.1)
        (λ _. flush_before w (reduce s t) (λ w. transform_template p w (map (reduced s) ts)) gs hs.0 (λ w gs. template_fit p w ts m gs es.1 hs.1))

    object_fit : (p : Place) (w ts : List Tree) → MadeAt H p → All (Fit is_spread) w → All (Fit is_object_part) ts → All LeavesExprs ts → All (Expr H) (transform_object p w (map (reduced s) ts))
    unfolding is_kind
    object_fit p w [] m gs es hs = flush_object p w m gs
    object_fit p w (t ∷ ts) m gs es hs =
        by_cond (All (Expr H)) (is_spread t) (transform_object p (w ++ (t ∷ [])) (map (reduced s) ts)) (flush make_object (place_of t) w ++ (reduce s t ++ transform_object p [] (map (reduced s) ts)))
        (λ e. object_fit p (w ++ (t ∷ [])) ts m (all_join (Fit is_spread) w (t ∷ []) gs ((es.0.0, e), tt)) es.1 hs.1)
        (λ e. all_join (Expr H) (flush make_object (place_of t) w) (reduce s t ++ transform_object p [] (map (reduced s) ts)) (flush_object (place_of t) w (place_good t es.0.0) gs)
        (all_join (Expr H) (reduce s t) (transform_object p [] (map (reduced s) ts))
        (hs.0.property (subst (λ b. (b || is_kind kind.property t) ≡ true) e es.0.1)) (object_fit p [] ts m tt es.1 hs.1)))

    argument_fit : (t : Tree) → Fit is_argument t → LeavesExprs t → All (Expr H) (fold_argument (reduced s t))
    unfolding is_kind
    argument_fit t f h =
        by_cond (All (Expr H)) (is_spread t) (remove_unused_array_expr (make_array (place_of t) (t ∷ [])) (reduced s t ∷ [])) (reduce s t)
        (λ e. array_fit (make_array (place_of t) (t ∷ [])) (reduced s t ∷ []) (array_handled (place_of t) (t ∷ []))
        (good_array (place_of t) t (place_good t f.0) (f.0, e)) (kept_fit is_argument (t ∷ []) (spread_argument t (f.0, e), tt)))
        (λ e. h.expr (or_rest (is_expr t) (is_spread t) f.1 e))

    arguments_fit : (ts : List Tree) → All (Fit is_argument) ts → All LeavesExprs ts → All (Expr H) (fold_arguments_into_needed_expressions (map (reduced s) ts))
    arguments_fit [] fs hs = tt
    arguments_fit (t ∷ ts) fs hs =
        all_join (Expr H) (fold_argument (reduced s t)) (fold_arguments_into_needed_expressions (map (reduced s) ts)) (argument_fit t fs.0 hs.0) (arguments_fit ts fs.1 hs.1)

    -- Each handler, over its children's own facts.
    module _ (t : Tree) (g : Good t) (hs : All LeavesExprs (trees t.kids)) where
      abbrev ts : List Tree
      ts = trees t.kids

      abbrev reductions : List Reduced
      reductions = map (reduced s) ts

      one_expr : (n : ℕ) → exactly n t.kids ≡ true → All (Expr H) (kept reductions)
      one_expr n ok = kept_exprs ts (and_right (eqb (count t.kids) n) (every is_expr ts) ok) hs

      keep : is_expr t ≡ true → (b : Bool) → All (Expr H) (keep_if b t)
      keep x b = all_keep (Expr H) b t (λ _. (g, x))

      pure : after_first is_argument t.kids ≡ true → All (Expr H) (without_callee t reductions)
      pure ok =
          none_one_several_lem (place_of t) (fold_arguments_into_needed_expressions (drop 1 reductions)) (place_good t g)
          (rw (drop_map (reduced s) 1 ts)
          (arguments_fit (drop 1 ts)
          (fit_all is_argument (drop 1 ts) (all_drop Good 1 ts (kids_good t g))
          (and_right (every is_expr (take 1 ts)) (every is_argument (drop 1 ts)) (and_right (leb 1 (count t.kids)) (every is_expr (take 1 ts) && every is_argument (drop 1 ts)) ok)))
          (all_drop LeavesExprs 1 ts hs)))

      single : (c : Tree) → Expr H c → length (reduce s c) ≤ 1
      single c f = at_most_one s c (everywhere_map (λ t (n : Node H t). n.0) c f.0, f.1)

      conditional_fit : is_expr t ≡ true → handler t.head ≡ Handler.conditional → exactly 3 t.kids ≡ true
          → All (Expr H) (join_arms t (kept (test_of reductions)) (kept (consequent_of reductions)) (kept (alternate_of reductions)))
      conditional_fit x e ok =
          let T = three t.kids ok in
          let fs : All (Expr H) (T.test ∷ T.consequent ∷ T.alternate ∷ []) = rw T.are at (exactly_fit 3 t g ok) in
          let ls : All LeavesExprs (T.test ∷ T.consequent ∷ T.alternate ∷ []) = rw T.are at hs in
          rw (T.are, append-nil (reduce s T.test), append-nil (reduce s T.consequent), append-nil (reduce s T.alternate))
          (arms_fit t T.test T.consequent T.alternate T.are e (g, x) fs.0 (reduce s T.test) (reduce s T.consequent) (reduce s T.alternate)
          (ls.0.expr fs.0.1) (ls.1.0.expr fs.1.0.1) (ls.1.1.0.expr fs.1.1.0.1) (single T.consequent fs.1.0) (single T.alternate fs.1.1.0))

      by_handler : is_expr t ≡ true → (k : Handler) → handler t.head ≡ k → expr_by k ≡ true → kids_by k t.head t.kids ≡ true → All (Expr H) (remove_unused_expression k s t reductions)
      by_handler x Handler.leaf e p ok = keep x (flagged t)
      by_handler x Handler.this e p ok = keep x (derived s)
      by_handler x Handler.void_or_not e p ok = one_expr 1 ok
      by_handler x Handler.typeof e p ok = by_cond (All (Expr H)) (of_identifier t) [] (kept reductions) (λ _. tt) (λ _. one_expr 1 ok)
      by_handler x Handler.other_unary e p ok = keep x (flagged t)
      by_handler x Handler.sequence e p ok =
          let ks = kept_exprs ts ok hs in
          stays_with_lem is_expr t Handler.sequence (kept reductions) g x e (no_addition t Handler.sequence nil (kept reductions) e refl) ks (rw (trees_forest (kept reductions)) (fit_every is_expr (kept reductions) ks))
      by_handler x Handler.array e p ok =
          array_fit t reductions e (g, x) (kept_fit is_argument ts (all_zip part_fit ts (fit_all is_array_part ts (kids_good t g) ok) hs))
      by_handler x Handler.template e p ok =
          by_cond (All (Expr H)) (unchanged_template t) (t ∷ []) (none_one_several (place_of t) (transform_template (place_of t) [] reductions)) (λ _. ((g, x), tt))
          (λ _. none_one_several_lem (place_of t) (transform_template (place_of t) [] reductions) (place_good t g) (template_fit (place_of t) [] ts (place_good t g) tt (fit_all is_expr ts (kids_good t g) ok) (exprs ts ok hs)))
      by_handler x Handler.object e p ok =
          by_cond (All (Expr H)) (only_spreads t) (keep_if (flagged_child t) t) (none_one_several (place_of t) (transform_object (place_of t) [] reductions)) (λ _. keep x (flagged_child t))
          (λ _. none_one_several_lem (place_of t) (transform_object (place_of t) [] reductions) (place_good t g) (object_fit (place_of t) [] ts (place_good t g) tt (fit_all is_object_part ts (kids_good t g) ok) hs))
      by_handler x Handler.comparison e p ok = join_kept_lem (place_of t) (kept reductions) (place_good t g) (one_expr 2 ok)
      by_handler x Handler.addition e p ok =
          by_cond (All (Expr H)) (flagged t) (keep_if (not (is_literal (fold_string_addition_chain t))) (fold_string_addition_chain t)) []
          (λ _. all_keep (Expr H) (not (is_literal (fold_string_addition_chain t))) (fold_string_addition_chain t) (λ _. fold_fit t (g, x))) (λ _. tt)
      by_handler x Handler.other_binary e p ok = keep x (flagged t)
      by_handler x Handler.call e p ok =
          by_cond (All (Expr H)) (pure_call s t) (without_callee t reductions) (keep_if (has_side_effects_or_preserved_iife s t) t)
          (λ _. pure ok) (λ _. keep x (has_side_effects_or_preserved_iife s t))
      by_handler x Handler.new e p ok = by_cond (All (Expr H)) (pure_new s t) (without_callee t reductions) (t ∷ []) (λ _. pure ok) (λ _. ((g, x), tt))
      by_handler x Handler.class e p ok =
          by_cond (All (Expr H)) (class.kept_class t) (t ∷ []) (sequence_if_any (place_of t) (class.extracted t)) (λ _. ((g, x), tt))
          (λ _. sequence_if_any_lem (place_of t) (class.extracted t) (place_good t g) (extracted_fit t g ok))
      by_handler x Handler.conditional e p ok =
          by_cond (All (Expr H)) (flagged t) (join_arms t (kept (test_of reductions)) (kept (consequent_of reductions)) (kept (alternate_of reductions))) []
          (λ _. conditional_fit x e ok) (λ _. tt)
      by_handler x Handler.logical_and e p ok = ((g, x), tt)
      by_handler x Handler.logical_or e p ok = ((g, x), tt)
      by_handler x Handler.elision e p ok = tt
      by_handler x Handler.spread e p ok = absurd (true≢false (sym p))
      by_handler x Handler.property e p ok = absurd (true≢false (sym p))
      by_handler x Handler.element e p ok = absurd (true≢false (sym p))
      by_handler x Handler.left_out e p ok = ((g, x), tt)

    step : (t : Tree) → All (λ t. Good t → LeavesExprs t) (trees t.kids) → Good t → LeavesExprs t
    unfolding handler
    step t ihs g =
        let hs = all_zip (λ c h g. h g) (trees t.kids) ihs (kids_good t g) in
        let o = good_head t g.0.0 in
        record {
          expr = λ x. rw (reduce_is s t) (by_handler t g hs x (handler t.head) refl (expr_by_lem t.head o.recorded o.is_included ∙ x) (good_kids t (handler t.head) refl g.0.0));
          property = λ e. let k = handled t kind.property e in rw (reduce_is s t, k) (one_expr t g hs (1 + t.head.sub) (good_kids t Handler.property k g.0.0));
        }

    pub stays : (t : Tree) → Expr H t → All (Expr H) (reduce s t)
    stays t g = (ind (λ t. Good t → LeavesExprs t) step t g.0).expr g.1
