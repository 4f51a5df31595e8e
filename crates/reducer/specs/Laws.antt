-- What the walk leaves is what the rules say.
use Rattle.std.specs.Prelude.{◌≡◌, refl, Bool, true, false, cond, List, [], ◌∷◌, ◌++◌, map}
use Rattle.std.proofs.Common.{sym, ap, ◌∙◌, true≢false, append_assoc, eqb-true}
use Rattle.tree.specs.Tree.{Place, Tree}
use Rattle.rules.specs.Lists.{any, keep_if, concat_map}
use Rattle.rules.specs.Settings.{Settings}
use Rattle.rules.specs.Handler.{handler, is_kind, is_spread}
use Rattle.rules.specs.Facts.{flagged, possible_symbol}
use Rattle.rules.specs.Made.{place_of, make_array, make_template, make_object, with_children}
use Rattle.rules.specs.Reduce.{none_one_several, stays_with, flush, flush_template_before, transform_template, transform_object, fold_argument, fold_arguments_into_needed_expressions, reduce}
use Rattle.rules.specs.Results.{reduced}
use Rattle.rules.proofs.Unfold.{reduce_is}
use Rattle.tree.specs.Kind as kind
use Rattle.reducer.specs.declared.walk.Part.{Part}
use Rattle.reducer.specs.declared.walk.Part.TheVariants.{InOrder, Argument, Template, Object}
use Rattle.reducer.specs.Walked.{Progress, wraps, left_of, settled_kept, walked}

-- All that is left at the end, where what still waits makes a node at p.
abbrev at_end : (Place → List Tree → Tree) → Place → Progress → List Tree
at_end make p q = q.done ++ flush make p q.waiting

module _ (s : Settings) (p : Place) where
  pub template_walked : (w ts : List Tree) → transform_template p w (map (reduced s) ts) ≡ (walked Template s w ts).done ++ flush make_template p (walked Template s w ts).waiting
  template_walked w [] = refl
  template_walked w (t ∷ ts) = go (λ v. template_walked v ts) (possible_symbol t) (reduce s t)
    where
      after : Progress → Progress
      after q = record { done = q.done ++ (walked Template s q.waiting ts).done; waiting = (walked Template s q.waiting ts).waiting }

      Law : Type 0
      Law = (v : List Tree) → transform_template p v (map (reduced s) ts) ≡ at_end make_template p (walked Template s v ts)

      left : Law → (r : List Tree) → flush_template_before w r (λ v. transform_template p v (map (reduced s) ts)) ≡ at_end make_template p (after (settled_kept w r))
      left law [] = law w
      left law (x ∷ xs) =
          ap (λ l. flush make_template (place_of x) w ++ ((x ∷ xs) ++ l)) (law [])
          ∙ sym (ap (◌++ flush make_template p (walked Template s [] ts).waiting) (append_assoc (flush make_template (place_of x) w) (x ∷ xs) (walked Template s [] ts).done)
          ∙ append_assoc (flush make_template (place_of x) w) ((x ∷ xs) ++ (walked Template s [] ts).done) (flush make_template p (walked Template s [] ts).waiting)
          ∙ ap (flush make_template (place_of x) w ++◌) (append_assoc (x ∷ xs) (walked Template s [] ts).done (flush make_template p (walked Template s [] ts).waiting)))

      go : Law → (b : Bool) (r : List Tree)
          → cond b (transform_template p (w ++ (t ∷ [])) (map (reduced s) ts)) (flush_template_before w r (λ v. transform_template p v (map (reduced s) ts)))
          ≡ at_end make_template p (after (cond b (record { done = []; waiting = w ++ (t ∷ []) }) (settled_kept w r)))
      go law true r = law (w ++ (t ∷ []))
      go law false r = left law r

  pub object_walked : (w ts : List Tree) → transform_object p w (map (reduced s) ts) ≡ (walked Object s w ts).done ++ flush make_object p (walked Object s w ts).waiting
  object_walked w [] = refl
  object_walked w (t ∷ ts) = go (λ v. object_walked v ts) (is_spread t)
    where
      Law : Type 0
      Law = (v : List Tree) → transform_object p v (map (reduced s) ts) ≡ at_end make_object p (walked Object s v ts)

      after : Progress → Progress
      after q = record { done = q.done ++ (walked Object s q.waiting ts).done; waiting = (walked Object s q.waiting ts).waiting }

      go : Law → (b : Bool)
          → cond b (transform_object p (w ++ (t ∷ [])) (map (reduced s) ts)) (flush make_object (place_of t) w ++ (reduce s t ++ transform_object p [] (map (reduced s) ts)))
          ≡ at_end make_object p (after (cond b (record { done = []; waiting = w ++ (t ∷ []) }) (record { done = flush make_object (place_of t) w ++ reduce s t; waiting = [] })))
      go law true = law (w ++ (t ∷ []))
      go law false =
          ap (λ l. flush make_object (place_of t) w ++ (reduce s t ++ l)) (law [])
          ∙ sym (ap (◌++ flush make_object p (walked Object s [] ts).waiting) (append_assoc (flush make_object (place_of t) w) (reduce s t) (walked Object s [] ts).done)
          ∙ append_assoc (flush make_object (place_of t) w) (reduce s t ++ (walked Object s [] ts).done) (flush make_object p (walked Object s [] ts).waiting)
          ∙ ap (flush make_object (place_of t) w ++◌) (append_assoc (reduce s t) (walked Object s [] ts).done (flush make_object p (walked Object s [] ts).waiting)))

-- With none waiting and none that waits, what is left of each child, one after the other.
settled_none : (r : List Tree) → settled_kept [] r ≡ record { done = r; waiting = [] }
settled_none [] = refl
settled_none (x ∷ xs) = refl

module _ (s : Settings) where
  pub in_order_walked : (ts : List Tree) → walked InOrder s [] ts ≡ record { done = concat_map (reduce s) ts; waiting = [] }
  in_order_walked [] = refl
  in_order_walked (t ∷ ts) = rw (settled_none (reduce s t), in_order_walked ts)

  pub arguments_walked : (ts : List Tree) → walked Argument s [] ts ≡ record { done = fold_arguments_into_needed_expressions (map (reduced s) ts); waiting = [] }
  arguments_walked [] = refl
  arguments_walked (t ∷ ts) = rw (settled_none (fold_argument (reduced s t)), arguments_walked ts)

  -- A spread among arguments: its array if it is flagged.
  spread_kept : (t : Tree) → is_spread t ≡ true → reduce s t ≡ keep_if (flagged t) t
  unfolding is_kind handler
  spread_kept t e = reduce_is s t ∙ rw (eqb-true t.head.kind kind.spread e)

  fold_spread : (t : Tree) → is_spread t ≡ true → fold_argument (reduced s t) ≡ keep_if (flagged t) (make_array (place_of t) (t ∷ []))
  unfolding make_array with_children
  fold_spread t e = rw (e, spread_kept t e) (go (flagged t))
    where
      array : Tree
      array = make_array (place_of t) (t ∷ [])

      go : (b : Bool)
          → cond (any is_spread (keep_if b t ++ [])) (stays_with array (keep_if b t ++ [])) (none_one_several (place_of t) (keep_if b t ++ []))
          ≡ keep_if b array
      go true = rw e
      go false = refl

  pub left_wrapped : (part : Part) (t : Tree) → wraps part t ≡ true → left_of part s t ≡ keep_if (flagged t) (make_array (place_of t) (t ∷ []))
  left_wrapped InOrder t e = absurd (true≢false (sym e))
  left_wrapped Argument t e = fold_spread t e
  left_wrapped Template t e = absurd (true≢false (sym e))
  left_wrapped Object t e = absurd (true≢false (sym e))

  pub left_reduced : (part : Part) (t : Tree) → wraps part t ≡ false → left_of part s t ≡ reduce s t
  left_reduced InOrder t e = refl
  left_reduced Argument t e = rw e
  left_reduced Template t e = refl
  left_reduced Object t e = refl
