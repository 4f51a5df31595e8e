-- At most one tree is kept of an accepted expression, handler by handler.
use Rattle.std.specs.Prelude.{Bool, true, false, not, List, [], ◌∷◌, map, ◌≡◌, refl, suc, ◌≤◌, eqb, length, drop}
use Rattle.std.proofs.Common.{true≢false, append-nil, sym, ◌∙◌, zero-le, suc-le-suc, arith, eqb-true}
use Rattle.tree.specs.Tree.{Place, Forest, nil, node, Tree, trees, count, All, ind}
use Rattle.tree.specs.Below.{and_left, and_right}
use Rattle.rules.specs.Lists.{any, every, keep_if}
use Rattle.rules.specs.Settings.{Settings, derived}
use Rattle.rules.specs.Handler.{Handler, handler, is_literal, is_spread}
use Rattle.rules.specs.Facts.{flagged, of_identifier, pure_new, pure_call, has_side_effects_or_preserved_iife, unchanged_template, only_spreads, flagged_child}
use Rattle.rules.specs.Made.{place_of}
use Rattle.rules.specs.Addition.{fold_string_addition_chain}
use Rattle.rules.specs.Class.{kept_class, extracted}
use Rattle.rules.specs.Conditional.{test_of, consequent_of, alternate_of}
use Rattle.rules.specs.Reduce.{Reduced, kept, none_one_several, stays_with, transform_template, transform_object, join_kept, sequence_if_any, fold_arguments_into_needed_expressions, without_callee, join_arms, remove_unused_expression, reduce}
use Rattle.rules.proofs.Lists.{by_cond}
use Rattle.rules.specs.Results.{reduced}
use Rattle.rules.proofs.Unfold.{reduce_is}
use Rattle.rules.proofs.Everywhere.{EverywhereIn, Everywhere}
use Rattle.rules.proofs.Shape.{is_expr, exactly, kids_by, expr_by, expr_by_lem, NodeGood, good_head, good_kids}
use Rattle.rules.proofs.Accepted.{Expr}

abbrev Single : List Tree → Type 0
Single ts = length ts ≤ 1

keep_single : (b : Bool) (t : Tree) → Single (keep_if b t)
keep_single true t = suc-le-suc zero-le
keep_single false t = zero-le

stays_single : (t : Tree) (ts : List Tree) → Single (stays_with t ts)
stays_single t [] = zero-le
stays_single t (x ∷ xs) = suc-le-suc zero-le

several_single : (p : Place) (ts : List Tree) → Single (none_one_several p ts)
several_single p [] = zero-le
several_single p (x ∷ []) = suc-le-suc zero-le
several_single p (x ∷ y ∷ ys) = suc-le-suc zero-le

sequence_single : (p : Place) (ts : List Tree) → Single (sequence_if_any p ts)
sequence_single p [] = zero-le
sequence_single p (x ∷ xs) = suc-le-suc zero-le

join_single : (p : Place) (ts : List Tree) → Single (join_kept p ts)
join_single p [] = zero-le
join_single p (x ∷ []) = suc-le-suc zero-le
join_single p (x ∷ y ∷ []) = suc-le-suc zero-le
join_single p (x ∷ y ∷ z ∷ zs) = suc-le-suc zero-le

arms_single : (t : Tree) (q cs bs : List Tree) → Single q → Single (join_arms t q cs bs)
arms_single t q [] [] h = h
arms_single t q [] (a ∷ bs) h = suc-le-suc zero-le
arms_single t q (c ∷ cs) [] h = suc-le-suc zero-le
arms_single t q (c ∷ cs) (a ∷ bs) h = suc-le-suc zero-le

module _ (s : Settings) where
  abbrev OneAtMost : Tree → Type 0
  OneAtMost t = Expr t → Single (reduce s t)

  one_kept : (f : Forest) → EverywhereIn NodeGood f → exactly 1 f ≡ true → All OneAtMost (trees f) → Single (kept (map (reduced s) (trees f)))
  one_kept nil w ok hs = zero-le
  one_kept (node h cs nil) w ok hs =
      let t : Tree = record { head = h; kids = cs } in
      rw (append-nil (reduce s t)) (hs.0 ((w.0, w.1), and_left (is_expr t) true ok))
  one_kept (node h cs (node h' cs' rest)) w ok hs =
      let two = and_left (eqb (suc (suc (count rest))) 1) (every is_expr (trees (node h cs (node h' cs' rest)))) ok in
      absurd (omega (arith, eqb-true (suc (suc (count rest))) 1 two))

  first_kept : (f : Forest) → EverywhereIn NodeGood f → every is_expr (trees f) ≡ true → All OneAtMost (trees f) → Single (kept (test_of (map (reduced s) (trees f))))
  first_kept nil w ok hs = zero-le
  first_kept (node h cs rest) w ok hs =
      let t : Tree = record { head = h; kids = cs } in
      rw (append-nil (reduce s t)) (hs.0 ((w.0, w.1), and_left (is_expr t) (every is_expr (trees rest)) ok))

  module _ (t : Tree) (g : Everywhere NodeGood t) (hs : All OneAtMost (trees t.kids)) where
    abbrev reductions : List Reduced
    reductions = map (reduced s) (trees t.kids)

    by_handler : (k : Handler) → expr_by k ≡ true → kids_by k t.head t.kids ≡ true → Single (remove_unused_expression k s t reductions)
    by_handler Handler.leaf p ok = keep_single (flagged t) t
    by_handler Handler.this p ok = keep_single (derived s) t
    by_handler Handler.void_or_not p ok = one_kept t.kids g.1 ok hs
    by_handler Handler.typeof p ok = by_cond Single (of_identifier t) [] (kept reductions) (λ _. zero-le) (λ _. one_kept t.kids g.1 ok hs)
    by_handler Handler.other_unary p ok = keep_single (flagged t) t
    by_handler Handler.sequence p ok = stays_single t (kept reductions)
    by_handler Handler.array p ok =
        by_cond Single (any is_spread (kept reductions)) (stays_with t (kept reductions)) (none_one_several (place_of t) (kept reductions))
        (λ _. stays_single t (kept reductions)) (λ _. several_single (place_of t) (kept reductions))
    by_handler Handler.template p ok =
        by_cond Single (unchanged_template t) (t ∷ []) (none_one_several (place_of t) (transform_template (place_of t) [] reductions)) (λ _. suc-le-suc zero-le)
        (λ _. several_single (place_of t) (transform_template (place_of t) [] reductions))
    by_handler Handler.object p ok =
        by_cond Single (only_spreads t) (keep_if (flagged_child t) t) (none_one_several (place_of t) (transform_object (place_of t) [] reductions)) (λ _. keep_single (flagged_child t) t)
        (λ _. several_single (place_of t) (transform_object (place_of t) [] reductions))
    by_handler Handler.comparison p ok = join_single (place_of t) (kept reductions)
    by_handler Handler.addition p ok =
        by_cond Single (flagged t) (keep_if (not (is_literal (fold_string_addition_chain t))) (fold_string_addition_chain t)) []
        (λ _. keep_single (not (is_literal (fold_string_addition_chain t))) (fold_string_addition_chain t)) (λ _. zero-le)
    by_handler Handler.other_binary p ok = keep_single (flagged t) t
    by_handler Handler.call p ok =
        by_cond Single (pure_call s t) (without_callee t reductions) (keep_if (has_side_effects_or_preserved_iife s t) t)
        (λ _. several_single (place_of t) (fold_arguments_into_needed_expressions (drop 1 reductions))) (λ _. keep_single (has_side_effects_or_preserved_iife s t) t)
    by_handler Handler.new p ok =
        by_cond Single (pure_new s t) (without_callee t reductions) (t ∷ []) (λ _. several_single (place_of t) (fold_arguments_into_needed_expressions (drop 1 reductions))) (λ _. suc-le-suc zero-le)
    by_handler Handler.class p ok =
        by_cond Single (kept_class t) (t ∷ []) (sequence_if_any (place_of t) (extracted t)) (λ _. suc-le-suc zero-le) (λ _. sequence_single (place_of t) (extracted t))
    by_handler Handler.conditional p ok =
        by_cond Single (flagged t) (join_arms t (kept (test_of reductions)) (kept (consequent_of reductions)) (kept (alternate_of reductions))) []
        (λ _. arms_single t (kept (test_of reductions)) (kept (consequent_of reductions)) (kept (alternate_of reductions))
        (first_kept t.kids g.1 (and_right (eqb (count t.kids) 3) (every is_expr (trees t.kids)) ok) hs)) (λ _. zero-le)
    by_handler Handler.logical_and p ok = suc-le-suc zero-le
    by_handler Handler.logical_or p ok = suc-le-suc zero-le
    by_handler Handler.elision p ok = zero-le
    by_handler Handler.spread p ok = keep_single (flagged t) t
    by_handler Handler.property p ok = absurd (true≢false (sym p))
    by_handler Handler.element p ok = suc-le-suc zero-le
    by_handler Handler.left_out p ok = suc-le-suc zero-le

  step : (t : Tree) → All OneAtMost (trees t.kids) → OneAtMost t
  step t hs g =
      let o = good_head t g.0.0 in
      rw (reduce_is s t)
      (by_handler t g.0 hs (handler t.head) (expr_by_lem t.head o.recorded o.is_included ∙ g.1) (good_kids t (handler t.head) refl g.0.0))

  pub at_most_one : (t : Tree) → Expr t → length (reduce s t) ≤ 1
  at_most_one = ind OneAtMost step
