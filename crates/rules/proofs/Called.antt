-- 02, N5: what a call is where the rule that stands before purity keeps it, and which calls are no longer pure.
use Rattle.std.specs.Prelude.{Bool, true, false, not, ◌&&◌, ◌||◌, [], ◌∷◌, ◌++◌, map, ◌≡◌, refl}
use Rattle.std.proofs.Math.Bool.{and-true}
use Rattle.std.proofs.Common.{sym, ◌∙◌, ap}
use Rattle.tree.specs.Tree.{Tree, trees}
use Rattle.tree.specs.Kind as kind
use Rattle.rules.specs.Settings.{Settings}
use Rattle.rules.specs.Handler.{Handler, is_kind}
use Rattle.rules.specs.Facts.{flagged, preserved_iife, pure_call, has_side_effects_or_preserved_iife}
use Rattle.rules.specs.Reduce.{remove_unused_expression, reduce}
use Rattle.rules.specs.Effects.{effects, effects_of, itself_if}
use Rattle.rules.specs.Reads.{reads}
use Rattle.rules.specs.ReadsBy.{reads_by}
use Rattle.rules.proofs.Lists.{or_true_r}
use Rattle.rules.specs.Results.{reduced, read_in}
use Rattle.rules.proofs.Unfold.{reduce_is, reads_is, in_order_is}
use Rattle.rules.proofs.Facts.{call_handled}
use Rattle.rules.proofs.Effects.{own}

-- Pure by 01's rule is `pure` or `free`; the latter is said of an identifier alone, which is no function.
pub before_purity : (shake function pure free : Bool) → (function ≡ true → free ≡ false)
    → (not (shake && function) && (pure || free)) ≡ ((pure || free) && not (shake && (function && pure)))
before_purity true true true free h = refl
before_purity true true false free h = rw (h refl)
before_purity true false pure free h = sym (and-true (pure || free))
before_purity false function pure free h = sym (and-true (pure || free))

module _ (s : Settings) (t : Tree) (call : is_kind kind.call t ≡ true) (preserved : preserved_iife s t ≡ true) where
  impure : pure_call s t ≡ false
  unfolding pure_call
  impure = rw preserved

  stays : has_side_effects_or_preserved_iife s t ≡ true
  unfolding has_side_effects_or_preserved_iife
  stays = or_true_r (flagged t) (preserved_iife s t) preserved

  pub whole : reduce s t ≡ t ∷ []
  whole = reduce_is s t ∙ ap (λ k. remove_unused_expression k s t (map (reduced s) (trees t.kids))) (call_handled t call) ∙ rw (impure, stays)

  pub listed : effects s t ≡ effects_of s (trees t.kids) ++ itself_if (flagged t) t
  listed = own s t Handler.call (call_handled t call) ∙ rw impure (ap (◌++ itself_if (flagged t) t) (in_order_is s (trees t.kids)))

  pub unread : reads s t ≡ []
  unread = reads_is s t ∙ ap (λ k. reads_by k s t (map (read_in s) (trees t.kids))) (call_handled t call) ∙ rw (impure, stays)
