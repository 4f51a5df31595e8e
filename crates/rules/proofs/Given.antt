-- Reducing reads no place that counts as yes, nor does a purity.
use Rattle.std.specs.Prelude.{List, ◌≡◌, ℕ}
use Rattle.std.proofs.Math.Path.{refl}
use Rattle.tree.specs.Tree.{Tree, recur}
use Rattle.rules.specs.Settings.{Settings, given, annotations, tree_shake_only, derived}
use Rattle.rules.specs.Handler.{Handler, handler}
use Rattle.rules.specs.Facts.{listed, pure_new, pure_call_by01, preserved_iife, pure_call, has_side_effects_or_preserved_iife}
use Rattle.rules.specs.Reduce.{Reduced, remove_unused_expression, reduce_rule, reduce}

module _ (places : List ℕ) (s : Settings) where
  pub pure_new_given : (t : Tree) → pure_new (given places s) t ≡ pure_new s t
  unfolding annotations listed pure_new
  pure_new_given t = refl

  pub pure_call_given : (t : Tree) → pure_call (given places s) t ≡ pure_call s t
  unfolding annotations tree_shake_only listed pure_new pure_call_by01 preserved_iife pure_call
  pure_call_given t = refl

  by_handler : (k : Handler) (t : Tree) (cs : List Reduced) → remove_unused_expression k (given places s) t cs ≡ remove_unused_expression k s t cs
  unfolding annotations tree_shake_only derived listed pure_new pure_call_by01 preserved_iife pure_call has_side_effects_or_preserved_iife
  by_handler Handler.leaf t cs = refl
  by_handler Handler.this t cs = refl
  by_handler Handler.void_or_not t cs = refl
  by_handler Handler.typeof t cs = refl
  by_handler Handler.other_unary t cs = refl
  by_handler Handler.sequence t cs = refl
  by_handler Handler.array t cs = refl
  by_handler Handler.template t cs = refl
  by_handler Handler.object t cs = refl
  by_handler Handler.comparison t cs = refl
  by_handler Handler.addition t cs = refl
  by_handler Handler.other_binary t cs = refl
  by_handler Handler.call t cs = refl
  by_handler Handler.new t cs = refl
  by_handler Handler.class t cs = refl
  by_handler Handler.conditional t cs = refl
  by_handler Handler.logical_and t cs = refl
  by_handler Handler.logical_or t cs = refl
  by_handler Handler.elision t cs = refl
  by_handler Handler.spread t cs = refl
  by_handler Handler.property t cs = refl
  by_handler Handler.element t cs = refl
  by_handler Handler.left_out t cs = refl

  pub reduce_given : (t : Tree) → reduce (given places s) t ≡ reduce s t
  unfolding reduce reduce_rule
  reduce_given t = λ i. recur (λ t cs. by_handler (handler t.head) t cs i) t
