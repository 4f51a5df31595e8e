-- What a handler's rule leaves of a node is what its chosen outcome does.
use Rattle.std.specs.Prelude.{◌≡◌, refl, Bool, true, false, cond, List, [], ◌∷◌, map}
use Rattle.std.proofs.Common.{ap, ◌∙◌}
use Rattle.tree.specs.Tree.{Tree, trees}
use Rattle.rules.specs.Lists.{any}
use Rattle.rules.specs.Settings.{Settings, derived}
use Rattle.rules.specs.Handler.{Handler, handler, is_spread}
use Rattle.rules.specs.Facts.{flagged, of_identifier, pure_new, pure_call, has_side_effects_or_preserved_iife, unchanged_template, only_spreads, flagged_child}
use Rattle.rules.specs.Made.{place_of}
use Rattle.rules.specs.Class.{kept_class}
use Rattle.rules.specs.Conditional.{test_of, arms_of, consequent_of, alternate_of}
use Rattle.rules.specs.Reduce.{Reduced, kept, none_one_several, stays_with, join_kept, fold_arguments_into_needed_expressions, without_callee, join_arms, remove_unused_expression}
use Rattle.rules.proofs.Lists.{take_map, drop_map}
use Rattle.rules.specs.Results.{reduced}
use Rattle.rules.proofs.Unfold.{reduce_is, kept_is}
use Rattle.handlers.specs.declared.outcome.Outcome.{Outcome}
use Rattle.handlers.specs.declared.outcome.Outcome.TheVariants.{Removable, Unchanged, Unwrapped, Arguments, Addition, Class, Conditional}
use Rattle.handlers.specs.Outcome.{outcome, HasChildren, HandledAs}
use Rattle.handlers.specs.Choice.{chosen}

-- What a handler's outcomes count on in the node.
abbrev pub Counted : Handler → Tree → Type 0
Counted Handler.leaf t = Unit {0}
Counted Handler.this t = Unit {0}
Counted Handler.void_or_not t = Unit {0}
Counted Handler.typeof t = Unit {0}
Counted Handler.other_unary t = Unit {0}
Counted Handler.sequence t = Unit {0}
Counted Handler.array t = Unit {0}
Counted Handler.template t = Unit {0}
Counted Handler.object t = Unit {0}
Counted Handler.comparison t = Unit {0}
Counted Handler.addition t = HasChildren Addition t
Counted Handler.other_binary t = Unit {0}
Counted Handler.call t = HasChildren Arguments t
Counted Handler.new t = HasChildren Arguments t
Counted Handler.class t = HasChildren Class t
Counted Handler.conditional t = HasChildren Conditional t
Counted Handler.logical_and t = Unit {0}
Counted Handler.logical_or t = Unit {0}
Counted Handler.elision t = Unit {0}
Counted Handler.spread t = Unit {0}
Counted Handler.property t = Unit {0}
Counted Handler.element t = Unit {0}
Counted Handler.left_out t = Unit {0}

module _ (s : Settings) (t : Tree) where
  -- What the outcome o leaves is l.
  record Leaves (o : Outcome) (l : List Tree) : Type 0 where
    is : l ≡ outcome o s t
    has : HasChildren o t

  -- By a test.
  either : (b : Bool) {o p : Outcome} {l m : List Tree} → Leaves o l → Leaves p m → Leaves (cond b o p) (cond b l m)
  either true x y = x
  either false x y = y

  removed : Leaves Removable []
  removed = record { is = refl; has = tt }

  unchanged : Leaves Unchanged (t ∷ [])
  unchanged = record { is = refl; has = tt }

  unwrapped : Leaves Unwrapped (kept (map (reduced s) (trees t.kids)))
  unwrapped = record { is = kept_is s (trees t.kids); has = tt }

  arguments : HasChildren Arguments t → Leaves Arguments (without_callee t (map (reduced s) (trees t.kids)))
  arguments n = record {
    is = ap (λ (l : List Reduced). none_one_several (place_of t) (fold_arguments_into_needed_expressions l)) (drop_map (reduced s) 1 (trees t.kids));
    has = n;
  }

  conditional : HasChildren Conditional t
      → Leaves Conditional (join_arms t (kept (test_of (map (reduced s) (trees t.kids)))) (kept (consequent_of (map (reduced s) (trees t.kids)))) (kept (alternate_of (map (reduced s) (trees t.kids)))))
  conditional n = record {
    is =
        let ts = trees t.kids in
        rw (take_map (reduced s) 1 ts, drop_map (reduced s) 1 ts, take_map (reduced s) 1 (arms_of ts), drop_map (reduced s) 1 (arms_of ts), kept_is s (test_of ts), kept_is s (consequent_of ts), kept_is s (alternate_of ts));
    has = n;
  }

  by_handler : (h : Handler) → Counted h t → Leaves (chosen h s t) (remove_unused_expression h s t (map (reduced s) (trees t.kids)))
  by_handler Handler.leaf n = either (flagged t) unchanged removed
  by_handler Handler.this n = either (derived s) unchanged removed
  by_handler Handler.void_or_not n = unwrapped
  by_handler Handler.typeof n = either (of_identifier t) removed unwrapped
  by_handler Handler.other_unary n = either (flagged t) unchanged removed
  by_handler Handler.sequence n = record { is = ap (stays_with t) (kept_is s (trees t.kids)); has = tt }
  by_handler Handler.array n = record {
    is = ap (λ (l : List Tree). cond (any is_spread l) (stays_with t l) (none_one_several (place_of t) l)) (kept_is s (trees t.kids));
    has = tt;
  }
  by_handler Handler.template n = either (unchanged_template t) unchanged (record { is = refl; has = tt })
  by_handler Handler.object n = either (only_spreads t) (either (flagged_child t) unchanged removed) (record { is = refl; has = tt })
  by_handler Handler.comparison n = record { is = ap (join_kept (place_of t)) (kept_is s (trees t.kids)); has = tt }
  by_handler Handler.addition n = either (flagged t) (record { is = refl; has = n }) removed
  by_handler Handler.other_binary n = either (flagged t) unchanged removed
  by_handler Handler.call n = either (pure_call s t) (arguments n) (either (has_side_effects_or_preserved_iife s t) unchanged removed)
  by_handler Handler.new n = either (pure_new s t) (arguments n) unchanged
  by_handler Handler.class n = either (kept_class t) unchanged (record { is = refl; has = n })
  by_handler Handler.conditional n = either (flagged t) (conditional n) removed
  by_handler Handler.logical_and n = unchanged
  by_handler Handler.logical_or n = unchanged
  by_handler Handler.elision n = removed
  by_handler Handler.spread n = either (flagged t) unchanged removed
  by_handler Handler.property n = unwrapped
  by_handler Handler.element n = unchanged
  by_handler Handler.left_out n = unchanged

  pub handled : (h : Handler) → handler t.head ≡ h → Counted h t → HandledAs s t (chosen h s t)
  handled h e n = record {
    is = reduce_is s t ∙ ap (λ (k : Handler). remove_unused_expression k s t (map (reduced s) (trees t.kids))) e ∙ (by_handler h n).is;
    has = (by_handler h n).has;
  }
