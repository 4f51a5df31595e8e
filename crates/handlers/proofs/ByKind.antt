-- What becomes of a node that passes its tests, by its kind.
use Rattle.std.specs.Prelude.{◌≡◌, true, ◌≤◌}
use Rattle.std.proofs.Common.{subst, arith}
use Rattle.tree.specs.Tree.{Tree}
use Rattle.tree.specs.Kind as kind
use Rattle.tree.specs.Children.{node_ok}
use Rattle.rules.specs.Settings.{Settings, derived}
use Rattle.rules.specs.Facts.{flagged}
use Rattle.handlers.specs.declared.outcome.Outcome.{Outcome}
use Rattle.handlers.specs.declared.outcome.Outcome.TheVariants.{Removable, Unwrapped}
use Rattle.handlers.specs.Outcome.{HandledAs}
use Rattle.handlers.specs.Choice.{stays_if, choice}
use Rattle.handlers.specs.Kinds.{choice_handled, at_leaf, at_this, at_elision, at_spread, at_property}

module _ (s : Settings) (t : Tree) (ok : node_ok t.head t.kids ≡ true) where
  handles : {o : Outcome} → choice s t ≡ o → HandledAs s t o
  handles e = subst (λ (p : Outcome). HandledAs s t p) e (choice_handled s t ok)

  -- "removable exactly if not flagged"
  pub handles_leaf : (t.head.kind ≡ 0 → ⊥) → t.head.kind ≤ 5 → HandledAs s t (stays_if (flagged t))
  handles_leaf z l = handles (at_leaf s t (omega arith) l)

  -- "removable unless the derived setting is on, flagged or not"
  pub handles_this : t.head.kind ≡ kind.this → HandledAs s t (stays_if (derived s))
  handles_this e = handles (at_this s t e)

  -- An array's elision goes.
  pub handles_elision : t.head.kind ≡ kind.elision → HandledAs s t Removable
  handles_elision e = handles (at_elision s t e)

  -- An array's unflagged spread goes, and a flagged one stays.
  pub handles_spread : t.head.kind ≡ kind.spread → HandledAs s t (stays_if (flagged t))
  handles_spread e = handles (at_spread s t e)

  -- Of a property its key node, then its value, is reduced.
  pub handles_property : t.head.kind ≡ kind.property → HandledAs s t Unwrapped
  handles_property e = handles (at_property s t e)
