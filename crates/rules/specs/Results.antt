-- A node beside its own results: what is left of it, what it evaluates to, and what is read in it.
use Rattle.tree.specs.Tree.{Tree}
use Rattle.rules.specs.Settings.{Settings}
use Rattle.rules.specs.Reduce.{Reduced, reduce}
use Rattle.rules.specs.Effects.{Evaluated, evaluate}
use Rattle.rules.specs.Reads.{ReadIn, reads}

module _ (s : Settings) where
  abbrev pub reduced : Tree → Reduced
  reduced t = record { tree = t; result = reduce s t }

  abbrev pub evaluated : Tree → Evaluated
  evaluated t = record { tree = t; result = evaluate s t }

  abbrev pub read_in : Tree → ReadIn
  read_in t = record { tree = t; result = reads s t }
