-- The place that a value of the code says, and a place as it is read.
use Rattle.std.specs.Prelude.{List, ℕ}
use Rattle.tree.specs.Tree as tree
use Rattle.tree.specs.Layout.{version_in}
use Rattle.tree.specs.Fields.{place_in}
use Rattle.fields.specs.declared.Place.{Place}

abbrev pub as_place : Place → tree.Place
as_place p = record { start = p.start; end = p.end }

-- The same as the records of a list of bytes say it.
abbrev pub said_in : List ℕ → Place → tree.Place
said_in s p = place_in (version_in s) (as_place p)
