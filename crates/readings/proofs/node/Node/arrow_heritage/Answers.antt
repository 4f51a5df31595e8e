use Rattle.std.specs.Prelude.{◌≡◌, false, [], ◌∷◌}
use Rattle.std.proofs.Common.{sym, ap, ◌∙◌}
use Rattle.std.proofs.Math.Bool.{or-false}
use Rattle.tree.specs.Tree.{Tree}
use Rattle.rules.specs.Class.{arrow_heritage, heritage}
use Rattle.rules.specs.Handler.{is_arrow}
use Rattle.readings.specs.Sequence.{arrow_last, last_or_itself}
use Rattle.readings.specs.View.{tree}
use Rattle.readings.proofs.node.Node.arrow_heritage.Goals as goal

-- By the heritage, if there is any.
by_heritage : (t b : Tree) → b ∷ [] ≡ heritage t → arrow_heritage t ≡ is_arrow (last_or_itself b)
unfolding arrow_heritage
by_heritage t b e = rw (← e) (or-false _ ∙ arrow_last b)

without_heritage : (t : Tree) → [] ≡ heritage t → false ≡ arrow_heritage t
unfolding arrow_heritage
without_heritage t e = rw (← e)

pub returns-in-Some : goal.returns-in-Some
returns-in-Some c =
    c.is_kind.ensures
    ∙ ap is_arrow c.last_expression_in_sequence.ensures.last
    ∙ sym (by_heritage (tree c.args.self) (tree c.in-Some.base) (rw c.in-Some.is at c.heritage_and_elements.ensures.first))

pub returns-in-None : goal.returns-in-None
returns-in-None c = without_heritage (tree c.args.self) (rw c.in-None.is at c.heritage_and_elements.ensures.first)
