use Rattle.std.proofs.Common.{rules}
use Rattle.std.proofs.lemmas.Iterator.Search.{any_from_yields_List}
use Rattle.readings.specs.Yields.{steps_yield}
use borrow.Author.Tests.{tests}
use Rattle.rules.specs.Facts.{flagged, flagged_child}
use Rattle.readings.proofs.node.Node.flagged_child.Goals as goal

pub returns : goal.returns
unfolding flagged_child
returns c = any_from_yields_List flagged c.any.new.self _ _ c.any.ensures.ran (steps_yield _ c.children.ensures.trees) (λ x b q k. search (rules, tests))
