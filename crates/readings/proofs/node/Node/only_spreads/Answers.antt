use Rattle.std.proofs.Common.{rules}
use Rattle.std.proofs.lemmas.Iterator.Search.{all_from_yields_List}
use Rattle.readings.specs.Yields.{steps_yield}
use borrow.Author.Tests.{tests}
use Rattle.rules.specs.Facts.{only_spreads}
use Rattle.rules.specs.Handler.{is_spread}
use Rattle.readings.proofs.node.Node.only_spreads.Goals as goal

pub returns : goal.returns
unfolding only_spreads
returns c = all_from_yields_List is_spread c.all.new.self _ _ c.all.ensures.ran (steps_yield _ c.children.ensures.trees) (λ x b q k. search (rules, tests))
