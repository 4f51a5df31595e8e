use Rattle.std.proofs.Common.{rules}
use Rattle.std.proofs.lemmas.Iterator.Search.{any_from_yields_List}
use Rattle.readings.specs.Yields.{steps_yield}
use borrow.Author.Tests.{tests}
use Rattle.readings.specs.Class.{keeps_class}
use Rattle.readings.proofs.node.Node.elements_keep_class.Goals as goal

pub returns : goal.returns
returns c = any_from_yields_List keeps_class c.any.new.self _ _ c.any.ensures.ran (steps_yield _ c.heritage_and_elements.ensures.others) (λ x b q k. search (rules, tests))
