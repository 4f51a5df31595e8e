use Rattle.std.proofs.Common.{rules}
use Rattle.std.proofs.lemmas.Iterator.Search.{any_from_yields_List}
use Rattle.readings.specs.Yields.{steps_yield}
use borrow.Author.Tests.{tests}
use Rattle.rules.specs.Class.{decorated_element}
use Rattle.readings.specs.Alone.{own}
use Rattle.readings.proofs.node.Node.decorated_elements.Goals as goal

pub returns : goal.returns
returns c = any_from_yields_List decorated_element c.any.new.self _ _ c.any.ensures.ran (steps_yield _ c.heritage_and_elements.ensures.others) (λ x b q k. search (rules, tests, own))
