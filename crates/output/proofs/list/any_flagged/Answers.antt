use Rattle.std.proofs.Common.{rules}
use Rattle.std.proofs.lemmas.Iterator.Search.{any_from_yields_List}
use borrow.Author.Tests.{tests}
use Rattle.rules.specs.Facts.{flagged}
use Rattle.readings.specs.Yields.{steps_yield}
use Rattle.output.proofs.list.any_flagged.Goals as goal

pub returns : goal.returns
returns c = record {
  by = λ ts d. any_from_yields_List flagged c.any.new.self _ _ c.any.ensures.ran (steps_yield ts (c.trees_between.ensures.by ts d)) (λ x b q k. search (rules, tests));
}
