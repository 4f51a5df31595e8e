use Rattle.std.proofs.Common.{rules}
use Rattle.std.proofs.lemmas.Iterator.Search.{any_from_yields_List}
use borrow.Author.Tests.{tests}
use Rattle.rules.specs.Handler.{is_kind, is_spread}
use Rattle.readings.specs.At.{tree_at}
use Rattle.readings.specs.Yields.{steps_yield}
use Rattle.output.proofs.list.any_spread.Goals as goal

pub returns : goal.returns
unfolding is_kind tree_at
returns c = record {
  by = λ ts d. any_from_yields_List is_spread c.any.new.self _ _ c.any.ensures.ran (steps_yield ts (c.trees_between.ensures.by ts d)) (λ x b q k. search (rules, tests));
}
