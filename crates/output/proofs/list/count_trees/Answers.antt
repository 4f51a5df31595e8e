use Rattle.std.proofs.Common.{◌-◌, arith, inl}
use Rattle.std.proofs.lemmas.Iterator.Consumers.{count_from_yields_List}
use Rattle.readings.specs.At.{forest_at}
use Rattle.readings.specs.Yields.{steps_yield}
use Rattle.output.specs.Lists.{few_trees}
use Rattle.output.proofs.list.count_trees.Goals as goal

pub count-requires-clause-fits : goal.count-requires-clause-fits
count-requires-clause-fits c =
    let w = c.trees_between.result in
    inl (omega (arith, few_trees (forest_at w.src.now w.at (w.end - w.at)), w.held.1, c.trees_between.type_inv))

pub returns : goal.returns
returns c = record { by = λ ts d. count_from_yields_List c.trees_between.result _ c.count.ensures.ran (steps_yield ts (c.trees_between.ensures.by ts d)) }
