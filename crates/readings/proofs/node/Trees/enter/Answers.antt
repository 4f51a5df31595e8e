use Rattle.std.specs.Prelude.{◌<◌}
use Rattle.std.proofs.Common.{arith, sym, ap, ◌∙◌}
use Rattle.readings.specs.At.{none_left}
use Rattle.readings.specs.Entered.{entered, entered_held, entered_trees}
use Rattle.readings.proofs.node.Trees.enter.Goals as goal

pub invariant_of-self : goal.invariant_of-self
invariant_of-self c =
    let w = c.args.self.now in
    let l : w.at < w.end = omega (arith, w.ordered, c.if-self.true) in
    record { ordered = omega (arith, l); held = entered_held _ _ _ w.held l }

pub returns-then-self : goal.returns-then-self
returns-then-self c =
    let w = c.args.self.now in
    let l : w.at < w.end = omega (arith, w.ordered, c.if-self.true) in
    entered_trees _ _ _ w.held l

pub returns-else-self : goal.returns-else-self
returns-else-self c = let e = none_left _ _ _ c.if-self.false in e ∙ sym (ap entered e)
