use Rattle.std.specs.Prelude.{refl}
use Rattle.std.proofs.Common.{◌<◌, ◌+◌, arith, length, ap}
use Rattle.readings.specs.At.{step_node, step_inside, step_ordered, step_held, step_trees, none_left}
use Rattle.readings.proofs.node.TreesIterator.next.Goals as goal

pub returns-then-self-clause-steps : goal.returns-then-self-clause-steps
returns-then-self-clause-steps c = let e = none_left _ _ _ c.if-self.true in ((e, e), refl, tt, (refl, c.if-self.true))

pub invariant_of-node : goal.invariant_of-node
invariant_of-node c =
    let w = c.args.self.now in
    let l : w.at < w.end = omega (arith, w.ordered, c.if-self.false) in
    record { stands = step_node _ _ _ w.held l }

pub invariant_of-record : goal.invariant_of-record
invariant_of-record c =
    let w = c.args.self.now in
    let l : w.at < w.end = omega (arith, w.ordered, c.if-self.false) in
    record { inside = step_inside _ _ _ w.held l }

pub invariant_of-self : goal.invariant_of-self
invariant_of-self c =
    let w = c.args.self.now in
    let l : w.at < w.end = omega (arith, w.ordered, c.if-self.false) in
    record { ordered = step_ordered _ _ _ w.held l _ c.size.ensures.records; held = step_held _ _ _ w.held l _ c.size.ensures.records }

pub returns-clause-steps : goal.returns-clause-steps
returns-clause-steps c =
    let w = c.args.self.now in
    let l : w.at < w.end = omega (arith, w.ordered, c.if-self.false) in
    (step_trees _ _ _ w.held l _ c.size.ensures.records, refl, refl, (refl, (refl, ap (w.at +◌) c.size.ensures.records)))

pub returns-clause-goes : goal.returns-clause-goes
returns-clause-goes c =
    let w = c.args.self.now in
    let l : w.at < w.end = omega (arith, w.ordered, c.if-self.false) in
    record { on = λ f. (tt, tt, omega (arith, ap length (step_trees _ _ _ w.held l _ c.size.ensures.records))); keeps = tt; rests = λ f. tt }
