use Rattle.std.proofs.Common.{ap, ◌∙◌, ◌<◌, arith}
use Rattle.effects.specs.Plan.{is_passed}
use Rattle.effects.specs.Passed.{passed_below}
use Rattle.effects.proofs.plan.is_passed.Goals as goal

pub returns : goal.returns
returns c = let l : c.kind-kind.result < 32 = omega arith in passed_below c.kind-kind.result l ∙ ap is_passed c.kind-kind.ensures
