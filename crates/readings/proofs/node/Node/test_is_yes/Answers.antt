use Rattle.std.proofs.Common.{ap, sym, ◌∙◌}
use Rattle.rules.specs.Facts.{test_is_yes}
use Rattle.rules.specs.Settings.{counts_as_yes}
use Rattle.readings.specs.At.{tree_at}
use Rattle.readings.specs.Given.{given}
use Rattle.readings.specs.View.{tree}
use Rattle.readings.specs.Firsts.{first_found, first_none}
use Rattle.readings.proofs.node.Node.test_is_yes.Goals as goal

pub returns-in-Some : goal.returns-in-Some
unfolding test_is_yes tree_at
returns-in-Some c =
    c.counts_as_yes.ensures
    ∙ ap (counts_as_yes (given c.args.settings)) c.place.ensures
    ∙ first_found (λ x. counts_as_yes (given c.args.settings) x.head.place) (tree c.args.self) (tree c.in-Some.test) _ (sym c.children.ensures.trees ∙ c.in-Some.ensures.steps.0)

pub returns-in-None : goal.returns-in-None
unfolding test_is_yes
returns-in-None c =
    first_none (λ x. counts_as_yes (given c.args.settings) x.head.place) (tree c.args.self) (sym c.children.ensures.trees ∙ c.in-None.ensures.steps.0.0)
