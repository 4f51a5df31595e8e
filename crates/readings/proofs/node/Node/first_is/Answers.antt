use Rattle.std.proofs.Common.{sym, ◌∙◌}
use Rattle.fields.specs.Kind.{number_of}
use Rattle.rules.specs.Handler.{is_kind}
use Rattle.readings.specs.View.{tree}
use Rattle.readings.specs.Firsts.{first_found}
use Rattle.readings.proofs.node.Node.first_is.Goals as goal

pub returns-in-Some : goal.returns-in-Some
returns-in-Some c =
    c.is_kind.ensures
    ∙ first_found (is_kind (number_of c.args.kind)) (tree c.args.self) (tree c.in-Some.first) _ (sym c.children.ensures.trees ∙ c.in-Some.ensures.steps.0)
