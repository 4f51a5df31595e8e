use Rattle.std.proofs.Common.{refl, ◌∙◌, arith}
use Rattle.std.proofs.lemmas.Bool.Decides.{nat_tests}
use Rattle.tree.specs.Below.{all_below}
use Rattle.tree.specs.Kind.{is_expression}
use Rattle.file.specs.Kinds.{bits_of, set_is}
use Rattle.file.proofs.children.is_expression.Goals as goal

pub returns : goal.returns
unfolding all_below bits_of
returns c = c.has.ensures ∙ set_is _ is_expression refl (λ k l. grind (arith, nat_tests)) _
