use Rattle.std.proofs.Common.{refl, ◌∙◌, arith}
use Rattle.std.proofs.lemmas.Bool.Decides.{nat_tests}
use Rattle.tree.specs.Below.{all_below}
use Rattle.file.specs.Kinds.{bits_of, table_is}
use Rattle.file.specs.Facts.{never_kind}
use Rattle.file.proofs.record.never_kind.Goals as goal

pub returns : goal.returns
unfolding all_below bits_of
returns c = c.bits_of.ensures ∙ table_is _ _ never_kind refl (λ k l. grind (arith, nat_tests)) _
