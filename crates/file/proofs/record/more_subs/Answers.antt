use Rattle.std.proofs.Common.{refl, ◌∙◌, arith}
use Rattle.std.proofs.lemmas.Bool.Decides.{nat_tests}
use Rattle.tree.specs.Below.{all_below}
use Rattle.file.specs.Kinds.{bits_of, table_is}
use Rattle.file.specs.Bounds.{more_subs}
use Rattle.file.proofs.record.more_subs.Goals as goal

pub returns : goal.returns
unfolding all_below bits_of
returns c = c.bits_of.ensures ∙ table_is _ _ more_subs refl (λ k l. grind (arith, nat_tests)) _
