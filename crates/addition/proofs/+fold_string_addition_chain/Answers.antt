use Rattle.std.proofs.Common.{sym, ◌∙◌}
use Rattle.readings.specs.Alone.{own_string_fact}
use Rattle.addition.specs.Fold.{sum_folds, sides_given}
use Rattle.addition.proofs.+fold_string_addition_chain.Goals as goal

pub fold_sides-next-requires : goal.fold_sides-next-requires
fold_sides-next-requires t c = sides_given c.requires.0 c.requires.1 _ c.in-Some.right (sym c.in-Some.ensures.sides) c.in-Some.ensures.source.1 c.fold_string_addition_chain-folded.ensures

pub returns-else-folded : goal.returns-else-folded
returns-else-folded t c =
    sum_folds _ _ _ (sym c.in-Some.ensures.sides) c.fold_string_addition_chain-folded.ensures c.fold_sides-next.ensures
    (rw c.if-folded.false (c.has_string_fact-string.ensures ∙ own_string_fact _ _))
