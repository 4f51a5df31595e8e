use Rattle.std.proofs.Common.{sym, ◌∙◌}
use Rattle.addition.specs.Fold.{literal_removed, other_stays}
use Rattle.addition.proofs.remove_unused_addition.Goals as goal

pub returns-then-is_kind : goal.returns-then-is_kind
returns-then-is_kind c = literal_removed c.fold_string_addition_chain-folded.ensures (sym c.is_kind.ensures ∙ c.if-is_kind.true)

pub returns : goal.returns
returns c = other_stays c.fold_string_addition_chain-folded.ensures (sym c.is_kind.ensures ∙ c.if-is_kind.false)
