use Rattle.output.specs.Lists.{spanned_after, spanned_held, spans_list}
use Rattle.output.proofs.list.trees_between.Goals as goal

pub invariant_of-result : goal.invariant_of-result
invariant_of-result c = record { ordered = spanned_after c.requires; held = spanned_held c.requires }

pub returns : goal.returns
returns c = record { by = spans_list }
