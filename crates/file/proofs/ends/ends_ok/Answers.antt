use Rattle.std.proofs.Common.{sym, ap, ◌∙◌}
use Rattle.tree.specs.Below.{all_fails}
use Rattle.tree.specs.Layout.{version_by}
use Rattle.file.specs.Ends.{ends_none, end_bad}
use Rattle.file.proofs.ends.ends_ok.Goals as goal

pub returns-then-not-has_ends : goal.returns-then-not-has_ends
returns-then-not-has_ends c = sym (ends_none _ (c.has_ends.ensures ∙ ap version_by c.if-not-has_ends.true) _)

pub returns-then-place : goal.returns-then-place
returns-then-place c = sym (all_fails _ _ _ (end_bad c.place-place.ensures c.if-place.true) c.loop-at-test.true)
