use Rattle.std.proofs.Common.{sym, ◌∙◌}
use Rattle.tree.specs.Below.{all_fails}
use Rattle.file.proofs.record.all_taken.Goals as goal

pub returns-then-not-taken : goal.returns-then-not-taken
returns-then-not-taken c = sym (all_fails _ _ _ (sym c.taken.ensures ∙ c.if-not-taken.true) c.loop-at-test.true)
