use Rattle.std.proofs.Common.{sym, ◌∙◌}
use Rattle.tree.specs.Below.{and_fails, all_fails}
use Rattle.tree.specs.Refusal.{shape_ok}
use Rattle.file.proofs.children.shape_ok.Goals as goal

pub returns-then-not-shape_at : goal.returns-then-not-shape_at
unfolding shape_ok
returns-then-not-shape_at c = rw (← c.requires.1) (sym (and_fails _ (all_fails _ _ _ (sym c.shape_at.ensures ∙ c.if-not-shape_at.true) c.loop-at-test.true)))
