use Rattle.std.proofs.Common.{sym, ◌∙◌}
use Rattle.tree.specs.Below.{all_fails}
use Rattle.file.proofs.record.records_ok.Goals as goal

pub returns-then-not-record_ok : goal.returns-then-not-record_ok
returns-then-not-record_ok c = sym (all_fails _ _ _ (sym c.record_ok.ensures ∙ c.if-not-record_ok.true) c.loop-at-test.true)
