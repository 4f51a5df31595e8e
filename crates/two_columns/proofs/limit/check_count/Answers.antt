use Rattle.std.proofs.Common.{sym}
use Rattle.two_columns.specs.Limit.{many_not_accepted}
use Rattle.two_columns.proofs.limit.check_count.Goals as goal

pub returns-in_ok-check-clause-taken : goal.returns-in_ok-check-clause-taken
returns-in_ok-check-clause-taken c = absurd (many_not_accepted _ (sym c.if-too_many.ensures) c.check.ensures c.in_ok-check.was)
