use Rattle.rules.specs.Made.{make_template}
use Rattle.rewrite.specs.Made.{makes_template}
use Rattle.rewrite.specs.Waiting.{flushed_made}
use Rattle.rewrite.proofs.waiting.flush_template.Goals as goal

pub returns-then-slot-next : goal.returns-then-slot-next
returns-then-slot-next c = flushed_made make_template c.if-slot-next.true (makes_template (rw c.from.ensures at c.make_over.ensures))
