use Rattle.rules.specs.Made.{make_object}
use Rattle.rewrite.specs.Waiting.{flushed_made}
use Rattle.rewrite.proofs.waiting.flush_object.Goals as goal

pub returns-then-slot-next : goal.returns-then-slot-next
unfolding make_object
returns-then-slot-next c = flushed_made make_object c.if-slot-next.true (rw c.from.ensures at c.make_flagged.ensures)
