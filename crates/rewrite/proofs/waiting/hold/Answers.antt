use Rattle.rewrite.specs.Waiting.{hold_first, hold_more}
use Rattle.rewrite.proofs.waiting.hold.Goals.{then-slot-next, else-slot-next}
use Rattle.rewrite.proofs.waiting.hold.Goals as goal

pub returns : goal.returns
returns c =
    elim c.if-slot-next.branch [
      | then-slot-next w ↦ hold_first w.if-slot-next.true (rw w.pos-is at c.copy_tree-next.ensures)
      | else-slot-next w ↦ hold_more w.if-slot-next.false (rw w.pos-is at c.copy_tree-next.ensures)
    ]
