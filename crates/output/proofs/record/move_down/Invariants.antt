use Rattle.output.specs.Bytes.{Shifting}
use Rattle.output.proofs.record.move_down.Given as goal

abbrev pub invariant-loop-q : goal.invariant-loop-q
invariant-loop-q l = Shifting l.fn.out l.out l.to l.q l.width
