use Rattle.output.specs.Bytes.{Moved}
use Rattle.output.proofs.record.copy_bytes.Given as goal

abbrev pub invariant-loop-i : goal.invariant-loop-i
invariant-loop-i l = Moved l.src l.p l.i l.fn.out l.out l.q
