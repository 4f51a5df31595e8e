use Rattle.two_columns.specs.Lines.{Lined}
use Rattle.two_columns.proofs.line.push_lines.Given as goal

abbrev pub invariant-loop-i : goal.invariant-loop-i
invariant-loop-i l = Lined l.before l.after l.initial.text.bytes l.text.bytes l.i
