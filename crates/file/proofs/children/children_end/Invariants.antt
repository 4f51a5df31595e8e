use Rattle.std.proofs.Common.{◌+◌, ◌-◌, false}
use Rattle.tree.specs.Fields.{head_at}
use Rattle.file.specs.Parents.{Permits, Walking}
use Rattle.file.proofs.children.children_end.Given as goal

abbrev pub invariant-loop : goal.invariant-loop
invariant-loop l = record {
  others : Permits l.kinds (head_at l.node.src.now l.node.at) false;
  walking : Walking l.node.src.now (head_at l.node.src.now l.node.at) l.n (l.node.at + 1) l.end l.taken (l.n - l.counter) l.at;
}
