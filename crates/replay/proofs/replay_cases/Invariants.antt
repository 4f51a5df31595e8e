-- Each case takes bytes of the list.
use Rattle.std.proofs.Common.{◌+◌, ◌≤◌}
use Rattle.replay.proofs.replay_cases.Given as goal

abbrev pub invariant-loop-file : goal.invariant-loop-file
invariant-loop-file l = (l.different ≤ l.cases)
    × (l.cases + goal.iterator-loop-file.remaining l.file-iterator ≤ goal.iterator-loop-file.remaining l.initial.file-iterator)
