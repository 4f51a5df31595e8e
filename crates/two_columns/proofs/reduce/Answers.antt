use Rattle.std.proofs.Common.{rules}
use Rattle.two_columns.specs.Run.{accepted, given, refused}
use Rattle.two_columns.proofs.reduce.Goals as goal

pub returns-in_err-reduce-clause-number : goal.returns-in_err-reduce-clause-number
returns-in_err-reduce-clause-number c =
    let n = refused c.told-kept c.reduce.ensures c.in_ok-check_count.ensures.taken c.in_err-reduce.was in
    search rules

pub returns-clause-given : goal.returns-clause-given
returns-clause-given c = rw c.unwrap_or-length.ensures (given c.told-kept c.reduce.ensures c.in_ok-reduce.was)

pub returns-clause-accepted : goal.returns-clause-accepted
returns-clause-accepted c = accepted c.told-kept c.reduce.ensures c.in_ok-reduce.was c.in_ok-check_count.ensures.taken
