use Rattle.std.proofs.Common.{arith}
use Rattle.reducer.specs.Answer.{most_enough}
use Rattle.reducer.specs.Run.{count_bounds}
use Rattle.reducer.proofs.reduce_by_size.Goals as goal

pub reduce_within-requires-in_default : goal.reduce_within-requires-in_default
reduce_within-requires-in_default c = (c.requires.0, most_enough _ _ (count_bounds c.requires.0).1, omega arith)
