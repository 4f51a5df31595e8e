use Rattle.reducer.specs.Header.{counted}
use Rattle.reducer.proofs.header.write_count.Goals as goal

pub returns : goal.returns
returns c = counted c.put16.ensures c.requires
