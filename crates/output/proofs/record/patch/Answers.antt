use Rattle.output.specs.Bytes.{patched}
use Rattle.output.proofs.record.patch.Goals as goal

pub returns : goal.returns
returns c = patched c.put16.ensures c.put16-2.ensures c.requires
