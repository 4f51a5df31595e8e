use Rattle.std.proofs.Common.{refl}
use Rattle.tree.specs.Layout.{version_by}
use Rattle.tree.specs.Room.{fields_within}
use Rattle.output.specs.Bytes.{made_of}
use Rattle.output.proofs.record.make.Goals as goal

pub returns : goal.returns
returns c = let v = version_by c.args.ends in made_of v (fields_within v) refl c.put16.ensures c.put16-2.ensures c.put32.ensures c.put_place.ensures c.requires.1
