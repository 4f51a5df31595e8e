use Rattle.std.proofs.Common.{sym}
use Rattle.readings.specs.At.{head_is}
use Rattle.readings.specs.Symbol.{possible_told}
use Rattle.readings.specs.View.{tree}
use Rattle.readings.proofs.node.Node.possible_symbol.Goals as goal

pub returns : goal.returns
returns c = possible_told (tree c.args.self) (sym (head_is _ _)) c.is_string.ensures c.possible_symbol_if.ensures
