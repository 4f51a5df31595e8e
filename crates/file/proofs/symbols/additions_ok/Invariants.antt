use Rattle.file.specs.Symbols.{Walking}
use Rattle.file.proofs.symbols.additions_ok.Given as goal

abbrev pub invariant-loop-at : goal.invariant-loop-at
invariant-loop-at l = Walking l.src l.n l.symbol l.at
