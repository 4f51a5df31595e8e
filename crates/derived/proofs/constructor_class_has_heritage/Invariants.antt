-- The ancestors before the loop's index leave the answer to those from it on.
use Rattle.std.proofs.Common.{◌≡◌, false, drop}
use Rattle.derived.specs.Ancestors.{walk_ancestors}
use Rattle.derived.proofs.constructor_class_has_heritage.Given as goal

abbrev pub invariant-loop-byte : goal.invariant-loop-byte
invariant-loop-byte l = walk_ancestors false l.ancestors ≡ walk_ancestors l.found_constructor_method (drop l.byte-index l.ancestors)
