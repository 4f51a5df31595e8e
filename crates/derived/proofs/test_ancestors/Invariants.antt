-- Those before the loop's index are within the bound.
use Rattle.std.proofs.Common.{◌≡◌, drop}
use Rattle.derived.specs.Bytes.{any_over}
use Rattle.derived.proofs.test_ancestors.Given as goal

abbrev pub invariant-loop-byte : goal.invariant-loop-byte
invariant-loop-byte l = any_over 4 l.ancestors ≡ any_over 4 (drop l.byte-index l.ancestors)
