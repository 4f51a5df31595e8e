-- The scopes before the loop's index leave the answer to those from it on.
use Rattle.std.proofs.Common.{◌≡◌, drop}
use Rattle.derived.specs.Scopes.{this_scope_is_constructor}
use Rattle.derived.proofs.this_scope_is_constructor.Given as goal

abbrev pub invariant-loop-byte : goal.invariant-loop-byte
invariant-loop-byte l = this_scope_is_constructor l.scopes ≡ this_scope_is_constructor (drop l.byte-index l.scopes)
