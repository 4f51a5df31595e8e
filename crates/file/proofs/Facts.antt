-- The permitted fact bits as `allowed_facts` of src/record.rt picks them.
use Rattle.std.specs.Prelude.{◌≡◌, cond, ℕ, eqb}
use Rattle.std.proofs.Common.{arith}
use Rattle.std.proofs.lemmas.Bool.Decides.{nat_tests}
use Rattle.tree.specs.Record.{allowed_facts}
use Rattle.tree.specs.Kind as kind

-- Kinds that have none are asked for one by one.
pub allowed_is : (k : ℕ)
    → cond (eqb k kind.elision) 0 (cond (eqb k kind.property) 0 (cond (eqb k kind.element) 0 (cond (eqb k kind.spread) 1 (cond (eqb k kind.call) 255 (cond (eqb k kind.new) 127 31)))))
    ≡ allowed_facts k
unfolding allowed_facts
allowed_is k = grind (arith, nat_tests)
