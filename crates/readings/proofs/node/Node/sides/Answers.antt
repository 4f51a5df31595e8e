use Rattle.std.specs.Prelude.{◌≡◌, [], ◌∷◌, true}
use Rattle.std.proofs.Common.{sym, ◌∙◌}
use Rattle.tree.specs.Symbol.{is_addition}
use Rattle.readings.specs.Alone.{own_addition}
use Rattle.readings.specs.Sides.{sides_listed, sides_other}
use Rattle.readings.specs.View.{left, tree}
use Rattle.readings.proofs.node.Node.sides.Goals as goal

pub returns-then-not-is_addition-clause-sides : goal.returns-then-not-is_addition-clause-sides
returns-then-not-is_addition-clause-sides c =
    sides_other (tree c.args.self) (sym (own_addition c.args.self.record.src.now c.args.self.record.at) ∙ sym c.is_addition.ensures ∙ c.if-not-is_addition.true)

pub returns-in_err-left-clause-sides : goal.returns-in_err-left-clause-sides
returns-in_err-left-clause-sides c =
    let a : is_addition (tree c.args.self) ≡ true = sym (own_addition c.args.self.record.src.now c.args.self.record.at) ∙ sym c.is_addition.ensures ∙ c.if-not-is_addition.false in
    rw c.from_residual.ensures (sides_listed (tree c.args.self) [] a (sym c.children-children.ensures.trees ∙ c.in_err-left.ensures.steps.0.0))

pub returns-in_err-right-clause-sides : goal.returns-in_err-right-clause-sides
returns-in_err-right-clause-sides c =
    let a : is_addition (tree c.args.self) ≡ true = sym (own_addition c.args.self.record.src.now c.args.self.record.at) ∙ sym c.is_addition.ensures ∙ c.if-not-is_addition.false in
    rw c.from_residual-in_err-right.ensures
    (sides_listed (tree c.args.self) (tree c.in_ok-left.left ∷ []) a (sym c.children-children.ensures.trees ∙ rw (c.in_ok-left.ensures.steps.0, c.in_err-right.ensures.steps.0.0)))

pub returns-in-Some-clause-sides : goal.returns-in-Some-clause-sides
returns-in-Some-clause-sides c =
    let a : is_addition (tree c.args.self) ≡ true = sym (own_addition c.args.self.record.src.now c.args.self.record.at) ∙ sym c.is_addition.ensures ∙ c.if-not-is_addition.false in
    sides_listed (tree c.args.self) (tree c.in_ok-left.left ∷ tree c.in_ok-right.right ∷ tree c.in-Some.field-0 ∷ left c.next-3.new.self) a
    (sym c.children-children.ensures.trees ∙ rw (c.in_ok-left.ensures.steps.0, c.in_ok-right.ensures.steps.0, c.in-Some.ensures.steps.0))

pub returns-in-None-clause-sides : goal.returns-in-None-clause-sides
returns-in-None-clause-sides c =
    let a : is_addition (tree c.args.self) ≡ true = sym (own_addition c.args.self.record.src.now c.args.self.record.at) ∙ sym c.is_addition.ensures ∙ c.if-not-is_addition.false in
    sides_listed (tree c.args.self) (tree c.in_ok-left.left ∷ tree c.in_ok-right.right ∷ []) a
    (sym c.children-children.ensures.trees ∙ rw (c.in_ok-left.ensures.steps.0, c.in_ok-right.ensures.steps.0, c.in-None.ensures.steps.0.0))
