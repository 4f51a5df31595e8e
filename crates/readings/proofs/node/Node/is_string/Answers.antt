use Rattle.std.specs.Prelude.{◌≡◌, true, false}
use Rattle.std.proofs.Common.{sym, ◌∙◌}
use Rattle.std.proofs.Math.Bool.{or-true, or-false}
use Rattle.tree.specs.Symbol.{is_string, string_fact}
use Rattle.readings.specs.Alone.{own_string_fact}
use Rattle.readings.specs.Sides.{left_smaller, string_lone, string_sides}
use Rattle.readings.specs.View.{tree}
use Rattle.readings.proofs.node.Node.is_string.Goals as goal

pub returns-then-has_string_fact : goal.returns-then-has_string_fact
returns-then-has_string_fact c =
    let right : string_fact (tree c.in-Some.right) ≡ true = sym (own_string_fact _ _) ∙ sym c.has_string_fact.ensures ∙ c.if-has_string_fact.true in
    sym (sym c.loop-left.invariant ∙ string_sides _ _ _ (sym c.in-Some.ensures.sides) ∙ rw right (or-true (is_string (tree c.in-Some.left))))

pub loop-left-smaller : goal.loop-left-smaller
loop-left-smaller c = left_smaller _ _ _ (sym c.in-Some.ensures.sides)

pub loop-left-preserved : goal.loop-left-preserved
loop-left-preserved c =
    let right : string_fact (tree c.in-Some.right) ≡ false = sym (own_string_fact _ _) ∙ sym c.has_string_fact.ensures ∙ c.if-has_string_fact.false in
    sym (string_sides _ _ _ (sym c.in-Some.ensures.sides) ∙ rw right (or-false (is_string (tree c.in-Some.left)))) ∙ c.loop-left.invariant

pub returns : goal.returns
returns c = c.has_string_fact-2.ensures ∙ own_string_fact _ _ ∙ sym (string_lone _ (sym c.in_default.ensures.sides)) ∙ c.loop-left.invariant
