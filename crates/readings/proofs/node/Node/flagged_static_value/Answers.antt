use Rattle.std.specs.Prelude.{refl}
use Rattle.std.proofs.Common.{rules, sym, ◌∙◌}
use Rattle.std.proofs.lemmas.Iterator.Search.{any_from_yields_List}
use Rattle.readings.specs.Yields.{steps_yield}
use borrow.Author.Tests.{tests}
use Rattle.rules.specs.Class.{flagged_static_value}
use Rattle.rules.specs.Facts.{flagged}
use Rattle.readings.specs.Alone.{own_static_value}
use Rattle.readings.proofs.node.Node.flagged_static_value.Goals as goal

pub returns-then-has_static_value : goal.returns-then-has_static_value
unfolding flagged_static_value
returns-then-has_static_value c =
    any_from_yields_List flagged c.any.new.self _ _ c.any.ensures.ran (steps_yield _ c.key_and_value.ensures.others) (λ x b q k. search (rules, tests))
    ∙ rw (← own_static_value c.args.self.record.src.now c.args.self.record.at, ← c.has_static_value.ensures, c.if-has_static_value.true) refl

pub returns-else-has_static_value : goal.returns-else-has_static_value
unfolding flagged_static_value
returns-else-has_static_value c =
    c.if-has_static_value.false
    ∙ sym (rw (← own_static_value c.args.self.record.src.now c.args.self.record.at, ← c.has_static_value.ensures, c.if-has_static_value.false) refl)
