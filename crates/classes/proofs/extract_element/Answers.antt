use Rattle.std.specs.Prelude.{◌≡◌, false, true}
use Rattle.std.proofs.Common.{ap, arith, sym, ◌∙◌}
use Rattle.rules.specs.Class.{has_static_value}
use Rattle.rules.specs.Facts.{flagged}
use Rattle.rules.specs.Lists.{filter}
use Rattle.readings.specs.Alone.{own_static_value}
use Rattle.readings.specs.View.{tree}
use Rattle.output.specs.Trees.{wrote_as, wrote_both}
use Rattle.classes.specs.Class.{Parts, first_ends, first_given, others_given, parts_size, with_value, without_value}
use Rattle.classes.proofs.extract_element.Goals as goal

pub copy_if_flagged-next-requires : goal.copy_if_flagged-next-requires
copy_if_flagged-next-requires c =
    let k : Parts c.args.element _ c.key_and_value.result.0 c.key_and_value.result.1 = record { first = c.key_and_value.ensures.first; others = c.key_and_value.ensures.others; source = c.key_and_value.ensures.source } in
    first_given k c.requires.same (omega (arith, c.requires.fits, parts_size k))

pub copy_trees-requires : goal.copy_trees-requires
copy_trees-requires c =
    let k : Parts c.args.element _ c.key_and_value.result.0 c.key_and_value.result.1 = record { first = c.key_and_value.ensures.first; others = c.key_and_value.ensures.others; source = c.key_and_value.ensures.source } in
    others_given k c.requires.same c.copy_if_flagged-next.ensures
    (omega (arith, c.requires.fits, parts_size k, first_ends c.key_and_value.result.0 c.copy_if_flagged-next.ensures))

pub returns-then-has_static_value : goal.returns-then-has_static_value
returns-then-has_static_value c =
    let has : has_static_value (tree c.args.element) ≡ true = sym (own_static_value _ _) ∙ sym c.has_static_value.ensures ∙ c.if-has_static_value.true in
    wrote_as (wrote_both _ _ c.copy_if_flagged-next.ensures c.copy_trees.ensures) (rw (c.key_and_value.ensures.first, c.key_and_value.ensures.others) (with_value (tree c.args.element) has))

pub returns-else-has_static_value : goal.returns-else-has_static_value
returns-else-has_static_value c =
    let none : has_static_value (tree c.args.element) ≡ false = sym (own_static_value _ _) ∙ sym c.has_static_value.ensures ∙ c.if-has_static_value.false in
    wrote_as c.copy_if_flagged-next.ensures (ap (filter flagged) c.key_and_value.ensures.first ∙ without_value (tree c.args.element) none)
