use Rattle.std.proofs.Common.{sym, ap}
use Rattle.rules.specs.Class.{extracted_of_element}
use Rattle.rules.specs.Lists.{concat_map}
use Rattle.readings.specs.View.{tree}
use Rattle.output.specs.Given.{first_tree, other_trees}
use Rattle.output.specs.Records.{before_all}
use Rattle.output.specs.Trees.{wrote_as, wrote_both, wrote_none}
use Rattle.classes.specs.Class.{extracted_small}
use Rattle.classes.proofs.extract_elements.Goals as goal

pub extract_element-next-requires : goal.extract_element-next-requires
extract_element-next-requires c =
    let y = c.in-Some.ensures.steps in
    first_tree c.loop-element.element-iterator c.next.new.self c.in-Some.element (y.0, y.1, y.2) c.loop-element.invariant.given

pub loop-element-preserved : goal.loop-element-preserved
loop-element-preserved c = let y = c.in-Some.ensures.steps in record {
  can = tt;
  finite = tt;
  given = other_trees c.loop-element.element-iterator c.next.new.self c.in-Some.element (y.0, y.1, y.2) c.loop-element.invariant.given c.extract_element-next.ensures (extracted_small (tree c.in-Some.element));
  whole = λ new end w.
      c.loop-element.invariant.whole new end
      (wrote_as (wrote_both _ _ c.extract_element-next.ensures w) (sym (ap (concat_map extracted_of_element) y.0)));
}

pub returns : goal.returns
returns c =
    c.loop-element.invariant.whole c.loop-element.out c.loop-element.next
    (wrote_as (wrote_none (before_all c.loop-element.out c.loop-element.next)) (sym (ap (concat_map extracted_of_element) c.in-None.ensures.steps.0.0)))
