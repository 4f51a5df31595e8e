use Rattle.std.proofs.Common.{List, ℕ}
use Rattle.rules.specs.Class.{extracted_of_element}
use Rattle.rules.specs.Lists.{concat_map}
use Rattle.readings.specs.View.{left}
use Rattle.output.specs.Given.{GivenTrees}
use Rattle.output.specs.Trees.{Wrote}
use Rattle.classes.proofs.extract_elements.Given as goal

abbrev pub invariant-loop-element : goal.invariant-loop-element
invariant-loop-element l = record {
  can : (goal.iterator-loop-element).can_next l.element-iterator;
  finite : (goal.iterator-loop-element).is_finite l.element-iterator;
  given : GivenTrees l.element-iterator l.out l.next;
  whole : (new : List ℕ) (end : ℕ) → Wrote l.out new l.next end (concat_map extracted_of_element (left l.element-iterator))
      → Wrote l.fn.out new l.fn.pos end (concat_map extracted_of_element (left l.fn.elements));
}
