-- Which kinds a parent takes as children, as a set of kinds.
use Rattle.std.specs.Prelude.{◌≡◌, refl, List, Bool, cond, true, false, ◌||◌, ℕ, ◌/◌, ◌%◌, eqb}
use Rattle.std.proofs.Common.{sym, ap, ◌∙◌, arith}
use Rattle.std.proofs.lemmas.Bool.Decides.{nat_tests}
use Rattle.tree.specs.Tree.{Head}
use Rattle.tree.specs.Below.{all_below}
use Rattle.tree.specs.Fields.{head_at}
use Rattle.tree.specs.Children.{may_stand}
use Rattle.tree.specs.Refusal.{children_end}
use Rattle.tree.specs.Kind as kind
use Rattle.file.specs.Kinds.{bits_of, holds, set_is}

abbrev expressions : ℕ
expressions = 0b1111_1111_1111_0111_1111_0100_1111_1111

abbrev array_children : ℕ
array_children = 0b1111_1111_1111_0111_1111_0111_1111_1111

abbrev arguments : ℕ
arguments = 0b1111_1111_1111_0111_1111_0110_1111_1111

abbrev object_children : ℕ
object_children = 0b1010_0000_0000

abbrev class_elements : ℕ
class_elements = 0b1000_0000_0000_0000_0000

-- Those that a kind takes, but for a callee and a heritage.
unfoldable pub kinds_under : ℕ → ℕ
kinds_under k =
    cond (eqb k kind.class) class_elements
    (cond (eqb k kind.new) arguments
    (cond (eqb k kind.call) arguments
    (cond (eqb k kind.object) object_children (cond (eqb k kind.array) array_children expressions))))

-- Those that it takes as the first child.
unfoldable pub first_under : ℕ → ℕ → ℕ → ℕ
first_under k sub kinds =
    cond (eqb k kind.call) expressions
    (cond (eqb k kind.new) expressions (cond (eqb k kind.class) (cond (eqb (sub / 2 % 2) 1) expressions kinds) kinds))

module _ (c : ℕ) where
  expressions_hold : holds expressions c ≡ kind.is_expression c
  unfolding all_below bits_of
  expressions_hold = set_is expressions kind.is_expression refl (λ k l. grind (arith, nat_tests)) c

  array_holds : holds array_children c ≡ (kind.is_expression c || (eqb c kind.spread || eqb c kind.elision))
  unfolding all_below bits_of
  array_holds = set_is array_children (λ k. kind.is_expression k || (eqb k kind.spread || eqb k kind.elision)) refl (λ k l. grind (arith, nat_tests)) c

  arguments_hold : holds arguments c ≡ (kind.is_expression c || eqb c kind.spread)
  unfolding all_below bits_of
  arguments_hold = set_is arguments (λ k. kind.is_expression k || eqb k kind.spread) refl (λ k l. grind (arith, nat_tests)) c

  object_holds : holds object_children c ≡ (eqb c kind.spread || eqb c kind.property)
  unfolding all_below bits_of
  object_holds = set_is object_children (λ k. eqb k kind.spread || eqb k kind.property) refl (λ k l. grind (arith, nat_tests)) c

  class_holds : holds class_elements c ≡ eqb c kind.element
  unfolding all_below bits_of
  class_holds = set_is class_elements (λ k. eqb k kind.element) refl (λ k l. grind (arith, nat_tests)) c

-- The kinds that may stand under h.
abbrev pub Permits : ℕ → Head → Bool → Type 0
Permits kinds h first = (k : ℕ) → holds kinds k ≡ may_stand h first k

pub permits_others : (h : Head) {kinds : ℕ} → kinds ≡ kinds_under h.kind → Permits kinds h false
unfolding may_stand kinds_under
permits_others h es c = rw es (grind (arith, nat_tests, expressions_hold c, array_holds c, arguments_hold c, object_holds c, class_holds c))

pub permits_first : (h : Head) (kinds : ℕ) {taken : ℕ} → taken ≡ first_under h.kind h.sub kinds → Permits kinds h false → Permits taken h true
unfolding first_under may_stand
permits_first h kinds et others c = rw et (grind (arith, nat_tests, expressions_hold c, others c))

-- The walk over children, where the next one is to be of a kind in `taken`.
pub record Walking (s : List ℕ) (h : Head) (n from end taken k p : ℕ) : Type 0 where
  pub first : Bool
  pub permits : Permits taken h first
  pub same : children_end s h true n from end ≡ children_end s h first k p end

pub asked : {s : List ℕ} {h : Head} {n from end taken k p : ℕ} (w : Walking s h n from end taken k p) {child : ℕ} {r : Bool} → child ≡ (head_at s p).kind → r ≡ holds taken child
    → may_stand h w.first (head_at s p).kind ≡ r
asked {taken = taken} w e answer = sym (w.permits _) ∙ ap (holds taken) (sym e) ∙ sym answer
