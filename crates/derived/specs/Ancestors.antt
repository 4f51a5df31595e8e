-- The ancestors of a use of `this` in the syntax tree, a byte each. "lists run innermost first"
use Rattle.std.specs.Prelude.{◌≡◌, Bool, true, false, cond, ◌&&◌, ◌||◌, List, [], ◌∷◌, ℕ, ◌<◌, eqb, Result, MatchResult}
use Rattle.refusal.specs.declared.Refusal.{Refusal}
use Rattle.derived.specs.declared.ancestor.Ancestor.{Ancestor}
use Rattle.derived.specs.declared.ancestor.Ancestor.TheVariants.{Other, FieldOrAccessorValue, ConstructorMethod, ClassBody}

-- "0 other, 1 field or accessor value, 2 constructor method, 3 class body, 4 with heritage"
abbrev pub field_or_accessor_value : ℕ
field_or_accessor_value = 1

abbrev pub constructor_method : ℕ
constructor_method = 2

abbrev pub class_body : ℕ
class_body = 3

abbrev pub class_body_with_heritage : ℕ
class_body_with_heritage = 4

abbrev pub has_heritage : ℕ → Bool
has_heritage ancestor = eqb ancestor class_body_with_heritage

abbrev pub is_class_body : ℕ → Bool
is_class_body ancestor = eqb ancestor class_body || has_heritage ancestor

-- "walk ancestors: a field or accessor value, no; after a constructor method, the next class body answers by its heritage. End of list: no."
-- `found`: a constructor method has been met. A class body that is met before one, and any other ancestor, is passed over.
abbrev pub walk_ancestors : Bool → List ℕ → Bool
walk_ancestors found [] = false
walk_ancestors found (ancestor ∷ outer) =
    cond (eqb ancestor field_or_accessor_value) false
    (cond (eqb ancestor constructor_method) (walk_ancestors true outer)
    (cond (found && is_class_body ancestor) (has_heritage ancestor)
    (walk_ancestors found outer)))

abbrev pub constructor_class_has_heritage : List ℕ → Bool
constructor_class_has_heritage ancestors = walk_ancestors false ancestors

-- the byte that stands for an ancestor
abbrev pub code_of : Ancestor → ℕ
code_of Other = 0
code_of FieldOrAccessorValue = field_or_accessor_value
code_of ConstructorMethod = constructor_method
code_of (ClassBody extends) = cond extends class_body_with_heritage class_body

-- What a byte stands for, and any other if it stands for none.
abbrev pub decoded : ℕ → Ancestor
decoded byte =
    cond (eqb byte field_or_accessor_value) FieldOrAccessorValue
    (cond (eqb byte constructor_method) ConstructorMethod
    (cond (eqb byte class_body) (ClassBody false)
    (cond (eqb byte class_body_with_heritage) (ClassBody true)
    Other)))

-- A byte that stands for no ancestor is over 4.
abbrev pub Decodes : ℕ → Result Ancestor Refusal → Type 0
Decodes byte r = MatchResult r (λ ancestor. code_of ancestor ≡ byte) (λ e. (e ≡ Refusal.Ancestor) × (4 < byte))
