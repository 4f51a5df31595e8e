-- The Derived question: its answer, and the answer's numbers.
use Rattle.std.specs.Prelude.{◌≡◌, refl, Bool, true, false, cond, ◌&&◌, List, [], ℕ, Result, Ok, Err}
use Rattle.refusal.specs.declared.Refusal.{Refusal}
use Rattle.refusal.specs.Number.{number_of, refusal_of, refusal_back}
use Rattle.stated.specs.Stated.{Stated, injective_by}
use Rattle.derived.specs.Bytes.{any_over}
use Rattle.derived.specs.Scopes.{this_scope_is_constructor}
use Rattle.derived.specs.Ancestors.{constructor_class_has_heritage}

pub data Case : Type 0 where
  yes no refused : Case

-- "Returns yes, no or the number": no case has a value.
abbrev pub refused_by : ℕ → Stated Case
refused_by n = record { case = Case.refused; number = n; values = [] }

abbrev pub yes_or_no : Bool → Stated Case
yes_or_no b = record { case = cond b Case.yes Case.no; number = 0; values = [] }

abbrev pub stated : Result Bool Refusal → Stated Case
stated (Ok answer) = yes_or_no answer
stated (Err refusal) = refused_by (number_of refusal)

-- "The first other decides: not a constructor, no. Else walk ancestors"
abbrev pub derived_constructor_this_scope : List ℕ → List ℕ → Bool
derived_constructor_this_scope scopes ancestors = this_scope_is_constructor scopes && constructor_class_has_heritage ancestors

-- "11 a scope byte over 7 [..]; 12 an ancestor byte over 4 [..]. Returns yes, no or the number."
abbrev pub derived_question : List ℕ → List ℕ → Stated Case
derived_question scopes ancestors =
    cond (any_over 7 scopes) (refused_by 11)
    (cond (any_over 4 ancestors) (refused_by 12)
    (yes_or_no (derived_constructor_this_scope scopes ancestors)))

-- An answer is determined by what `stated` says of it, since it can be read back.
answer_of : Stated Case → Result Bool Refusal
answer_of s = from s.case s.number
  where
    from : Case → ℕ → Result Bool Refusal
    from Case.yes n = Ok true
    from Case.no n = Ok false
    from Case.refused n = Err (refusal_of n)

pub stated_injective : (a b : Result Bool Refusal) → stated a ≡ stated b → a ≡ b
unfolding answer_of
stated_injective = injective_by stated answer_of read
  where
    read : (a : Result Bool Refusal) → answer_of (stated a) ≡ a
    read (Ok true) = refl
    read (Ok false) = refl
    read (Err refusal) = rw refusal_back
