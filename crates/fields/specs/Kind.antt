-- The number of a kind, and the kind of a number.
use Rattle.std.specs.Prelude.{◌≡◌, refl, List, [], ◌∷◌, get_or, ℕ, zero, suc, ◌<◌, ◌≤◌, Option, Some, None, is_some, ◌&&◌, leb, Result, MatchResult, slice_get}
use Rattle.std.proofs.Common.{arith}
use Rattle.std.proofs.Math.Logic.{⊎_elim}
use Rattle.std.proofs.lemmas.Option.{slice_get_cases}
use borrow.Author.Tests.{le-leb}
use Rattle.std.proofs.lemmas.Bool.{lt-leb}
use Rattle.fields.specs.declared.kind.Kind.{Kind}
use Rattle.fields.specs.declared.kind.Kind.TheVariants.{Literal, Identifier, Function, Arrow, OtherLeaf, This, Array, Elision, Spread, Object, Property, Template, Sequence, Unary, Binary, Call, New, Class, Element, Logical, Conditional, Assignment}
use Rattle.fields.specs.declared.kind.UnknownKind.{UnknownKind}
use Rattle.tree.specs.Kind as kind

abbrev pub number_of : Kind → ℕ
number_of Literal = kind.literal
number_of Identifier = kind.identifier
number_of Function = kind.function
number_of Arrow = kind.arrow
number_of OtherLeaf = kind.other_leaf
number_of This = kind.this
number_of Array = kind.array
number_of Elision = kind.elision
number_of Spread = kind.spread
number_of Object = kind.object
number_of Property = kind.property
number_of Template = kind.template
number_of Sequence = kind.sequence
number_of Unary = kind.unary
number_of Binary = kind.binary
number_of Call = kind.call
number_of New = kind.new
number_of Class = kind.class
number_of Element = kind.element
number_of Logical = kind.logical
number_of Conditional = kind.conditional
number_of Assignment = kind.assignment

-- The kinds in the order of their numbers, which begin with 1.
abbrev pub kinds : List Kind
kinds = Literal ∷ Identifier ∷ Function ∷ Arrow ∷ OtherLeaf ∷ This ∷ Array ∷ Elision ∷ Spread ∷ Object ∷ Property ∷ Template ∷ Sequence ∷ Unary ∷ Binary ∷ Call ∷ New ∷ Class ∷ Element ∷ Logical ∷ Conditional ∷ Assignment ∷ []

-- The kind with a number, if there is one.
abbrev pub kind_of : ℕ → Option Kind
kind_of zero = None
kind_of (suc i) = slice_get kinds i

-- The result is the kind with this number, or an error with a number that no kind has.
abbrev pub Decodes : ℕ → Result Kind UnknownKind → Type 0
Decodes number r = MatchResult r (λ k. number ≡ number_of k) (λ e. (e.0 ≡ number) × (kind_of number ≡ None))

-- So no two kinds have one number.
pub kind_back : (k : Kind) → kind_of (number_of k) ≡ Some k
kind_back Literal = refl
kind_back Identifier = refl
kind_back Function = refl
kind_back Arrow = refl
kind_back OtherLeaf = refl
kind_back This = refl
kind_back Array = refl
kind_back Elision = refl
kind_back Spread = refl
kind_back Object = refl
kind_back Property = refl
kind_back Template = refl
kind_back Sequence = refl
kind_back Unary = refl
kind_back Binary = refl
kind_back Call = refl
kind_back New = refl
kind_back Class = refl
kind_back Element = refl
kind_back Logical = refl
kind_back Conditional = refl
kind_back Assignment = refl

-- The numbers of kinds are those that a record may have, 1 to 22.
pub known : (n : ℕ) → is_some (kind_of n) ≡ (leb kind.literal n && leb n kind.assignment)
known zero = refl
known (suc i) = ⊎_elim
    (λ (e : (k : Kind) × (i < 22) × (slice_get kinds i ≡ Some k) × (get_or kinds i k ≡ k)).
    rw (e.2, le-leb 1 (suc i) (omega arith), le-leb (suc i) 22 (omega arith)))
    (λ (e : (22 ≤ i) × (slice_get kinds i ≡ None)).
    rw (e.1, le-leb 1 (suc i) (omega arith), lt-leb (suc i) 22 (omega arith)))
    (slice_get_cases kinds i).1
