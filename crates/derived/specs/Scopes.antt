-- The scopes around a use of `this`, a byte each. "lists run innermost first"
use Rattle.std.specs.Prelude.{◌≡◌, Bool, false, cond, ◌||◌, List, [], ◌∷◌, ℕ, ◌/◌, ◌%◌, eqb, ltb, Result, Ok, Err}
use Rattle.refusal.specs.declared.Refusal.{Refusal}
use Rattle.derived.specs.declared.scope.Scope.{Scope}

-- "bits block, arrow, constructor": bits 0, 1 and 2 of the byte
abbrev pub is_block : ℕ → Bool
is_block scope = eqb (scope % 2) 1

abbrev pub is_arrow : ℕ → Bool
is_arrow scope = eqb (scope / 2 % 2) 1

abbrev pub is_constructor : ℕ → Bool
is_constructor scope = eqb (scope / 4 % 2) 1

-- "Skip scopes that are block or arrow": whether or not they are constructors too
abbrev pub is_skipped : ℕ → Bool
is_skipped scope = is_block scope || is_arrow scope

-- "Skip scopes that are block or arrow. The first other decides: not a constructor, no." "End of list: no."
abbrev pub this_scope_is_constructor : List ℕ → Bool
this_scope_is_constructor [] = false
this_scope_is_constructor (scope ∷ outer) =
    cond (is_skipped scope) (this_scope_is_constructor outer)
    (is_constructor scope)

abbrev pub decoded : ℕ → Scope
decoded byte = record { is_block = is_block byte; is_arrow = is_arrow byte; is_constructor = is_constructor byte }

-- A byte over 7 is no scope, and any other says by its bits what the scope is.
abbrev pub Decodes : ℕ → Result Scope Refusal → Type 0
Decodes byte r = r ≡ cond (ltb 7 byte) (Err Refusal.Scope) (Ok (decoded byte))
