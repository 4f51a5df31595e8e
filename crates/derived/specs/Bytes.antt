-- A test of a whole list of bytes.
use Rattle.std.specs.Prelude.{Bool, false, ◌||◌, List, [], ◌∷◌, ℕ, ltb}

-- "a scope byte over 7", "an ancestor byte over 4": some byte of the list, wherever it stands
abbrev pub any_over : ℕ → List ℕ → Bool
any_over most [] = false
any_over most (byte ∷ bytes) = ltb most byte || any_over most bytes
