-- A number's digits say the number.
use Rattle.std.specs.Prelude.{◌≡◌, ℕ, ◌+◌, ◌*◌, ◌-◌, ◌^◌, ◌<◌, List, [], ◌∷◌, decimal}
use Rattle.std.proofs.Common.{rules}
use Rattle.std.proofs.lemmas.Fmt.{digits_value-decimal}
use Rattle.std.proofs.lemmas.Str.Parse.{numerals_by_fold, tells_digits}

-- The number that a text of digits says, behind the number v.
abbrev value_behind : ℕ → List ℕ → ℕ
value_behind v [] = v
value_behind v (d ∷ ds) = value_behind (v * 10 + (d - 48)) ds

-- Read back, the digits of a number of 64 bits say that number.
pub decimal_value : (n : ℕ) → n < 2 ^ 64 → value_behind 0 (decimal n) ≡ n
decimal_value n l = digits_value-decimal (numerals_by_fold _ tells_digits value_behind (search rules)) n l
