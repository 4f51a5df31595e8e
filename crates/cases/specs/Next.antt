-- Where the next file stands in an input.
use Rattle.std.specs.Prelude.{◌≡◌, Bool, true, false, List, ℕ, ◌+◌, ltb, length, take, drop, Some, None, option_map, MatchOption}
use Rattle.std.specs.declared.option.Option.{Option}
use Rattle.le.specs.Le.{u16_at, u32_at}

-- What stands before a file that begins behind `first` bytes, the file, of `size` bytes, and what stands behind it: nothing where the
-- input ends before the file does.
abbrev pub next_by : Bool → List ℕ → ℕ → ℕ → Option (List ℕ × List ℕ × List ℕ)
next_by true input first size = None
next_by false input first size = Some (take first input, take size (drop first input), drop size (drop first input))

-- The same in an input of that length.
abbrev pub next_of : List ℕ → ℕ → ℕ → Option (List ℕ × List ℕ × List ℕ)
next_of input first size = next_by (ltb (length input) (first + size)) input first size

-- The file behind `head` bytes, of which the first two are its length.
abbrev pub next_case : List ℕ → ℕ → Option (List ℕ × List ℕ × List ℕ)
next_case input head = next_of input head (u16_at input 0)

-- The file behind its length in four bytes.
abbrev pub next_part : List ℕ → Option (List ℕ × List ℕ)
next_part input = option_map (λ next. (next.1, next.2)) (next_of input 4 (u32_at input 0))

-- What the cases of an input give next, and the input that they have left then.
abbrev pub NextGives : List ℕ → ℕ → Option (List ℕ × List ℕ) → List ℕ → Type 0
NextGives input head given left = MatchOption given ((next_case input head ≡ None) × (left ≡ input)) (λ case. next_case input head ≡ Some (case.0, case.1, left))
