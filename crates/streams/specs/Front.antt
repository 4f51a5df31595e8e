-- What a write that stops in the midst leaves: the front of what was to be written.
use Rattle.std.specs.Prelude.{ℕ, ◌≤◌, List, length, take}
use Rattle.std.specs.declared.option.Option.{Option}
use Rattle.std.specs.Io.KnownBytes.{Appends}

-- Known bytes grow by the front of bs.
abbrev pub AppendsFront : Option (List ℕ) → Option (List ℕ) → List ℕ → Type 0
AppendsFront old new bs = (n : ℕ) × (n ≤ length bs) × Appends old new (take n bs)

-- Known bytes grow by the fronts of three parts, one behind the other.
abbrev pub AppendsFronts : Option (List ℕ) → Option (List ℕ) → List ℕ → List ℕ → List ℕ → Type 0
AppendsFronts old new xs ys zs = (first : Option (List ℕ)) × (second : Option (List ℕ))
    × AppendsFront old first xs × AppendsFront first second ys × AppendsFront second new zs
