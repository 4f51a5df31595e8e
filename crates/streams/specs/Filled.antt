-- The front of a buffer.
use Rattle.std.specs.Prelude.{◌≡◌, ℕ, ◌≤◌, List, length, take}

-- `&xs[..n]` is in bounds and has n bytes. The second follows from the first, and spares each use of the part a proof.
abbrev pub Filled : ℕ → List ℕ → Type 0
Filled n xs = (n ≤ length xs) × (n ≡ length (take n xs))
