-- What stands in a list of bytes is its encoding, and what is encoded stands there.
use mathlib.Core.List.{List}
use Prim.Native.Nat.{ℕ, ◌<◌}
use Rattle.std.proofs.Math.ListN.{get_or}

-- Every element is a byte.
pub record Bytes (s : List ℕ) : Type 0 where
  pub small : (k : ℕ) → get_or s k 0 < 256
