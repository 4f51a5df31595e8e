-- The tree of an accepted file, as a list of one that stands from the first record on.
use Rattle.std.specs.Prelude.{◌≡◌, List, [], ◌∷◌, ℕ, ◌+◌, ◌-◌, ◌≤◌}
use Rattle.std.proofs.Common.{sym, ap, arith}
use Rattle.tree.specs.Tree.{one, trees}
use Rattle.tree.specs.Room.{records_in}
use Rattle.tree.specs.Fields.{count_of}
use Rattle.tree.specs.Encoding.{Bytes}
use Rattle.tree.specs.Refusal.{Limits, refusal, tree_of}
use Rattle.tree.specs.Accepted.{Accepted}
use Rattle.tree.specs.Walk.{Holds}
use Rattle.tree.proofs.Accepted.{passed, counted_parts, counted_room, accepted}
use Rattle.readings.specs.At.{HeldAt, forest_at, forest_is}

module _ (limits : Limits) (s : List ℕ) (n : ℕ) (is_zero : refusal limits s ≡ 0) (is_count : n ≡ count_of s) (bs : Bytes s) where
  A : Accepted limits s
  A = accepted limits s bs is_zero

  holds : Holds s 0 (n - 0) (one (tree_of s))
  holds = record { stands = A.stands; sized = omega (arith, is_count, A.sized) }

  pub root_held : HeldAt s 0 (n - 0)
  root_held =
      let f = forest_is s 0 (n - 0) (one (tree_of s)) holds in
      let l : 0 + (n - 0) ≤ records_in s = omega (arith, is_count, counted_room (counted_parts limits.records s (passed limits s is_zero).counted)) in
      rw f (holds.stands, sym holds.sized, l)

  pub root_trees : trees (forest_at s 0 (n - 0)) ≡ tree_of s ∷ []
  root_trees = ap trees (forest_is s 0 (n - 0) (one (tree_of s)) holds)
