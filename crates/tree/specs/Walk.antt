-- Trees that stand in a list of bytes, as a walk over records meets them: by the record where they start and the records they take.
use Rattle.std.specs.Prelude.{◌≡◌, List, ℕ, suc, ◌+◌, ◌-◌, ◌<◌, ◌≤◌}
use Rattle.std.proofs.Common.{arith}
use Rattle.tree.specs.Tree.{Head, Forest, nil, node, records}
use Rattle.tree.specs.Room.{records_in}
use Rattle.tree.specs.Fields.{subtree_at}
use Rattle.tree.specs.Stands.{Stands}

-- A list of trees stands from record `at` on, in `size` records.
pub record Holds (s : List ℕ) (at size : ℕ) (f : Forest) : Type 0 where
  pub stands : Stands s at f
  pub sized : size ≡ records f

pub record Held (s : List ℕ) (at size : ℕ) : Type 0 where
  pub forest : Forest
  pub holds : Holds s at size forest
  pub inside : at + size ≤ records_in s

-- The first tree of a list that is not empty: its children, and the trees after it.
pub record First (s : List ℕ) (p size : ℕ) (h : Head) (cs rest : Forest) : Type 0 where
  pub children : Holds s (p + 1) (subtree_at s p - 1) cs
  pub after : Holds s (p + subtree_at s p) (size - subtree_at s p) rest
  pub some : 1 ≤ subtree_at s p
  pub within : subtree_at s p ≤ size

pub first_of : {s : List ℕ} {p size : ℕ} (h : Head) (cs rest : Forest) → Holds s p size (node h cs rest) → First s p size h cs rest
first_of {s} {p} {size} h cs rest d =
    let m : subtree_at s p ≡ suc (records cs) = d.stands.2 in
    record {
      children = record { stands = d.stands.3; sized = omega (arith, m) };
      after = record { stands = rw m d.stands.4; sized = omega (arith, m, d.sized) };
      some = omega (arith, m);
      within = omega (arith, m, d.sized);
    }

module _ {s : List ℕ} {p size : ℕ} (h : Held s p size) (l : 0 < size) where
  pub held_some : 1 ≤ subtree_at s p
  held_some = go h.forest h.holds
    where
      go : (f : Forest) → Holds s p size f → 1 ≤ subtree_at s p
      go nil d = absurd (omega (arith, d.sized))
      go (node k cs rest) d = (first_of k cs rest d).some

  pub held_within : subtree_at s p ≤ size
  held_within = go h.forest h.holds
    where
      go : (f : Forest) → Holds s p size f → subtree_at s p ≤ size
      go nil d = absurd (omega (arith, d.sized))
      go (node k cs rest) d = (first_of k cs rest d).within

  pub held_children : Held s (p + 1) (subtree_at s p - 1)
  held_children = go h.forest h.holds
    where
      go : (f : Forest) → Holds s p size f → Held s (p + 1) (subtree_at s p - 1)
      go nil d = absurd (omega (arith, d.sized))
      go (node k cs rest) d = let a = first_of k cs rest d in record { forest = cs; holds = a.children; inside = omega (arith, a.some, a.within, h.inside) }

  pub held_after : Held s (p + subtree_at s p) (size - subtree_at s p)
  held_after = go h.forest h.holds
    where
      go : (f : Forest) → Holds s p size f → Held s (p + subtree_at s p) (size - subtree_at s p)
      go nil d = absurd (omega (arith, d.sized))
      go (node k cs rest) d = let a = first_of k cs rest d in record { forest = rest; holds = a.after; inside = omega (arith, a.within, h.inside) }
