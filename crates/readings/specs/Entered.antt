-- What stands behind the record of a list's first tree: its children, and then the other trees.
use Rattle.std.specs.Prelude.{◌≡◌, refl, List, [], ◌∷◌, ◌++◌, ℕ, suc, ◌+◌, ◌-◌, ◌<◌, ◌≤◌}
use Rattle.std.proofs.Common.{sym, ap, ◌∙◌, arith}
use Rattle.tree.specs.Tree.{Forest, nil, node, Tree, one, trees, records, size}
use Rattle.tree.specs.Room.{records_in}
use Rattle.tree.specs.Stands.{Stands}
use Rattle.tree.specs.Walk.{Holds}
use Rattle.readings.specs.At.{NodeAt, HeldAt, forest_at, tree_at, forest_is}

abbrev pub entered : List Tree → List Tree
entered [] = []
entered (t ∷ ts) = trees t.kids ++ ts

-- A list behind another.
append : Forest → Forest → Forest
append nil g = g
append (node h cs rest) g = node h cs (append rest g)

module _ (g : Forest) where
  trees_append : (f : Forest) → trees (append f g) ≡ trees f ++ trees g
  unfolding append
  trees_append nil = refl
  trees_append (node h cs rest) = ap (record { head = h; kids = cs } ∷◌) (trees_append rest)

  records_append : (f : Forest) → records (append f g) ≡ records f + records g
  unfolding append
  records_append nil = omega arith
  records_append (node h cs rest) = omega (arith, records_append rest)

  stands_append : (s : List ℕ) (i : ℕ) (f : Forest) → Stands s i f → Stands s (i + records f) g → Stands s i (append f g)
  unfolding append
  stands_append s i nil a b = let e : i + 0 ≡ i = omega arith in rw e at b
  stands_append s i (node h cs rest) a b =
      let e : i + suc (records cs + records rest) ≡ i + suc (records cs) + records rest = omega arith in
      (a.0, a.1, a.2, a.3, stands_append s (i + suc (records cs)) rest a.4 (rw e at b))

module _ (s : List ℕ) (p e : ℕ) (h : HeldAt s p (e - p)) (l : p < e) where
  under : (f : Forest) → forest_at s p (e - p) ≡ f → Holds s p (e - p) f
      → HeldAt s (p + 1) (e - (p + 1)) × (trees (forest_at s (p + 1) (e - (p + 1))) ≡ entered (trees f))
  under nil q d = absurd (omega (arith, d.sized))
  under (node k cs rest) q d =
      let x : p + suc (records cs) ≡ p + 1 + records cs = omega arith in
      let a : Holds s (p + 1) (e - (p + 1)) (append cs rest) = record {
        stands = stands_append rest s (p + 1) cs d.stands.3 (rw x at d.stands.4);
        sized = omega (arith, d.sized, records_append rest cs);
      } in
      let fi = forest_is s (p + 1) (e - (p + 1)) (append cs rest) a in
      let n : p + 1 + (e - (p + 1)) ≤ records_in s = omega (arith, h.2) in
      (rw fi (a.stands, sym a.sized, n), ap trees fi ∙ trees_append rest cs)

  holds : Holds s p (e - p) (forest_at s p (e - p))
  holds = record { stands = h.0; sized = sym h.1 }

  pub entered_held : HeldAt s (p + 1) (e - (p + 1))
  entered_held = (under (forest_at s p (e - p)) refl holds).0

  pub entered_trees : trees (forest_at s (p + 1) (e - (p + 1))) ≡ entered (trees (forest_at s p (e - p)))
  entered_trees = (under (forest_at s p (e - p)) refl holds).1

-- One tree, in z records.
module _ (s : List ℕ) (i z : ℕ) (n : NodeAt s i) (ez : z ≡ size (tree_at s i)) where
  alone_holds : Holds s i (i + z - i) (one (tree_at s i))
  alone_holds = record { stands = n.0; sized = omega (arith, ez) }

  alone_is : forest_at s i (i + z - i) ≡ one (tree_at s i)
  alone_is = forest_is s i (i + z - i) (one (tree_at s i)) alone_holds

  pub alone_held : HeldAt s i (i + z - i)
  alone_held =
      let m : i + (i + z - i) ≤ records_in s = omega (arith, ez, n.1) in
      rw alone_is (alone_holds.stands, sym alone_holds.sized, m)

  pub alone_trees : trees (forest_at s i (i + z - i)) ≡ tree_at s i ∷ []
  alone_trees = ap trees alone_is
