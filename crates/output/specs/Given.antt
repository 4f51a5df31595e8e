-- Trees that are to be written.
use Rattle.std.specs.Prelude.{◌≡◌, List, [], ◌∷◌, ℕ, ◌+◌, ◌-◌, ◌≤◌}
use Rattle.std.proofs.Common.{ap, sym, arith, ◌∙◌}
use Rattle.tree.specs.Tree.{Tree, forest, records, size, forest_trees}
use Rattle.tree.specs.Layout.{version_in}
use Rattle.tree.specs.Room.{records_in}
use Rattle.readings.specs.At.{forest_at}
use Rattle.readings.specs.View.{left, tree}
use Rattle.readings.specs.declared.node.Node.{Node}
use Rattle.readings.specs.declared.node.Trees.{Trees}
use Rattle.output.specs.Trees.{Wrote}

-- A tree, and out, whose records are as wide, has room for as many from record pos on.
pub record GivenTree (n : Node) (out : List ℕ) (pos : ℕ) : Type 0 where
  pub same : version_in out ≡ version_in n.record.src.now
  pub fits : pos + size (tree n) ≤ records_in out

-- The same of trees that stand one behind the other.
pub record GivenTrees (w : Trees) (out : List ℕ) (pos : ℕ) : Type 0 where
  pub same : version_in out ≡ version_in w.src.now
  pub fits : pos + (w.end - w.at) ≤ records_in out

-- The records that trees take.
pub trees_size : (w : Trees) → records (forest (left w)) ≡ w.end - w.at
trees_size w = ap records (forest_trees (forest_at w.src.now w.at (w.end - w.at))) ∙ w.held.1

-- A tree as a list of one.
pub alone_given : {n : Node} {w : Trees} {out : List ℕ} {pos : ℕ} → left w ≡ tree n ∷ [] → w.src.now ≡ n.record.src.now → GivenTree n out pos → GivenTrees w out pos
alone_given {w = w} e s g = record {
  same = g.same ∙ ap version_in (sym s);
  fits = omega (arith, g.fits, trees_size w, ap (λ (l : List Tree). records (forest l)) e);
}

-- One step of a walk that writes: the next tree, and the trees behind it.
module _ (s t : Trees) (n : Node) (y : (left s ≡ tree n ∷ left t) × (t.src.now ≡ s.src.now) × (n.record.src.now ≡ s.src.now)) where
  pub step_size : s.end - s.at ≡ size (tree n) + (t.end - t.at)
  step_size = omega (arith, trees_size s, trees_size t, ap (λ (l : List Tree). records (forest l)) y.0)

  pub first_tree : {out : List ℕ} {pos : ℕ} → GivenTrees s out pos → GivenTree n out pos
  first_tree g = record { same = g.same ∙ ap version_in (sym y.2); fits = omega (arith, g.fits, step_size) }

  pub other_trees : {out mid : List ℕ} {pos next : ℕ} {l : List Tree} → GivenTrees s out pos → Wrote out mid pos next l → records (forest l) ≤ size (tree n)
      → GivenTrees t mid next
  other_trees g w few = record {
    same = w.frame.same ∙ g.same ∙ ap version_in (sym y.1);
    fits = omega (arith, g.fits, step_size, w.spans.ends, few, w.frame.room);
  }
