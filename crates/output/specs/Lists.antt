-- A list of trees that stands in a buffer.
use Rattle.std.specs.Prelude.{◌≡◌, Bool, List, [], ◌∷◌, ℕ, suc, ◌+◌, ◌-◌, ◌≤◌, length}
use Rattle.std.proofs.Common.{sym, ap, subst, ◌∙◌, arith}
use Rattle.tree.specs.Tree.{Tree, Forest, nil, node, trees, forest, records, trees_forest}
use Rattle.tree.specs.Room.{records_in}
use Rattle.tree.specs.Fields.{subtree_at}
use Rattle.tree.specs.Stands.{Stands}
use Rattle.rules.specs.Lists.{any}
use Rattle.readings.specs.At.{HeldAt, forest_at, forest_is}
use Rattle.readings.specs.View.{left}
use Rattle.readings.specs.declared.node.Trees.{Trees}
use Rattle.output.specs.Trees.{Spans}

-- Some list of trees stands from record p to record e.
pub record Spanned (s : List ℕ) (p e : ℕ) : Type 0 where
  pub list : List Tree
  pub spans : Spans s p e list
  pub inside : e ≤ records_in s

-- n is the number of the trees that stand there.
pub record Counts (s : List ℕ) (p e n : ℕ) : Type 0 where
  pub by : (ts : List Tree) → Spans s p e ts → n ≡ length ts

-- r says whether q holds of any of the trees that stand there.
pub record AnyOf (s : List ℕ) (p e : ℕ) (q : Tree → Bool) (r : Bool) : Type 0 where
  pub by : (ts : List Tree) → Spans s p e ts → r ≡ any q ts

-- Whatever list stands there is the trees of w.
pub record Lists (s : List ℕ) (p e : ℕ) (w : Trees) : Type 0 where
  pub by : (ts : List Tree) → Spans s p e ts → left w ≡ ts

-- The first tree of a list, and those behind it.
module _ {s : List ℕ} {p e : ℕ} where
  pub first_spans : (t : Tree) (ts : List Tree) → Spans s p e (t ∷ ts) → Spans s p (p + subtree_at s p) (t ∷ [])
  first_spans t ts d = record { stands = (d.stands.0, d.stands.1, d.stands.2, d.stands.3, tt); ends = omega (arith, d.stands.2) }

  pub rest_spans : (t : Tree) (ts : List Tree) → Spans s p e (t ∷ ts) → Spans s (p + subtree_at s p) e ts
  rest_spans t ts d = let m : subtree_at s p ≡ suc (records t.kids) = d.stands.2 in record { stands = rw m d.stands.4; ends = omega (arith, d.ends) }

-- Whatever list stands there is what is read there.
module _ {s : List ℕ} {p e : ℕ} where
  pub spans_forest : (ts : List Tree) → Spans s p e ts → forest_at s p (e - p) ≡ forest ts
  spans_forest ts d = forest_is s p (e - p) (forest ts) (record { stands = d.stands; sized = omega (arith, d.ends) })

  pub spans_list : (ts : List Tree) → Spans s p e ts → trees (forest_at s p (e - p)) ≡ ts
  spans_list ts d = ap trees (spans_forest ts d) ∙ trees_forest ts

  pub spanned_after : Spanned s p e → p ≤ e
  spanned_after g = omega (arith, g.spans.ends)

  pub spanned_held : Spanned s p e → HeldAt s p (e - p)
  spanned_held g =
      let x = sym (spans_forest g.list g.spans) in
      let z : records (forest_at s p (e - p)) ≡ e - p = omega (arith, g.spans.ends, ap records x) in
      (subst (λ (f : Forest). Stands s p f) x g.spans.stands, z, omega (arith, g.inside, g.spans.ends))

-- There are no more trees than records.
pub few_trees : (f : Forest) → length (trees f) ≤ records f
few_trees nil = omega arith
few_trees (node h cs rest) = omega (arith, few_trees rest)
