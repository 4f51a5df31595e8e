-- The first tree of a list, taken from it, and the others.
use Rattle.std.specs.Prelude.{◌≡◌, refl, List, [], ◌∷◌, take, drop, Option, None, Some, option_map, option_to_list, unwrap_or, slice_get}
use Rattle.std.specs.Iterator.{YieldsFirstBy}
use Rattle.std.proofs.Common.{sym, ap}
use Rattle.std.proofs.lemmas.Option.{none-some}
use Rattle.tree.specs.Tree.{Tree}
use Rattle.readings.specs.declared.node.Node.{Node}
use Rattle.readings.specs.declared.node.Trees.{Trees}
use Rattle.readings.specs.View.{tree, left}

pub taken : (s t : Trees) (r : Option Node) → YieldsFirstBy tree left s r t → option_to_list (option_map tree r) ≡ take 1 (left s)
taken s t None e = sym (ap (λ (l : List Tree). take 1 l) e.0)
taken s t (Some x) e = sym (ap (λ (l : List Tree). take 1 l) e)

pub others : (s t : Trees) (r : Option Node) → YieldsFirstBy tree left s r t → left t ≡ drop 1 (left s)
others s t None e = rw (e.0, e.1) refl
others s t (Some x) e = sym (ap (λ (l : List Tree). drop 1 l) e)

-- The same of a first tree that stays.
pub first_some : (l : List Tree) (x : Tree) → Some x ≡ slice_get l 0 → l ≡ x ∷ drop 1 l
first_some [] x e = absurd (none-some x (sym e))
first_some (y ∷ l) x e = ap (λ (o : Option Tree). unwrap_or o x ∷ l) (sym e)

pub first_none : (l : List Tree) → None ≡ slice_get l 0 → l ≡ []
first_none [] e = refl
first_none (y ∷ l) e = absurd (none-some y e)
