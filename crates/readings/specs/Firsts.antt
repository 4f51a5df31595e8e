-- What is said of the first child, and of a walk's node.
use Rattle.std.specs.Prelude.{◌≡◌, refl, Bool, false, ◌||◌, List, [], ◌∷◌, take}
use Rattle.std.proofs.Common.{sym}
use Rattle.std.proofs.Math.Bool.{or-false}
use Rattle.tree.specs.Tree.{Tree, trees}
use Rattle.rules.specs.Lists.{any}
use Rattle.rules.specs.Handler.{first_is}

pub first_found : (p : Tree → Bool) (t x : Tree) (xs : List Tree) → trees t.kids ≡ x ∷ xs → p x ≡ first_is p t
first_found p t x xs e = sym (rw e (or-false (p x)))

pub first_none : (p : Tree → Bool) (t : Tree) → trees t.kids ≡ [] → false ≡ first_is p t
first_none p t e = sym (rw e refl)

-- "a function or arrow"
pub first_or : (p q : Tree → Bool) (t : Tree) → (first_is p t || first_is q t) ≡ first_is (λ x. p x || q x) t
first_or p q t = go (trees t.kids)
  where
    go : (l : List Tree) → (any p (take 1 l) || any q (take 1 l)) ≡ any (λ x. p x || q x) (take 1 l)
    go [] = refl
    go (x ∷ xs) = rw (or-false (p x), or-false (q x), or-false (p x || q x)) refl
