-- A walk over trees: the next one, of the same bytes, and where the walk then stands.
use Rattle.std.specs.Prelude.{◌≡◌, refl, List, [], ◌∷◌, Option, None, Some, IfSome, IsSome, MatchOption, ℕ, suc, ◌+◌, ◌-◌, length}
use Rattle.std.specs.Iterator.{AlwaysYields, YieldsFirstBy}
use Rattle.std.proofs.Common.{ap, arith, subst}
use Rattle.std.proofs.lemmas.Iterator.{YieldsList}
use Rattle.std.proofs.lemmas.Iterator.Consumers.{YieldsList-from_shown}
use Rattle.tree.specs.Tree.{Forest, nil, node, Tree, trees, count, records, size}
use Rattle.readings.specs.At.{forest_at}
use Rattle.readings.specs.View.{left, tree}
use Rattle.readings.specs.declared.node.Node.{Node}
use Rattle.readings.specs.declared.node.Trees.{Trees}

-- The next tree, of the same bytes, and the trees behind it.
abbrev pub YieldsTree : Trees → Option Node → Trees → Type 0
YieldsTree s r t = YieldsFirstBy tree left s r t × (t.src.now ≡ s.src.now) × IfSome r (λ n. n.record.src.now ≡ s.src.now)

-- The next one stands where the walk does, and the others behind it, up to the same end.
abbrev pub Stepped : Trees → Option Node → Trees → Type 0
Stepped s r t = (t.end ≡ s.end) × MatchOption r (s.at ≡ s.end) (λ n. (n.record.at ≡ s.at) × (t.at ≡ s.at + size (tree n)))

-- Both.
abbrev pub StepsTree : Trees → Option Node → Trees → Type 0
StepsTree s r t = YieldsFirstBy tree left s r t × (t.src.now ≡ s.src.now) × IfSome r (λ n. n.record.src.now ≡ s.src.now) × Stepped s r t

-- What a step gives, wherever it stands.
pub unplaced : (s t : Trees) (r : Option Node) → StepsTree s r t → YieldsTree s r t
unplaced s t r y = (y.0, y.1, y.2)

-- Such a walk gives the trees that are left, in order.
pub yields : {w : Trees} (ts : List Tree) → left w ≡ ts → YieldsList YieldsTree tree w ts
yields {w} ts e = subst (λ (l : List Tree). YieldsList YieldsTree tree w l) e (YieldsList-from_shown YieldsTree tree left (λ s t y. ap length y.0.0) (λ s x t y. y.0) w)

steps_too : (ts : List Tree) (w : Trees) → AlwaysYields YieldsTree tree w ts → AlwaysYields StepsTree tree w ts
steps_too [] w a = λ x t y. a x t (unplaced w t (Some x) y)
steps_too (_ ∷ ts) w a = (λ t y. a.0 t (unplaced w t None y), λ x t y. let b = a.1 x t (unplaced w t (Some x) y) in (b.0, steps_too ts t b.1))

pub steps_yield : {w : Trees} (ts : List Tree) → left w ≡ ts → YieldsList StepsTree tree w ts
steps_yield {w} ts e = record { runs = steps_too ts w (yields ts e).runs }

-- Where trees are left, there is a next one.
pub some_yielded : (s t : Trees) (r : Option Node) {n : ℕ} → YieldsTree s r t → length (left s) ≡ suc n → IsSome r
some_yielded s t None y e = absurd (omega (arith, e, ap length y.0.0))
some_yielded s t (Some x) y e = refl

pub some_stepped : (s t : Trees) (r : Option Node) {n : ℕ} → StepsTree s r t → length (left s) ≡ suc n → IsSome r
some_stepped s t r y e = some_yielded s t r (unplaced s t r y) e

pub yielded : (s t : Trees) (r : Option Node) (x : Node) → r ≡ Some x → YieldsTree s r t → (left s ≡ tree x ∷ left t) × (t.src.now ≡ s.src.now) × (x.record.src.now ≡ s.src.now)
yielded s t r x e y = subst (λ (o : Option Node). YieldsTree s o t) e y

pub stepped : (s t : Trees) (r : Option Node) (x : Node) → r ≡ Some x → StepsTree s r t → StepsTree s (Some x) t
stepped s t r x e y = let z = yielded s t r x e (unplaced s t r y) in (z.0, z.1, z.2, subst (λ (o : Option Node). Stepped s o t) e y.3)

-- A node's children are as many as their list.
pub count_trees : (f : Forest) → length (trees f) ≡ count f
count_trees nil = refl
count_trees (node h cs rest) = ap suc (count_trees rest)

pub none_behind : (l : List Tree) → length l ≡ 0 → l ≡ []
none_behind [] e = refl
none_behind (x ∷ xs) e = absurd (omega arith)

-- Where no tree is left, the walk stands at its end.
pub at_end : (w : Trees) → left w ≡ [] → w.at ≡ w.end
at_end w e = let n = none (forest_at w.src.now w.at (w.end - w.at)) e in omega (arith, w.ordered, w.held.1)
  where
    none : (f : Forest) → trees f ≡ [] → records f ≡ 0
    none nil q = refl
    none (node h cs rest) q = absurd (omega (arith, ap length q))
