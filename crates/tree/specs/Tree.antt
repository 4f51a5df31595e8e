-- A tree of records, and the one recursion over it that every rule uses.
use Rattle.std.specs.Prelude.{◌≡◌, Bool, true, ◌&&◌, List, [], ◌∷◌, map, ℕ, suc, ◌+◌, max}
use Rattle.std.proofs.Math.Path.{refl, ap}
use Rattle.std.proofs.Common.{◌∙◌}

-- What a made node copies from the node that gives it its place: "place is the span's start"; 02, N6: "every made node copies both ends
-- from the node that gave it its place". No rule looks into it, but that effects "still carry the start".
pub record Place : Type 0 where
  pub start : ℕ
  pub end : ℕ

-- What a record says of its node, but for "children" and "records in the subtree with itself", which the tree itself says.
pub record Head : Type 0 where
  pub kind : ℕ
  pub facts : ℕ
  pub sub : ℕ
  -- byte 3, "3 zero"
  pub reserved : ℕ
  pub text : ℕ
  pub place : Place

-- A child list: a first node, by its head and its own children, and the nodes after it.
pub data Forest : Type 0 where
  nil : Forest
  node : Head → Forest → Forest → Forest

pub record Tree : Type 0 where
  pub head : Head
  pub kids : Forest

-- A node by its head alone: what is asked of a record is asked of this.
abbrev pub alone : Head → Tree
alone h = record { head = h; kids = nil }

abbrev pub trees : Forest → List Tree
trees nil = []
trees (node h cs rest) = record { head = h; kids = cs } ∷ trees rest

abbrev pub forest : List Tree → Forest
forest [] = nil
forest (t ∷ ts) = node t.head t.kids (forest ts)

pub trees_forest : (ts : List Tree) → trees (forest ts) ≡ ts
trees_forest [] = refl
trees_forest (t ∷ ts) = ap (t ∷◌) (trees_forest ts)

pub forest_trees : (f : Forest) → forest (trees f) ≡ f
forest_trees nil = refl
forest_trees (node h cs rest) = ap (node h cs) (forest_trees rest)

-- A list of one tree.
abbrev pub one : Tree → Forest
one t = node t.head t.kids nil

-- How many nodes a list has, with no regard to what is under them.
abbrev pub count : Forest → ℕ
count nil = 0
count (node h cs rest) = suc (count rest)

-- How many records a list takes with all that is under it.
abbrev pub records : Forest → ℕ
records nil = 0
records (node h cs rest) = suc (records cs + records rest)

-- How deep a list is.
abbrev pub levels : Forest → ℕ
levels nil = 0
levels (node h cs rest) = max (suc (levels cs)) (levels rest)

-- A test at each node of a list, and at each node under it.
unfoldable pub all_nodes : (Tree → Bool) → Forest → Bool
all_nodes p nil = true
all_nodes p (node h cs rest) = p (record { head = h; kids = cs }) && (all_nodes p cs && all_nodes p rest)

abbrev pub all_heads : (Head → Bool) → Forest → Bool
all_heads p f = all_nodes (λ t. p t.head) f

-- "records in the subtree with itself"
abbrev pub size : Tree → ℕ
size t = suc (records t.kids)

-- "depth ... (root 1)"
abbrev pub depth : Tree → ℕ
depth t = suc (levels t.kids)

-- A node beside what a rule gave for it.
pub record Paired (B : Type 0) : Type 0 where
  pub tree : Tree
  pub result : B

abbrev pub All : {A : Type 0} → (A → Type 0) → List A → Type 0
All P [] = Unit {0}
All P (x ∷ xs) = P x × All P xs

-- f of the two members of a list of two; `other` of any other list, which no accepted addition has for its children.
abbrev pub of_two : {A B : Type 0} → (A → A → B) → B → List A → B
of_two f other [] = other
of_two f other (x ∷ []) = other
of_two f other (x ∷ y ∷ []) = f x y
of_two f other (x ∷ y ∷ z ∷ zs) = other

-- `recur rule t`: the rule at each node is handed the node's children, each paired with its own result.
module _ {B : Type 0} (rule : Tree → List (Paired B) → B) where
  unfoldable pub each : Forest → List (Paired B)
  each nil = []
  each (node h cs rest) =
      record { tree = record { head = h; kids = cs }; result = rule (record { head = h; kids = cs }) (each cs) } ∷ each rest

  unfoldable pub recur : Tree → B
  recur t = rule t (each t.kids)

  abbrev pub paired : Tree → Paired B
  paired t = record { tree = t; result = recur t }

  each_is : (f : Forest) → each f ≡ map paired (trees f)
  unfolding each recur
  each_is nil = refl
  each_is (node h cs rest) = ap (paired (record { head = h; kids = cs }) ∷◌) (each_is rest)

  -- A rule at a node, its children listed as trees with their own results.
  pub recur_is : (t : Tree) → recur t ≡ rule t (map paired (trees t.kids))
  unfolding recur
  recur_is t = ap (rule t) (each_is t.kids)

  -- The same at a node made of a list.
  pub recur_made : (h : Head) (ts : List Tree)
      → recur (record { head = h; kids = forest ts }) ≡ rule (record { head = h; kids = forest ts }) (map paired ts)
  recur_made h ts =
      recur_is (record { head = h; kids = forest ts })
      ∙ ap (λ l. rule (record { head = h; kids = forest ts }) (map paired l)) (trees_forest ts)

-- What holds of a node if it holds of its children holds of every tree.
module _ (P : Tree → Type 0) (step : (t : Tree) → All P (trees t.kids) → P t) where
  ind_all : (f : Forest) → All P (trees f)
  ind_all nil = tt
  ind_all (node h cs rest) = (step (record { head = h; kids = cs }) (ind_all cs), ind_all rest)

  pub ind : (t : Tree) → P t
  ind t = step t (ind_all t.kids)
