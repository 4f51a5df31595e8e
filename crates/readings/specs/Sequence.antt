-- The last expression of a tree.
use Rattle.std.specs.Prelude.{◌≡◌, refl, Bool, true, false, cond, ◌||◌, List, [], ◌∷◌, map, ℕ, suc, ◌+◌, ◌<◌, ◌≤◌, None, Some, unwrap_or}
use Rattle.std.specs.List.{last_or}
use Rattle.std.proofs.Math.Path.{sym, ap}
use Rattle.std.proofs.Common.{◌∙◌, arith, eqb-true}
use Rattle.std.proofs.Math.Bool.{or-false}
use Rattle.std.proofs.Math.Dec.{eqb}
use Rattle.std.proofs.lemmas.Option.{none-some}
use Rattle.tree.specs.Tree.{Forest, nil, node, Tree, trees, records, size, All, paired, recur_is, ind}
use Rattle.rules.specs.Lists.{any}
use Rattle.rules.specs.Handler.{is_kind, is_arrow, is_sequence}
use Rattle.rules.specs.Class.{or_itself, last_of, last_rule, last_expression_in_sequence}

-- The last of t and the trees after it.
abbrev pub last_from : Tree → List Tree → Tree
last_from t [] = t
last_from t (x ∷ xs) = last_from x xs

-- A node's last child; of a node with no children, itself.
unfoldable pub last_child : Tree → Tree
last_child t = last_from t (trees t.kids)

abbrev pub first_or : Tree → List Tree → Tree
first_or t [] = t
first_or t (x ∷ xs) = x

-- `last_expression_in_sequence`: "follows the last child through nested sequences, stopping at an empty one"; of a tree that has no
-- such expression, itself.
unfoldable pub last_or_itself : Tree → Tree
last_or_itself t = first_or t (last_expression_in_sequence t)

last_is : (t : Tree) → last_expression_in_sequence t ≡ last_rule t (map (paired last_rule) (trees t.kids))
unfolding last_expression_in_sequence
last_is t = recur_is last_rule t

pub last_own : (t : Tree) → is_sequence t ≡ false → last_or_itself t ≡ t
unfolding last_or_itself last_rule
last_own t e = rw (last_is t, e)

last_map : (x : Tree) (xs : List Tree)
    → last_of (map (paired last_rule) (x ∷ xs)) ≡ or_itself (last_from x xs) (last_expression_in_sequence (last_from x xs))
unfolding last_expression_in_sequence
last_map x [] = refl
last_map x (y ∷ ys) = last_map y ys

first_or_lem : (t c : Tree) (l : List Tree) → first_or t (or_itself c l) ≡ first_or c l
first_or_lem t c [] = refl
first_or_lem t c (x ∷ xs) = refl

-- A sequence's is its last child's.
pub last_sequence : (t : Tree) → is_sequence t ≡ true → last_or_itself t ≡ last_or_itself (last_child t)
unfolding last_or_itself last_rule last_child
last_sequence t e = go t.kids e
  where
    made : Forest → Tree
    made f = record { head = t.head; kids = f }

    go : (f : Forest) → is_sequence (made f) ≡ true → last_or_itself (made f) ≡ last_or_itself (last_child (made f))
    go nil e = refl
    go (node h cs rest) e =
        let x : Tree = record { head = h; kids = cs } in
        let c = last_from x (trees rest) in
        rw (last_is (made (node h cs rest)), e, last_map x (trees rest)) (first_or_lem (made (node h cs rest)) c (last_expression_in_sequence c))

-- An empty sequence's is itself.
pub last_empty : (t : Tree) → records t.kids ≡ 0 → last_or_itself t ≡ t
unfolding last_or_itself last_rule
last_empty t z = go t.kids z
  where
    none : (b : Bool) → cond b (last_of []) [] ≡ []
    none true = refl
    none false = refl

    go : (f : Forest) → records f ≡ 0 → last_or_itself (record { head = t.head; kids = f }) ≡ record { head = t.head; kids = f }
    go nil z = let m : Tree = record { head = t.head; kids = nil } in rw (last_is m, none (is_sequence m))
    go (node h cs rest) z = absurd (omega arith)

-- The last child is smaller than its parent, if there is one.
last_within : (x : Tree) (f : Forest) → size (last_from x (trees f)) ≤ size x + records f
last_within x nil = omega arith
last_within x (node h cs rest) = let a = last_within (record { head = h; kids = cs }) rest in omega arith

last_listed : (x : Tree) (xs : List Tree) → last_or (Some x) xs ≡ Some (last_from x xs)
last_listed x [] = refl
last_listed x (y ∷ ys) = last_listed y ys

-- What is the last of its children is its last child, and is smaller.
pub last_found : (t l : Tree) → Some l ≡ last_or None (trees t.kids) → (last_child t ≡ l) × (size l < size t)
unfolding last_child
last_found t l e = go t.kids e
  where
    go : (f : Forest) → Some l ≡ last_or None (trees f) → (last_from t (trees f) ≡ l) × (size l < suc (records f))
    go nil q = absurd (none-some _ (sym q))
    go (node h cs rest) q =
        let x : Tree = record { head = h; kids = cs } in
        let same : l ≡ last_from x (trees rest) = ap (λ o. unwrap_or {T = Tree} o l) (q ∙ last_listed x (trees rest)) in
        (sym same, rw same (let w = last_within x rest in omega arith))

pub last_missing : (t : Tree) → None ≡ last_or None (trees t.kids) → records t.kids ≡ 0
last_missing t e = go t.kids e
  where
    go : (f : Forest) → None ≡ last_or None (trees f) → records f ≡ 0
    go nil q = refl
    go (node h cs rest) q = absurd (none-some _ (q ∙ last_listed (record { head = h; kids = cs }) (trees rest)))

-- At most one expression is the last.
AtMostOne : List Tree → Type 0
AtMostOne [] = Unit {0}
AtMostOne (x ∷ []) = Unit {0}
AtMostOne (x ∷ y ∷ zs) = ⊥

last_one : (t : Tree) → AtMostOne (last_expression_in_sequence t)
unfolding last_rule AtMostOne
last_one = ind (λ t. AtMostOne (last_expression_in_sequence t)) step
  where
    or_itself_lem : (c : Tree) (l : List Tree) → AtMostOne l → AtMostOne (or_itself c l)
    or_itself_lem c [] o = tt
    or_itself_lem c (x ∷ xs) o = o

    at_last : (x : Tree) (xs : List Tree) → All (λ t. AtMostOne (last_expression_in_sequence t)) (x ∷ xs) → AtMostOne (last_expression_in_sequence (last_from x xs))
    at_last x [] a = a.0
    at_last x (y ∷ ys) a = at_last y ys a.1

    of_list : (ts : List Tree) → All (λ t. AtMostOne (last_expression_in_sequence t)) ts → AtMostOne (last_of (map (paired last_rule) ts))
    of_list [] a = tt
    of_list (x ∷ xs) a = rw (last_map x xs) (or_itself_lem (last_from x xs) (last_expression_in_sequence (last_from x xs)) (at_last x xs a))

    step : (t : Tree) → All (λ t. AtMostOne (last_expression_in_sequence t)) (trees t.kids) → AtMostOne (last_expression_in_sequence t)
    step t a = rw (last_is t) (go (is_sequence t))
      where
        go : (b : Bool) → AtMostOne (cond b (last_of (map (paired last_rule) (trees t.kids))) [])
        go true = of_list (trees t.kids) a
        go false = tt

-- "an arrow (or a sequence whose last is one)"
pub arrow_last : (t : Tree) → (is_arrow t || any is_arrow (last_expression_in_sequence t)) ≡ is_arrow (last_or_itself t)
unfolding last_or_itself last_rule AtMostOne is_kind
arrow_last t = go (is_sequence t) refl
  where
    one : (l : List Tree) → AtMostOne l → is_arrow t ≡ false → (is_arrow t || any is_arrow l) ≡ is_arrow (first_or t l)
    one [] o e = or-false (is_arrow t)
    one (x ∷ []) o e = rw e (or-false (is_arrow x))
    one (x ∷ y ∷ zs) o e = absurd o

    go : (b : Bool) → is_sequence t ≡ b → (is_arrow t || any is_arrow (last_expression_in_sequence t)) ≡ is_arrow (first_or t (last_expression_in_sequence t))
    go true e = one (last_expression_in_sequence t) (last_one t) (ap (λ (k : ℕ). eqb k 4) (eqb-true t.head.kind 13 e))
    go false e = rw (last_is t, e) (or-false (is_arrow t))
