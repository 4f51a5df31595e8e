-- The tree that stands at a record.
use Rattle.std.specs.Prelude.{◌≡◌, refl, List, [], ◌∷◌, ℕ, suc, ◌+◌, ◌-◌, ◌<◌, ◌≤◌, eqb}
use Rattle.std.proofs.Common.{sym, ◌∙◌, arith, ne_eqb}
use Rattle.std.specs.Coded.{Coded, code_by, coded×, coded_ℕ, Coded-set, ×_prop, Unit-prop, le_prop}
use Rattle.tree.specs.Tree.{Head, Forest, nil, node, Tree, one, trees, count, records, size}
use Rattle.tree.specs.Room.{records_in}
use Rattle.tree.specs.Fields.{head_at, children_at, subtree_at}
use Rattle.tree.specs.Refusal.{decode}
use Rattle.tree.specs.Stands.{Stands, decode_stands}
use Rattle.tree.specs.Walk.{Holds, first_of}
use Rattle.rules.specs.Lists.{is_empty}

-- The trees from record p on, in n records.
unfoldable pub forest_at : List ℕ → ℕ → ℕ → Forest
forest_at s p n = decode n s p (p + n)

unfoldable pub tree_at : List ℕ → ℕ → Tree
tree_at s i = record { head = head_at s i; kids = forest_at s (i + 1) (subtree_at s i - 1) }

-- The tree's head is the record's.
pub head_is : (s : List ℕ) (i : ℕ) → (tree_at s i).head ≡ head_at s i
unfolding tree_at
head_is s i = refl

abbrev pub HeldAt : List ℕ → ℕ → ℕ → Type 0
HeldAt s p n = Stands s p (forest_at s p n) × (records (forest_at s p n) ≡ n) × (p + n ≤ records_in s)

abbrev pub NodeAt : List ℕ → ℕ → Type 0
NodeAt s i = Stands s i (one (tree_at s i)) × (i + size (tree_at s i) ≤ records_in s)

head_code : Coded Head
head_code = code_by (ℕ × (ℕ × (ℕ × (ℕ × (ℕ × (ℕ × ℕ)))))) (coded× coded_ℕ (coded× coded_ℕ (coded× coded_ℕ (coded× coded_ℕ (coded× coded_ℕ (coded× coded_ℕ coded_ℕ))))))
    (λ h. (h.kind, (h.facts, (h.sub, (h.reserved, (h.text, (h.place.start, h.place.end)))))))
    (λ t. record { kind = t.0; facts = t.1.0; sub = t.1.1.0; reserved = t.1.1.1.0; text = t.1.1.1.1.0; place = record { start = t.1.1.1.1.1.0; end = t.1.1.1.1.1.1 } })
    (λ _. refl)

pub Stands-prop : (s : List ℕ) (i : ℕ) (f : Forest) → IsProp (Stands s i f)
Stands-prop s i nil = Unit-prop
Stands-prop s i (node h cs rest) =
    let a = Stands-prop s (i + 1) cs in
    let b = Stands-prop s (i + suc (records cs)) rest in
    let c : IsProp (head_at s i ≡ h) = Coded-set head_code _ _ in
    let n : IsSet ℕ = Coded-set coded_ℕ in
    Prim.hlevel (a, b, c, n)

pub HeldAt-prop : (s : List ℕ) (p n : ℕ) → IsProp (HeldAt s p n)
HeldAt-prop s p n = let a = Stands-prop s p (forest_at s p n) in let m : IsSet ℕ = Coded-set coded_ℕ in Prim.hlevel (a, m, le_prop)

pub forest_is : (s : List ℕ) (p n : ℕ) (f : Forest) → Holds s p n f → forest_at s p n ≡ f
unfolding forest_at
forest_is s p n f h = decode_stands s n p (p + n) f h.stands (omega (arith, h.sized)) (omega (arith, h.sized))

pub NodeAt-prop : (s : List ℕ) (i : ℕ) → IsProp (NodeAt s i)
NodeAt-prop s i = ×_prop (Stands-prop s i (one (tree_at s i))) le_prop

-- Whatever tree stands there is it.
pub tree_is : (s : List ℕ) (i : ℕ) (t : Tree) → Stands s i (one t) → tree_at s i ≡ t
unfolding tree_at
tree_is s i t d =
    let m : subtree_at s i ≡ suc (records t.kids) = d.2 in
    let k = forest_is s (i + 1) (subtree_at s i - 1) t.kids (record { stands = d.3; sized = omega (arith, m) }) in
    rw (d.0, k) refl

module _ (s : List ℕ) (i : ℕ) (n : NodeAt s i) where
  pub node_size : subtree_at s i ≡ size (tree_at s i)
  node_size = n.0.2

  pub kids_counted : is_empty (trees (tree_at s i).kids) ≡ eqb (children_at s i) 0
  kids_counted = rw n.0.1 (go (tree_at s i).kids)
    where
      go : (f : Forest) → is_empty (trees f) ≡ eqb (count f) 0
      go nil = refl
      go (node h cs rest) = sym (ne_eqb (suc (count rest)) 0 (λ e. omega arith))

  pub node_kids : HeldAt s (i + 1) (subtree_at s i - 1)
  unfolding tree_at
  node_kids =
      let m : subtree_at s i ≡ size (tree_at s i) = n.0.2 in
      (n.0.3, omega (arith, m), omega (arith, m, n.1))

-- The first tree of some that stand one behind the other, and the others.
module _ (s : List ℕ) (p n : ℕ) (h : HeldAt s p n) (l : 0 < n) where
  go_first : (f : Forest) → forest_at s p n ≡ f → Holds s p n f
      → NodeAt s p × (subtree_at s p ≤ n) × HeldAt s (p + subtree_at s p) (n - subtree_at s p)
      × (trees f ≡ tree_at s p ∷ trees (forest_at s (p + subtree_at s p) (n - subtree_at s p)))
  go_first nil e d = absurd (omega (arith, d.sized))
  go_first (node k cs rest) e d =
      let a = first_of k cs rest d in
      let t : Tree = record { head = k; kids = cs } in
      let st : Stands s p (one t) = (d.stands.0, d.stands.1, d.stands.2, d.stands.3, tt) in
      let ti = tree_is s p t st in
      let fi = forest_is s (p + subtree_at s p) (n - subtree_at s p) rest a.after in
      let m : subtree_at s p ≡ size t = d.stands.2 in
      let in1 : p + size t ≤ records_in s = omega (arith, a.within, m, h.2) in
      let in2 : p + subtree_at s p + (n - subtree_at s p) ≤ records_in s = omega (arith, a.within, h.2) in
      (rw ti (st, in1), a.within, rw fi (a.after.stands, sym a.after.sized, in2), rw (ti, fi) refl)

  pub first_at : NodeAt s p × (subtree_at s p ≤ n) × HeldAt s (p + subtree_at s p) (n - subtree_at s p)
      × (trees (forest_at s p n) ≡ tree_at s p ∷ trees (forest_at s (p + subtree_at s p) (n - subtree_at s p)))
  first_at = go_first (forest_at s p n) refl (record { stands = h.0; sized = sym h.1 })

-- One step of a walk over trees, where the first takes z records.
module _ (s : List ℕ) (p e : ℕ) (h : HeldAt s p (e - p)) (l : p < e) where
  pub step_node : NodeAt s p
  step_node = (first_at s p (e - p) h (omega arith)).0

  pub step_inside : p + 1 ≤ records_in s
  step_inside = omega (arith, h.2)

  module _ (z : ℕ) (ez : z ≡ size (tree_at s p)) where
    step_same : z ≡ subtree_at s p
    step_same = ez ∙ sym (node_size s p step_node)

    pub step_ordered : p + z ≤ e
    step_ordered = omega (arith, (first_at s p (e - p) h (omega arith)).1, step_same)

    step_left : e - p - subtree_at s p ≡ e - (p + z)
    step_left = omega (arith, step_same)

    pub step_held : HeldAt s (p + z) (e - (p + z))
    step_held =
        let x : p + subtree_at s p ≡ p + z = omega (arith, step_same) in
        rw x at (rw step_left at (first_at s p (e - p) h (omega arith)).2)

    pub step_trees : trees (forest_at s p (e - p)) ≡ tree_at s p ∷ trees (forest_at s (p + z) (e - (p + z)))
    step_trees =
        let x : p + subtree_at s p ≡ p + z = omega (arith, step_same) in
        rw x at (rw step_left at (first_at s p (e - p) h (omega arith)).3)

pub none_left : (s : List ℕ) (p e : ℕ) → p ≡ e → trees (forest_at s p (e - p)) ≡ []
unfolding forest_at decode
none_left s p e q = let z : e - p ≡ 0 = omega arith in rw z refl
