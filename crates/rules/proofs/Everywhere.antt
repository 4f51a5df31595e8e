-- What holds at a node and at every node under it.
use Rattle.std.specs.Prelude.{Bool, true, ◌&&◌, List, [], ◌∷◌, ◌≡◌}
use Rattle.std.proofs.Math.Path.{refl}
use Rattle.tree.specs.Tree.{Forest, nil, node, Tree, trees, forest, all_nodes, All}
use Rattle.tree.specs.Below.{and_both, and_left, and_right}

module _ (P : Tree → Type 0) where
  abbrev pub EverywhereIn : Forest → Type 0
  EverywhereIn nil = Unit {0}
  EverywhereIn (node h cs rest) = P (record { head = h; kids = cs }) × EverywhereIn cs × EverywhereIn rest

  abbrev pub Everywhere : Tree → Type 0
  Everywhere t = P t × EverywhereIn t.kids

  pub kids_everywhere : (f : Forest) → EverywhereIn f → All Everywhere (trees f)
  kids_everywhere nil h = tt
  kids_everywhere (node h cs rest) w = ((w.0, w.1), kids_everywhere rest w.2)

  pub forest_everywhere : (ts : List Tree) → All Everywhere ts → EverywhereIn (forest ts)
  forest_everywhere [] h = tt
  forest_everywhere (t ∷ ts) h = (h.0.0, h.0.1, forest_everywhere ts h.1)

module _ {P Q : Tree → Type 0} (f : (t : Tree) → P t → Q t) where
  in_everywhere_map : (cs : Forest) → EverywhereIn P cs → EverywhereIn Q cs
  in_everywhere_map nil w = tt
  in_everywhere_map (node h cs rest) w = (f (record { head = h; kids = cs }) w.0, in_everywhere_map cs w.1, in_everywhere_map rest w.2)

  pub everywhere_map : (t : Tree) → Everywhere P t → Everywhere Q t
  everywhere_map t w = (f t w.0, in_everywhere_map t.kids w.1)

module _ (P Q : Tree → Type 0) where
  pub in_everywhere_both : (cs : Forest) → EverywhereIn P cs → EverywhereIn Q cs → EverywhereIn (λ t. P t × Q t) cs
  in_everywhere_both nil v w = tt
  in_everywhere_both (node h cs rest) v w = ((v.0, w.0), in_everywhere_both cs v.1 w.1, in_everywhere_both rest v.2 w.2)

-- A test that each node passes.
module _ (p : Tree → Bool) where
  pub in_everywhere_passed : (f : Forest) → all_nodes p f ≡ true → EverywhereIn (λ t. p t ≡ true) f
  unfolding all_nodes
  in_everywhere_passed nil e = tt
  in_everywhere_passed (node h cs rest) e =
      let t : Tree = record { head = h; kids = cs } in
      let under = and_right (p t) (all_nodes p cs && all_nodes p rest) e in (
        and_left (p t) (all_nodes p cs && all_nodes p rest) e,
        in_everywhere_passed cs (and_left (all_nodes p cs) (all_nodes p rest) under),
        in_everywhere_passed rest (and_right (all_nodes p cs) (all_nodes p rest) under),
      )

  pub in_everywhere_all : (f : Forest) → EverywhereIn (λ t. p t ≡ true) f → all_nodes p f ≡ true
  unfolding all_nodes
  in_everywhere_all nil w = refl
  in_everywhere_all (node h cs rest) w = and_both w.0 (and_both (in_everywhere_all cs w.1) (in_everywhere_all rest w.2))
