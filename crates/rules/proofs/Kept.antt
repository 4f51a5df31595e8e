-- A kept answer of a well-formed tree is well-formed, and passes the other tests that the tree passes node by node.
use Rattle.std.specs.Prelude.{Bool, true, not, List, ◌≡◌, eqb, ltb}
use Rattle.std.proofs.Common.{◌∙◌}
use Rattle.tree.specs.Tree.{Place, Tree, forest, one, all_nodes, all_heads, All}
use Rattle.tree.specs.Layout.{Version}
use Rattle.tree.specs.Below.{and_left, and_right}
use Rattle.tree.specs.Record.{symbol_pair, symbol_yes}
use Rattle.tree.specs.Symbol.{addition_agrees, additions_agree}
use Rattle.tree.specs.Children.{well_formed}
use Rattle.tree.specs.File.{encodable, all_encodable}
use Rattle.tree.proofs.Encoding.{place_fits_lem}
use Rattle.rules.specs.Settings.{Settings}
use Rattle.rules.specs.Made.{place_of, made_head, with_children}
use Rattle.rules.specs.Reduce.{reduce}
use Rattle.rules.proofs.Lists.{all_map}
use Rattle.rules.proofs.Everywhere.{forest_everywhere, everywhere_map, in_everywhere_both, in_everywhere_passed, in_everywhere_all}
use Rattle.rules.proofs.Facts.{same_agrees, unrecorded_agrees}
use Rattle.rules.proofs.Shape.{NodeGood}
use Rattle.rules.proofs.Accepted.{accepted, well_formed_lem}
use Rattle.rules.proofs.Stays.{Node, SameString, MadeAt, stays}

-- Nothing else of a node.
abbrev Any : Tree → Type 0
Any t = Unit {0}

and_any : (t : Tree) → NodeGood t → Node Any t
and_any t n = (n, tt)

pub kept_well_formed : (s : Settings) (t : Tree) → well_formed t ≡ true → All (λ u. well_formed u ≡ true) (reduce s t)
kept_well_formed s t e =
    let g = accepted t e in
    all_map (λ u f. well_formed_lem u (everywhere_map (λ t (n : Node Any t). n.0) u f.0, f.1)) (reduce s t)
    (stays Any (λ t _ k sub facts _ _ _ ts. tt) (λ t _ ts _. tt) s t (everywhere_map and_any t g.0, g.1))

-- A test that made nodes pass, and nodes that stay over other children.
module _ (p : Tree → Bool) where
  abbrev Passes : Tree → Type 0
  Passes t = p t ≡ true

  kept_all : ((t : Tree) → Passes t → MadeAt Passes (place_of t)) → ((t : Tree) → Passes t → (ts : List Tree) → SameString t ts → Passes (with_children t ts))
      → (s : Settings) (t : Tree) → well_formed t ≡ true → all_nodes p (one t) ≡ true → all_nodes p (forest (reduce s t)) ≡ true
  kept_all made others s t e f =
      let g = accepted t e in
      let w = in_everywhere_passed p (one t) f in
      let both = in_everywhere_both NodeGood Passes t.kids g.0.1 w.1 in
      in_everywhere_all p (forest (reduce s t))
      (forest_everywhere Passes (reduce s t)
      (all_map (λ u x. everywhere_map (λ t (n : Node Passes t). n.1) u x.0) (reduce s t) (stays Passes made others s t (((g.0.0, w.0), both), g.1))))

-- Fields that fit: of a made node by its place.
module _ (v : Version) where
  abbrev fits : Tree → Bool
  fits t = encodable v t.head

  made_fits : (t : Tree) → fits t ≡ true → MadeAt (Passes fits) (place_of t)
  unfolding encodable
  made_fits t f k sub facts ek es ef ts = rw (ek, es, and_left (ltb facts 256) (not (eqb (symbol_pair facts) 2)) ef, place_fits_lem v t.head f)

  others_fit : (t : Tree) → fits t ≡ true → (ts : List Tree) → SameString t ts → fits (with_children t ts) ≡ true
  unfolding with_children
  others_fit t f ts _ = f

  pub kept_encodable : (s : Settings) (t : Tree) → well_formed t ≡ true → all_encodable v (one t) ≡ true → all_encodable v (forest (reduce s t)) ≡ true
  kept_encodable = kept_all fits made_fits others_fit

-- 02, N6: a test of places. A node is made at the place of another, so that it passes what that one does.
module _ (q : Place → Bool) where
  abbrev placed : Tree → Bool
  placed t = q (place_of t)

  others_placed : (t : Tree) → placed t ≡ true → (ts : List Tree) → SameString t ts → placed (with_children t ts) ≡ true
  unfolding with_children
  others_placed t f ts _ = f

  pub kept_places : (s : Settings) (t : Tree) → well_formed t ≡ true → all_heads (λ h. q h.place) (one t) ≡ true
      → all_heads (λ h. q h.place) (forest (reduce s t)) ≡ true
  kept_places = kept_all placed (λ t f k sub facts _ _ _ ts. f) others_placed

-- 02, N9: no addition with a string part records "yes".
made_agrees : (t : Tree) → addition_agrees t ≡ true → MadeAt (Passes addition_agrees) (place_of t)
unfolding symbol_yes
made_agrees t _ k sub facts _ _ ef ts =
    unrecorded_agrees (record { head = made_head k sub facts (place_of t); kids = forest ts }) (and_right (ltb facts 256) (not (eqb (symbol_pair facts) 2)) ef)

pub kept_agrees : (s : Settings) (t : Tree) → well_formed t ≡ true → additions_agree (one t) ≡ true → additions_agree (forest (reduce s t)) ≡ true
kept_agrees = kept_all addition_agrees made_agrees (λ t a ts h. same_agrees t ts h ∙ a)
