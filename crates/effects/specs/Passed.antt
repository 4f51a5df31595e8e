-- Nodes that a walk in order passes: their own entry, if there is one, comes first, and then what is listed of their children.
use Rattle.std.specs.Prelude.{◌≡◌, refl, Bool, true, false, cond, ◌&&◌, ◌||◌, List, [], ◌++◌, ◌⊎◌, ℕ, suc, ◌+◌, ◌/◌, ◌%◌, ◌^◌, ◌<◌, ◌≤◌, eqb, leb}
use Rattle.std.proofs.Common.{sym, ◌∙◌, true≢false, append-nil, inl, inr, ⊎_elim, ne_eqb, eqb-true, arith}
use Rattle.std.proofs.lemmas.Bool.{lt-leb}
use Rattle.tree.specs.Tree.{Forest, nil, node, Tree, alone, trees, count}
use Rattle.tree.specs.Fields.{head_at}
use Rattle.tree.specs.Below.{all_below, all_at, and_fails, lt_or_le}
use Rattle.tree.specs.Children.{child_count_ok, node_ok}
use Rattle.tree.specs.Stands.{node_parts}
use Rattle.tree.specs.Kind as kind
use Rattle.file.specs.Facts.{agree, agree_same}
use Rattle.rules.specs.Settings.{Settings, derived}
use Rattle.rules.specs.Handler.{Handler, handler}
use Rattle.rules.specs.Facts.{flagged}
use Rattle.rules.specs.Effects.{effects, effects_of, itself_if}
use Rattle.readings.specs.At.{tree_at}
use Rattle.rules.proofs.Unfold.{in_order_is}
use Rattle.rules.proofs.Effects.{own}
use Rattle.effects.specs.Plan.{is_passed}

-- The numbers that stand for tables are the rules at every kind below 32, and beyond it no kind is passed.
passed_bit : ℕ → Bool
passed_bit k = agree (eqb (0b10_1101_1111_1110 / 2 ^ k % 2) 1) (is_passed k)

pub passed_below : (k : ℕ) → k < 32 → eqb (0b10_1101_1111_1110 / 2 ^ k % 2) 1 ≡ is_passed k
unfolding passed_bit all_below
passed_below k l = agree_same (eqb (0b10_1101_1111_1110 / 2 ^ k % 2) 1) (is_passed k) (all_at passed_bit 32 refl k l)

pub passed_beyond : (k : ℕ) → 31 < k → is_passed k ≡ false
passed_beyond k l =
    rw (
      lt-leb k kind.other_leaf (omega arith),
      and_fails (leb kind.literal k) refl,
      ne_eqb k kind.this (λ e. omega arith),
      ne_eqb k kind.elision (λ e. omega arith),
      ne_eqb k kind.array (λ e. omega arith),
      ne_eqb k kind.object (λ e. omega arith),
      ne_eqb k kind.property (λ e. omega arith),
      ne_eqb k kind.sequence (λ e. omega arith),
    )

pub passed_small : (k : ℕ) → is_passed k ≡ true → k < 32
passed_small k e = ⊎_elim (λ (l : k < 32). l) (λ (l : 32 ≤ k). absurd (true≢false (sym e ∙ passed_beyond k l))) (lt_or_le k 32)

-- Which of them is listed itself.
abbrev pub own_by : Bool → Bool → ℕ → Bool
own_by flag this k = cond (kind.is_leaf k) flag (eqb k kind.this && this)

own_bit : ℕ → Bool → Bool → ℕ → Bool
own_bit set flag this k = agree (eqb (set / 2 ^ k % 2) 1) (own_by flag this k)

own_below : (set : ℕ) (flag this : Bool) → all_below (own_bit set flag this) 32 ≡ true → (k : ℕ) → k < 32 → eqb (set / 2 ^ k % 2) 1 ≡ own_by flag this k
unfolding own_bit
own_below set flag this e k l = agree_same (eqb (set / 2 ^ k % 2) 1) (own_by flag this k) (all_at (own_bit set flag this) 32 e k l)

-- The set of kinds that the code makes of the flag and of the setting.
pub own_is : (flag this : Bool) (some kinds : ℕ) → ((flag ≡ true) × (some ≡ 0b11_1110)) ⊎ ((flag ≡ false) × (some ≡ 0))
    → ((this ≡ true) × (kinds ≡ some + 0b100_0000)) ⊎ ((this ≡ false) × (kinds ≡ some)) → (k : ℕ) → k < 32 → eqb (kinds / 2 ^ k % 2) 1 ≡ own_by flag this k
unfolding own_bit all_below
own_is flag this some kinds (inl (a, b)) (inl (c, d)) k l = rw (a, c, d, b) (own_below 0b111_1110 true true refl k l)
own_is flag this some kinds (inl (a, b)) (inr (c, d)) k l = rw (a, c, d, b) (own_below 0b11_1110 true false refl k l)
own_is flag this some kinds (inr (a, b)) (inl (c, d)) k l = rw (a, c, d, b) (own_below 0b100_0000 false true refl k l)
own_is flag this some kinds (inr (a, b)) (inr (c, d)) k l = rw (a, c, d, b) (own_below 0 false false refl k l)

-- Whether a node that is passed is listed itself.
unfoldable pub passed_itself : Settings → Tree → Bool
passed_itself s t = own_by (flagged t) (derived s) t.head.kind

-- A record alone tells it of the tree that stands there.
pub own_passed : (g : Settings) (s : List ℕ) (i : ℕ) → passed_itself g (alone (head_at s i)) ≡ passed_itself g (tree_at s i)
unfolding passed_itself flagged tree_at
own_passed g s i = refl

no_children : (f : Forest) → eqb (count f) 0 ≡ true → trees f ≡ []
no_children nil e = refl
no_children (node h cs rest) e = absurd (omega (arith, eqb-true (suc (count rest)) 0 e))

module _ (s : Settings) (t : Tree) (w : node_ok t.head t.kids ≡ true) where
  abbrev k : ℕ
  k = t.head.kind

  abbrev passed_list : Bool → List ℕ
  passed_list b = itself_if b t ++ effects_of s (trees t.kids)

  childless : (kind.is_leaf k || (eqb k kind.this || eqb k kind.elision)) ≡ true → (b : Bool) → itself_if b t ≡ passed_list b
  unfolding child_count_ok
  childless e b =
      let c : child_count_ok t.head (count t.kids) ≡ true = (node_parts t.head t.kids w).counted in
      let z : eqb (count t.kids) 0 ≡ true = rw e at c in
      rw (no_children t.kids z) (sym (append-nil (itself_if b t)))

  -- A node that is no leaf and not `this`, by the other tests.
  passed_by : (elision array object property sequence : Bool) → eqb k kind.elision ≡ elision → eqb k kind.array ≡ array → eqb k kind.object ≡ object → eqb k kind.property ≡ property → eqb k kind.sequence ≡ sequence
      → (elision || (array || (object || (property || sequence)))) ≡ true → effects s t ≡ passed_list false
  unfolding handler
  passed_by true a o p q e1 e2 e3 e4 e5 x =
      let y = eqb-true k kind.elision e1 in own s t Handler.elision (rw y) ∙ childless (rw y) false
  passed_by false true o p q e1 e2 e3 e4 e5 x = own s t Handler.array (rw (eqb-true k kind.array e2)) ∙ in_order_is s (trees t.kids)
  passed_by false false true p q e1 e2 e3 e4 e5 x = own s t Handler.object (rw (eqb-true k kind.object e3)) ∙ in_order_is s (trees t.kids)
  passed_by false false false true q e1 e2 e3 e4 e5 x = own s t Handler.property (rw (eqb-true k kind.property e4)) ∙ in_order_is s (trees t.kids)
  passed_by false false false false true e1 e2 e3 e4 e5 x = own s t Handler.sequence (rw (eqb-true k kind.sequence e5)) ∙ in_order_is s (trees t.kids)
  passed_by false false false false false e1 e2 e3 e4 e5 x = absurd (true≢false (sym x))

  pub passes_is : is_passed k ≡ true → effects s t ≡ passed_list (passed_itself s t)
  unfolding passed_itself handler
  passes_is p = go (kind.is_leaf k) (eqb k kind.this) refl refl p
    where
      go : (leaf this : Bool) → kind.is_leaf k ≡ leaf → eqb k kind.this ≡ this
          → (leaf || (this || (eqb k kind.elision || (eqb k kind.array || (eqb k kind.object || (eqb k kind.property || eqb k kind.sequence)))))) ≡ true
          → effects s t ≡ passed_list (cond leaf (flagged t) (this && derived s))
      go true this a b x = own s t Handler.leaf (rw a) ∙ childless (rw a) (flagged t)
      go false true a b x = let y = eqb-true k kind.this b in own s t Handler.this (rw y) ∙ childless (rw y) (derived s)
      go false false a b x =
          passed_by (eqb k kind.elision) (eqb k kind.array) (eqb k kind.object) (eqb k kind.property) (eqb k kind.sequence) refl refl refl refl refl x
