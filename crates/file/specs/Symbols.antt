-- The later test of refusal 5, by records. In preorder the left side of an addition is the next record, so a chain of additions is a run
-- of records, and what a chain is said to be goes on down its left sides.
use Rattle.std.specs.Prelude.{◌≡◌, Bool, cond, ◌&&◌, ◌||◌, List, eqb}
use Rattle.std.proofs.Math.Path.{refl, ap}
use Rattle.std.proofs.Common.{sym, ◌∙◌, true≢false}
use Rattle.std.proofs.Math.Bool.{true, false, not, and-true}
use Prim.Native.Nat.{ℕ, zero, suc, ◌+◌, ◌-◌, ◌<◌, ◌≤◌}
use native.Mathlib.Omega.{arith}
use Rattle.std.proofs.Math.Dec.{leb}
use borrow.Author.Tests.{eqb-true, leb-true}
use Rattle.tree.specs.Tree.{Head, Forest, nil, node, Tree, alone, one, count, records, all_nodes}
use Rattle.tree.specs.Below.{and_left, and_right}
use Rattle.tree.specs.Record.{symbol_yes}
use Rattle.tree.specs.Symbol.{is_addition, string_fact, is_string, is_string_addition, addition_agrees, additions_agree, is_string_sides, is_string_other}
use Rattle.tree.specs.Children.{child_count_ok, may_stand, node_ok, formed}
use Rattle.tree.specs.Room.{records_in}
use Rattle.tree.specs.Fields.{head_at, children_at, subtree_at}
use Rattle.tree.specs.Refusal.{children_end, shape_at, tree_of, additions_ok}
use Rattle.tree.specs.Stands.{Stands, two_sides, tested_of}
use Rattle.tree.specs.Kind as kind

-- Whether a node of head h is an addition that is said to be a symbol, or that is on the left of one, as `symbol` says of it.
unfoldable pub goes_on : Bool → Head → Bool
goes_on symbol h = is_addition (alone h) && (symbol || symbol_yes h)

-- What is asked of the node of head h: where the chain goes on, of its right side, of head r; where it ends, of the node itself.
unfoldable pub part_ok : Head → Head → Bool → Bool → Bool
part_ok h r symbol on = cond on (not (string_fact (alone r))) (not (symbol && string_fact (alone h)))

-- The record of an addition's right side.
abbrev pub right_of : List ℕ → ℕ → ℕ
right_of s i = i + 1 + subtree_at s (i + 1)

abbrev pub part_ok_at : List ℕ → ℕ → Bool → Bool → Bool
part_ok_at s i symbol on = part_ok (head_at s i) (head_at s (right_of s i)) symbol on

-- The walk over k records from record i on.
unfoldable pub walk_ok : List ℕ → Bool → ℕ → ℕ → Bool
walk_ok s symbol i zero = true
walk_ok s symbol i (suc k) = part_ok_at s i symbol (goes_on symbol (head_at s i)) && walk_ok s (goes_on symbol (head_at s i)) (i + 1) k

-- The records are those of a tree that passes the tests of 5 to 7.
pub record Whole (s : List ℕ) (n : ℕ) : Type 0 where
  pub inside : n ≤ records_in s
  pub stands : Stands s 0 (one (tree_of s))
  pub well : formed (one (tree_of s)) ≡ true
  pub sized : records (one (tree_of s)) ≡ n

pub record GivenPart (s : List ℕ) (i : ℕ) (on : Bool) : Type 0 where
  pub inside : i + 1 ≤ records_in s
  pub right_inside : on ≡ true → right_of s i + 1 ≤ records_in s

-- One node: what is asked of it and of what is under it, c, and of what is behind that, d and e.
of_sum : (symbol said a b x c d e : Bool)
    → (cond (symbol || said) (not b) (not (symbol && x)) && (not ((symbol || said) && a) && (c && (d && e)))) ≡ (not (symbol && (a || b)) && ((not (said && (a || b)) && (c && d)) && e))
of_sum symbol said a b x c d e = grind arith

of_other : (symbol said x c d e : Bool) → (not (symbol && x) && (c && (d && e))) ≡ (not (symbol && x) && ((not (said && false) && (c && d)) && e))
of_other symbol said x c d e = grind arith

same_addition : (h : Head) (cs : Forest) → is_addition (record { head = h; kids = cs }) ≡ is_addition (alone h)
unfolding is_addition
same_addition h cs = refl

abbrev first_string : Forest → Bool
first_string nil = false
first_string (node h cs rest) = is_string (record { head = h; kids = cs })

module _ (s : List ℕ) where
  node_is : (symbol : Bool) (h : Head) (cs : Forest) (p : ℕ) → Stands s (p + 1) cs → node_ok h cs ≡ true → (c d e : Bool)
      → (part_ok h (head_at s (right_of s p)) symbol (goes_on symbol h) && (not (goes_on symbol h && first_string cs) && (c && (d && e))))
      ≡ (not (symbol && is_string (record { head = h; kids = cs })) && ((addition_agrees (record { head = h; kids = cs }) && (c && d)) && e))
  unfolding goes_on part_ok string_fact addition_agrees is_string_addition
  node_is symbol h cs p stands o c d e = go (is_addition (alone h)) refl
    where
      made : Forest → Tree
      made f = record { head = h; kids = f }

      sum : (f : Forest) → is_addition (alone h) ≡ true → count f ≡ 2 → Stands s (p + 1) f
          → (part_ok h (head_at s (right_of s p)) symbol (goes_on symbol h) && (not (goes_on symbol h && first_string f) && (c && (d && e))))
          ≡ (not (symbol && is_string (made f)) && ((addition_agrees (made f) && (c && d)) && e))
      sum nil a two g = absurd (omega (arith, two))
      sum (node l ls nil) a two g = absurd (omega (arith, two))
      sum (node l ls (node r rs nil)) a two g =
          let x : Tree = record { head = l; kids = ls } in
          let y : Tree = record { head = r; kids = rs } in
          let f = node l ls (node r rs nil) in
          let string : is_string (made f) ≡ (is_string x || string_fact y) = is_string_sides (made f) x y (record { addition = same_addition h f ∙ a; kids = refl }) in
          let right : head_at s (right_of s p) ≡ r = ap (λ (z : ℕ). head_at s (p + 1 + z)) g.2 ∙ g.4.0 in
          ap (λ (z : Head). part_ok h z symbol (goes_on symbol h) && (not (goes_on symbol h && is_string x) && (c && (d && e)))) right
          ∙ rw (string, same_addition h f ∙ a, a) (of_sum symbol (symbol_yes h) (is_string x) (string_fact y) (string_fact (alone h)) c d e)
      sum (node l ls (node r rs (node x xs rest))) a two g = absurd (omega (arith, two))

      go : (b : Bool) → is_addition (alone h) ≡ b
          → (part_ok h (head_at s (right_of s p)) symbol (goes_on symbol h) && (not (goes_on symbol h && first_string cs) && (c && (d && e))))
          ≡ (not (symbol && is_string (made cs)) && ((addition_agrees (made cs) && (c && d)) && e))
      go true a = sum cs a (two_sides h cs a o) stands
      go false n = rw (n, same_addition h cs ∙ n, is_string_other (made cs) (same_addition h cs ∙ n)) (of_other symbol (symbol_yes h) (string_fact (made cs)) c d e)

  some_sides : (symbol : Bool) (h : Head) (cs : Forest) → node_ok h cs ≡ true → goes_on symbol h ≡ true → 0 < count cs
  unfolding goes_on
  some_sides symbol h cs o g = omega (arith, two_sides h cs (and_left (is_addition (alone h)) (symbol || symbol_yes h) g) o)

  -- The walk over a list of trees, and on: the first of them may be on the left of additions.
  walk_is : (symbol : Bool) (f : Forest) (p m k q : ℕ) → Stands s p f → formed f ≡ true → (symbol ≡ true → 0 < count f) → m ≡ records f + k → q ≡ p + records f
      → walk_ok s symbol p m ≡ (not (symbol && first_string f) && (additions_agree f && walk_ok s false q k))
  unfolding walk_ok formed all_nodes
  walk_is true nil p m k q d w some em eq = absurd (omega (arith, some refl))
  walk_is false nil p m k q d w some em eq =
      let a : m ≡ k = omega (arith, em) in
      let b : q ≡ p = omega (arith, eq) in
      rw (a, b)
  walk_is symbol (node h cs rest) p zero k q d w some em eq = absurd (omega (arith, em))
  walk_is symbol (node h cs rest) p (suc m) k q d w some em eq =
      let o = and_left (node_ok h cs) (formed cs && formed rest) w in
      let under = and_right (node_ok h cs) (formed cs && formed rest) w in
      let next = p + suc (records cs) in
      let behind = walk_is false rest next (records rest + k) k q d.4 (and_right (formed cs) (formed rest) under) (λ x. absurd (true≢false (sym x))) refl (omega (arith, eq)) in
      let inner = walk_is (goes_on symbol h) cs (p + 1) m (records rest + k) next d.3 (and_left (formed cs) (formed rest) under) (some_sides symbol h cs o) (omega (arith, em)) (omega arith) in
      ap (λ (x : Head). part_ok x (head_at s (right_of s p)) symbol (goes_on symbol x) && walk_ok s (goes_on symbol x) (p + 1) m) d.0
      ∙ ap (part_ok h (head_at s (right_of s p)) symbol (goes_on symbol h) &&◌) (inner ∙ ap (λ z. not (goes_on symbol h && first_string cs) && (additions_agree cs && z)) behind)
      ∙ node_is symbol h cs p d.3 o (additions_agree cs) (additions_agree rest) (walk_ok s false q k)

module _ {s : List ℕ} {n : ℕ} (w : Whole s n) where
  walk_whole : walk_ok s false 0 n ≡ additions_ok s
  unfolding additions_ok walk_ok
  walk_whole = walk_is s false (one (tree_of s)) 0 n 0 n w.stands w.well (λ x. absurd (true≢false (sym x))) (omega (arith, w.sized)) (omega (arith, w.sized)) ∙ and-true (additions_agree (one (tree_of s)))

  -- The right side of an addition is there.
  right_of_lem : (i : ℕ) → i < n → is_addition (alone (head_at s i)) ≡ true → right_of s i < n
  unfolding is_addition shape_at child_count_ok children_end
  right_of_lem i l a =
      let h = head_at s i in
      let e = i + subtree_at s i in
      let q = right_of s i in
      let k = eqb-true h.kind kind.binary (and_left (eqb h.kind kind.binary) (eqb h.sub 2) a) in
      let shape = (tested_of s n 0 (one (tree_of s)) w.stands w.well (omega (arith, w.sized)) i (omega arith) (omega (arith, w.sized))).shape in
      let ends = children_end s h true (children_at s i) (i + 1) e in
      let rest = and_right (leb e n) (child_count_ok h (children_at s i) && ends) shape in
      let two = eqb-true (children_at s i) 2 (rw k at (and_left (child_count_ok h (children_at s i)) ends rest)) in
      let both : children_end s h true 2 (i + 1) e ≡ true = rw two at (and_right (child_count_ok h (children_at s i)) ends rest) in
      let first = and_right (leb 1 (subtree_at s (i + 1)) && leb q e) (may_stand h true (head_at s (i + 1)).kind && children_end s h false 1 q e) both in
      let second = and_right (may_stand h true (head_at s (i + 1)).kind) (children_end s h false 1 q e) first in
      let last = and_left (leb 1 (subtree_at s q) && leb (q + subtree_at s q) e) (may_stand h false (head_at s q).kind && children_end s h false 0 (q + subtree_at s q) e) second in
      omega (
        arith,
        leb-true e n (and_left (leb e n) (child_count_ok h (children_at s i) && ends) shape),
        leb-true 1 (subtree_at s q) (and_left (leb 1 (subtree_at s q)) (leb (q + subtree_at s q) e) last),
        leb-true (q + subtree_at s q) e (and_right (leb 1 (subtree_at s q)) (leb (q + subtree_at s q) e) last),
      )

-- Where the walk stands: what it finds of the records that are left answers for all.
pub record Walking (s : List ℕ) (n : ℕ) (symbol : Bool) (i : ℕ) : Type 0 where
  pub inside : i ≤ n
  pub whole : Whole s n
  pub left : walk_ok s symbol i (n - i) ≡ additions_ok s

pub walking_start : {s : List ℕ} {n : ℕ} → Whole s n → Walking s n false 0
walking_start {n = n} w = let z : n - 0 ≡ n = omega arith in record { inside = omega arith; whole = w; left = rw z (walk_whole w) }

module _ {s : List ℕ} {n : ℕ} {symbol : Bool} {i : ℕ} (k : Walking s n symbol i) where
  pub walking_done : n ≤ i → true ≡ additions_ok s
  unfolding walk_ok
  walking_done l = let z : n - i ≡ 0 = omega arith in rw z at k.left

  module _ (l : i < n) where
    pub walking_inside : i + 1 ≤ records_in s
    walking_inside = omega (arith, k.whole.inside)

    module _ (on : Bool) (e : on ≡ goes_on symbol (head_at s i)) where
      pub part_given : GivenPart s i on
      unfolding goes_on
      part_given = record {
        inside = walking_inside;
        right_inside = λ x.
            omega (arith, k.whole.inside, right_of_lem k.whole i l (and_left (is_addition (alone (head_at s i))) (symbol || symbol_yes (head_at s i)) (sym e ∙ x)));
      }

      walk_next : (part_ok_at s i symbol on && walk_ok s on (i + 1) (n - i - 1)) ≡ additions_ok s
      unfolding walk_ok
      walk_next = let z : n - i ≡ suc (n - i - 1) = omega arith in rw e (rw z at k.left)

      pub part_fails : part_ok_at s i symbol on ≡ false → false ≡ additions_ok s
      part_fails f = sym (ap (◌&& walk_ok s on (i + 1) (n - i - 1)) f) ∙ walk_next

      pub part_passes : part_ok_at s i symbol on ≡ true → Walking s n on (i + 1)
      part_passes f = record {
        inside = omega arith;
        whole = k.whole;
        left =
            let z : n - (i + 1) ≡ n - i - 1 = omega arith in
            rw z (sym (ap (◌&& walk_ok s on (i + 1) (n - i - 1)) f) ∙ walk_next);
      }
