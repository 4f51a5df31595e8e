-- A number for each tree that no reduction raises, between the tree's own measure and 01's bound. So one pass, and any number of
-- passes, stays within the bound of the first tree.
use Rattle.std.specs.Prelude.{Bool, cond, List, map, ◌≡◌, ℕ, suc, ◌≤◌}
use Rattle.std.proofs.Common.{◌∙◌, suc-le-suc, le_refl, le_of_eq}
use Rattle.std.proofs.Math.Path.{ap}
use Rattle.std.proofs.Math.Nat.{le_trans}
use Rattle.tree.specs.Tree.{Head, Tree, trees, forest, Paired, recur, recur_is, recur_made, All, ind}
use Rattle.tree.specs.Children as children
use Rattle.rules.specs.Settings.{Settings}
use Rattle.rules.specs.Handler.{Handler, handler, is_spread}
use Rattle.rules.specs.Facts.{possible_symbol, pure_new, pure_call, unchanged_template, only_spreads}
use Rattle.rules.specs.Class.{heritage_of, elements_of, heritage, elements, kept_class}
use Rattle.rules.proofs.Lists.{by_cond, all_map, all_take, all_drop, take_map, drop_map}
use Rattle.rules.proofs.Scale.{Scale, sum, sum_split, sum_map, sum_le, sum_grow, right_le, own, measure_trees, own_kids}

-- That of a node as a whole; and that of the parts of a class element, which its class may take apart.
pub record Potential : Type 0 where
  pub whole : ℕ
  pub parts : ℕ

abbrev pub Measured : Type 0
Measured = Paired Potential

module _ (S : Scale) (s : Settings) where
  -- The children's, under one node.
  abbrev pub over_parts : List Measured → ℕ
  over_parts cs = suc (sum S (λ c. c.result.whole) cs)

  -- The same where a child that waits may get a node of its own.
  abbrev pub over_waiting : (Tree → Bool) → List Measured → ℕ
  over_waiting waits cs =
      suc (S.plus (S.grow 0) (sum S (λ c. cond (waits c.tree) (S.grow (own S c.tree)) c.result.whole) cs))

  abbrev pub over_class : Tree → List Measured → ℕ
  over_class t cs = suc (S.plus (sum S (λ c. c.result.whole) (heritage_of t cs)) (sum S (λ c. c.result.parts) (elements_of t cs)))

  abbrev pub whole_by : Handler → Tree → List Measured → ℕ
  whole_by Handler.leaf t cs = own S t
  whole_by Handler.this t cs = own S t
  whole_by Handler.void_or_not t cs = over_parts cs
  whole_by Handler.typeof t cs = over_parts cs
  whole_by Handler.other_unary t cs = own S t
  whole_by Handler.sequence t cs = over_parts cs
  whole_by Handler.array t cs = over_parts cs
  whole_by Handler.template t cs = cond (unchanged_template t) (own S t) (over_waiting possible_symbol cs)
  whole_by Handler.object t cs = cond (only_spreads t) (own S t) (over_waiting is_spread cs)
  whole_by Handler.comparison t cs = over_parts cs
  whole_by Handler.addition t cs = over_parts cs
  whole_by Handler.other_binary t cs = own S t
  whole_by Handler.call t cs = cond (pure_call s t) (over_waiting is_spread cs) (own S t)
  whole_by Handler.new t cs = cond (pure_new s t) (over_waiting is_spread cs) (own S t)
  whole_by Handler.class t cs = cond (kept_class t) (own S t) (over_class t cs)
  -- A conditional is kept over its test, reduced later or not, and its arms; what it is made into is left whole.
  whole_by Handler.conditional t cs = over_parts cs
  whole_by Handler.logical_and t cs = own S t
  whole_by Handler.logical_or t cs = own S t
  whole_by Handler.elision t cs = own S t
  whole_by Handler.spread t cs = own S t
  whole_by Handler.property t cs = over_parts cs
  whole_by Handler.element t cs = own S t
  whole_by Handler.left_out t cs = own S t

  unfoldable pub potential_rule : Tree → List Measured → Potential
  potential_rule t cs = record { whole = whole_by (handler t.head) t cs; parts = over_parts cs }

  unfoldable pub potential : Tree → Potential
  potential t = recur potential_rule t

  abbrev pub measured : Tree → Measured
  measured t = record { tree = t; result = potential t }

  abbrev pub whole : Tree → ℕ
  whole t = (potential t).whole

  abbrev pub parts : Tree → ℕ
  parts t = (potential t).parts

  -- The same over trees.
  abbrev pub mixed : (Tree → Bool) → Tree → ℕ
  mixed waits t = cond (waits t) (S.grow (own S t)) (whole t)

  potential_is : (t : Tree) → potential t ≡ potential_rule t (map measured (trees t.kids))
  unfolding potential
  potential_is t = recur_is potential_rule t

  pub whole_is : (t : Tree) → whole t ≡ whole_by (handler t.head) t (map measured (trees t.kids))
  unfolding potential_rule
  whole_is t = ap (λ r. r.whole) (potential_is t)

  pub whole_made : (h : Head) (ts : List Tree)
      → whole (record { head = h; kids = forest ts }) ≡ whole_by (handler h) (record { head = h; kids = forest ts }) (map measured ts)
  unfolding potential potential_rule
  whole_made h ts = ap (λ r. r.whole) (recur_made potential_rule h ts)

  pub over_parts_is : (ts : List Tree) → over_parts (map measured ts) ≡ suc (sum S whole ts)
  over_parts_is ts = ap suc (sum_map S (λ c. c.result.whole) measured ts)

  pub over_waiting_is : (waits : Tree → Bool) (ts : List Tree) → over_waiting waits (map measured ts) ≡ suc (S.plus (S.grow 0) (sum S (mixed waits) ts))
  over_waiting_is waits ts =
      ap (λ n. suc (S.plus (S.grow 0) n)) (sum_map S (λ c. cond (waits c.tree) (S.grow (own S c.tree)) c.result.whole) measured ts)

  pub over_class_is : (t : Tree) → over_class t (map measured (trees t.kids)) ≡ suc (S.plus (sum S whole (heritage t)) (sum S parts (elements t)))
  over_class_is t =
      rw (take_map measured, drop_map measured, sum_map S (λ c. c.result.whole) measured (heritage t), sum_map S (λ c. c.result.parts) measured (elements t))

  pub parts_is : (t : Tree) → parts t ≡ suc (sum S whole (trees t.kids))
  unfolding potential_rule
  parts_is t = ap (λ r. r.parts) (potential_is t) ∙ over_parts_is (trees t.kids)

  -- It lies between.
  pub record Between (t : Tree) : Type 0 where
    pub low : own S t ≤ whole t
    pub high : whole t ≤ suc (S.grow (S.measure t.kids))
    pub parts_low : own S t ≤ parts t
    pub parts_high : parts t ≤ suc (S.grow (S.measure t.kids))

  grown : (t : Tree) (n : ℕ) → n ≤ suc (S.grow (S.measure t.kids)) → n ≤ S.grow (own S t)
  unfolding own
  grown t n h = le_trans h (S.grow_suc (S.measure t.kids))

  module _ (t : Tree) (bs : All Between (trees t.kids)) where
    abbrev Bounded : ℕ → Type 0
    Bounded n = (suc (sum S (own S) (trees t.kids)) ≤ n) × (n ≤ suc (S.grow (sum S (own S) (trees t.kids))))

    bounded_own : Bounded (own S t)
    bounded_own = rw (own_kids S t) (le_refl (suc (sum S (own S) (trees t.kids))), suc-le-suc (S.above (sum S (own S) (trees t.kids))))

    bounded_parts : Bounded (over_parts (map measured (trees t.kids)))
    bounded_parts =
        rw (over_parts_is (trees t.kids)) (
          suc-le-suc (sum_le S (own S) whole (trees t.kids) (all_map (λ t b. b.low) (trees t.kids) bs)),
          suc-le-suc (sum_grow S whole (own S) (trees t.kids) (all_map (λ t b. grown t (whole t) b.high) (trees t.kids) bs)),
        )

    bounded_waiting : (waits : Tree → Bool) → Bounded (over_waiting waits (map measured (trees t.kids)))
    bounded_waiting waits =
        let ts = trees t.kids in
        rw (over_waiting_is waits ts) (
          suc-le-suc (le_trans (sum_le S (own S) (mixed waits) ts (all_map low ts bs)) (right_le S (S.grow 0) (sum S (mixed waits) ts))),
          suc-le-suc (le_trans (S.mono (le_refl (S.grow 0)) (sum_grow S (mixed waits) (own S) ts (all_map high ts bs)))
              (le_of_eq (S.grow_plus 0 (sum S (own S) ts) ∙ ap S.grow (S.zero_plus (sum S (own S) ts))))),
        )
      where
        low : (t : Tree) → Between t → own S t ≤ mixed waits t
        low t b = by_cond (λ n. own S t ≤ n) (waits t) (S.grow (own S t)) (whole t) (λ _. S.above (own S t)) (λ _. b.low)

        high : (t : Tree) → Between t → mixed waits t ≤ S.grow (own S t)
        high t b = by_cond (λ n. n ≤ S.grow (own S t)) (waits t) (S.grow (own S t)) (whole t) (λ _. le_refl (S.grow (own S t))) (λ _. grown t (whole t) b.high)

    bounded_class : Bounded (over_class t (map measured (trees t.kids)))
    bounded_class =
        let hs = all_take Between (children.heritage t.head) (trees t.kids) bs in
        let es = all_drop Between (children.heritage t.head) (trees t.kids) bs in
        rw (over_class_is t, ← (sum_split S (own S) (children.heritage t.head) (trees t.kids))) (
          suc-le-suc (S.mono (sum_le S (own S) whole (heritage t) (all_map (λ t b. b.low) (heritage t) hs)) (sum_le S (own S) parts (elements t) (all_map (λ t b. b.parts_low) (elements t) es))),
          suc-le-suc (le_trans (S.mono (sum_grow S whole (own S) (heritage t) (all_map (λ t b. grown t (whole t) b.high) (heritage t) hs))
              (sum_grow S parts (own S) (elements t) (all_map (λ t b. grown t (parts t) b.parts_high) (elements t) es)))
              (le_of_eq (S.grow_plus (sum S (own S) (heritage t)) (sum S (own S) (elements t))))),
        )

    bounded : (k : Handler) → Bounded (whole_by k t (map measured (trees t.kids)))
    bounded Handler.leaf = bounded_own
    bounded Handler.this = bounded_own
    bounded Handler.void_or_not = bounded_parts
    bounded Handler.typeof = bounded_parts
    bounded Handler.other_unary = bounded_own
    bounded Handler.sequence = bounded_parts
    bounded Handler.array = bounded_parts
    bounded Handler.template = by_cond Bounded (unchanged_template t) (own S t) (over_waiting possible_symbol (map measured (trees t.kids))) (λ _. bounded_own) (λ _. bounded_waiting possible_symbol)
    bounded Handler.object = by_cond Bounded (only_spreads t) (own S t) (over_waiting is_spread (map measured (trees t.kids))) (λ _. bounded_own) (λ _. bounded_waiting is_spread)
    bounded Handler.comparison = bounded_parts
    bounded Handler.addition = bounded_parts
    bounded Handler.other_binary = bounded_own
    bounded Handler.call = by_cond Bounded (pure_call s t) (over_waiting is_spread (map measured (trees t.kids))) (own S t) (λ _. bounded_waiting is_spread) (λ _. bounded_own)
    bounded Handler.new = by_cond Bounded (pure_new s t) (over_waiting is_spread (map measured (trees t.kids))) (own S t) (λ _. bounded_waiting is_spread) (λ _. bounded_own)
    bounded Handler.class = by_cond Bounded (kept_class t) (own S t) (over_class t (map measured (trees t.kids))) (λ _. bounded_own) (λ _. bounded_class)
    bounded Handler.conditional = bounded_parts
    bounded Handler.logical_and = bounded_own
    bounded Handler.logical_or = bounded_own
    bounded Handler.elision = bounded_own
    bounded Handler.spread = bounded_own
    bounded Handler.property = bounded_parts
    bounded Handler.element = bounded_own
    bounded Handler.left_out = bounded_own

  between_step : (t : Tree) → All Between (trees t.kids) → Between t
  unfolding potential_rule
  between_step t bs =
      let p = over_parts_is (trees t.kids) in
      record {
        low = rw (own_kids S t, whole_is t) (bounded t bs (handler t.head)).0;
        high = rw (measure_trees S t.kids, whole_is t) (bounded t bs (handler t.head)).1;
        parts_low = rw (own_kids S t, parts_is t) (rw p at (bounded_parts t bs).0);
        parts_high = rw (measure_trees S t.kids, parts_is t) (rw p at (bounded_parts t bs).1);
      }

  pub between : (t : Tree) → Between t
  between = ind Between between_step
