-- What a count of records and a count of levels share: one proof for both bounds.
use Rattle.std.specs.Prelude.{Bool, true, false, ◌≡◌, refl, take, drop}
use mathlib.Core.List.{List, [], ◌∷◌, ◌++◌, map}
use Rattle.std.proofs.Common.{sym, ◌∙◌, subst, le_refl, le_trans, le_of_eq, arith, take-append-drop}
use Rattle.std.proofs.Math.Path.{ap}
use Prim.Native.Nat.{ℕ, suc, ◌+◌, ◌*◌, ◌≤◌, zero-le, max}
use Rattle.tree.specs.Tree.{Head, Forest, nil, node, Tree, trees, forest, records, levels, All}
use Rattle.rules.specs.Lists.{keep_if, filter, concat_map}
use Rattle.rules.proofs.Lists.{always}

-- A measure of child lists, put together by `plus`; and how much a node's children may `grow` in a reduction.
pub record Scale : Type 0 where
  pub measure : Forest → ℕ
  pub plus : ℕ → ℕ → ℕ
  pub grow : ℕ → ℕ
  pub measure_nil : measure nil ≡ 0
  pub measure_node : (h : Head) (cs rest : Forest) → measure (node h cs rest) ≡ plus (suc (measure cs)) (measure rest)
  pub zero_plus : (b : ℕ) → plus 0 b ≡ b
  pub plus_zero : (a : ℕ) → plus a 0 ≡ a
  pub assoc : (a b c : ℕ) → plus (plus a b) c ≡ plus a (plus b c)
  pub mono : {a b c d : ℕ} → a ≤ b → c ≤ d → plus a c ≤ plus b d
  pub grow_plus : (a b : ℕ) → plus (grow a) (grow b) ≡ grow (plus a b)
  pub grow_suc : (a : ℕ) → suc (grow a) ≤ grow (suc a)
  pub above : (a : ℕ) → a ≤ grow a
  -- A node over a list that is not empty is within what the list may grow to.
  pub wrap : (a b : ℕ) → suc (plus (suc a) b) ≤ grow (plus (suc a) b)
  -- Beside a node, what an empty list may grow to adds nothing.
  pub absorb : {a : ℕ} → 1 ≤ a → (b : ℕ) → plus a (plus (grow 0) b) ≤ plus a b

-- Records: a sum, which doubles.
abbrev pub by_records : Scale
by_records = record {
  measure = records;
  plus = λ a b. a + b;
  grow = λ a. 2 * a;
  measure_nil = refl;
  measure_node = λ h cs rest. omega arith;
  zero_plus = λ b. omega arith;
  plus_zero = λ a. omega arith;
  assoc = λ a b c. omega arith;
  mono = λ p q. omega arith;
  grow_plus = λ a b. omega arith;
  grow_suc = λ a. omega arith;
  above = λ a. omega arith;
  wrap = λ a b. omega arith;
  absorb = λ h b. omega arith;
}

-- Levels: a maximum, which grows by one.
abbrev pub by_levels : Scale
by_levels = record {
  measure = levels;
  plus = λ a b. max a b;
  grow = λ a. suc a;
  measure_nil = refl;
  measure_node = λ h cs rest. refl;
  zero_plus = λ b. omega arith;
  plus_zero = λ a. omega arith;
  assoc = λ a b c. omega arith;
  mono = λ p q. omega arith;
  grow_plus = λ a b. omega arith;
  grow_suc = λ a. omega arith;
  above = λ a. omega arith;
  wrap = λ a b. omega arith;
  absorb = λ h b. omega arith;
}

module _ (S : Scale) where
  abbrev pub sum : {A : Type 0} → (A → ℕ) → List A → ℕ
  sum f [] = 0
  sum f (x ∷ xs) = S.plus (f x) (sum f xs)

  module _ {A : Type 0} where
    pub sum_one : (f : A → ℕ) (x : A) → sum f (x ∷ []) ≡ f x
    sum_one f x = S.plus_zero (f x)

    pub sum_append : (f : A → ℕ) (xs ys : List A) → sum f (xs ++ ys) ≡ S.plus (sum f xs) (sum f ys)
    sum_append f [] ys = sym (S.zero_plus (sum f ys))
    sum_append f (x ∷ xs) ys = ap (S.plus (f x)) (sum_append f xs ys) ∙ sym (S.assoc (f x) (sum f xs) (sum f ys))

    pub sum_split : (f : A → ℕ) (n : ℕ) (xs : List A) → S.plus (sum f (take n xs)) (sum f (drop n xs)) ≡ sum f xs
    sum_split f n xs = sym (sum_append f (take n xs) (drop n xs)) ∙ ap (sum f) (take-append-drop n xs)

    pub sum_map : {B : Type 0} (f : B → ℕ) (g : A → B) (xs : List A) → sum f (map g xs) ≡ sum (λ x. f (g x)) xs
    sum_map f g [] = refl
    sum_map f g (x ∷ xs) = ap (S.plus (f (g x))) (sum_map f g xs)

    pub sum_le : (f g : A → ℕ) (xs : List A) → All (λ x. f x ≤ g x) xs → sum f xs ≤ sum g xs
    sum_le f g [] h = zero-le
    sum_le f g (x ∷ xs) h = S.mono h.0 (sum_le f g xs h.1)

    pub sum_grow : (f g : A → ℕ) (xs : List A) → All (λ x. f x ≤ S.grow (g x)) xs → sum f xs ≤ S.grow (sum g xs)
    sum_grow f g [] h = zero-le
    sum_grow f g (x ∷ xs) h = le_trans (S.mono h.0 (sum_grow f g xs h.1)) (le_of_eq (S.grow_plus (g x) (sum g xs)))

    pub sum_append_le : (f : A → ℕ) (xs ys : List A) (a b : ℕ) → sum f xs ≤ a → sum f ys ≤ b → sum f (xs ++ ys) ≤ S.plus a b
    sum_append_le f xs ys a b p q = rw (sum_append f xs ys) (S.mono p q)

    pub sum_concat_map : {B : Type 0} (f : A → ℕ) (g : B → List A) (b : B → ℕ) (xs : List B)
        → All (λ x. sum f (g x) ≤ b x) xs → sum f (concat_map g xs) ≤ sum b xs
    sum_concat_map f g b [] h = zero-le
    sum_concat_map f g b (x ∷ xs) h = sum_append_le f (g x) (concat_map g xs) (b x) (sum b xs) h.0 (sum_concat_map f g b xs h.1)

    pub sum_keep : (f : A → ℕ) (b : Bool) (x : A) → sum f (keep_if b x) ≤ f x
    sum_keep f true x = le_of_eq (sum_one f x)
    sum_keep f false x = zero-le

    pub sum_filter : (f : A → ℕ) (p : A → Bool) (xs : List A) → sum f (filter p xs) ≤ sum f xs
    sum_filter f p xs = sum_concat_map f (λ x. keep_if (p x) x) f xs (always (λ x. sum_keep f (p x) x) xs)

  pub right_le : (a b : ℕ) → b ≤ S.plus a b
  right_le a b = subst (λ n. n ≤ S.plus a b) (S.zero_plus b) (S.mono zero-le (le_refl b))

  pub left_le : (a b : ℕ) → a ≤ S.plus a b
  left_le a b = subst (λ n. n ≤ S.plus a b) (S.plus_zero a) (S.mono (le_refl a) zero-le)

  -- A node's own measure, which is `size` by records and `depth` by levels.
  unfoldable pub own : Tree → ℕ
  own t = suc (S.measure t.kids)

  pub measure_trees : (f : Forest) → S.measure f ≡ sum own (trees f)
  unfolding own
  measure_trees nil = S.measure_nil
  measure_trees (node h cs rest) = S.measure_node h cs rest ∙ ap (S.plus (suc (S.measure cs))) (measure_trees rest)

  pub measure_forest : (ts : List Tree) → S.measure (forest ts) ≡ sum own ts
  unfolding own
  measure_forest [] = S.measure_nil
  measure_forest (t ∷ ts) = S.measure_node t.head t.kids (forest ts) ∙ ap (S.plus (own t)) (measure_forest ts)

  pub own_made : (h : Head) (ts : List Tree) → own (record { head = h; kids = forest ts }) ≡ suc (sum own ts)
  unfolding own
  own_made h ts = ap suc (measure_forest ts)

  pub own_kids : (t : Tree) → own t ≡ suc (sum own (trees t.kids))
  unfolding own
  own_kids t = ap suc (measure_trees t.kids)

  pub wrapped : (t : Tree) (ts : List Tree) → suc (sum own (t ∷ ts)) ≤ S.grow (sum own (t ∷ ts))
  unfolding own
  wrapped t ts = S.wrap (S.measure t.kids) (sum own ts)
