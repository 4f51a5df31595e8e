-- The two sides of an addition.
use Rattle.std.specs.Prelude.{◌≡◌, refl, Bool, true, false, cond, ◌||◌, List, [], ◌∷◌, map, ◌+◌, ◌<◌, Option, None, Some, unwrap_or}
use Rattle.std.proofs.Common.{sym, ap, ◌∙◌, arith}
use Rattle.std.proofs.lemmas.Option.{none-some}
use Rattle.tree.specs.Tree.{Tree, trees, forest, forest_trees, records, size, of_two, paired, recur_is}
use Rattle.tree.specs.Symbol.{is_addition, string_fact, is_string_rule, is_string, Sides, is_string_sides}

abbrev pub first_two : List Tree → Option (Tree × Tree)
first_two [] = None
first_two (l ∷ []) = None
first_two (l ∷ r ∷ xs) = Some (l, r)

abbrev pub two_of : List Tree → Option (Tree × Tree)
two_of [] = None
two_of (l ∷ []) = None
two_of (l ∷ r ∷ []) = Some (l, r)
two_of (l ∷ r ∷ x ∷ xs) = None

-- Those of a tree, if it is an addition of two sides.
unfoldable pub sides_of : Tree → Option (Tree × Tree)
sides_of t = cond (is_addition t) (two_of (trees t.kids)) None

pub sides_other : (t : Tree) → is_addition t ≡ false → None ≡ sides_of t
unfolding sides_of
sides_other t e = sym (rw e refl)

pub sides_listed : (t : Tree) (f : List Tree) → is_addition t ≡ true → trees t.kids ≡ f → two_of f ≡ sides_of t
unfolding sides_of
sides_listed t f e l = sym (rw (e, l) refl)

pub sides_are : (t l r : Tree) → sides_of t ≡ Some (l, r) → Sides t l r
unfolding sides_of
sides_are t l r e = go (is_addition t) refl (trees t.kids) refl e
  where
    go : (b : Bool) → is_addition t ≡ b → (f : List Tree) → trees t.kids ≡ f → cond b (two_of f) None ≡ Some (l, r) → Sides t l r
    go true x (a ∷ b ∷ []) y q =
        let la : a ≡ l = ap (λ o. (unwrap_or {T = Tree × Tree} o (l, r)).0) q in
        let rb : b ≡ r = ap (λ o. (unwrap_or {T = Tree × Tree} o (l, r)).1) q in
        record { addition = x; kids = rw (← la, ← rb) y }
    go true x [] y q = absurd (none-some _ q)
    go true x (a ∷ []) y q = absurd (none-some _ q)
    go true x (a ∷ b ∷ c ∷ f) y q = absurd (none-some _ q)
    go false x f y q = absurd (none-some _ q)

-- How many records they take.
pub sides_size : (t l r : Tree) → Sides t l r → size t ≡ 1 + size l + size r
sides_size t l r S =
    let k : records t.kids ≡ size l + size r = ap records (sym (forest_trees t.kids)) ∙ ap (λ (ts : List Tree). records (forest ts)) S.kids ∙ omega arith in
    omega (arith, k)

-- By its sides a tree is a string or none.
pub string_sides : (t l r : Tree) → sides_of t ≡ Some (l, r) → is_string t ≡ (is_string l || string_fact r)
string_sides t l r e = is_string_sides t l r (sides_are t l r e)

-- The left side is smaller than its addition.
pub left_smaller : (t l r : Tree) → sides_of t ≡ Some (l, r) → size l < size t
left_smaller t l r e = omega (arith, sides_size t l r (sides_are t l r e))

-- Of a node with no such two its string fact is asked.
pub string_lone : (t : Tree) → sides_of t ≡ None → is_string t ≡ string_fact t
unfolding sides_of is_string is_string_rule
string_lone t e = recur_is is_string_rule t ∙ go (is_addition t) (trees t.kids) e
  where
    either : (b : Bool) → cond b (string_fact t) (string_fact t) ≡ string_fact t
    either true = refl
    either false = refl

    go : (b : Bool) (f : List Tree) → cond b (two_of f) None ≡ None
        → cond b (of_two (λ l r. l.result || string_fact r.tree) (string_fact t) (map (paired is_string_rule) f)) (string_fact t) ≡ string_fact t
    go b [] q = either b
    go b (x ∷ []) q = either b
    go true (x ∷ y ∷ []) q = absurd (none-some _ (sym q))
    go false (x ∷ y ∷ []) q = refl
    go b (x ∷ y ∷ z ∷ f) q = either b
