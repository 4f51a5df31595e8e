-- The fold of a chain of additions, and what is left of an addition.
use Rattle.std.specs.Prelude.{◌≡◌, refl, Bool, true, false, cond, not, ◌||◌, List, [], ◌∷◌, map, ℕ, ◌+◌, ◌<◌, ◌≤◌, None, Some}
use Rattle.std.proofs.Common.{sym, ap, ◌∙◌, arith}
use Rattle.std.proofs.lemmas.Option.{none-some}
use Rattle.std.proofs.Math.Dec.{eqb}
use Rattle.tree.specs.Tree.{Head, Tree, trees, size, recur_is, of_two, paired}
use Rattle.tree.specs.Fields.{head_at}
use Rattle.tree.specs.Symbol.{is_addition, string_fact, is_string, Sides}
use Rattle.tree.specs.Kind as kind
use Rattle.rules.specs.Lists.{keep_if}
use Rattle.rules.specs.Handler.{is_kind, is_literal}
use Rattle.rules.specs.Made.{with_children}
use Rattle.rules.specs.Addition.{emptied_unless_flagged, is_dropped_right, fold_sides, fold_rule, fold_string_addition_chain}
use Rattle.rules.proofs.Lists.{by_cond}
use Rattle.rules.proofs.Addition.{NoSides, by_chain, fold_sides_lem, is_string_stays, emptied_string, emptied_string_fact}
use Rattle.readings.specs.Sides.{two_of, sides_of, sides_are, sides_size, string_lone}
use Rattle.readings.specs.View.{tree}
use Rattle.readings.specs.declared.node.Node.{Node}
use Rattle.output.specs.Trees.{Wrote, wrote_none, wrote_over, wrote_as}
use Rattle.output.specs.Given.{GivenTree}
use Rattle.addition.specs.Sides.{folded_right, GivenSides, SidesFolded, emptied_size, right_size}

-- The fold of the tree t is written from record pos to record next, and `string` says whether it is a string.
pub record Folds (t : Tree) (old new : List ℕ) (pos next : ℕ) (string : Bool) : Type 0 where
  pub wrote : Wrote old new pos next (fold_string_addition_chain t ∷ [])
  pub is : string ≡ is_string (fold_string_addition_chain t)

-- "then removable exactly if a string literal remains"
abbrev pub RemovesAddition : Tree → List ℕ → List ℕ → ℕ → ℕ → Type 0
RemovesAddition t old new pos next = Wrote old new pos next (keep_if (not (is_literal (fold_string_addition_chain t))) (fold_string_addition_chain t))

-- The string answer of one addition.
sides_string : (t x y : Tree) → is_addition t ≡ true → is_string (fold_sides t x y) ≡ (is_string x || string_fact y)
unfolding fold_sides
sides_string t x y a = go (is_string x) refl
  where
    right : (b : Bool) → string_fact y ≡ b → string_fact (cond b (emptied_unless_flagged y) y) ≡ b
    right true e = emptied_string_fact y e
    right false e = e

    go : (b : Bool) → is_string x ≡ b
        → is_string (cond b (cond (is_dropped_right y) (emptied_unless_flagged x) (with_children t (emptied_unless_flagged x ∷ y ∷ []))) (with_children t (x ∷ folded_right y ∷ []))) ≡ (b || string_fact y)
    go true e =
        by_cond (λ z. is_string z ≡ true) (is_dropped_right y) (emptied_unless_flagged x) (with_children t (emptied_unless_flagged x ∷ y ∷ [])) (λ _. emptied_string x e)
        (λ _. is_string_stays t (emptied_unless_flagged x) y a ∙ rw (emptied_string x e))
    go false e = is_string_stays t x (folded_right y) a ∙ rw e (right (string_fact y) refl)

-- A fold takes no more records than what is folded.
fold_size : (t : Tree) → size (fold_string_addition_chain t) ≤ size t
unfolding fold_sides with_children
fold_size = by_chain (λ t. size (fold_string_addition_chain t) ≤ size t) other sum
  where
    other : (t : Tree) → NoSides t → size (fold_string_addition_chain t) ≤ size t
    other t n = rw n.folds (omega arith)

    sides : (t x y : Tree) → size x + size y < size t → size (fold_sides t x y) ≤ size t
    sides t x y l =
        by_cond (λ z. size z ≤ size t) (is_string x) (cond (is_dropped_right y) (emptied_unless_flagged x) (with_children t (emptied_unless_flagged x ∷ y ∷ []))) (with_children t (x ∷ folded_right y ∷ []))
        (λ _. by_cond (λ z. size z ≤ size t) (is_dropped_right y) (emptied_unless_flagged x) (with_children t (emptied_unless_flagged x ∷ y ∷ []))
        (λ _. omega (arith, emptied_size x)) (λ _. omega (arith, emptied_size x)))
        (λ _. omega (arith, right_size y))

    sum : (t l r : Tree) → Sides t l r → size (fold_string_addition_chain l) ≤ size l → size (fold_string_addition_chain t) ≤ size t
    sum t l r S h = rw (fold_sides_lem t l r S) (sides t (fold_string_addition_chain l) r (omega (arith, sides_size t l r S)))

-- A tree of no two sides is copied.
fold_lone : (t : Tree) → sides_of t ≡ None → fold_string_addition_chain t ≡ t
unfolding sides_of fold_string_addition_chain fold_rule
fold_lone t e = recur_is fold_rule t ∙ go (is_addition t) (trees t.kids) e
  where
    either : (b : Bool) → cond b t t ≡ t
    either true = refl
    either false = refl

    go : (b : Bool) (f : List Tree) → cond b (two_of f) None ≡ None → cond b (of_two (λ l r. fold_sides t l.result r.tree) t (map (paired fold_rule) f)) t ≡ t
    go b [] q = either b
    go b (x ∷ []) q = either b
    go true (x ∷ y ∷ []) q = absurd (none-some _ (sym q))
    go false (x ∷ y ∷ []) q = refl
    go b (x ∷ y ∷ z ∷ f) q = either b

pub lone_folds : {t : Tree} {old new : List ℕ} {pos r : ℕ} {string : Bool} → sides_of t ≡ None → Wrote old new pos r (t ∷ []) → string ≡ string_fact t → Folds t old new pos r string
lone_folds {t} n c q =
    let e = fold_lone t n in
    record { wrote = wrote_as c (ap (◌∷ []) (sym e)); is = q ∙ sym (ap is_string e ∙ string_lone t n) }

-- An addition of the sides l and r.
module _ (t l r : Tree) (e : sides_of t ≡ Some (l, r)) where
  S : Sides t l r
  S = sides_are t l r e

  sides_smaller : size l + size r < size t
  sides_smaller = omega (arith, sides_size t l r S)

  pub sum_folds : {old mid new : List ℕ} {pos next end : ℕ} {string whole : Bool} → Folds l old mid (pos + 1) next string → SidesFolded t r string mid new pos next end
      → whole ≡ (string || string_fact r) → Folds t old new pos end whole
  sum_folds f m w =
      let x = fold_sides_lem t l r S in
      record {
        wrote = wrote_as (wrote_over f.wrote (omega arith) (m.by (fold_string_addition_chain l) f.is f.wrote.spans)) (ap (◌∷ []) (sym x));
        is = w ∙ rw f.is (sym (ap is_string x ∙ sides_string t (fold_string_addition_chain l) r S.addition));
      }

-- What `fold_string_addition_chain` is given for the left side, and `fold_sides`.
module _ {u : Node} {old : List ℕ} {pos : ℕ} (g : GivenTree u old pos) (small : size (tree u) < 65536) where
  pub left_given : (left : Node) (r : Tree) → sides_of (tree u) ≡ Some (tree left, r) → left.record.src.now ≡ u.record.src.now → GivenTree left old (pos + 1) × (size (tree left) < 65536)
  left_given left r e s =
      let l = sides_smaller _ _ _ e in
      (record { same = rw s g.same; fits = omega (arith, g.fits, l) }, omega (arith, l))

  pub sides_given : (l : Tree) (right : Node) → sides_of (tree u) ≡ Some (l, tree right) → right.record.src.now ≡ u.record.src.now → {mid : List ℕ} {next : ℕ} {string : Bool}
      → Folds l old mid (pos + 1) next string → GivenSides u right mid pos next
  sides_given l right e s {mid} {next} f =
      let z = sides_smaller _ _ _ e in
      let w = f.wrote in
      let n : next ≤ pos + 1 + size l = omega (arith, w.spans.ends, fold_size l) in
      let x = w.frame.same ∙ g.same in
      record {
        same = x;
        left = record { tree = fold_string_addition_chain l; spans = w.spans; inside = omega (arith, n, z, g.fits, w.frame.room) };
        right_given = record { same = rw s x; fits = omega (arith, w.frame.room, n, z, g.fits) };
        small = omega (arith, n, z);
      }

-- What is left of an addition, by the kind that the fold's record says.
module _ {t : Tree} {old new : List ℕ} {pos next : ℕ} {string : Bool} (f : Folds t old new pos next string) where
  literal_is : is_literal (fold_string_addition_chain t) ≡ eqb (head_at new pos).kind kind.literal
  unfolding is_kind
  literal_is = sym (ap (λ (h : Head). eqb h.kind kind.literal) f.wrote.spans.stands.0)

  pub literal_removed : eqb (head_at new pos).kind kind.literal ≡ true → RemovesAddition t old new pos pos
  literal_removed e = wrote_as (wrote_none f.wrote.frame) (rw (literal_is ∙ e))

  pub other_stays : eqb (head_at new pos).kind kind.literal ≡ false → RemovesAddition t old new pos next
  other_stays e = wrote_as f.wrote (rw (literal_is ∙ e))
