-- Subs and child counts by a least and a most number of each kind, which the code tests in place of the rules by kind.
use Rattle.std.specs.Prelude.{◌≡◌, Bool, true, false, cond, not, ◌&&◌, ◌||◌, ℕ, eqb, leb}
use Rattle.std.proofs.Common.{arith}
use Rattle.std.proofs.lemmas.Bool.Decides.{nat_tests}
use Rattle.tree.specs.Tree.{Head}
use Rattle.tree.specs.Children.{child_count_ok}
use Rattle.tree.specs.Kind as kind

-- The subs of a kind but the class element: the least number, and how many more there are.
abbrev pub least_sub : ℕ → ℕ
least_sub k = cond (eqb k kind.unary || eqb k kind.binary) 1 0

abbrev pub more_subs : ℕ → ℕ
more_subs k =
    cond (eqb k kind.property) 1 (cond (eqb k kind.unary) 3 (cond (eqb k kind.binary) 2 (cond (eqb k kind.class) 3 (cond (eqb k kind.logical) 2 0))))

-- How many children a kind has, but for property, class and class element: a least and a most number. A most of 3 is any number, unless
-- the least is 3 too.
abbrev has_none : ℕ → Bool
has_none k = kind.is_leaf k || (eqb k kind.this || eqb k kind.elision)

abbrev has_one : ℕ → Bool
has_one k = eqb k kind.spread || eqb k kind.unary

abbrev has_two : ℕ → Bool
has_two k = eqb k kind.binary || eqb k kind.logical

abbrev pub least_children : ℕ → ℕ
least_children k =
    cond (has_none k) 0 (cond (has_one k) 1 (cond (has_two k) 2 (cond (eqb k kind.conditional) 3 (cond (eqb k kind.call || eqb k kind.new) 1 0))))

abbrev pub most_children : ℕ → ℕ
most_children k = cond (has_none k) 0 (cond (has_one k) 1 (cond (has_two k) 2 3))

unfoldable pub count_within : ℕ → ℕ → Bool
count_within k n = cond (leb n (most_children k)) (leb (least_children k) n) (eqb (most_children k) 3 && not (eqb (least_children k) 3))

-- over the tests as they come out
within_by : (none one two three some : Bool) (n : ℕ)
    → cond none (eqb n 0) (cond one (eqb n 1) (cond two (eqb n 2) (cond three (eqb n 3) (cond some (leb 1 n) true))))
    ≡ cond (leb n (cond none 0 (cond one 1 (cond two 2 3)))) (leb (cond none 0 (cond one 1 (cond two 2 (cond three 3 (cond some 1 0))))) n)
    (eqb (cond none 0 (cond one 1 (cond two 2 3))) 3 && not (eqb (cond none 0 (cond one 1 (cond two 2 (cond three 3 (cond some 1 0))))) 3))
within_by none one two three some n = grind (arith, nat_tests)

pub count_other : (h : Head) (n : ℕ) → eqb h.kind kind.property ≡ false → eqb h.kind kind.class ≡ false → eqb h.kind kind.element ≡ false
    → child_count_ok h n ≡ count_within h.kind n
unfolding child_count_ok count_within
count_other h n p c e =
    rw (p, c, e)
    (within_by (has_none h.kind) (has_one h.kind) (has_two h.kind) (eqb h.kind kind.conditional) (eqb h.kind kind.call || eqb h.kind kind.new) n)
