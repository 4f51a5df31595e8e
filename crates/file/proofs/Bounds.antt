-- The subs of a kind by a least and a most number, and the constants of src/record.rt and src/children.rt as the rules that they stand
-- for, at every kind: from 31 on a constant tells none apart, and no rule does.
use Rattle.std.specs.Prelude.{◌≡◌, refl, cond, ◌&&◌, ℕ, ◌+◌, eqb, leb}
use Rattle.std.proofs.Common.{ap, ◌∙◌, ne_eqb, arith}
use Rattle.std.proofs.lemmas.Bool.Decides.{nat_tests}
use Rattle.tree.specs.Below.{all_below}
use Rattle.tree.specs.Tree.{Head}
use Rattle.tree.specs.Record.{sub_ok}
use Rattle.tree.specs.Kind as kind
use Rattle.file.specs.Bounds.{least_sub, more_subs, least_children, most_children}
use Rattle.file.specs.Kinds.{bits_of, holds, table_is, set_is}

-- The most sub of a kind but the class element.
abbrev pub most_sub : ℕ → ℕ
most_sub k =
    cond (eqb k kind.property) 1 (cond (eqb k kind.unary) 4 (cond (eqb k kind.binary) 3 (cond (eqb k kind.class) 3 (cond (eqb k kind.logical) 2 0))))

-- Of every kind but the class element the subs are those from its least to its most.
pub sub_other : (h : Head) (k n : ℕ) → k ≡ h.kind → n ≡ h.sub → (k ≡ kind.element → ⊥) → sub_ok h ≡ (leb n (most_sub k) && leb (least_sub k) n)
unfolding sub_ok
sub_other h k n ek en e = rw (← ek, ← en, ne_eqb k kind.element e) (grind (arith, nat_tests))

-- Of LEAST_CHILDREN.
pub least_children_below : (k : ℕ) → bits_of 0b11_10_00_00_01_01_10_01_00_00_00_00_01_00_00_00_00_00_00_00_00_00 2 k ≡ least_children k
unfolding all_below bits_of
least_children_below = table_is _ _ least_children refl (λ k l. grind (arith, nat_tests))

-- Of MOST_CHILDREN.
pub most_children_below : (k : ℕ) → bits_of 0b11_11_11_11_11_11_11_11_11_11_11_10_11_11_11_11_10_01_11_11_11_11_01_00_11_00_00_00_00_00_00_11 2 k ≡ most_children k
unfolding all_below bits_of
most_children_below = table_is _ _ most_children refl (λ k l. grind (arith, nat_tests))

-- Of LEAST_SUB.
pub least_sub_below : (k : ℕ) → bits_of 0b1100_0000_0000_0000 1 k ≡ least_sub k
unfolding all_below bits_of
least_sub_below = table_is _ _ least_sub refl (λ k l. grind (arith, nat_tests))

-- Of MORE_SUBS, which says how many more than the least there are.
pub most_sub_below : (k : ℕ) → least_sub k + bits_of 0b10_00_11_00_00_10_11_00_00_01_00_00_00_00_00_00_00_00_00_00_00 2 k ≡ most_sub k
unfolding all_below bits_of
most_sub_below k = ap (least_sub k +◌) (table_is _ _ more_subs refl (λ k l. grind (arith, nat_tests)) k) ∙ grind (arith, nat_tests)

-- Of EXPRESSIONS, a set.
pub expression_below : (k : ℕ) → holds 0b1111_1111_1111_0111_1111_0100_1111_1111 k ≡ kind.is_expression k
unfolding all_below bits_of
expression_below = set_is _ kind.is_expression refl (λ k l. grind (arith, nat_tests))
