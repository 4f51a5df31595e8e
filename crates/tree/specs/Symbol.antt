-- Which additions are strings, what can never be a symbol, and the later test of refusal 5.
use Rattle.std.specs.Prelude.{Bool, true, false, cond, not, ◌&&◌, ◌||◌, List, [], ◌∷◌, ◌≡◌, eqb}
use Rattle.std.proofs.Common.{◌∙◌}
use Rattle.tree.specs.Tree.{Forest, Tree, trees, all_nodes, Paired, of_two, recur, recur_is}
use Rattle.tree.specs.Record.{string_pair, symbol_yes, never_symbol_alone}
use Rattle.tree.specs.Kind as kind

-- "binary (sub .. 2 addition ..)"
unfoldable pub is_addition : Tree → Bool
is_addition t = eqb t.head.kind kind.binary && eqb t.head.sub 2

-- "3–4 string (0 unknown, 1 no, 2 yes)"
unfoldable pub string_fact : Tree → Bool
string_fact t = eqb (string_pair t.head.facts) 2

-- "An addition on the left is a string if its left or its right is; any other side by its string fact."
unfoldable pub is_string_rule : Tree → List (Paired Bool) → Bool
is_string_rule t sides =
    cond (is_addition t) (of_two (λ l r. l.result || string_fact r.tree) (string_fact t) sides) (string_fact t)

unfoldable pub is_string : Tree → Bool
is_string t = recur is_string_rule t

-- 02, N9: "an addition with a string part as document 01 reads it on the left"
unfoldable pub is_string_addition : Tree → Bool
is_string_addition t = is_addition t && is_string t

-- "`!a`, `typeof a`, `void a`, a comparison, a template, or an addition with a string part ... None can be a symbol."
unfoldable pub never_symbol : Tree → Bool
never_symbol t = never_symbol_alone t.head || is_string_addition t

-- "a recorded "yes" on one is refused as bad facts, for the addition just after the tree's shape is tested"
unfoldable pub addition_agrees : Tree → Bool
addition_agrees t = not (symbol_yes t.head && is_string_addition t)

abbrev pub additions_agree : Forest → Bool
additions_agree f = all_nodes addition_agrees f

-- An addition of two sides.
pub record Sides (t l r : Tree) : Type 0 where
  pub addition : is_addition t ≡ true
  pub kids : trees t.kids ≡ l ∷ r ∷ []

pub is_string_sides : (t l r : Tree) → Sides t l r → is_string t ≡ (is_string l || string_fact r)
unfolding is_string is_string_rule
is_string_sides t l r S = recur_is is_string_rule t ∙ rw (S.addition, S.kids)

pub is_string_other : (t : Tree) → is_addition t ≡ false → is_string t ≡ string_fact t
unfolding is_string is_string_rule
is_string_other t e = recur_is is_string_rule t ∙ rw e
