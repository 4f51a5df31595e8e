-- `fold_string_addition_chain`. "The fold goes down left children only."
use Rattle.std.specs.Prelude.{Bool, cond, not, ◌&&◌, List, [], ◌∷◌}
use Rattle.tree.specs.Tree.{Tree, Paired, recur, of_two}
use Rattle.tree.specs.Symbol.{is_addition, string_fact, is_string}
use Rattle.rules.specs.Facts.{flagged, clear, possible_symbol}
use Rattle.rules.specs.Made.{place_of, empty_literal, with_children}

-- "an unflagged left becomes the empty literal at its own place", "a right side that is .. unflagged becomes the empty literal"
unfoldable pub emptied_unless_flagged : Tree → Tree
emptied_unless_flagged x = cond (flagged x) x (empty_literal (place_of x))

-- "a right side that is no symbol and unflagged is dropped"
unfoldable pub is_dropped_right : Tree → Bool
is_dropped_right r = not (possible_symbol r) && clear r

-- An addition t of a left side l, folded already, and a right side r. "If the left is a string after its fold, an unflagged left
-- becomes the empty literal at its own place, and a right side that is no symbol and unflagged is dropped. Otherwise a right side
-- that is a string and unflagged becomes the empty literal. A rewritten addition carries its old facts."
unfoldable pub fold_sides : Tree → Tree → Tree → Tree
fold_sides t l r =
    cond (is_string l)
    (cond (is_dropped_right r) (emptied_unless_flagged l) (with_children t (emptied_unless_flagged l ∷ r ∷ [])))
    (with_children t (l ∷ cond (string_fact r) (emptied_unless_flagged r) r ∷ []))

unfoldable pub fold_rule : Tree → List (Paired Tree) → Tree
fold_rule t sides = cond (is_addition t) (of_two (λ l r. fold_sides t l.result r.tree) t sides) t

unfoldable pub fold_string_addition_chain : Tree → Tree
fold_string_addition_chain t = recur fold_rule t
