-- Whether a node is a possible symbol, by its head and by whether it is a string.
use Rattle.std.specs.Prelude.{◌≡◌, refl, Bool, ◌&&◌, ◌||◌}
use Rattle.std.proofs.Math.Path.{ap₂}
use Rattle.std.proofs.Common.{◌∙◌}
use Rattle.std.proofs.Math.Bool.{not}
use Rattle.std.proofs.Math.Dec.{eqb}
use Rattle.tree.specs.Tree.{Head, Tree, alone}
use Rattle.tree.specs.Record.{symbol_pair, never_symbol_alone}
use Rattle.tree.specs.Symbol.{is_addition, is_string, is_string_addition, never_symbol}
use Rattle.rules.specs.Facts.{possible_symbol}

-- What `possible_symbol` says of a node of head h that is a string, or is none.
unfoldable pub possible_symbol_if : Bool → Head → Bool
possible_symbol_if string h = not ((never_symbol_alone h || (is_addition (alone h) && string)) || eqb (symbol_pair h.facts) 1)

possible_if : (t : Tree) → possible_symbol_if (is_string t) t.head ≡ possible_symbol t
unfolding possible_symbol_if possible_symbol never_symbol is_string_addition is_addition
possible_if t = refl

-- Of a record with the tree's head, and of a string as the tree is one.
pub possible_told : {string r : Bool} {h : Head} (t : Tree) → h ≡ t.head → string ≡ is_string t → r ≡ possible_symbol_if string h → r ≡ possible_symbol t
possible_told t eh es e = e ∙ ap₂ possible_symbol_if es eh ∙ possible_if t
