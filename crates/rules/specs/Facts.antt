-- What a node's record says, and what that says of the node: each reading of 01 named once. Reducing, listing and the premise all
-- read a node by these names.
use Rattle.std.specs.Prelude.{Bool, not, ◌&&◌, ◌||◌, ◌%◌, eqb}
use Rattle.tree.specs.Tree.{Tree, trees}
use Rattle.tree.specs.Record.{bit_set, symbol_pair}
use Rattle.tree.specs.Symbol.{never_symbol}
use Rattle.rules.specs.Lists.{is_empty, any, every}
use Rattle.rules.specs.Settings.{Settings, annotations, tree_shake_only, counts_as_yes}
use Rattle.rules.specs.Handler.{is_identifier, is_function, is_spread, first_is}

-- "bit 0 effect flag"
unfoldable pub flagged : Tree → Bool
flagged t = eqb (t.head.facts % 2) 1

abbrev pub clear : Tree → Bool
clear t = not (flagged t)

-- "1–2 symbol", "'Possible symbol': not 1"; 02, N9: "Reducing and listing now read "no" for these six, recorded or not"
unfoldable pub possible_symbol : Tree → Bool
possible_symbol t = not (never_symbol t || eqb (symbol_pair t.head.facts) 1)

-- "5 annotated, 6 listed, 7 summary free"
unfoldable pub annotated : Tree → Bool
annotated t = bit_set 5 t.head.facts

-- (With the settings, since a list of names would be one of them.)
unfoldable pub listed : Settings → Tree → Bool
listed s t = bit_set 6 t.head.facts

unfoldable pub summary_free : Tree → Bool
summary_free t = bit_set 7 t.head.facts

-- "pure means annotated with setting bit 0 on, or listed, or (call only, callee an identifier) summary free"
unfoldable pub pure_new : Settings → Tree → Bool
pure_new s t = (annotations s && annotated t) || listed s t

unfoldable pub pure_call_by01 : Settings → Tree → Bool
pure_call_by01 s t = pure_new s t || (first_is is_identifier t && summary_free t)

-- "tree-shake-only is on and the callee is a function or arrow"
unfoldable pub preserved_iife : Settings → Tree → Bool
preserved_iife s t = tree_shake_only s && first_is is_function t

-- 02, N5: "Our bundler users expect tree-shake-only to keep every such call. That rule now stands before purity."
unfoldable pub pure_call : Settings → Tree → Bool
pure_call s t = not (preserved_iife s t) && pure_call_by01 s t

-- "An impure call is removable exactly if unflagged, and not if tree-shake-only is on and the callee is a function or arrow."
unfoldable pub has_side_effects_or_preserved_iife : Settings → Tree → Bool
has_side_effects_or_preserved_iife s t = flagged t || preserved_iife s t

-- "Typeof of an identifier reference"
unfoldable pub of_identifier : Tree → Bool
of_identifier t = first_is is_identifier t

-- Of a template: "no expressions: removable. All possibly symbols and text 0: unchanged."
unfoldable pub unchanged_template : Tree → Bool
unchanged_template t =
    not (is_empty (trees t.kids)) && (every possible_symbol (trees t.kids) && eqb t.head.text 0)

-- Of an object: "Only spreads" (or empty), and "none is flagged".
unfoldable pub only_spreads : Tree → Bool
only_spreads t = every is_spread (trees t.kids)

unfoldable pub flagged_child : Tree → Bool
flagged_child t = any flagged (trees t.kids)

-- Of a conditional or a logical: whether its test's place is among those "that count as yes".
unfoldable pub test_is_yes : Settings → Tree → Bool
test_is_yes s t = first_is (λ test. counts_as_yes s test.head.place) t
