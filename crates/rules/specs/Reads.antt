-- The nodes whose clear flag is read, and the premise that each of them has no effect. "A clear flag is read where, because of it, a
-- node is removable, a spread goes (alone or with its object), or a side of an addition is dropped or becomes the empty literal, a
-- folded left being taken as it then stands; also at heritage, computed keys and static values of an extracted class. Setting a
-- made node's flag reads none."
use Rattle.std.specs.Prelude.{cond, not, ◌&&◌, List, [], ◌∷◌, ◌++◌, ◌≡◌, drop}
use Rattle.tree.specs.Tree.{Tree, trees, Paired, recur, All, of_two}
use Rattle.tree.specs.Symbol.{is_addition, string_fact, is_string}
use Rattle.rules.specs.Lists.{keep_if, concat_map, filter}
use Rattle.rules.specs.Settings.{Settings}
use Rattle.rules.specs.Handler.{Handler, handler, is_spread}
use Rattle.rules.specs.Facts.{flagged, clear, possible_symbol, of_identifier, pure_new, pure_call, has_side_effects_or_preserved_iife, unchanged_template, only_spreads, flagged_child}
use Rattle.rules.specs.Addition.{is_dropped_right, fold_string_addition_chain}
use Rattle.rules.specs.Class.{heritage, elements, computed_key, static_value, kept_class}
use Rattle.rules.specs.Conditional.{arms_of}
use Rattle.rules.specs.Reduce.{both_arms_go}
use Rattle.rules.specs.Effects.{effects}

-- A child beside the nodes whose clear flag is read in reducing it.
abbrev pub ReadIn : Type 0
ReadIn = Paired (List Tree)

abbrev pub read_in_all : List ReadIn → List Tree
read_in_all cs = concat_map (λ c. c.result) cs

-- Of an addition of a left side l, "a folded left being taken as it then stands", and a right side r.
unfoldable pub side_reads : Tree → Tree → List Tree
side_reads l r =
    cond (is_string l) (keep_if (clear l) l ++ keep_if (is_dropped_right r) r) (keep_if (string_fact r && clear r) r)

unfoldable pub fold_reads_rule : Tree → List ReadIn → List Tree
fold_reads_rule t sides =
    cond (is_addition t) (of_two (λ l r. l.result ++ side_reads (fold_string_addition_chain l.tree) r.tree) [] sides) []

unfoldable pub fold_reads : Tree → List Tree
fold_reads t = recur fold_reads_rule t

-- "heritage, computed keys and static values of an extracted class"
abbrev pub element_reads : Tree → List Tree
element_reads e = filter clear (computed_key e) ++ filter clear (static_value e)

unfoldable pub class_reads : Tree → List Tree
class_reads t = filter clear (heritage t) ++ concat_map element_reads (elements t)

-- What is read at a node itself, case by case of 01's sentence.
abbrev pub read_at : Handler → Settings → Tree → List Tree
-- "a node is removable": each of these is, if its flag is clear; a call only where it is impure and nothing else keeps it
read_at Handler.leaf s t = keep_if (clear t) t
read_at Handler.other_unary s t = keep_if (clear t) t
read_at Handler.other_binary s t = keep_if (clear t) t
read_at Handler.call s t = keep_if (not (pure_call s t) && not (has_side_effects_or_preserved_iife s t)) t
-- and so is an addition; "or a side of an addition is dropped or becomes the empty literal", where it is flagged
read_at Handler.addition s t = cond (flagged t) (fold_reads t) (t ∷ [])
-- "a spread goes (alone or with its object)"
read_at Handler.spread s t = keep_if (clear t) t
read_at Handler.object s t = cond (only_spreads t && not (flagged_child t)) (trees t.kids) []
-- "also at heritage, computed keys and static values of an extracted class"
read_at Handler.class s t = cond (kept_class t) [] (class_reads t)
-- 02, N1: of a conditional, "Unflagged is removable"
read_at Handler.conditional s t = keep_if (clear t) t
-- and no other.
read_at Handler.this s t = []
read_at Handler.void_or_not s t = []
read_at Handler.typeof s t = []
read_at Handler.sequence s t = []
read_at Handler.array s t = []
read_at Handler.template s t = []
read_at Handler.comparison s t = []
read_at Handler.new s t = []
read_at Handler.logical_and s t = []
read_at Handler.logical_or s t = []
read_at Handler.elision s t = []
read_at Handler.property s t = []
read_at Handler.element s t = []
read_at Handler.left_out s t = []

-- The children that are reduced: in these more is read. "'Reduced' means this same rule applied to a child."
abbrev pub reduced_children : Handler → Settings → Tree → List ReadIn → List ReadIn
reduced_children Handler.void_or_not s t cs = cs
reduced_children Handler.typeof s t cs = cond (of_identifier t) [] cs
reduced_children Handler.sequence s t cs = cs
reduced_children Handler.array s t cs = cs
reduced_children Handler.comparison s t cs = cs
reduced_children Handler.property s t cs = cs
-- "a possible symbol waits unreduced", "adjacent spreads, flagged or not, wait"
reduced_children Handler.template s t cs = cond (unchanged_template t) [] (filter (λ c. not (possible_symbol c.tree)) cs)
reduced_children Handler.object s t cs = cond (only_spreads t) [] (filter (λ c. not (is_spread c.tree)) cs)
-- "A pure one loses its callee; its arguments are reduced"
reduced_children Handler.call s t cs = cond (pure_call s t) (drop 1 cs) []
reduced_children Handler.new s t cs = cond (pure_new s t) (drop 1 cs) []
-- 02, N1: "Else both arms are reduced: both gone leaves the reduced test"
reduced_children Handler.conditional s t cs = cond (flagged t) (cond (both_arms_go s t) cs (arms_of cs)) []
-- and of no other.
reduced_children Handler.leaf s t cs = []
reduced_children Handler.this s t cs = []
reduced_children Handler.other_unary s t cs = []
reduced_children Handler.addition s t cs = []
reduced_children Handler.other_binary s t cs = []
reduced_children Handler.class s t cs = []
reduced_children Handler.logical_and s t cs = []
reduced_children Handler.logical_or s t cs = []
reduced_children Handler.elision s t cs = []
reduced_children Handler.spread s t cs = []
reduced_children Handler.element s t cs = []
reduced_children Handler.left_out s t cs = []

unfoldable pub reads_rule : Settings → Tree → List ReadIn → List Tree
reads_rule s t cs = read_at (handler t.head) s t ++ read_in_all (reduced_children (handler t.head) s t cs)

unfoldable pub reads : Settings → Tree → List Tree
reads s t = recur (reads_rule s) t

abbrev pub NoEffects : Settings → List Tree → Type 0
NoEffects s ts = All (λ t. effects s t ≡ []) ts

-- The premise of demand 3: each clear flag that is read is true, 02, N1: "the premise being read under the same list".
abbrev pub Premise : Settings → Tree → Type 0
Premise s t = NoEffects s (reads s t)
