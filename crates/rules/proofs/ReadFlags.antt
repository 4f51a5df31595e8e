-- The premise is no wider than 01's: each flag that is read is clear, and where 01 says that none is read, none is.
use Rattle.std.specs.Prelude.{Bool, true, false, cond, not, ◌&&◌, List, [], ◌∷◌, ◌++◌, map, ◌≡◌, drop}
use Rattle.std.proofs.lemmas.Bool.{not-true}
use Rattle.tree.specs.Below.{and_right}
use Rattle.tree.specs.Tree.{Tree, trees, All, ind}
use Rattle.tree.specs.Symbol.{string_fact, is_string, Sides}
use Rattle.rules.specs.Lists.{keep_if, concat_map, filter}
use Rattle.rules.specs.Settings.{Settings}
use Rattle.rules.specs.Handler.{Handler, handler, is_spread}
use Rattle.rules.specs.Facts.{flagged, clear, possible_symbol, of_identifier, pure_new, pure_call, has_side_effects_or_preserved_iife, unchanged_template, only_spreads, flagged_child}
use Rattle.rules.specs.Addition.{is_dropped_right, fold_string_addition_chain}
use Rattle.rules.specs.Class.{heritage, elements, computed_key, static_value, kept_class}
use Rattle.rules.specs.Conditional.{arms_of}
use Rattle.rules.specs.Reduce.{both_arms_go}
use Rattle.rules.specs.Reads.{read_in_all, side_reads, fold_reads, element_reads, class_reads, reads}
use Rattle.rules.specs.ReadsBy.{read_in_all_but, reads_by}
use Rattle.rules.proofs.Lists.{by_cond, all_join, all_drop, all_keep, concat_map_all, always, drop_map}
use Rattle.rules.specs.Results.{read_in}
use Rattle.rules.proofs.Unfold.{reads_is, read_in_all_is}
use Rattle.rules.proofs.Facts.{dropped_clear, gone_call_clear, flagged_child_lem}
use Rattle.rules.proofs.Addition.{NoSides, by_chain, fold_reads_sides}

abbrev Clear : Tree → Type 0
Clear t = flagged t ≡ false

abbrev AllClear : List Tree → Type 0
AllClear ts = All Clear ts

clear_if : (b : Bool) (t : Tree) → (b ≡ true → Clear t) → AllClear (keep_if b t)
clear_if = all_keep Clear

if_clear : (t : Tree) → AllClear (keep_if (clear t) t)
if_clear t = clear_if (clear t) t (not-true (flagged t))

filter_clear : (ts : List Tree) → AllClear (filter clear ts)
filter_clear ts = concat_map_all Clear (λ t. keep_if (clear t) t) ts (always if_clear ts)

sides_clear : (l r : Tree) → AllClear (side_reads l r)
unfolding side_reads
sides_clear l r =
    by_cond AllClear (is_string l) (keep_if (clear l) l ++ keep_if (is_dropped_right r) r) (keep_if (string_fact r && clear r) r)
    (λ _. all_join Clear (keep_if (clear l) l) (keep_if (is_dropped_right r) r) (if_clear l) (clear_if (is_dropped_right r) r (dropped_clear r)))
    (λ _. clear_if (string_fact r && clear r) r (λ e. not-true (flagged r) (and_right (string_fact r) (clear r) e)))

fold_clear : (t : Tree) → AllClear (fold_reads t)
fold_clear = by_chain (λ t. AllClear (fold_reads t)) other sum
  where
    other : (t : Tree) → NoSides t → AllClear (fold_reads t)
    other t n = rw n.reads tt

    sum : (t l r : Tree) → Sides t l r → AllClear (fold_reads l) → AllClear (fold_reads t)
    sum t l r S h =
        rw (fold_reads_sides t l r S)
        (all_join Clear (fold_reads l) (side_reads (fold_string_addition_chain l) r) h (sides_clear (fold_string_addition_chain l) r))

class_clear : (t : Tree) → AllClear (class_reads t)
unfolding class_reads
class_clear t =
    all_join Clear (filter clear (heritage t)) (concat_map element_reads (elements t)) (filter_clear (heritage t))
    (concat_map_all Clear element_reads (elements t)
    (always (λ e. all_join Clear (filter clear (computed_key e)) (filter clear (static_value e)) (filter_clear (computed_key e)) (filter_clear (static_value e))) (elements t)))

module _ (s : Settings) where
  abbrev ReadsClear : Tree → Type 0
  ReadsClear t = AllClear (reads s t)

  in_all : (ts : List Tree) → All ReadsClear ts → AllClear (read_in_all (map (read_in s) ts))
  in_all ts hs = rw (read_in_all_is s ts) (concat_map_all Clear (reads s) ts hs)

  in_all_but : (p : Tree → Bool) (ts : List Tree) → All ReadsClear ts → AllClear (read_in_all_but p (map (read_in s) ts))
  in_all_but p [] hs = tt
  in_all_but p (t ∷ ts) hs =
      all_join Clear (cond (p t) [] (reads s t)) (read_in_all_but p (map (read_in s) ts))
      (by_cond AllClear (p t) [] (reads s t) (λ _. tt) (λ _. hs.0)) (in_all_but p ts hs.1)

  module _ (t : Tree) (hs : All ReadsClear (trees t.kids)) where
    arguments_clear : AllClear (read_in_all (drop 1 (map (read_in s) (trees t.kids))))
    arguments_clear = rw (drop_map (read_in s) 1 (trees t.kids)) (in_all (drop 1 (trees t.kids)) (all_drop ReadsClear 1 (trees t.kids) hs))

    reduced_clear : (go : Bool) → AllClear (read_in_all (cond go (map (read_in s) (trees t.kids)) (arms_of (map (read_in s) (trees t.kids)))))
    reduced_clear true = in_all (trees t.kids) hs
    reduced_clear false = arguments_clear

    by_handler : (k : Handler) → AllClear (reads_by k s t (map (read_in s) (trees t.kids)))
    by_handler Handler.leaf = if_clear t
    by_handler Handler.this = tt
    by_handler Handler.void_or_not = in_all (trees t.kids) hs
    by_handler Handler.typeof = by_cond AllClear (of_identifier t) [] (read_in_all (map (read_in s) (trees t.kids))) (λ _. tt) (λ _. in_all (trees t.kids) hs)
    by_handler Handler.other_unary = if_clear t
    by_handler Handler.sequence = in_all (trees t.kids) hs
    by_handler Handler.array = in_all (trees t.kids) hs
    by_handler Handler.template =
        by_cond AllClear (unchanged_template t) [] (read_in_all_but possible_symbol (map (read_in s) (trees t.kids))) (λ _. tt) (λ _. in_all_but possible_symbol (trees t.kids) hs)
    by_handler Handler.object =
        by_cond AllClear (only_spreads t) (cond (flagged_child t) [] (trees t.kids)) (read_in_all_but is_spread (map (read_in s) (trees t.kids)))
        (λ _. by_cond AllClear (flagged_child t) [] (trees t.kids) (λ _. tt) (flagged_child_lem t)) (λ _. in_all_but is_spread (trees t.kids) hs)
    by_handler Handler.comparison = in_all (trees t.kids) hs
    by_handler Handler.addition = by_cond AllClear (flagged t) (fold_reads t) (t ∷ []) (λ _. fold_clear t) (λ e. (e, tt))
    by_handler Handler.other_binary = if_clear t
    by_handler Handler.call =
        by_cond AllClear (pure_call s t) (read_in_all (drop 1 (map (read_in s) (trees t.kids)))) (keep_if (not (has_side_effects_or_preserved_iife s t)) t) (λ _. arguments_clear)
        (λ _. clear_if (not (has_side_effects_or_preserved_iife s t)) t (λ e. gone_call_clear s t (not-true (has_side_effects_or_preserved_iife s t) e)))
    by_handler Handler.new = by_cond AllClear (pure_new s t) (read_in_all (drop 1 (map (read_in s) (trees t.kids)))) [] (λ _. arguments_clear) (λ _. tt)
    by_handler Handler.class = by_cond AllClear (kept_class t) [] (class_reads t) (λ _. tt) (λ _. class_clear t)
    by_handler Handler.conditional =
        by_cond AllClear (flagged t) (read_in_all (cond (both_arms_go s t) (map (read_in s) (trees t.kids)) (arms_of (map (read_in s) (trees t.kids))))) (t ∷ [])
        (λ _. reduced_clear (both_arms_go s t)) (λ e. (e, tt))
    by_handler Handler.logical_and = tt
    by_handler Handler.logical_or = tt
    by_handler Handler.elision = tt
    by_handler Handler.spread = if_clear t
    by_handler Handler.property = in_all (trees t.kids) hs
    by_handler Handler.element = tt
    by_handler Handler.left_out = tt

  step : (t : Tree) → All ReadsClear (trees t.kids) → ReadsClear t
  step t hs = rw (reads_is s t) (by_handler t hs (handler t.head))

  pub reads_clear : (t : Tree) → All (λ n. flagged n ≡ false) (reads s t)
  reads_clear = ind ReadsClear step
