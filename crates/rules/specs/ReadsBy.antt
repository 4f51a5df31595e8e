-- What is read in reducing a node, handler by handler: all of it, and nothing else (Theorems.reads_exactly). An array, say, has no flag of
-- its own read, whatever becomes of it.
use Rattle.std.specs.Prelude.{Bool, cond, not, List, [], ◌∷◌, drop}
use Rattle.tree.specs.Tree.{Tree, trees}
use Rattle.rules.specs.Lists.{keep_if, concat_map}
use Rattle.rules.specs.Settings.{Settings}
use Rattle.rules.specs.Handler.{Handler, is_spread}
use Rattle.rules.specs.Facts.{flagged, clear, possible_symbol, of_identifier, pure_new, pure_call, has_side_effects_or_preserved_iife, unchanged_template, only_spreads, flagged_child}
use Rattle.rules.specs.Class.{kept_class}
use Rattle.rules.specs.Conditional.{arms_of}
use Rattle.rules.specs.Reduce.{both_arms_go}
use Rattle.rules.specs.Reads.{ReadIn, read_in_all, fold_reads, class_reads}

-- A child that waits is not reduced.
abbrev pub read_in_all_but : (Tree → Bool) → List ReadIn → List Tree
read_in_all_but waits cs = concat_map (λ c. cond (waits c.tree) [] c.result) cs

abbrev pub reads_by : Handler → Settings → Tree → List ReadIn → List Tree
reads_by Handler.leaf s t cs = keep_if (clear t) t
reads_by Handler.this s t cs = []
reads_by Handler.void_or_not s t cs = read_in_all cs
reads_by Handler.typeof s t cs = cond (of_identifier t) [] (read_in_all cs)
reads_by Handler.other_unary s t cs = keep_if (clear t) t
reads_by Handler.sequence s t cs = read_in_all cs
reads_by Handler.array s t cs = read_in_all cs
reads_by Handler.template s t cs = cond (unchanged_template t) [] (read_in_all_but possible_symbol cs)
-- "a spread goes (alone or with its object)"
reads_by Handler.object s t cs = cond (only_spreads t) (cond (flagged_child t) [] (trees t.kids)) (read_in_all_but is_spread cs)
reads_by Handler.comparison s t cs = read_in_all cs
reads_by Handler.addition s t cs = cond (flagged t) (fold_reads t) (t ∷ [])
reads_by Handler.other_binary s t cs = keep_if (clear t) t
reads_by Handler.call s t cs = cond (pure_call s t) (read_in_all (drop 1 cs)) (keep_if (not (has_side_effects_or_preserved_iife s t)) t)
reads_by Handler.new s t cs = cond (pure_new s t) (read_in_all (drop 1 cs)) []
reads_by Handler.class s t cs = cond (kept_class t) [] (class_reads t)
-- 02, N1: the test is reduced only where both arms go.
reads_by Handler.conditional s t cs = cond (flagged t) (read_in_all (cond (both_arms_go s t) cs (arms_of cs))) (t ∷ [])
reads_by Handler.logical_and s t cs = []
reads_by Handler.logical_or s t cs = []
reads_by Handler.elision s t cs = []
reads_by Handler.spread s t cs = keep_if (clear t) t
reads_by Handler.property s t cs = read_in_all cs
reads_by Handler.element s t cs = []
reads_by Handler.left_out s t cs = []
