-- The two columns of a tree file, as the bytes that are printed.
use Rattle.std.specs.Prelude.{List, [], ◌∷◌, ◌++◌, ℕ, zero, suc, ◌/◌, ◌%◌, max, length, codes, decimal}
use Rattle.tree.specs.Tree.{forest, records}
use Rattle.tree.specs.Fields.{count_of}
use Rattle.tree.specs.Layout.{version_in}
use Rattle.tree.specs.Refusal.{program_limits, refusal}
use Rattle.effects.specs.Answer.{effect_list}
use Rattle.reducer.specs.Answer.{left, answer_list}

-- "Columns are place/kind/coercion": an effect is place × 512 + kind × 2 + 1 if a coercion.
unfoldable pub column : ℕ → List ℕ
column e = decimal (e / 512) ++ codes "/" ++ decimal (e / 2 % 256) ++ codes "/" ++ decimal (e % 2)

-- "`-` where the shorter list has ended"
abbrev pub cell : List ℕ → List ℕ
cell [] = codes "-"
cell (e ∷ es) = column e

abbrev pub rest : List ℕ → List ℕ
rest [] = []
rest (e ∷ es) = es

-- The next effect of each list, side by side.
unfoldable pub line : List ℕ → List ℕ → List ℕ
line before after = cell before ++ codes " " ++ cell after ++ codes "\n"

unfoldable pub lines : ℕ → List ℕ → List ℕ → List ℕ
lines zero before after = []
lines (suc k) before after = line before after ++ lines k (rest before) (rest after)

-- A line for each effect of the longer list.
unfoldable pub side_by_side : List ℕ → List ℕ → List ℕ
side_by_side before after = lines (max (length before) (length after)) before after

-- "last, N and result records (0 if removable)"
unfoldable pub records_line : ℕ → ℕ → List ℕ
records_line n m = codes "records " ++ decimal n ++ codes " " ++ decimal m ++ codes "\n"

-- "A refusal prints only `refused` and its number."
unfoldable pub refused_line : ℕ → List ℕ
refused_line number = codes "refused " ++ decimal number ++ codes "\n"

unfoldable pub table : List ℕ → List ℕ
table s = codes "before after\n" ++ side_by_side (effect_list s) (answer_list s) ++ records_line (count_of s) (records (forest (left s)))

abbrev pub columns_by : ℕ → List ℕ → List ℕ
columns_by zero s = table s
columns_by (suc k) s = refused_line (suc k)

-- What is printed of a file: a refusal is Reduce's, with as much lent as it may need, but that fewer records of version 2 are taken.
unfoldable pub columns : List ℕ → List ℕ
columns s = columns_by (refusal (program_limits (version_in s)) s) s
