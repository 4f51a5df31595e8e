-- 02, N1: a conditional by its parts, "test, consequent, alternate", and a logical by its test and its right side; of a node's children,
-- or of what is paired with them.
use Rattle.std.specs.Prelude.{List, take, drop}
use Rattle.tree.specs.Tree.{Tree, trees}

module _ {A : Type 0} where
  abbrev pub test_of : List A → List A
  test_of xs = take 1 xs

  -- "both arms" of a conditional; the "right side" of a logical
  abbrev pub arms_of : List A → List A
  arms_of xs = drop 1 xs

  abbrev pub consequent_of : List A → List A
  consequent_of xs = take 1 (arms_of xs)

  abbrev pub alternate_of : List A → List A
  alternate_of xs = drop 1 (arms_of xs)

abbrev pub test : Tree → List Tree
test t = test_of (trees t.kids)
