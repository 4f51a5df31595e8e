-- The nodes that a rule makes: "text 0, symbol and string unknown, place that of the node rewritten unless named; flag set if a
-- child's is, and on every made template."
use Rattle.std.specs.Prelude.{cond, List, [], ◌∷◌, ◌++◌, ℕ}
use Rattle.tree.specs.Tree.{Place, Head, Tree, trees, forest}
use Rattle.tree.specs.Kind as kind
use Rattle.rules.specs.Lists.{any}
use Rattle.rules.specs.Handler.{is_sequence}
use Rattle.rules.specs.Facts.{flagged}

abbrev pub place_of : Tree → Place
place_of t = t.head.place

abbrev pub made_head : ℕ → ℕ → ℕ → Place → Head
made_head kind sub facts place = record { kind = kind; facts = facts; sub = sub; reserved = 0; text = 0; place = place }

abbrev pub made : ℕ → ℕ → ℕ → Place → List Tree → Tree
made kind sub facts place ts = record { head = made_head kind sub facts place; kids = forest ts }

-- "flag set if a child's is": the facts of a made node whose symbol and string are unknown.
unfoldable pub flag_of : List Tree → ℕ
flag_of ts = cond (any flagged ts) 1 0

unfoldable pub make_sequence : Place → List Tree → Tree
make_sequence p ts = made kind.sequence 0 (flag_of ts) p ts

unfoldable pub make_array : Place → List Tree → Tree
make_array p ts = made kind.array 0 (flag_of ts) p ts

unfoldable pub make_object : Place → List Tree → Tree
make_object p ts = made kind.object 0 (flag_of ts) p ts

-- "and on every made template"
unfoldable pub make_template : Place → List Tree → Tree
make_template p ts = made kind.template 0 1 p ts

-- 02, N1: "a logical node (kind 20, sub 1 for and, 2 for or)"
abbrev pub and_sub : ℕ
and_sub = 1

abbrev pub or_sub : ℕ
or_sub = 2

unfoldable pub make_logical : ℕ → Place → List Tree → Tree
make_logical sub p ts = made kind.logical sub (flag_of ts) p ts

-- "An empty literal has facts 18."
unfoldable pub empty_literal : Place → Tree
empty_literal p = made kind.literal 0 18 p []

-- "An array, sequence or addition that stays keeps its own facts, sub, text and place."; 02, N1: so does a conditional.
unfoldable pub with_children : Tree → List Tree → Tree
with_children t ts = record { head = t.head; kids = forest ts }

-- "if a is a sequence, b is appended whole, even a sequence; else a sequence b gets a in front; else the two make a sequence"
abbrev pub joined : Tree → Tree → List Tree
joined a b =
    cond (is_sequence a) (trees a.kids ++ (b ∷ []))
    (cond (is_sequence b) (a ∷ trees b.kids) (a ∷ b ∷ []))

-- "A sequence from `join_sequence` is a made node, even where a side was one."
unfoldable pub join_sequence : Place → Tree → Tree → Tree
join_sequence p a b = make_sequence p (joined a b)
