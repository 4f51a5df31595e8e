-- A class by its parts: what keeps it, and what it gives up where it is not kept (`classify_class_removability`,
-- `remove_unused_class`).
use Rattle.std.specs.Prelude.{Bool, cond, ◌&&◌, ◌||◌, List, [], ◌∷◌, ◌++◌, eqb, take, drop}
use Rattle.tree.specs.Tree.{Tree, trees, Paired, recur}
use Rattle.tree.specs.Record.{bit, bit_set, form}
use Rattle.tree.specs.Children as children
use Rattle.rules.specs.Lists.{any, filter, concat_map}
use Rattle.rules.specs.Handler.{is_arrow, is_sequence}
use Rattle.rules.specs.Facts.{flagged}

-- "class (sub bit 0 decorated, 1 heritage first)"
unfoldable pub decorated_class : Tree → Bool
decorated_class t = bit_set 0 t.head.sub

-- Of a class's children, or of what is paired with them: "its heritage, then only elements".
abbrev pub heritage_of : {A : Type 0} → Tree → List A → List A
heritage_of t xs = take (children.heritage t.head) xs

abbrev pub elements_of : {A : Type 0} → Tree → List A → List A
elements_of t xs = drop (children.heritage t.head) xs

-- Of an element's children: the key of "4 computed key child", then the value of "6 value child".
abbrev pub key_of : {A : Type 0} → Tree → List A → List A
key_of e xs = take (bit 4 e.head.sub) xs

abbrev pub value_of : {A : Type 0} → Tree → List A → List A
value_of e xs = drop (bit 4 e.head.sub) xs

-- "bit 3 static", "6 value child"
unfoldable pub has_static_value : Tree → Bool
has_static_value e = bit_set 3 e.head.sub && bit_set 6 e.head.sub

abbrev pub static_value_of : {A : Type 0} → Tree → List A → List A
static_value_of e xs = cond (has_static_value e) (value_of e xs) []

abbrev pub heritage : Tree → List Tree
heritage t = heritage_of t (trees t.kids)

abbrev pub elements : Tree → List Tree
elements t = elements_of t (trees t.kids)

abbrev pub computed_key : Tree → List Tree
computed_key e = key_of e (trees e.kids)

abbrev pub static_value : Tree → List Tree
static_value e = static_value_of e (trees e.kids)

-- "bits 0–2 method 1, property 2, accessor 3, static block 4, index signature 5", "5 decorated", "7 block nonempty"
unfoldable pub decorated_element : Tree → Bool
decorated_element e = bit_set 5 e.head.sub

unfoldable pub index_signature : Tree → Bool
index_signature e = eqb (form e.head.sub) 5

unfoldable pub nonempty_static_block : Tree → Bool
nonempty_static_block e = eqb (form e.head.sub) 4 && bit_set 7 e.head.sub

unfoldable pub flagged_static_value : Tree → Bool
flagged_static_value e = any flagged (static_value e)

-- `last_expression_in_sequence`: "follows the last child through nested sequences, stopping at an empty one; an empty sequence has
-- none", and neither has a node that is no sequence.
abbrev pub or_itself : Tree → List Tree → List Tree
or_itself c [] = c ∷ []
or_itself c (x ∷ xs) = x ∷ xs

abbrev pub last_of : List (Paired (List Tree)) → List Tree
last_of [] = []
last_of (c ∷ []) = or_itself c.tree c.result
last_of (c ∷ d ∷ cs) = last_of (d ∷ cs)

unfoldable pub last_rule : Tree → List (Paired (List Tree)) → List Tree
last_rule t cs = cond (is_sequence t) (last_of cs) []

unfoldable pub last_expression_in_sequence : Tree → List Tree
last_expression_in_sequence t = recur last_rule t

-- "a heritage that is an arrow (or a sequence whose last is one)"
unfoldable pub arrow_heritage : Tree → Bool
arrow_heritage t = any (λ h. is_arrow h || any is_arrow (last_expression_in_sequence h)) (heritage t)

-- "kept if decorated, any element decorated, an index signature, a nonempty static block, a flagged static value, or a heritage
-- that is an arrow"
unfoldable pub kept_class : Tree → Bool
kept_class t =
    decorated_class t
    || (any decorated_element (elements t)
    || (any index_signature (elements t)
    || (any nonempty_static_block (elements t) || (any flagged_static_value (elements t) || arrow_heritage t))))

-- Of an extracted class: "a flagged heritage; then per element a flagged computed key, then any static value, none of them reduced"
abbrev pub extracted_of_element : Tree → List Tree
extracted_of_element e = filter flagged (computed_key e) ++ static_value e

unfoldable pub extracted : Tree → List Tree
extracted t = filter flagged (heritage t) ++ concat_map extracted_of_element (elements t)
