-- The numbers of the kinds: "1 string literal, 2 identifier, 3 function, 4 arrow, 5 other leaf, ..."
use Rattle.std.specs.Prelude.{Bool, ◌&&◌, ◌||◌, not, ℕ, eqb, leb}

abbrev pub literal : ℕ
literal = 1

abbrev pub identifier : ℕ
identifier = 2

abbrev pub function : ℕ
function = 3

abbrev pub arrow : ℕ
arrow = 4

abbrev pub other_leaf : ℕ
other_leaf = 5

abbrev pub this : ℕ
this = 6

abbrev pub array : ℕ
array = 7

abbrev pub elision : ℕ
elision = 8

abbrev pub spread : ℕ
spread = 9

abbrev pub object : ℕ
object = 10

abbrev pub property : ℕ
property = 11

abbrev pub template : ℕ
template = 12

abbrev pub sequence : ℕ
sequence = 13

abbrev pub unary : ℕ
unary = 14

abbrev pub binary : ℕ
binary = 15

abbrev pub call : ℕ
call = 16

abbrev pub new : ℕ
new = 17

abbrev pub class : ℕ
class = 18

abbrev pub element : ℕ
element = 19

abbrev pub logical : ℕ
logical = 20

abbrev pub conditional : ℕ
conditional = 21

abbrev pub assignment : ℕ
assignment = 22

-- "Leaf (kinds 1–5)"
abbrev pub is_leaf : ℕ → Bool
is_leaf k = leb literal k && leb k other_leaf

-- Of the kinds, elision, spread, property and class element are parts of a parent; every other is an expression.
abbrev pub is_expression : ℕ → Bool
is_expression k = not (eqb k elision || (eqb k spread || (eqb k property || eqb k element)))
