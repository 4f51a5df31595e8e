-- Refusal 7: how many children a node has, and which kinds may stand where.
use Rattle.std.specs.Prelude.{Bool, true, false, cond, ◌&&◌, ◌||◌, ℕ, ◌+◌, eqb, leb}
use Rattle.tree.specs.Tree.{Head, Forest, nil, node, Tree, count}
use Rattle.tree.specs.Record.{bit, record_ok, included}
use Rattle.tree.specs.Kind as kind

-- "class (sub bit 0 decorated, 1 heritage first)"
abbrev pub heritage : Head → ℕ
heritage h = bit 1 h.sub

-- "4 computed key child", "6 value child"
abbrev pub element_children : ℕ → ℕ
element_children sub = bit 4 sub + bit 6 sub

-- "leaves, this and elision have none; spread and unary one; binary two; call and new at least one; others as above"; 02, N1:
-- "Kind 21 is accepted with children test, consequent, alternate", "Kind 20, with .. two expressions"
unfoldable pub child_count_ok : Head → ℕ → Bool
child_count_ok h n =
    cond (kind.is_leaf h.kind || (eqb h.kind kind.this || eqb h.kind kind.elision)) (eqb n 0)
    (cond (eqb h.kind kind.spread || eqb h.kind kind.unary) (eqb n 1)
    (cond (eqb h.kind kind.binary || eqb h.kind kind.logical) (eqb n 2)
    (cond (eqb h.kind kind.conditional) (eqb n 3)
    (cond (eqb h.kind kind.call || eqb h.kind kind.new) (leb 1 n)
    (cond (eqb h.kind kind.property) (eqb n (1 + h.sub))
    (cond (eqb h.kind kind.class) (leb (heritage h) n)
    (cond (eqb h.kind kind.element) (eqb n (element_children h.sub)) true)))))))

-- A node's children by the rule of their place: the first child of a call or a new is its callee, that of a class with heritage
-- its heritage, and each of these is an expression.
abbrev pub first_is_expression : Head → Bool
first_is_expression h =
    eqb h.kind kind.call || (eqb h.kind kind.new || (eqb h.kind kind.class && eqb (heritage h) 1))

-- "An array takes expressions, spreads, elisions; arguments are expressions or spreads; an object has only spreads and properties,
-- a class its heritage, then only elements. Every other child, and the root, is an expression."
-- `first`: whether the child, of kind k, is the first one.
unfoldable pub may_stand : Head → Bool → ℕ → Bool
may_stand h first k =
    cond (first && first_is_expression h) (kind.is_expression k)
    (cond (eqb h.kind kind.array) (kind.is_expression k || (eqb k kind.spread || eqb k kind.elision))
    (cond (eqb h.kind kind.call || eqb h.kind kind.new) (kind.is_expression k || eqb k kind.spread)
    (cond (eqb h.kind kind.object) (eqb k kind.spread || eqb k kind.property)
    (cond (eqb h.kind kind.class) (eqb k kind.element) (kind.is_expression k)))))

abbrev pub children_stand : Head → Bool → Forest → Bool
children_stand h first nil = true
children_stand h first (node c cs rest) = may_stand h first c.kind && children_stand h false rest

-- A node that by itself passes the tests of 5, 6 and 7, in an operation that takes logical nodes.
unfoldable pub node_ok : Head → Forest → Bool
node_ok h cs = record_ok h && (included h && (child_count_ok h (count cs) && children_stand h true cs))

-- Each node of a list does, and each node under it.
unfoldable pub formed : Forest → Bool
formed nil = true
formed (node h cs rest) = node_ok h cs && (formed cs && formed rest)

-- A tree that passes the tests of 5, 6 and 7, logical nodes taken; "the root, is an expression".
unfoldable pub well_formed : Tree → Bool
well_formed t = kind.is_expression t.head.kind && (node_ok t.head t.kids && formed t.kids)
