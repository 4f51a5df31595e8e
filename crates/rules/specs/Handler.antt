-- Which rule takes a node: by its kind and, of a unary or a binary, its sub.
use Rattle.std.specs.Prelude.{Bool, cond, ◌||◌, ℕ, eqb, take}
use Rattle.tree.specs.Tree.{Head, Tree, trees}
use Rattle.tree.specs.Kind as kind
use Rattle.rules.specs.Lists.{any}

pub data Handler : Type 0 where
  leaf this void_or_not typeof other_unary sequence array template object comparison addition other_binary call new class : Handler
  conditional logical_and logical_or : Handler
  -- parts of a parent
  elision spread property element : Handler
  -- "Left out: .. assignment handlers": an accepted tree has no such node.
  left_out : Handler

-- "unary (sub 1 void, 2 not, 3 typeof, 4 other)"
abbrev pub unary_handler : ℕ → Handler
unary_handler sub = cond (eqb sub 1 || eqb sub 2) void_or_not (cond (eqb sub 3) typeof other_unary)

-- "binary (sub 1 comparison, one of the Rust's eight; 2 addition; 3 other)"
abbrev pub binary_handler : ℕ → Handler
binary_handler sub = cond (eqb sub 1) comparison (cond (eqb sub 2) addition other_binary)

-- 02, N1: "kind 20, sub 1 for and, 2 for or"
abbrev pub logical_handler : ℕ → Handler
logical_handler sub = cond (eqb sub 1) logical_and logical_or

unfoldable pub handler : Head → Handler
handler h =
    cond (kind.is_leaf h.kind) leaf
    (cond (eqb h.kind kind.this) this
    (cond (eqb h.kind kind.array) array
    (cond (eqb h.kind kind.elision) elision
    (cond (eqb h.kind kind.spread) spread
    (cond (eqb h.kind kind.object) object
    (cond (eqb h.kind kind.property) property
    (cond (eqb h.kind kind.template) template
    (cond (eqb h.kind kind.sequence) sequence
    (cond (eqb h.kind kind.unary) (unary_handler h.sub)
    (cond (eqb h.kind kind.binary) (binary_handler h.sub)
    (cond (eqb h.kind kind.call) call
    (cond (eqb h.kind kind.new) new
    (cond (eqb h.kind kind.class) class
    (cond (eqb h.kind kind.element) element
    (cond (eqb h.kind kind.logical) (logical_handler h.sub)
    (cond (eqb h.kind kind.conditional) conditional left_out))))))))))))))))

unfoldable pub is_kind : ℕ → Tree → Bool
is_kind k t = eqb t.head.kind k

abbrev pub is_literal : Tree → Bool
is_literal t = is_kind kind.literal t

abbrev pub is_identifier : Tree → Bool
is_identifier t = is_kind kind.identifier t

abbrev pub is_arrow : Tree → Bool
is_arrow t = is_kind kind.arrow t

-- "a function or arrow"
abbrev pub is_function : Tree → Bool
is_function t = is_kind kind.function t || is_arrow t

abbrev pub is_spread : Tree → Bool
is_spread t = is_kind kind.spread t

abbrev pub is_sequence : Tree → Bool
is_sequence t = is_kind kind.sequence t

-- Whether the argument of a unary, or the callee of a call or new, is such a node.
abbrev pub first_is : (Tree → Bool) → Tree → Bool
first_is p t = any p (take 1 (trees t.kids))
