-- Well-formed trees, as refusals 5 to 7 leave them, and trees that are accepted node by node: the same.
use Rattle.std.specs.Prelude.{true, false, ◌&&◌, ◌≡◌, refl, eqb, leb}
use Rattle.std.proofs.Common.{eqb-true}
use Rattle.tree.specs.Tree.{Forest, nil, node, Tree}
use Rattle.tree.specs.Kind as kind
use Rattle.tree.specs.Below.{and_both, and_left, and_right}
use Rattle.tree.specs.Record.{record_ok, facts_ok, literal_ok, symbol_ok, pairs_ok, bits_within, allowed_facts, sub_ok}
use Rattle.tree.specs.Children.{node_ok, formed, well_formed}
use Rattle.rules.specs.Handler.{is_kind, is_literal}
use Rattle.rules.specs.Facts.{flagged}
use Rattle.rules.proofs.Everywhere.{EverywhereIn, Everywhere, everywhere_map}
use Rattle.rules.proofs.Facts.{eighteen_clear}
use Rattle.rules.proofs.Shape.{is_expr, NodeGood, good_head}

-- An expression that is accepted with all that is under it.
abbrev pub Expr : Tree → Type 0
Expr t = Everywhere NodeGood t × (is_expr t ≡ true)

formed_everywhere : (f : Forest) → formed f ≡ true → EverywhereIn NodeGood f
unfolding formed
formed_everywhere nil e = tt
formed_everywhere (node h cs rest) e =
    let under = and_right (node_ok h cs) (formed cs && formed rest) e in (
      and_left (node_ok h cs) (formed cs && formed rest) e,
      formed_everywhere cs (and_left (formed cs) (formed rest) under),
      formed_everywhere rest (and_right (formed cs) (formed rest) under),
    )

everywhere_formed : (f : Forest) → EverywhereIn NodeGood f → formed f ≡ true
unfolding formed
everywhere_formed nil w = refl
everywhere_formed (node h cs rest) w = and_both w.0 (and_both (everywhere_formed cs w.1) (everywhere_formed rest w.2))

pub accepted : (t : Tree) → well_formed t ≡ true → Expr t
unfolding well_formed
accepted t e =
    let node = node_ok t.head t.kids in
    let under = and_right (is_expr t) (node && formed t.kids) e in
    ((and_left node (formed t.kids) under, formed_everywhere t.kids (and_right node (formed t.kids) under)), and_left (is_expr t) (node && formed t.kids) e)

pub well_formed_lem : (t : Tree) → Expr t → well_formed t ≡ true
unfolding well_formed
well_formed_lem t g = and_both g.1 (and_both g.0.0 (everywhere_formed t.kids g.0.1))

-- A literal is unflagged, as "A literal has exactly 18" says.
abbrev pub LiteralClear : Tree → Type 0
LiteralClear t = is_literal t ≡ true → flagged t ≡ false

literal_clear : (t : Tree) → NodeGood t → LiteralClear t
unfolding record_ok facts_ok literal_ok is_kind
literal_clear t g l =
    let h = t.head in
    let a = and_right (leb kind.literal h.kind && leb h.kind kind.assignment) (facts_ok h && (sub_ok h && eqb h.reserved 0)) (good_head t g).recorded in
    let b = and_left (facts_ok h) (sub_ok h && eqb h.reserved 0) a in
    let c = and_right (bits_within (allowed_facts h.kind) h.facts) (pairs_ok h.facts && (literal_ok h && symbol_ok h)) b in
    let d = and_left (literal_ok h) (symbol_ok h) (and_right (pairs_ok h.facts) (literal_ok h && symbol_ok h) c) in
    eighteen_clear t (eqb-true h.facts 18 (rw l at d))

pub literals_clear : (t : Tree) → Everywhere NodeGood t → Everywhere LiteralClear t
literals_clear = everywhere_map literal_clear
