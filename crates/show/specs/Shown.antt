-- What is shown: trees of an accepted file, whose records have a kind.
use Rattle.std.specs.Prelude.{◌≡◌, refl, true, List, ℕ, ◌+◌, ◌-◌, ◌≤◌, length, ◌&&◌, eqb, leb, Ok, IsSome}
use Rattle.std.proofs.Common.{◌∙◌, arith}
use Rattle.tree.specs.Tree.{Forest, nil, node, Tree, All, one, trees, depth, levels}
use Rattle.tree.specs.Layout.{header_bytes}
use Rattle.tree.specs.Record.{record_ok, facts_ok, sub_ok}
use Rattle.tree.specs.Below.{and_both, and_left, and_right}
use Rattle.tree.specs.Children.{node_ok, formed}
use Rattle.tree.specs.Stands.{formed_one, node_parts}
use Rattle.tree.specs.Refusal.{list_effects_limits, tree_of}
use Rattle.tree.specs.Encoding.{Bytes}
use Rattle.tree.proofs.Accepted.{passed, mark_long, accepted}
use Rattle.tree.specs.Kind as kind
use Rattle.fields.specs.declared.record.Record.{Record}
use Rattle.fields.specs.Record.{head}
use Rattle.fields.specs.Kind.{kind_of, known}
use Rattle.file.specs.declared.Accepted.{Accepted}
use Rattle.file.specs.Answer.{stated, checked, checked_accepted}
use Rattle.readings.specs.At.{HeldAt, forest_at, tree_at}
use Rattle.readings.specs.Root.{root_held, root_trees}
use Rattle.readings.specs.View.{tree}
use Rattle.readings.specs.declared.node.Node.{Node}

-- The byte of a record's kind is the number of one.
abbrev pub HasKind : Record → Type 0
HasKind r = IsSome (kind_of (head r).kind)

-- A well-formed tree, so many levels under the root: the levels of an accepted file are 65 at most.
pub record Shown (level : ℕ) (t : Tree) : Type 0 where
  pub ok : formed (one t) ≡ true
  pub low : level + depth t ≤ 65

all_shown : (level : ℕ) (f : Forest) → formed f ≡ true → level + levels f ≤ 65 → All (Shown level) (trees f)
unfolding formed
all_shown level nil w l = tt
all_shown level (node h cs rest) w l =
    let a = and_right (node_ok h cs) (formed cs && formed rest) w in (
      record { ok = and_both (and_left (node_ok h cs) (formed cs && formed rest) w) (and_both (and_left (formed cs) (formed rest) a) refl); low = omega (arith, l) },
      all_shown level rest (and_right (formed cs) (formed rest) a) (omega (arith, l)),
    )

pub shown_kids : {level : ℕ} {t : Tree} → Shown level t → All (Shown (level + 1)) (trees t.kids)
unfolding formed
shown_kids {level} {t} s =
    all_shown (level + 1) t.kids (and_left (formed t.kids) true (and_right (node_ok t.head t.kids) (formed t.kids && true) s.ok)) (omega (arith, s.low))

pub has_kind : (n : Node) {level : ℕ} → Shown level (tree n) → HasKind n.record
unfolding tree_at formed record_ok
has_kind n s =
    let t = tree n in
    let h = t.head in
    let w : node_ok h t.kids ≡ true = and_left (node_ok h t.kids) (formed t.kids && true) s.ok in
    let number = leb kind.literal h.kind && leb h.kind kind.assignment in
    known h.kind ∙ and_left number (facts_ok h && (sub_ok h && eqb h.reserved 0)) (node_parts h t.kids w).record_ok_lem

-- An accepted file, of which its header is read, and then its one tree.
module _ (s : List ℕ) (a : Accepted) (e : stated (Ok a) ≡ checked list_effects_limits s) where
  pub file_headed : header_bytes ≤ length s
  file_headed = mark_long s (passed list_effects_limits s (checked_accepted list_effects_limits s a.settings a.count e).0).mark

  module _ (bs : Bytes s) where
    pub file_held : HeldAt s 0 (a.count - 0)
    file_held = let v = checked_accepted list_effects_limits s a.settings a.count e in root_held list_effects_limits s a.count v.0 v.2 bs

    pub file_shown : All (Shown 0) (trees (forest_at s 0 (a.count - 0)))
    file_shown =
        let v = checked_accepted list_effects_limits s a.settings a.count e in
        let p = (accepted list_effects_limits s bs v.0).permitted in
        rw (root_trees list_effects_limits s a.count v.0 v.2 bs) (record { ok = formed_one (tree_of s) p.well; low = omega (arith, p.low) }, tt)
