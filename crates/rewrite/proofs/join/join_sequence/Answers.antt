use Rattle.std.proofs.Common.{refl, sym, ◌∙◌}
use Rattle.rewrite.specs.Join.{left_given, joins_left, right_given, joins_right, both_given, joins_both}
use Rattle.rewrite.proofs.join.join_sequence.Goals as goal

pub make_sequence-requires : goal.make_sequence-requires
make_sequence-requires c = left_given _ refl c.move_down.ensures c.requires

pub returns-then-is_kind : goal.returns-then-is_kind
returns-then-is_kind c = joins_left _ refl c.move_down.ensures (sym c.is_kind.ensures ∙ c.if-is_kind.true) _ c.make_sequence.ensures

pub make_sequence-requires-then-is_kind-2 : goal.make_sequence-requires-then-is_kind-2
make_sequence-requires-then-is_kind-2 c = right_given _ refl c.move_down-then-is_kind-2.ensures c.requires

pub returns-then-is_kind-2 : goal.returns-then-is_kind-2
returns-then-is_kind-2 c =
    joins_right _ refl c.move_down-then-is_kind-2.ensures (sym c.is_kind.ensures ∙ c.if-is_kind.false) (sym c.is_kind-2.ensures ∙ c.if-is_kind-2.true) _
    c.make_sequence-then-is_kind-2.ensures

pub make_sequence-requires-2 : goal.make_sequence-requires-2
make_sequence-requires-2 c = both_given c.requires

pub returns : goal.returns
returns c = joins_both (sym c.is_kind.ensures ∙ c.if-is_kind.false) (sym c.is_kind-2.ensures ∙ c.if-is_kind-2.false) c.make_sequence-2.ensures
