use Rattle.std.proofs.Common.{sym, ◌∙◌}
use Rattle.file.specs.Bounds.{count_other}
use Rattle.file.proofs.children.child_count_ok.Goals as goal

pub returns : goal.returns
returns c =
    c.count_within.ensures
    ∙ rw (c.kind.ensures, c.children-n.ensures.0) (sym (count_other _ _ (sym c.is_kind.ensures ∙ c.if-is_kind.false) (sym c.is_kind-2.ensures ∙ c.if-is_kind-2.false) (sym c.is_kind-3.ensures ∙ c.if-is_kind-3.false)))
