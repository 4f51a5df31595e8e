use Rattle.std.proofs.Common.{sym, ap, ◌∙◌, inl, inr}
use Rattle.rules.specs.Settings.{derived}
use Rattle.rules.specs.Facts.{flagged}
use Rattle.fields.specs.Record.{node}
use Rattle.readings.specs.Given.{given}
use Rattle.effects.specs.Plan.{is_passed}
use Rattle.effects.specs.Passed.{own_by, own_is, passed_itself, passed_small}
use Rattle.effects.proofs.plan.passed_itself.Goals.{then-flagged, else-flagged, then-derived, else-derived}
use Rattle.effects.proofs.plan.passed_itself.Goals as goal

pub returns : goal.returns
unfolding passed_itself
returns c =
    own_is (flagged (node c.args.root)) (derived (given c.args.settings)) c.if-flagged.flagged c.if-derived.kinds
    (elim c.if-flagged.branch [ then-flagged w ↦ inl (sym c.flagged.ensures ∙ w.if-flagged.true, w.flagged-is) | else-flagged w ↦ inr (sym c.flagged.ensures ∙ w.if-flagged.false, w.flagged-is) ])
    (elim c.if-derived.branch [ then-derived w ↦ inl (sym c.derived.ensures ∙ w.if-derived.true, w.kinds-is) | else-derived w ↦ inr (sym c.derived.ensures ∙ w.if-derived.false, w.kinds-is) ])
    c.kind.result (passed_small c.kind.result (ap is_passed c.kind.ensures ∙ c.requires))
    ∙ ap (own_by (flagged (node c.args.root)) (derived (given c.args.settings))) c.kind.ensures
