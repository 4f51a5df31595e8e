use Rattle.std.proofs.Common.{sym, ◌∙◌}
use Rattle.tree.proofs.Accepted.{mark_long}
use Rattle.file.specs.Run.{headed_inside, headed_some, refused_5, refused_6, refused_7, whole, refused_5_again, held, refused_17, refused_8, accepted_as}
use Rattle.file.proofs.check_records.Goals as goal

pub records_ok-requires : goal.records_ok-requires
records_ok-requires c = headed_inside c.requires

pub returns-then-not-records_ok : goal.returns-then-not-records_ok
returns-then-not-records_ok c = refused_5 c.requires (sym c.records_ok.ensures ∙ c.if-not-records_ok.true)

pub all_taken-requires : goal.all_taken-requires
all_taken-requires c = headed_inside c.requires

pub returns-then-not-all_taken : goal.returns-then-not-all_taken
returns-then-not-all_taken c = refused_6 c.requires (sym c.records_ok.ensures ∙ c.if-not-records_ok.false) (sym c.all_taken.ensures ∙ c.if-not-all_taken.true)

pub shape_ok-requires : goal.shape_ok-requires
shape_ok-requires c = (headed_inside c.requires, c.requires.is_n, headed_some c.requires)

pub returns-then-not-shape_ok : goal.returns-then-not-shape_ok
returns-then-not-shape_ok c = refused_7 c.requires (sym c.records_ok.ensures ∙ c.if-not-records_ok.false) (sym c.all_taken.ensures ∙ c.if-not-all_taken.false) (sym c.shape_ok.ensures ∙ c.if-not-shape_ok.true)

pub additions_ok-requires : goal.additions_ok-requires
additions_ok-requires c = whole c.requires (sym c.records_ok.ensures ∙ c.if-not-records_ok.false) (sym c.all_taken.ensures ∙ c.if-not-all_taken.false) (sym c.shape_ok.ensures ∙ c.if-not-shape_ok.false)

pub returns-then-not-additions_ok : goal.returns-then-not-additions_ok
returns-then-not-additions_ok c = refused_5_again c.requires (sym c.records_ok.ensures ∙ c.if-not-records_ok.false) (sym c.all_taken.ensures ∙ c.if-not-all_taken.false) (sym c.shape_ok.ensures ∙ c.if-not-shape_ok.false) (sym c.additions_ok.ensures ∙ c.if-not-additions_ok.true)

pub ends_ok-requires : goal.ends_ok-requires
ends_ok-requires c = (mark_long _ c.requires.mark, headed_inside c.requires)

pub returns-then-not-ends_ok : goal.returns-then-not-ends_ok
returns-then-not-ends_ok c = refused_17 c.requires (sym c.records_ok.ensures ∙ c.if-not-records_ok.false) (sym c.all_taken.ensures ∙ c.if-not-all_taken.false) (sym c.shape_ok.ensures ∙ c.if-not-shape_ok.false) (sym c.additions_ok.ensures ∙ c.if-not-additions_ok.false) (sym c.ends_ok.ensures ∙ c.if-not-ends_ok.true)

pub levels_ok-requires : goal.levels_ok-requires
levels_ok-requires c = held c.requires (sym c.records_ok.ensures ∙ c.if-not-records_ok.false) (sym c.all_taken.ensures ∙ c.if-not-all_taken.false) (sym c.shape_ok.ensures ∙ c.if-not-shape_ok.false)

pub returns-then-not-levels_ok : goal.returns-then-not-levels_ok
returns-then-not-levels_ok c = refused_8 c.requires (sym c.records_ok.ensures ∙ c.if-not-records_ok.false) (sym c.all_taken.ensures ∙ c.if-not-all_taken.false) (sym c.shape_ok.ensures ∙ c.if-not-shape_ok.false) (sym c.additions_ok.ensures ∙ c.if-not-additions_ok.false) (sym c.ends_ok.ensures ∙ c.if-not-ends_ok.false) _ c.levels_ok.ensures c.if-not-levels_ok.true

pub returns : goal.returns
returns c = accepted_as c.requires (sym c.records_ok.ensures ∙ c.if-not-records_ok.false) (sym c.all_taken.ensures ∙ c.if-not-all_taken.false) (sym c.shape_ok.ensures ∙ c.if-not-shape_ok.false) (sym c.additions_ok.ensures ∙ c.if-not-additions_ok.false) (sym c.ends_ok.ensures ∙ c.if-not-ends_ok.false) _ c.levels_ok.ensures c.if-not-levels_ok.false
