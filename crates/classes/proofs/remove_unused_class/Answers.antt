use Rattle.std.proofs.Common.{refl, arith}
use Rattle.rules.specs.Class.{extracted}
use Rattle.readings.specs.At.{tree_at}
use Rattle.readings.specs.View.{tree}
use Rattle.output.specs.Trees.{wrote_over}
use Rattle.classes.specs.Class.{Parts, first_ends, first_given, gives_up, list_given, others_given, parts_size}
use Rattle.classes.proofs.remove_unused_class.Goals as goal

pub copy_if_flagged-first-requires : goal.copy_if_flagged-first-requires
copy_if_flagged-first-requires c =
    let h = c.heritage_and_elements in
    let k : Parts c.args.node _ h.result.0 h.result.1 = record { first = h.ensures.first; others = h.ensures.others; source = h.ensures.source } in
    first_given k c.requires.same (omega (arith, c.requires.fits, parts_size k))

pub extract_elements-next-requires : goal.extract_elements-next-requires
extract_elements-next-requires c =
    let h = c.heritage_and_elements in
    let k : Parts c.args.node _ h.result.0 h.result.1 = record { first = h.ensures.first; others = h.ensures.others; source = h.ensures.source } in
    others_given k c.requires.same c.copy_if_flagged-first.ensures
    (omega (arith, c.requires.fits, parts_size k, first_ends h.result.0 c.copy_if_flagged-first.ensures))

pub sequence_if_any-requires : goal.sequence_if_any-requires
sequence_if_any-requires c =
    let h = c.heritage_and_elements in
    let k : Parts c.args.node _ h.result.0 h.result.1 = record { first = h.ensures.first; others = h.ensures.others; source = h.ensures.source } in
    list_given k c.requires h.ensures.first h.ensures.others c.copy_if_flagged-first.ensures c.extract_elements-next.ensures

pub returns : goal.returns
unfolding tree_at
returns c =
    let h = c.heritage_and_elements in
    let k : Parts c.args.node _ h.result.0 h.result.1 = record { first = h.ensures.first; others = h.ensures.others; source = h.ensures.source } in
    let w = gives_up k c.requires h.ensures.first h.ensures.others c.copy_if_flagged-first.ensures c.extract_elements-next.ensures in
    wrote_over w (omega arith) (c.sequence_if_any.ensures.by (tree c.args.node) refl (extracted (tree c.args.node)) w.spans)
