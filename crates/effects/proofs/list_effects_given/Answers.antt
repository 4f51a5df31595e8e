use Rattle.std.proofs.Common.{rules, Err, ap, ◌∙◌, arith}
use Rattle.std.proofs.lemmas.Result.{err_from_is_err_and}
use Rattle.tree.specs.Encoding.{Bytes}
use Rattle.effects.specs.Run.{refused_file, count_few, refused_room, root_held, root_listable, root_room, counted}
use Rattle.effects.proofs.list_effects_given.Goals as goal

pub overflow_mul-count : goal.overflow_mul-count
overflow_mul-count c = omega (arith, count_few _ _ _ c.in_ok-settings.ensures)

pub returns-then-entries-count : goal.returns-then-entries-count
returns-then-entries-count c = refused_room _ _ _ c.in_ok-settings.ensures c.if-entries-count.true

pub invariant_of-root : goal.invariant_of-root
invariant_of-root c = record { ordered = omega arith; held = root_held _ _ _ c.in_ok-settings.ensures (record { small = λ i. omega (arith, c.type_inv.src i) }) }

pub list_children-requires : goal.list_children-requires
list_children-requires c =
    let b : Bytes c.args.src.now = record { small = λ i. omega (arith, c.type_inv.src i) } in
    record { listable = root_listable _ _ _ c.in_ok-settings.ensures b; room = root_room _ _ _ c.in_ok-settings.ensures b c.args.yes.now _ c.if-entries-count.false }

pub returns : goal.returns
returns c =
    let b : Bytes c.args.src.now = record { small = λ i. omega (arith, c.type_inv.src i) } in
    let a = counted _ _ _ c.in_ok-settings.ensures b c.args.yes.now c.if-entries-count.false c.list_children.ensures.wrote in
    search rules

pub returns-in_err-settings : goal.returns-in_err-settings
returns-in_err-settings c =
    let p = err_from_is_err_and c.from_residual.result c.from_residual.ensures.1 in
    rw (p.1 ∙ ap Err p.2) (refused_file _ _ c.in_err-settings.ensures)
