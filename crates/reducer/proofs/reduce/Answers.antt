use Rattle.std.proofs.Common.{Err, ap, ◌∙◌, arith}
use Rattle.std.proofs.lemmas.Result.{err_from_is_err_and}
use Rattle.reducer.specs.Run.{refused_file, count_few, least_small, file_given}
use Rattle.reducer.proofs.reduce.Goals as goal

pub overflow_mul-header : goal.overflow_mul-header
overflow_mul-header c = omega (arith, count_few _ _ _ c.in_ok-header.ensures)

pub overflow_sub-header : goal.overflow_sub-header
overflow_sub-header c = omega (arith, count_few _ _ _ c.in_ok-header.ensures)

pub file_length-least-requires : goal.file_length-least-requires
file_length-least-requires c = least_small _ _ _ c.in_ok-header.ensures

pub reduce_by_size-requires : goal.reduce_by_size-requires
reduce_by_size-requires c = (
  file_given _ _ _ c.in_ok-header.ensures (record { small = λ i. omega (arith, c.type_inv.src i) }) c.file_length-least.ensures (omega arith),
  c.file_length-least.ensures,
)

pub returns-in_err-header : goal.returns-in_err-header
returns-in_err-header c =
    let p = err_from_is_err_and c.from_residual.result c.from_residual.ensures.1 in
    rw (p.1 ∙ ap Err p.2) (refused_file _ _ (record { small = λ i. omega (arith, c.type_inv.src i) }) c.in_err-header.ensures)
