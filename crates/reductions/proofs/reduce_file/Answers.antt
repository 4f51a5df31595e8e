-- The length of the array is told by a lemma, and not by a count of its bytes.
use Rattle.std.proofs.Common.{ℕ, arith, sym, length-take-le}
use Rattle.std.proofs.lemmas.List.{length-replicate}
use Rattle.reductions.proofs.reduce_file.Goals as goal

pub slice_bounds-print_reduced-end : goal.slice_bounds-print_reduced-end
slice_bounds-print_reduced-end c = sym (length-take-le _ _ (omega (arith, length-replicate {A = ℕ} 65535 c.args.fill)))
