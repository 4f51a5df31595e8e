-- The length of the input's array is told by a lemma, and not by a count of its bytes.
use Rattle.std.proofs.Common.{ℕ, sym}
use Rattle.std.proofs.lemmas.List.{length-replicate}
use Rattle.reductions.proofs.main.Goals as goal

pub slice_bounds-read_full-end : goal.slice_bounds-read_full-end
slice_bounds-read_full-end c = sym (length-replicate {A = ℕ} 655360 0)

pub slice_bounds-input-end : goal.slice_bounds-input-end
slice_bounds-input-end c = c.read_full-n.ensures.within.0

pub slice_bounds-reduce_files-end : goal.slice_bounds-reduce_files-end
slice_bounds-reduce_files-end c = c.read_full-n.ensures.within.1
