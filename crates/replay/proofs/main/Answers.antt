-- The length of the input's array is told by a lemma, and not by a count of its bytes.
use Rattle.std.proofs.Common.{ℕ, sym}
use Rattle.std.proofs.lemmas.List.{length-replicate}
use Rattle.replay.proofs.main.Goals as goal

pub slice_bounds-read_full-end : goal.slice_bounds-read_full-end
slice_bounds-read_full-end c = sym (length-replicate {A = ℕ} 655360 0)

pub slice_bounds-input-end : goal.slice_bounds-input-end
slice_bounds-input-end c = c.read_full-n.ensures.within.0

pub slice_bounds-replay_list-end : goal.slice_bounds-replay_list-end
slice_bounds-replay_list-end c = c.read_full-n.ensures.within.1
