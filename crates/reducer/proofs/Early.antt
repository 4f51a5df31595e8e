-- The answers given before anything is written, where the output is too short or nothing is left.
use Rattle.std.specs.Prelude.{◌≡◌, List, [], ◌∷◌, ℕ, zero, suc, ◌<◌, get_or}
use Rattle.std.proofs.Common.{refl, arith, lt-ltb}
use Rattle.tree.specs.Tree.{Tree, forest, records}
use Rattle.tree.specs.Layout.{version_in}
use Rattle.tree.specs.Fields.{count_of}
use Rattle.tree.specs.Refusal.{reduce_limits, refusal}
use Rattle.file.specs.Answer as check
use Rattle.reducer.specs.Answer.{least_output, number, left}

-- An accepted file whose output is too short: the number is read from what the check says.
pub short_number : (s : List ℕ) (room : ℕ) → (check.checked reduce_limits s).number ≡ 0
    → room < least_output (version_in s) (get_or (check.checked reduce_limits s).values 1 0) → number s room ≡ 9
unfolding number check.checked
short_number s room = go (refusal reduce_limits s) refl
  where
    go : (k : ℕ) → refusal reduce_limits s ≡ k → (check.stated_of k s).number ≡ 0 → room < least_output (version_in s) (get_or (check.stated_of k s).values 1 0) → number s room ≡ 9
    go zero e z l = rw (e, lt-ltb room (least_output (version_in s) (count_of s)) l)
    go (suc k) e z l = absurd (omega arith)

-- Nothing is left of its tree.
pub left_none : (s : List ℕ) → records (forest (left s)) ≡ 0 → left s ≡ []
left_none s e = go (left s) e
  where
    go : (ts : List Tree) → records (forest ts) ≡ 0 → ts ≡ []
    go [] e = refl
    go (t ∷ ts) e = absurd (omega arith)
