-- From Reduce's answer to the text.
use Rattle.std.specs.Prelude.{◌≡◌, refl, Bool, true, false, List, [], ◌∷◌, ◌++◌, ltb, length, get_or, take, drop, unwrap_or, Option, Some, None, Result, Ok, Err}
use Rattle.std.proofs.Math.Path.{sym, ap}
use Rattle.std.proofs.Common.{ap₂, ◌∙◌, true≢false, arith, le-ltb}
use Prim.Native.Nat.{ℕ, zero, suc, ◌<◌}
use Rattle.std.proofs.Math.Seq.{take-append_seam}
use Rattle.stated.specs.Stated.{Stated}
use Rattle.refusal.specs.declared.Refusal.{Refusal}
use Rattle.refusal.specs.Number.{number_of}
use Rattle.tree.specs.Tree.{Tree}
use Rattle.tree.specs.Fields.{count_of}
use Rattle.tree.specs.Layout.{version_in}
use Rattle.tree.specs.Refusal.{reduce_limits, program_limits, refusal}
use Rattle.tree.proofs.Accepted.{passed, counted_parts}
use Rattle.reducer.specs.Answer.{least_output, most_output, most_enough, Case, refused_by, answered, stated, case_of, number, number_by, left, rewritten, stated_of, bytes_of, Answers}
use Rattle.two_columns.specs.Columns.{columns, columns_by, table, refused_line}
use Rattle.two_columns.specs.Kept.{GivenTable}
use Rattle.two_columns.specs.Limit.{too_many, within}

-- As much is lent as Reduce may need, so it never refuses with 9.
number_is : (s : List ℕ) → number s most_output ≡ refusal reduce_limits s
unfolding number
number_is s = go (refusal reduce_limits s) refl
  where
    go : (k : ℕ) → refusal reduce_limits s ≡ k → number_by k (ltb most_output (least_output (version_in s) (count_of s))) ≡ k
    go zero e =
        let enough : ltb most_output (least_output (version_in s) (count_of s)) ≡ false =
        le-ltb most_output (least_output (version_in s) (count_of s)) (most_enough (version_in s) (count_of s) (counted_parts 2000 s (passed reduce_limits s e).counted).few) in
        rw enough refl
    go (suc k) e = refl

is_refused : Case → Bool
is_refused Case.refused = true
is_refused Case.removable = false
is_refused Case.kept = false

none_refused : (l : List Tree) → true ≡ is_refused (case_of l) → ⊥
unfolding is_refused
none_refused [] x = true≢false x
none_refused (t ∷ ts) x = true≢false x

module _ {s old new : List ℕ} {reduced : Result (Option ℕ) Refusal} (room : length old ≡ most_output) (a : Answers s old new reduced) where
  number_zero : number s (length old) ≡ refusal reduce_limits s
  number_zero = ap (number s) room ∙ number_is s

  answer : stated reduced ≡ stated_of (refusal reduce_limits s) s
  answer = a.answer ∙ ap (λ (k : ℕ). stated_of k s) number_zero

  -- Of a file that counts no more records of version 2 than are taken.
  pub refused : too_many s ≡ false → {r : Refusal} → reduced ≡ Err r → number_of r ≡ refusal (program_limits (version_in s)) s
  unfolding is_refused
  refused few {r} e = go (refusal reduce_limits s) (ap stated (sym e) ∙ answer) ∙ sym (within s few)
    where
      go : (k : ℕ) → refused_by (number_of r) ≡ stated_of k s → number_of r ≡ k
      go zero x = absurd (none_refused (left s) (ap (λ (y : Stated Case). is_refused y.case) x))
      go (suc k) x = ap (λ (y : Stated Case). y.number) x

  module _ {kept : Option ℕ} (e : reduced ≡ Ok kept) where
    -- No number is answered of an accepted file.
    accepted_is : refusal reduce_limits s ≡ 0
    accepted_is = go (refusal reduce_limits s) kept (ap stated (sym e) ∙ answer)
      where
        go : (k : ℕ) (kept : Option ℕ) → stated (Ok kept) ≡ stated_of k s → k ≡ 0
        go zero kept x = refl
        go (suc k) None x = sym (ap (λ (y : Stated Case). y.number) x)
        go (suc k) (Some n) x = sym (ap (λ (y : Stated Case). y.number) x)

    -- The length that is answered is that of what is left.
    length_is : unwrap_or kept 0 ≡ length (rewritten s)
    length_is = go kept (ap stated (sym e) ∙ answer ∙ ap (λ (j : ℕ). stated_of j s) accepted_is)
      where
        go : (kept : Option ℕ) → stated (Ok kept) ≡ answered (case_of (left s)) (length (rewritten s)) → unwrap_or kept 0 ≡ length (rewritten s)
        go None x = ap (λ (y : Stated Case). get_or y.values 0 0) x
        go (Some n) x = ap (λ (y : Stated Case). get_or y.values 0 0) x

    written : take (unwrap_or kept 0) new ≡ rewritten s
    written =
        let bytes : new ≡ rewritten s ++ drop (length (rewritten s)) old = a.bytes ∙ ap (λ (k : ℕ). bytes_of k s old) (number_zero ∙ accepted_is) in
        ap₂ take length_is bytes ∙ take-append_seam (rewritten s) (drop (length (rewritten s)) old)

    -- Of a file that counts no more records of version 2 than are taken.
    pub accepted : too_many s ≡ false → refusal (program_limits (version_in s)) s ≡ 0
    accepted few = within s few ∙ accepted_is

    pub given : GivenTable s (take (unwrap_or kept 0) new)
    given = record { accepted_is = accepted_is; promised = a.promised (number_zero ∙ accepted_is); kept_is = written }

-- The text of a file that is refused, and of one that is not.
module _ (s : List ℕ) where
  pub columns_refused : (r : Refusal) → number_of r ≡ refusal (program_limits (version_in s)) s → refused_line (number_of r) ≡ columns s
  unfolding columns
  columns_refused r e = go (number_of r) some ∙ ap (λ (k : ℕ). columns_by k s) e
    where
      some : 0 < number_of r
      some = grind arith

      go : (k : ℕ) → 0 < k → refused_line k ≡ columns_by k s
      go zero l = absurd (omega arith)
      go (suc k) l = refl

  pub columns_accepted : refusal (program_limits (version_in s)) s ≡ 0 → table s ≡ columns s
  unfolding columns
  columns_accepted e = ap (λ (k : ℕ). columns_by k s) (sym e)
