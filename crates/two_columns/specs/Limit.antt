-- 02, N6: "The two-column and batch programs take 1,500 records of version 2 and refuse more as a wrong count".
use Rattle.std.specs.Prelude.{◌≡◌, Bool, ◌&&◌, List, ℕ, ◌<◌, ◌≤◌, ltb, length, Result, Ok, Err}
use Rattle.std.proofs.Math.Path.{refl, sym}
use Rattle.std.proofs.Common.{ap, ◌∙◌, true≢false, arith}
use Rattle.std.proofs.Math.Bool.{true, false}
use Rattle.std.proofs.Math.Dec.{leb}
use borrow.Author.Tests.{le-leb, lt-leb, leb-false, ltb-true, ltb-false}
use Rattle.tree.specs.Below.{and_right}
use Rattle.tree.specs.Layout.{Version, v1, v2, version_in, header_bytes}
use Rattle.tree.specs.Fields.{count_of}
use Rattle.tree.specs.Refusal.{Limits, reduce_limits, program_limits, mark_ok, count_ok, refusal}
use Rattle.tree.proofs.Accepted.{passed, counted_parts}
use Rattle.refusal.specs.declared.Refusal.{Refusal}
use Rattle.refusal.specs.Number.{number_of}
use Rattle.file.specs.declared.Accepted.{Accepted}
use Rattle.file.specs.Answer as check

-- A file that counts more records of version 2 than these programs take.
abbrev many_of : Version → ℕ → Bool
many_of v1 n = false
many_of v2 n = ltb 1500 n

unfoldable pub too_many : List ℕ → Bool
too_many s = leb header_bytes (length s) && many_of (version_in s) (count_of s)

-- Such a file is of version 2, and refused.
module _ (s : List ℕ) (m : too_many s ≡ true) where
  many : many_of (version_in s) (count_of s) ≡ true
  unfolding too_many
  many = and_right (leb header_bytes (length s)) (many_of (version_in s) (count_of s)) m

  many_version : version_in s ≡ v2
  many_version = go (version_in s) many
    where
      go : (v : Version) → many_of v (count_of s) ≡ true → v ≡ v2
      go v1 e = absurd (true≢false (sym e))
      go v2 e = refl

  many_refused : refusal (program_limits v2) s ≡ 0 → ⊥
  many_refused z =
      let over : ltb 1500 (count_of s) ≡ true = rw many_version at many in
      omega (arith, ltb-true 1500 (count_of s) over, (counted_parts 1500 s (passed (program_limits v2) s z).counted).few)

  -- What the check answers under that limit.
  module _ {r : Result Accepted Refusal} (e : check.stated r ≡ check.checked (program_limits v2) s) where
    pub many_number : {x : Refusal} → r ≡ Err x → number_of x ≡ refusal (program_limits (version_in s)) s
    many_number {x} is =
        sym (check.checked_refused (program_limits v2) s (number_of x) (ap check.stated (sym is) ∙ e)).0
        ∙ ap (λ (v : Version). refusal (program_limits v) s) (sym many_version)

    pub many_not_accepted : {a : Accepted} → r ≡ Ok a → ⊥
    many_not_accepted {a} is = many_refused (check.checked_accepted (program_limits v2) s a.settings a.count (ap check.stated (sym is) ∙ e)).0

-- Of any other file the limit says what Reduce's does.
module _ (s : List ℕ) (m : too_many s ≡ false) where
  by_mark : (limits : Limits) → mark_ok s ≡ false → refusal limits s ≡ 1
  unfolding refusal
  by_mark limits e = rw e

  by_count : count_ok 1500 s ≡ count_ok 2000 s → refusal (program_limits v2) s ≡ refusal reduce_limits s
  unfolding refusal
  by_count e = rw e

  short_mark : length s < header_bytes → mark_ok s ≡ false
  unfolding mark_ok
  short_mark l = rw (lt-leb header_bytes (length s) l)

  few_count : count_of s ≤ 1500 → count_ok 1500 s ≡ count_ok 2000 s
  unfolding count_ok
  few_count l = rw (le-leb (count_of s) 1500 l, le-leb (count_of s) 2000 (omega arith))

  pub within : refusal (program_limits (version_in s)) s ≡ refusal reduce_limits s
  unfolding too_many
  within = go (leb header_bytes (length s)) refl (version_in s) m
    where
      go : (b : Bool) → leb header_bytes (length s) ≡ b → (v : Version) → (b && many_of v (count_of s)) ≡ false → refusal (program_limits v) s ≡ refusal reduce_limits s
      go b e v1 x = refl
      go true e v2 x = by_count (few_count (ltb-false 1500 (count_of s) x))
      go false e v2 x =
          let k = short_mark (leb-false header_bytes (length s) e) in
          by_mark (program_limits v2) k ∙ sym (by_mark reduce_limits k)
