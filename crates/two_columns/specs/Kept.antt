-- What is left of a file, as List effects takes it: a file, or nothing.
use Rattle.std.specs.Prelude.{◌≡◌, Bool, true, false, cond, ℕ, ◌*◌, ◌<◌, ◌≤◌, ltb, get_or, take, drop, codes, Result, Ok, Err}
use Rattle.std.specs.Result.{result_unwrap_or}
use Rattle.std.proofs.Math.Path.{refl, sym, ap}
use Rattle.std.proofs.Common.{◌∙◌, arith, le-ltb}
use Rattle.std.proofs.Math.Bool.{true≢false}
use Rattle.std.proofs.Math.Seq.{take-append_seam}
use mathlib.Core.List.{List, [], ◌∷◌, ◌++◌}
use Rattle.std.proofs.Math.ListN.{length}
use Rattle.refusal.specs.declared.Refusal.{Refusal}
use Rattle.refusal.specs.Number.{number_of}
use Rattle.tree.specs.Tree.{Tree, forest, records, size}
use Rattle.tree.specs.Layout.{header_bytes}
use Rattle.tree.specs.Fields.{count_of}
use Rattle.tree.specs.Refusal.{reduce_limits, list_effects_limits, mark_ok, refusal}
use Rattle.tree.specs.Encoding.{Bytes}
use Rattle.tree.proofs.Accepted.{passed, counted_parts, mark_long, accepted, wider}
use Rattle.stated.specs.Stated.{Stated}
use Rattle.effects.specs.Answer.{Case, refused_by, counts, stated, stated, number, effect_list, Answers}
use Rattle.reducer.specs.Answer.{left, rewritten, answer_list_given, answer_list, Promised}
use Rattle.two_columns.specs.Columns.{side_by_side, records_line, table}

-- The effects of a file; none where nothing is left.
abbrev pub effects_of : List ℕ → List ℕ
effects_of [] = []
effects_of (b ∷ bs) = effect_list (b ∷ bs)

unfoldable pub records_of : List ℕ → ℕ
records_of s = cond (ltb (length s) header_bytes) 0 (count_of s)

-- Nothing, or a file that List effects accepts with so many entries lent.
pub record GivenList (s : List ℕ) (room : ℕ) : Type 0 where
  pub taken : 0 < length s → number s room ≡ 0

-- An accepted file, and what is left of it.
pub record GivenTable (s kept : List ℕ) : Type 0 where
  pub accepted_is : refusal reduce_limits s ≡ 0
  pub promised : Promised s
  pub kept_is : kept ≡ rewritten s

listed : (s : List ℕ) (room : ℕ) → refusal list_effects_limits s ≡ 0 → 2 * count_of s ≤ room → number s room ≡ 0
unfolding number
listed s room e l = rw (e, le-ltb room (2 * count_of s) l)

effects_some : (s : List ℕ) → 0 < length s → effects_of s ≡ effect_list s
effects_some [] l = absurd (omega arith)
effects_some (b ∷ bs) l = refl

records_some : (s : List ℕ) → header_bytes ≤ length s → records_of s ≡ count_of s
unfolding records_of
records_some s l = rw (le-ltb (length s) header_bytes l)

-- The file itself.
module _ (s : List ℕ) (e : refusal reduce_limits s ≡ 0) where
  long : header_bytes ≤ length s
  long = mark_long s (passed reduce_limits s e).mark

  pub file_taken : GivenList s 4000
  file_taken = record {
    taken = λ z.
        listed s 4000 (wider reduce_limits list_effects_limits (omega arith) (omega arith) (λ _. refl) s e)
        (omega (arith, (counted_parts 2000 s (passed reduce_limits s e).counted).few));
  }

  pub file_effects : effects_of s ≡ effect_list s
  file_effects = effects_some s (omega (arith, long))

  pub file_records : records_of s ≡ count_of s
  file_records = records_some s long

-- What is left of it.
module _ (s : List ℕ) (p : Promised s) where
  pub kept_taken : GivenList (rewritten s) 7998
  unfolding rewritten
  kept_taken = go (left s) refl
    where
      go : (ts : List Tree) → left s ≡ ts → GivenList (rewritten s) 7998
      go [] x = record { taken = λ z. absurd (omega (arith, rw x at z)) }
      go (t ∷ []) x =
          let e = (p.kept_file t x).is_listed in
          record { taken = λ z. listed (rewritten s) 7998 e (omega (arith, (counted_parts 3999 (rewritten s) (passed list_effects_limits (rewritten s) e).counted).few)) }
      go (t ∷ u ∷ us) x = absurd (omega (arith, p.at_most_one, ap length x))

  pub kept_effects : effects_of (rewritten s) ≡ answer_list s
  unfolding rewritten answer_list_given
  kept_effects = go (left s) refl
    where
      go : (ts : List Tree) → left s ≡ ts → effects_of (rewritten s) ≡ answer_list s
      go [] x = rw x refl
      go (t ∷ []) x =
          let e = (p.kept_file t x).is_listed in
          effects_some (rewritten s) (omega (arith, mark_long (rewritten s) (passed list_effects_limits (rewritten s) e).mark)) ∙ sym (rw x refl)
      go (t ∷ u ∷ us) x = absurd (omega (arith, p.at_most_one, ap length x))

  pub kept_records : Bytes (rewritten s) → records_of (rewritten s) ≡ records (forest (left s))
  unfolding rewritten records_of
  kept_records bs = go (left s) refl
    where
      go : (ts : List Tree) → left s ≡ ts → records_of (rewritten s) ≡ records (forest (left s))
      go [] x = rw x refl
      go (t ∷ []) x =
          let k = p.kept_file t x in
          let e = k.is_listed in
          records_some (rewritten s) (mark_long (rewritten s) (passed list_effects_limits (rewritten s) e).mark)
          ∙ sym (accepted list_effects_limits (rewritten s) bs e).sized
          ∙ ap size k.tree_is
          ∙ rw x (omega arith)
      go (t ∷ u ∷ us) x = absurd (omega (arith, p.at_most_one, ap length x))

-- Both of them.
module _ {s kept : List ℕ} (g : GivenTable s kept) where
  pub given_kept : GivenList kept 7998
  given_kept = rw g.kept_is (kept_taken s g.promised)

  pub table_is : Bytes kept → {before after : List ℕ} → before ≡ effects_of s → after ≡ effects_of kept → {n m : ℕ} → n ≡ records_of s → m ≡ records_of kept
      → codes "before after\n" ++ side_by_side before after ++ records_line n m ≡ table s
  unfolding table
  table_is bs b a n m =
      let left_b = b ∙ file_effects s g.accepted_is in
      let left_a = a ∙ ap effects_of g.kept_is ∙ kept_effects s g.promised in
      let counted = n ∙ file_records s g.accepted_is in
      let left_counted = m ∙ ap records_of g.kept_is ∙ kept_records s g.promised (rw g.kept_is at bs) in
      rw (left_b, left_a, counted, left_counted) refl

-- A file that is accepted is not refused: what is then taken for no effects is never reached.
is_refused : Case → Bool
is_refused Case.refused = true
is_refused Case.count = false

module _ {s old new : List ℕ} {r : Result ℕ Refusal} (z : number s (length old) ≡ 0) (a : Answers s old new r) where
  pub listed_accepted : {x : Refusal} → r ≡ Err x → ⊥
  unfolding is_refused
  listed_accepted {x} e =
      let y : refused_by (number_of x) ≡ counts (length (effect_list s)) = ap stated (sym e) ∙ a.answer ∙ rw z refl in
      true≢false (ap (λ (y : Stated Case). is_refused y.case) y)

  listed_entries : {n : ℕ} → r ≡ Ok n → take n new ≡ effect_list s
  listed_entries {n} e =
      let x : counts n ≡ counts (length (effect_list s)) = ap stated (sym e) ∙ a.answer ∙ rw z refl in
      let counted : n ≡ length (effect_list s) = ap (λ (y : Stated Case). get_or y.values 0 0) x in
      let written : new ≡ effect_list s ++ drop (length (effect_list s)) old = a.entries ∙ rw z refl in
      rw (counted, written) (take-append_seam (effect_list s) (drop (length (effect_list s)) old))

-- An empty file is refused.
pub listed_list : (s : List ℕ) {old new : List ℕ} {r : Result ℕ Refusal} → GivenList s (length old) → Answers s old new r → take (result_unwrap_or r 0) new ≡ effects_of s
unfolding is_refused number refusal mark_ok
listed_list [] {r = Ok n} g a = absurd (true≢false (ap (λ (y : Stated Case). is_refused y.case) (sym a.answer)))
listed_list [] {r = Err x} g a = refl
listed_list (b ∷ bs) {r = Ok n} g a = listed_entries (g.taken (omega arith)) a refl
listed_list (b ∷ bs) {r = Err x} g a = absurd (listed_accepted (g.taken (omega arith)) a refl)
