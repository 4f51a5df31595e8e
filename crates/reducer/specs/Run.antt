-- The operation: from the check's answer to the rewritten file.
use Rattle.std.specs.Prelude.{◌≡◌, Bool, ℕ, zero, suc, ◌+◌, ◌*◌, ◌-◌, ◌<◌, ◌≤◌, get_or, Some, None, Ok, Err}
use Rattle.std.proofs.Math.Path.{refl, sym, ap, subst}
use Rattle.std.proofs.Common.{◌∙◌, ⊎_elim, arith, length-append, length-drop, ext_get_or, get_or-append-add, get_or-drop}
use Rattle.std.proofs.Math.Bool.{true}
use mathlib.Core.List.{List, [], ◌∷◌, ◌++◌}
use Rattle.std.proofs.Math.Dec.{ltb}
use Rattle.std.proofs.Math.ListN.{length, drop, get_or-append}
use borrow.Author.Tests.{le-ltb}
use Rattle.le.specs.Le.{u16_at}
use Rattle.refusal.specs.declared.Refusal.{Refusal}
use Rattle.refusal.specs.Number.{number_of}
use Rattle.tree.specs.Tree.{Tree, forest, one, records, size}
use Rattle.tree.specs.Below.{lt_or_le}
use Rattle.tree.specs.Layout.{Version, version_in, header_bytes, start, start_in}
use Rattle.tree.specs.Room.{records_of, records_in, version_same, start_first, start_small, start_le, header_before, has_room}
use Rattle.tree.specs.Fields.{settings_of, count_of}
use Rattle.tree.specs.File.{preorder, bytes, header, file_bytes}
use Rattle.tree.specs.Refusal.{reduce_limits, list_effects_limits, refusal, tree_of, mark_ok, version_ok}
use Rattle.tree.specs.Encoding.{Bytes}
use Rattle.tree.proofs.Encoding.{bytes_stand, length_file}
use Rattle.tree.specs.Stands.{formed_one}
use Rattle.tree.specs.Accepted.{Accepted, FileOf}
use Rattle.tree.proofs.Accepted.{passed, counted_parts, counted_room, mark_long, mark_copied, accepted, file_of_lem, header_is}
use Rattle.tree.specs.Accepted as accepted
use Rattle.file.specs.Answer as check
use Rattle.rules.specs.Reads.{Premise}
use Rattle.rules.specs.Reduce.{reduce}
use Rattle.rules.proofs.Theorems.{kept_same_effects, removable_no_effects, yes_unread, at_most_twice, one_deeper, at_most_one, kept_within}
use Rattle.readings.specs.Given.{settings_given, settings_with}
use Rattle.readings.specs.At.{NodeAt, tree_at, tree_is}
use Rattle.readings.specs.View.{tree}
use Rattle.readings.specs.declared.node.Node.{Node}
use Rattle.effects.specs.Answer.{effect_list_given}
use Rattle.output.specs.Bytes.{Moved, copied_at}
use Rattle.output.specs.Records.{behind_copied}
use Rattle.output.specs.Trees.{Wrote, spans_copied, wrote_as}
use Rattle.reducer.specs.Header.{Begun, Counted, begun_version, begun_kept}
use Rattle.reducer.specs.Given.{GivenTree}
use Rattle.reducer.specs.Answer.{least_output, number, number_by, left, rewritten, answer_list_given, KeptFile, Promised, Answers}

-- An accepted file, and room for its answer.
pub record GivenFile (s : List ℕ) (count settings : ℕ) (out : List ℕ) : Type 0 where
  pub accepted_is : refusal reduce_limits s ≡ 0
  pub count_is : count ≡ count_of s
  pub settings_is : settings ≡ settings_of s
  pub is_bytes : Bytes s
  pub fits : least_output (version_in s) count ≤ length out

-- What holds of the answer to an accepted file.
module _ (s : List ℕ) (bs : Bytes s) (e : refusal reduce_limits s ≡ 0) where
  A : Accepted reduce_limits s
  A = accepted reduce_limits s bs e

  kept_of : (t : Tree) → left s ≡ t ∷ [] → FileOf list_effects_limits (version_in s) (settings_of s) t
  unfolding left
  kept_of t x =
      file_of_lem (version_in s) (settings_of s) t list_effects_limits (omega arith) (kept_within (settings_with (settings_of s)) (tree_of s) (version_in s) A.permitted t x)

  kept_file : (t : Tree) → left s ≡ t ∷ [] → KeptFile s t
  unfolding rewritten
  kept_file t x =
      let f = kept_of t x in
      record { is_listed = rw x f.accepted; tree_is = rw x f.tree_is; version_is = rw x f.version_is; settings_is = rw x f.settings_is }

  same : (places : List ℕ) → Premise (settings_given places (settings_of s)) (tree_of s) → answer_list_given places s ≡ effect_list_given places s
  unfolding answer_list_given rewritten effect_list_given left
  same places p = go (left s) refl (at_most_one (settings_with (settings_of s)) (tree_of s) A.permitted.well)
    where
      unread : (l : List Tree) → left s ≡ l → reduce (settings_given places (settings_of s)) (tree_of s) ≡ l
      unread l x = yes_unread (settings_with (settings_of s)) (tree_of s) places ∙ x

      go : (l : List Tree) → left s ≡ l → length (left s) ≤ 1 → answer_list_given places s ≡ effect_list_given places s
      go [] x n = rw x (sym (removable_no_effects (settings_given places (settings_of s)) (tree_of s) A.permitted.well p (unread [] x)))
      go (t ∷ []) x n =
          let f = kept_of t x in
          rw x (rw (f.settings_is, f.tree_is) (kept_same_effects (settings_given places (settings_of s)) (tree_of s) A.permitted.well p t (unread (t ∷ []) x)))
      go (t ∷ u ∷ us) x n = absurd (omega (arith, n, ap length x))

  pub promises : Promised s
  unfolding left
  promises = record {
    same_effects = same;
    few = omega (arith, at_most_twice (settings_with (settings_of s)) (tree_of s), A.sized);
    low = one_deeper (settings_with (settings_of s)) (tree_of s);
    at_most_one = at_most_one (settings_with (settings_of s)) (tree_of s) A.permitted.well;
    kept_file = kept_file;
  }

-- No number: no refusal of the file.
pub unnumbered : (s : List ℕ) (room : ℕ) → number s room ≡ 0 → refusal reduce_limits s ≡ 0
unfolding number
unnumbered s room z = go (refusal reduce_limits s) (ltb room (least_output (version_in s) (count_of s))) z
  where
    go : (k : ℕ) (b : Bool) → number_by k b ≡ 0 → k ≡ 0
    go zero b z = refl
    go (suc k) b z = z

pub refused_file : (s : List ℕ) (r : Refusal) {old : List ℕ} → Bytes s → check.refused_by (number_of r) ≡ check.checked reduce_limits s → Answers s old old (Err r)
unfolding number
refused_file s r {old} bs e = go (number_of r) refl (check.checked_refused reduce_limits s (number_of r) e).0 (check.checked_refused reduce_limits s (number_of r) e).1
  where
    go : (m : ℕ) → number_of r ≡ m → refusal reduce_limits s ≡ m → (m ≡ 0 → ⊥) → Answers s old old (Err r)
    go zero n x z = absurd (z refl)
    go (suc m) n x z = record { answer = rw (x, n); bytes = rw x; promised = λ q. promises s bs (unnumbered s (length old) q) }

-- An accepted file.
module _ (s : List ℕ) (st n : ℕ) (e : check.accepted_with st n ≡ check.checked reduce_limits s) where
  is_zero : refusal reduce_limits s ≡ 0
  is_zero = (check.checked_accepted reduce_limits s st n e).0

  is_count : n ≡ count_of s
  is_count = (check.checked_accepted reduce_limits s st n e).2

  pub count_few : (1 ≤ n) × (n ≤ 2000)
  count_few = let k = counted_parts reduce_limits.records s (passed reduce_limits s is_zero).counted in omega (arith, is_count, k.some, k.few)

  pub least_small : (header_bytes ≤ length s) × (least_output (version_in s) n < 18446744073709551616)
  least_small = (mark_long s (passed reduce_limits s is_zero).mark, start_small (version_in s) (2 * n - 1) (omega (arith, count_few)))

  pub file_given : Bytes s → {out : List ℕ} {least : ℕ} → least ≡ least_output (version_in s) n → least ≤ length out → GivenFile s n st out
  file_given bs x l = record { accepted_is = is_zero; count_is = is_count; settings_is = (check.checked_accepted reduce_limits s st n e).1; is_bytes = bs; fits = omega (arith, x) }

-- A list that starts with f, copied over the first bytes of another.
overwritten : (f rest w old new : List ℕ) → w ≡ f ++ rest → Moved w 0 (length f) old new 0 → length new ≡ length old → length f ≤ length old → new ≡ f ++ drop (length f) old
overwritten f rest w old new e m n l = ext_get_or 0 new (f ++ drop (length f) old) lengths same
  where
    lengths : length new ≡ length (f ++ drop (length f) old)
    lengths = omega (arith, n, length-append f (drop (length f) old), length-drop (length f) old)

    same : (i : ℕ) → i < length new → get_or new i 0 ≡ get_or (f ++ drop (length f) old) i 0
    same i h = ⊎_elim low high (lt_or_le i (length f))
      where
        low : i < length f → get_or new i 0 ≡ get_or (f ++ drop (length f) old) i 0
        low x =
            copied_at m.there i i i (omega arith) (omega arith) x
            ∙ ap (λ (v : List ℕ). get_or v i 0) e
            ∙ get_or-append f rest 0 i x
            ∙ sym (get_or-append f (drop (length f) old) 0 i x)

        high : length f ≤ i → get_or new i 0 ≡ get_or (f ++ drop (length f) old) i 0
        high x =
            let y : i ≡ length f + (i - length f) = omega arith in
            m.above.same i (omega arith)
            ∙ ap (λ (j : ℕ). get_or old j 0) y
            ∙ sym (get_or-drop (length f) old (i - length f) 0)
            ∙ sym (get_or-append-add f (drop (length f) old) (i - length f) 0)
            ∙ ap (λ (j : ℕ). get_or (f ++ drop (length f) old) j 0) (sym y)

module _ {s : List ℕ} {count settings : ℕ} {old : List ℕ} (g : GivenFile s count settings old) where
  counted : accepted.Counted reduce_limits.records s
  counted = counted_parts reduce_limits.records s (passed reduce_limits s g.accepted_is).counted

  pub count_bounds : (1 ≤ count) × (count ≤ 2000)
  count_bounds = omega (arith, g.count_is, counted.some, counted.few)

  pub header_fits : header_bytes ≤ least_output (version_in s) count
  header_fits = header_before (version_in s) (2 * count - 1)

  pub header_inside : header_bytes ≤ length s
  header_inside = mark_long s (passed reduce_limits s g.accepted_is).mark

  file : Accepted reduce_limits s
  file = accepted reduce_limits s g.is_bytes g.accepted_is

  no_number : number s (length old) ≡ 0
  unfolding number
  no_number = rw (g.accepted_is, le-ltb (length old) (least_output (version_in s) (count_of s)) (omega (arith, g.fits, ap (least_output (version_in s)) g.count_is)))

  -- The tree that stands at record 0.
  pub root_is : tree_at s 0 ≡ tree_of s
  root_is = tree_is s 0 (tree_of s) file.stands

  pub root_stands : NodeAt s 0
  root_stands = rw root_is (file.stands, omega (arith, g.count_is, counted_room counted, file.sized))

  pub root_inside : 0 + 1 ≤ records_in s
  root_inside = omega (arith, g.count_is, counted_room counted, count_bounds)

  module _ (u : Node) (same_src : u.record.src.now ≡ s) (at_root : tree u ≡ tree_of s) where
    pub root_given : {work : List ℕ} → Begun s work → least_output (version_in s) count ≤ length work → GivenTree u 64 work 0
    root_given {work} b l =
        let z : size (tree u) ≡ count = omega (arith, ap size at_root, g.count_is, file.sized) in
        record {
          listable = rw at_root (record { ok = formed_one (tree_of s) file.permitted.well; low = omega (arith, file.permitted.low) });
          same = begun_version b ∙ ap version_in (sym same_src);
          fits = omega (arith, z, count_bounds, has_room (version_in s) (length work) (2 * count - 1) l, ap (λ (v : Version). records_of v (length work)) (begun_version b));
          small = omega (arith, z, count_bounds);
        }

  pub root_wrote : {work work' : List ℕ} {end : ℕ} → Wrote work work' 0 end (reduce (settings_with settings) (tree_at s 0)) → Wrote work work' 0 end (left s)
  unfolding left
  root_wrote w = wrote_as w (ap (reduce (settings_with settings)) root_is ∙ ap (λ (x : ℕ). reduce (settings_with x) (tree_of s)) g.settings_is)

  pub end_few : {work work' : List ℕ} {end : ℕ} → Wrote work work' 0 end (left s) → end ≤ 2 * count - 1
  end_few a = omega (arith, a.spans.ends, (promises s g.is_bytes g.accepted_is).few, g.count_is)

  pub end_small : {work work' : List ℕ} {end : ℕ} → Wrote work work' 0 end (left s) → (header_bytes ≤ length s) × (start_in s end < 18446744073709551616)
  end_small {end = end} a = (header_inside, start_small (version_in s) end (omega (arith, end_few a, count_bounds)))

  pub end_fits_lem : {work work' : List ℕ} {end : ℕ} → Wrote work work' 0 end (left s) → start_in s end ≤ least_output (version_in s) count
  end_fits_lem {end = end} a = start_le (version_in s) end (2 * count - 1) (end_few a)

  -- Nothing is left.
  pub none_left : left s ≡ [] → Answers s old old (Ok None)
  unfolding rewritten
  none_left e = record { answer = rw (no_number, e); bytes = rw (no_number, e); promised = λ q. promises s g.is_bytes g.accepted_is }

  -- What was kept, its header written, is the bytes of the rewritten file.
  module _ {work mid work' : List ℕ} {end : ℕ} (b : Begun s work) (a : Wrote work mid 0 end (left s)) (h : Counted mid work' end) (bs : Bytes work')
      (long : start_in s end ≤ length work') where
    header_same : (k : ℕ) → k < 6 → get_or work' k 0 ≡ get_or s k 0
    header_same k l = h.same k l ∙ (begun_kept b a.frame).same k l

    as_wide : version_in work' ≡ version_in s
    as_wide = version_same s work' (header_same 3 (omega arith))

    mark_is : mark_ok work' ≡ true
    mark_is =
        mark_copied s work' (passed reduce_limits s g.accepted_is).mark (omega (arith, long, header_before (version_in s) end))
        (λ k l. header_same k (omega arith))

    version_is : version_ok work' ≡ true
    unfolding version_ok u16_at
    version_is = rw (header_same 3 (omega arith), header_same 4 (omega arith)) (passed reduce_limits s g.accepted_is).version

    file_is : (t : Tree) → left s ≡ t ∷ [] → work' ≡ file_bytes (version_in s) (settings_of s) t ++ drop (start_in s end) work'
    unfolding file_bytes
    file_is t x =
        let v = version_in s in
        let w : Wrote work mid 0 end (t ∷ []) = rw x at a in
        let z : end ≡ size t = omega (arith, w.spans.ends) in
        let d = spans_copied 0 w.spans (behind_copied 0 (records (forest (t ∷ []))) (omega arith) h.above) in
        let room : end ≤ records_in work' = rw as_wide (has_room v (length work') end long) in
        header_is work' bs mark_is version_is
        ∙ ap (λ (u : Version). header u (settings_of work') (count_of work') (drop header_bytes work')) as_wide
        ∙ ap (λ (y : ℕ). header v y (count_of work') (drop header_bytes work')) (header_same 5 (omega arith))
        ∙ ap (λ (y : ℕ). header v (settings_of s) y (drop header_bytes work')) (h.counts ∙ z)
        ∙ ap (header v (settings_of s) (size t)) (ap (λ (p : ℕ). drop p work') (sym (start_first v))
        ∙ subst (λ (u : Version). drop (start u 0) work' ≡ bytes u (preorder (one t)) ++ drop (start u end) work') as_wide
        (bytes_stand work' bs (one t) 0 end d.stands (omega (arith, room, z)) (omega (arith, z))))

    file_long : (t : Tree) → left s ≡ t ∷ [] → length (file_bytes (version_in s) (settings_of s) t) ≡ start_in s end
    file_long t x =
        let w : Wrote work mid 0 end (t ∷ []) = rw x at a in
        let z : size t ≡ end = omega (arith, w.spans.ends) in
        length_file (version_in s) (settings_of s) t ∙ ap (start_in s) z

    pub kept : {new : List ℕ} → (end ≡ 0 → ⊥) → {written : ℕ} → written ≡ start_in s end → Moved work' 0 written old new 0 → length new ≡ length old → Answers s old new (Ok (Some written))
    unfolding rewritten
    kept {new} n {written} y m l = go (left s) refl (promises s g.is_bytes g.accepted_is).at_most_one
      where
        go : (ts : List Tree) → left s ≡ ts → length (left s) ≤ 1 → Answers s old new (Ok (Some written))
        go [] x o = absurd (n (omega (arith, a.spans.ends, ap (λ (r : List Tree). records (forest r)) x)))
        go (t ∷ []) x o =
            let z = file_long t x ∙ sym y in
            record {
              answer = rw (no_number, x, z);
              bytes = rw (no_number, x)
                  (overwritten (file_bytes (version_in s) (settings_of s) t) (drop (start_in s end) work') work' old new (file_is t x) (rw (← z) at m) l
                  (omega (arith, z, y, g.fits, end_fits_lem a)));
              promised = λ q. promises s g.is_bytes g.accepted_is;
            }
        go (t ∷ u ∷ us) x o = absurd (omega (arith, o, ap length x))
