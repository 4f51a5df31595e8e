-- The check, test by test: which number it comes to, and the tree once the shape has passed.
use Rattle.std.specs.Prelude.{◌≡◌, Bool, true, false, List, ℕ, ◌<◌, ◌≤◌}
use Rattle.std.proofs.Common.{sym}
use native.Mathlib.Omega.{arith}
use Rattle.tree.specs.Tree.{one, levels, depth}
use Rattle.tree.specs.Below.{all_below}
use Rattle.tree.specs.Record.{record_ok, taken, end_ok}
use Rattle.tree.specs.Room.{records_in}
use Rattle.tree.specs.Fields.{settings_of, count_of, head_at}
use Rattle.tree.specs.Refusal.{Limits, mark_ok, version_ok, settings_ok, count_ok, records_ok, all_taken, shape_ok, tree_of, additions_ok, ends_ok, depth_ok, refusal}
use Rattle.tree.specs.Stands.{formed_one}
use Rattle.tree.specs.Accepted.{Counted, Rooted}
use Rattle.tree.proofs.Accepted.{counted_parts, counted_room, rooted}
use Rattle.file.specs.Answer.{refused_by, accepted_with, stated_of, checked}
use Rattle.tree.specs.Walk.{Holds, Held}
use Rattle.file.specs.Depth.{Low}
use Rattle.file.specs.Symbols.{Whole}

stated_as : (limits : Limits) (s : List ℕ) (k : ℕ) → refusal limits s ≡ k → stated_of k s ≡ checked limits s
unfolding checked
stated_as limits s k e = rw e

module _ (limits : Limits) (s : List ℕ) where
  pub refused_1 : mark_ok s ≡ false → refused_by 1 ≡ checked limits s
  unfolding refusal
  refused_1 e = stated_as limits s 1 (rw e)

  module _ (mark : mark_ok s ≡ true) where
    pub refused_2 : version_ok s ≡ false → refused_by 2 ≡ checked limits s
    unfolding refusal
    refused_2 e = stated_as limits s 2 (rw (mark, e))

    module _ (version : version_ok s ≡ true) where
      pub refused_3 : settings_ok s ≡ false → refused_by 3 ≡ checked limits s
      unfolding refusal
      refused_3 e = stated_as limits s 3 (rw (mark, version, e))

      module _ (settings : settings_ok s ≡ true) where
        pub refused_4 : count_ok limits.records s ≡ false → refused_by 4 ≡ checked limits s
        unfolding refusal
        refused_4 e = stated_as limits s 4 (rw (mark, version, settings, e))

-- The header has passed.
pub record Headed (limits : Limits) (s : List ℕ) (n : ℕ) : Type 0 where
  pub mark : mark_ok s ≡ true
  pub version : version_ok s ≡ true
  pub settings : settings_ok s ≡ true
  pub counted : count_ok limits.records s ≡ true
  pub is_n : n ≡ count_of s

module _ {limits : Limits} {s : List ℕ} {n : ℕ} (h : Headed limits s n) where
  counted_n : Counted limits.records s
  counted_n = counted_parts limits.records s h.counted

  pub headed_inside : n ≤ records_in s
  headed_inside = omega (arith, h.is_n, counted_room counted_n)

  pub headed_some : 0 < n
  headed_some = omega (arith, h.is_n, counted_n.some)

  pub refused_5 : all_below (λ i. record_ok (head_at s i)) n ≡ false → refused_by 5 ≡ checked limits s
  unfolding refusal records_ok
  refused_5 e = stated_as limits s 5 (rw (h.mark, h.version, h.settings, h.counted, ← h.is_n, e))

  module _ (recorded : all_below (λ i. record_ok (head_at s i)) n ≡ true) where
    recorded_all : records_ok s ≡ true
    unfolding records_ok
    recorded_all = rw (← h.is_n) recorded

    pub refused_6 : all_below (λ i. taken limits.logicals (head_at s i)) n ≡ false → refused_by 6 ≡ checked limits s
    unfolding refusal all_taken
    refused_6 e = stated_as limits s 6 (rw (h.mark, h.version, h.settings, h.counted, recorded_all, ← h.is_n, e))

    module _ (inside : all_below (λ i. taken limits.logicals (head_at s i)) n ≡ true) where
      taken_all : all_taken limits.logicals s ≡ true
      unfolding all_taken
      taken_all = rw (← h.is_n) inside

      pub refused_7 : shape_ok s ≡ false → refused_by 7 ≡ checked limits s
      unfolding refusal
      refused_7 e = stated_as limits s 7 (rw (h.mark, h.version, h.settings, h.counted, recorded_all, taken_all, e))

      module _ (shape : shape_ok s ≡ true) where
        root : Rooted limits.logicals s
        root = rooted limits.logicals s counted_n.some recorded_all taken_all shape

        holds : Holds s 0 n (one (tree_of s))
        holds = record { stands = root.stands; sized = omega (arith, h.is_n, root.sized) }

        pub whole : Whole s n
        whole = record {
          inside = headed_inside;
          stands = root.stands;
          well = formed_one (tree_of s) root.well;
          sized = omega (arith, h.is_n, root.sized);
        }

        pub refused_5_again : additions_ok s ≡ false → refused_by 5 ≡ checked limits s
        unfolding refusal
        refused_5_again e = stated_as limits s 5 (rw (h.mark, h.version, h.settings, h.counted, recorded_all, taken_all, shape, e))

        pub held : Held s 0 n
        held = record { forest = one (tree_of s); holds = holds; inside = omega (arith, headed_inside) }

        module _ (additions : additions_ok s ≡ true) where
          pub refused_17 : all_below (λ i. end_ok (head_at s i).place) n ≡ false → refused_by 17 ≡ checked limits s
          unfolding refusal ends_ok
          refused_17 e = stated_as limits s 17 (rw (h.mark, h.version, h.settings, h.counted, recorded_all, taken_all, shape, additions, ← h.is_n, e))

          module _ (ends : all_below (λ i. end_ok (head_at s i).place) n ≡ true) (r : Bool) (low : Low s 0 n limits.depth r) where
            ends_all : ends_ok s ≡ true
            unfolding ends_ok
            ends_all = rw (← h.is_n) ends

            depth_is : depth_ok limits.depth s ≡ r
            unfolding depth_ok
            depth_is =
                let e : depth (tree_of s) ≡ levels (one (tree_of s)) = omega arith in
                rw e (sym (low.by (one (tree_of s)) holds))

            pub refused_8 : r ≡ false → refused_by 8 ≡ checked limits s
            unfolding refusal
            refused_8 e =
                stated_as limits s 8 (rw (h.mark, h.version, h.settings, h.counted, recorded_all, taken_all, shape, additions, ends_all, depth_is, e))

            pub accepted_as : r ≡ true → accepted_with (settings_of s) n ≡ checked limits s
            unfolding refusal
            accepted_as e =
                rw h.is_n
                (stated_as limits s 0 (rw (h.mark, h.version, h.settings, h.counted, recorded_all, taken_all, shape, additions, ends_all, depth_is, e)))
