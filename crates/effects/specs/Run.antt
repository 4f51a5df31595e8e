-- The operation: from the check's answer to the list.
use Rattle.std.specs.Prelude.{◌≡◌, refl, List, [], ◌∷◌, ℕ, zero, suc, ◌+◌, ◌-◌, ◌*◌, ◌<◌, ◌≤◌, Ok, Err}
use Rattle.std.proofs.Math.Path.{sym, ap}
use Rattle.std.proofs.Common.{◌∙◌, arith, append-nil}
use Rattle.std.proofs.Math.Bool.{true, false}
use Rattle.std.proofs.Math.Nat.{zero-add}
use Rattle.std.proofs.Math.Dec.{ltb}
use Rattle.std.proofs.Math.ListN.{length}
use borrow.Author.Tests.{lt-ltb, le-ltb}
use Rattle.stated.specs.Wrote.{Wrote, wrote_as, wrote_front}
use Rattle.refusal.specs.declared.Refusal.{Refusal}
use Rattle.refusal.specs.declared.Refusal.TheVariants.{Entries}
use Rattle.refusal.specs.Number.{number_of}
use Rattle.tree.specs.Tree.{Tree, All, trees, size}
use Rattle.tree.specs.Fields.{settings_of, count_of}
use Rattle.tree.specs.Refusal.{list_effects_limits, refusal, tree_of}
use Rattle.tree.specs.Encoding.{Bytes}
use Rattle.tree.specs.Stands.{formed_one}
use Rattle.tree.specs.Accepted.{Accepted}
use Rattle.tree.proofs.Accepted.{passed, counted_parts, accepted}
use Rattle.file.specs.Answer as check
use Rattle.rules.specs.Settings.{Settings}
use Rattle.rules.specs.Effects.{effects, effects_of}
use Rattle.rules.proofs.Theorems.{few_effects}
use Rattle.readings.specs.Given.{settings_given}
use Rattle.readings.specs.At.{HeldAt, forest_at}
use Rattle.readings.specs.Root as root
use Rattle.effects.specs.Listing.{Listable}
use Rattle.effects.specs.Answer.{number, effect_list_given, AnswersGiven}

pub refused_file : (s : List ℕ) (r : Refusal) {places old : List ℕ} → check.refused_by (number_of r) ≡ check.checked list_effects_limits s → AnswersGiven places s old old (Err r)
unfolding number
refused_file s r {places} {old} e = go (number_of r) refl (check.checked_refused list_effects_limits s (number_of r) e).0 (check.checked_refused list_effects_limits s (number_of r) e).1
  where
    go : (m : ℕ) → number_of r ≡ m → refusal list_effects_limits s ≡ m → (m ≡ 0 → ⊥) → AnswersGiven places s old old (Err r)
    go zero n x z = absurd (z refl)
    go (suc m) n x z = record { answer = rw (x, n); entries = rw x }

-- An accepted file.
module _ (s : List ℕ) (st n : ℕ) (e : check.accepted_with st n ≡ check.checked list_effects_limits s) where
  is_zero : refusal list_effects_limits s ≡ 0
  is_zero = (check.checked_accepted list_effects_limits s st n e).0

  is_settings : st ≡ settings_of s
  is_settings = (check.checked_accepted list_effects_limits s st n e).1

  is_count : n ≡ count_of s
  is_count = (check.checked_accepted list_effects_limits s st n e).2

  pub count_few : n ≤ 3999
  count_few = omega (arith, is_count, (counted_parts list_effects_limits.records s (passed list_effects_limits s is_zero).counted).few)

  pub refused_room : {places old : List ℕ} → length old < 2 * n → AnswersGiven places s old old (Err Entries)
  unfolding number
  refused_room {places} {old} l =
      let x : ltb (length old) (2 * count_of s) ≡ true = lt-ltb (length old) (2 * count_of s) (omega (arith, is_count)) in
      record { answer = rw (is_zero, x); entries = rw (is_zero, x) }

  module _ (bs : Bytes s) where
    A : Accepted list_effects_limits s
    A = accepted list_effects_limits s bs is_zero

    t : Tree
    t = tree_of s

    pub root_held : HeldAt s 0 (n - 0)
    root_held = root.root_held list_effects_limits s n is_zero is_count bs

    root_trees : trees (forest_at s 0 (n - 0)) ≡ t ∷ []
    unfolding t
    root_trees = root.root_trees list_effects_limits s n is_zero is_count bs

    pub root_listable : All (Listable 65) (trees (forest_at s 0 (n - 0)))
    unfolding t
    root_listable = rw root_trees (record { ok = formed_one (tree_of s) A.permitted.well; low = omega (arith, A.permitted.low) }, tt)

    root_size : size t ≡ n
    unfolding t
    root_size = A.sized ∙ sym is_count

    module _ (places : List ℕ) where
      abbrev g : Settings
      g = settings_given places st

      root_list : effects_of g (trees (forest_at s 0 (n - 0))) ≡ effect_list_given places s
      unfolding t effect_list_given
      root_list =
          ap (effects_of g) root_trees
          ∙ append-nil (effects g t)
          ∙ ap (λ (x : ℕ). effects (settings_given places x) (tree_of s)) is_settings

      root_few : length (effects_of g (trees (forest_at s 0 (n - 0)))) < 2 * n
      root_few = omega (arith, few_effects g t, root_size, ap length (ap (effects_of g) root_trees ∙ append-nil (effects g t)))

      pub root_room : (room : ℕ) → 2 * n ≤ room → 0 + length (effects_of g (trees (forest_at s 0 (n - 0)))) < room
      root_room room l = omega (arith, root_few)

      pub counted : {old new : List ℕ} {r : ℕ} → 2 * n ≤ length old → Wrote old new 0 r (effects_of g (trees (forest_at s 0 (n - 0)))) → AnswersGiven places s old new (Ok r)
      unfolding number
      counted {old} {new} {r} l w =
          let x : ltb (length old) (2 * count_of s) ≡ false = le-ltb (length old) (2 * count_of s) (omega (arith, is_count)) in
          let m : r ≡ length (effect_list_given places s) = w.ends ∙ zero-add (length (effects_of g (trees (forest_at s 0 (n - 0))))) ∙ ap length root_list in
          let fits : length (effect_list_given places s) ≤ length old = omega (arith, root_few, ap length root_list) in
          record {
            answer = rw (is_zero, x, m);
            entries = rw (is_zero, x) (wrote_front (wrote_as w root_list) fits);
          }
