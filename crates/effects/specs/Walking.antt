-- The walk over a list of trees, of each of which f is listed.
use Rattle.std.specs.Prelude.{◌≡◌, refl, List, [], ◌∷◌, ◌++◌, ℕ, ◌+◌, ◌<◌}
use Rattle.std.proofs.Common.{sym, ap, ◌∙◌, append_assoc, append-nil, arith}
use Rattle.tree.specs.Tree.{Forest, nil, node, Tree, All, trees, records, size}
use Rattle.rules.specs.Lists.{concat_map}
use Rattle.rules.proofs.Lists.{all_join, concat_map_append}
use Rattle.readings.specs.Entered.{entered}
use Rattle.effects.specs.declared.listing.Listing.{Listing}
use Rattle.effects.specs.Listing.{HasRoom, Listable, Listed, listable_under, listed_as, listed_both, room_after, room_first}

-- Where it stands: `left` is yet to be listed, and the list before is written.
pub record Walking (f : Tree → List ℕ) (depth : ℕ) (all : List Tree) (old : Listing) (left : List Tree) (cur : Listing) : Type 0 where
  pub done : List ℕ
  pub listed : Listed old cur done
  pub whole : concat_map f all ≡ done ++ concat_map f left
  pub listable : All (Listable depth) left

module _ {f : Tree → List ℕ} {depth : ℕ} {all : List Tree} {old : Listing} where
  module _ {left : List Tree} {cur : Listing} (w : Walking f depth all old left cur) where
    pub walk_done : left ≡ [] → Listed old cur (concat_map f all)
    walk_done e = listed_as w.listed (sym (w.whole ∙ rw e (append-nil w.done)))

    -- a is listed, and then what is listed of the trees in rest.
    module _ (a : List ℕ) (rest : List Tree) (e : concat_map f left ≡ a ++ concat_map f rest) where
      whole : concat_map f all ≡ w.done ++ (a ++ concat_map f rest)
      whole = w.whole ∙ ap (w.done ++◌) e

      pub walk_room : HasRoom old (concat_map f all) → HasRoom cur a
      walk_room r = room_first a (concat_map f rest) _ _ (room_after (a ++ concat_map f rest) w.listed (rw whole at r))

      pub walk_step : {new : Listing} → All (Listable depth) rest → Listed cur new a → Walking f depth all old rest new
      walk_step l x = record {
        done = w.done ++ a;
        listed = listed_both w.listed x;
        whole = whole ∙ sym (append_assoc w.done a (concat_map f rest));
        listable = l;
      }

    module _ (t : Tree) (rest : List Tree) (e : left ≡ t ∷ rest) where
      first : All (Listable depth) (t ∷ rest)
      first = rw e at w.listable

      pub walk_first : Listable depth t
      walk_first = first.0

      pub tree_room : HasRoom old (concat_map f all) → HasRoom cur (f t)
      tree_room = walk_room (f t) rest (rw e refl)

      pub walk_on : {new : Listing} → Listed cur new (f t) → Walking f depth all old rest new
      walk_on = walk_step (f t) rest (rw e refl) first.1

      -- Of t, a is listed before its children.
      module _ (a : List ℕ) (p : f t ≡ a ++ concat_map f (trees t.kids)) where
        passed : concat_map f left ≡ a ++ concat_map f (trees t.kids ++ rest)
        passed =
            ap (concat_map f) e
            ∙ ap (◌++ concat_map f rest) p
            ∙ append_assoc a (concat_map f (trees t.kids)) (concat_map f rest)
            ∙ ap (a ++◌) (sym (concat_map_append f (trees t.kids) rest))

        pub pass_room : HasRoom old (concat_map f all) → HasRoom cur a
        pass_room = walk_room a (trees t.kids ++ rest) passed

        pub walk_pass : {new : Listing} → Listed cur new a → Walking f depth all old (trees t.kids ++ rest) new
        walk_pass = walk_step a (trees t.kids ++ rest) passed (all_join (Listable depth) (trees t.kids) rest (listable_under first.0) first.1)

-- How many records trees take: fewer at each step.
abbrev pub weight : List Tree → ℕ
weight [] = 0
weight (t ∷ ts) = size t + weight ts

weight_append : (xs ys : List Tree) → weight (xs ++ ys) ≡ weight xs + weight ys
weight_append [] ys = omega arith
weight_append (x ∷ xs) ys = omega (arith, weight_append xs ys)

weight_trees : (f : Forest) → weight (trees f) ≡ records f
weight_trees nil = refl
weight_trees (node h cs rest) = omega (arith, weight_trees rest)

pub pass_smaller : (left : List Tree) (t : Tree) (rest : List Tree) → left ≡ t ∷ rest → weight (entered left) < weight left
pass_smaller left t rest e = rw e (omega (arith, weight_append (trees t.kids) rest, weight_trees t.kids))
