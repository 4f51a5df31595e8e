-- `join_sequence` over two trees that stand behind a free record.
use Rattle.std.specs.Prelude.{◌≡◌, Bool, true, false, eqb, List, [], ◌∷◌, ◌++◌, ℕ, suc, ◌+◌, ◌-◌, ◌<◌, ◌≤◌}
use Rattle.std.proofs.Common.{sym, subst, ◌∙◌, arith}
use Rattle.std.proofs.Math.Path.{ap}
use Rattle.tree.specs.Tree.{Place, Head, Forest, Tree, trees, forest, forest_trees, records}
use Rattle.tree.specs.Layout.{version_in}
use Rattle.tree.specs.Room.{records_in}
use Rattle.tree.specs.Fields.{place_in, head_at, subtree_at}
use Rattle.tree.specs.Stands.{Stands}
use Rattle.rules.specs.Handler.{is_kind}
use Rattle.rules.specs.Made.{place_of, make_sequence, join_sequence}
use Rattle.rules.specs.Reduce.{join_kept}
use Rattle.output.specs.Records.{MovedRecords, before_less, before_trans, before_copied, copied_records}
use Rattle.output.specs.Trees.{Spans, Wrote, wrote_as, spans_append, stands_copied}
use Rattle.output.specs.Lists.{first_spans, rest_spans}
use Rattle.rewrite.specs.Made.{GivenMade, Makes}
use Rattle.fields.specs.Record.{head}
use Rattle.fields.specs.declared.record.Record.{Record}
use Rattle.rewrite.specs.Becomes.{GivenList, Becomes, none_one_several_of, join_kept_of}
use Rattle.tree.specs.Kind as kind

-- Two trees stand behind record pos: the second at record `second`, to record end.
pub record Pair (out : List ℕ) (pos second end : ℕ) (a b : Tree) : Type 0 where
  pub left : Spans out (pos + 1) second (a ∷ [])
  pub right : Spans out second end (b ∷ [])

pub record GivenPair (out : List ℕ) (pos second end : ℕ) : Type 0 where
  pub a : Tree
  pub b : Tree
  pub pair : Pair out pos second end a b
  pub inside : end ≤ records_in out
  pub small : end < pos + 65536

pub record Joins (old new : List ℕ) (pos second end : ℕ) (place : Place) (r : ℕ) : Type 0 where
  pub by : (a b : Tree) → Pair old pos second end a b → Wrote old new pos r (join_sequence place a b ∷ [])

-- The children of a tree, standing behind its record, as a list.
kids_span : {s : List ℕ} {p e : ℕ} (t : Tree) → Spans s p e (t ∷ []) → Spans s (p + 1) e (trees t.kids)
kids_span {s} {p} {e} t d = record {
  stands = subst (λ (f : Forest). Stands s (p + 1) f) (sym (forest_trees t.kids)) d.stands.3;
  ends = omega (arith, d.ends, ap records (forest_trees t.kids));
}

-- Trees behind record q moved down by one.
moved_span : {old new : List ℕ} {q e n : ℕ} {ts : List Tree} → Spans old (q + 1) e ts → MovedRecords old (q + 1) n old new q → records (forest ts) ≤ n → Spans new q (e - 1) ts
moved_span {old} {new} {q} {e} {n} {ts} d m l = record {
  stands = stands_copied (forest ts) (q + 1) q (copied_records m.there (q + 1) q 0 (records (forest ts)) (omega arith) (omega arith) (omega arith)) d.stands;
  ends = omega (arith, d.ends);
}

-- Whether a side is a sequence, as its record says.
sequence_at : {g h : Head} {b : Bool} → g ≡ h → eqb g.kind kind.sequence ≡ b → eqb h.kind kind.sequence ≡ b
sequence_at s e = sym (ap (λ (x : Head). eqb x.kind kind.sequence) s) ∙ e

-- The list that the left side's children make with the right side, once the left side's record is moved over; and the list of the
-- left side and the right side's children, once the right side's is.
module _ {old mid : List ℕ} {pos second end : ℕ} (n : ℕ) where
  left_list : n ≡ end - (pos + 1) - 1 → MovedRecords old (pos + 1 + 1) n old mid (pos + 1) → (a b : Tree) → Pair old pos second end a b → Spans mid (pos + 1) (end - 1) (trees a.kids ++ (b ∷ []))
  left_list en m a b d =
      moved_span (spans_append (trees a.kids) (b ∷ []) (kids_span a d.left) d.right) m
      (omega (arith, en, (spans_append (trees a.kids) (b ∷ []) (kids_span a d.left) d.right).ends))

  right_list : n ≡ end - second - 1 → MovedRecords old (second + 1) n old mid second → (a b : Tree) → Pair old pos second end a b → Spans mid (pos + 1) (end - 1) (a ∷ trees b.kids)
  right_list en m a b d =
      spans_append (a ∷ []) (trees b.kids)
      (record { stands = stands_copied (forest (a ∷ [])) (pos + 1) (pos + 1) (before_copied (pos + 1) (records (forest (a ∷ []))) (omega (arith, d.left.ends)) m.below) d.left.stands; ends = d.left.ends })
      (moved_span (kids_span b d.right) m (omega (arith, en, (kids_span b d.right).ends)))

module _ {old : List ℕ} {pos second end : ℕ} where
  pair_bounds : (g : GivenPair old pos second end) → (pos + 1 < second) × (second < end) × (end ≤ records_in old)
  pair_bounds g = omega (arith, g.pair.left.ends, g.pair.right.ends, g.inside)

  -- The left side is a sequence: its record is moved over.
  module _ {mid : List ℕ} (n : ℕ) (en : n ≡ end - (pos + 1) - 1) (m : MovedRecords old (pos + 1 + 1) n old mid (pos + 1)) where
    pub left_given : GivenPair old pos second end → GivenMade mid pos (end - 1)
    left_given g = record {
      list = trees g.a.kids ++ (g.b ∷ []);
      spans = left_list n en m g.a g.b g.pair;
      inside = omega (arith, g.inside, pair_bounds g, m.below.room);
      small = omega (arith, g.small);
    }

    pub joins_left : eqb (head_at old (pos + 1)).kind kind.sequence ≡ true → {new : List ℕ} (place : Place) → Makes make_sequence mid new pos (end - 1) (place_in (version_in mid) place)
        → Joins old new pos second end (place_in (version_in old) place) (end - 1)
    unfolding join_sequence is_kind
    joins_left e {new} place v = record { by = λ a b d. go a b d }
      where
        w : Makes make_sequence mid new pos (end - 1) (place_in (version_in old) place)
        w = rw m.below.same at v

        go : (a b : Tree) → Pair old pos second end a b → Wrote old new pos (end - 1) (join_sequence (place_in (version_in old) place) a b ∷ [])
        go a b d =
            let x = w.by (trees a.kids ++ (b ∷ [])) (left_list n en m a b d) in
            wrote_as (record { spans = x.spans; frame = before_trans (before_less pos (omega arith) m.below) x.frame (omega arith) })
            (rw (sequence_at d.left.stands.0 e))

  -- The right side is one, and the left is not.
  module _ {mid : List ℕ} (n : ℕ) (en : n ≡ end - second - 1) (m : MovedRecords old (second + 1) n old mid second) where
    pub right_given : GivenPair old pos second end → GivenMade mid pos (end - 1)
    right_given g = record {
      list = g.a ∷ trees g.b.kids;
      spans = right_list n en m g.a g.b g.pair;
      inside = omega (arith, g.inside, pair_bounds g, m.below.room);
      small = omega (arith, g.small);
    }

    pub joins_right : eqb (head_at old (pos + 1)).kind kind.sequence ≡ false → eqb (head_at old second).kind kind.sequence ≡ true → {new : List ℕ} (place : Place) → Makes make_sequence mid new pos (end - 1) (place_in (version_in mid) place)
        → Joins old new pos second end (place_in (version_in old) place) (end - 1)
    unfolding join_sequence is_kind
    joins_right f e {new} place v = record { by = λ a b d. go a b d }
      where
        w : Makes make_sequence mid new pos (end - 1) (place_in (version_in old) place)
        w = rw m.below.same at v

        go : (a b : Tree) → Pair old pos second end a b → Wrote old new pos (end - 1) (join_sequence (place_in (version_in old) place) a b ∷ [])
        go a b d =
            let x = w.by (a ∷ trees b.kids) (right_list n en m a b d) in
            wrote_as (record { spans = x.spans; frame = before_trans (before_less pos (omega (arith, d.left.ends)) m.below) x.frame (omega arith) })
            (rw (sequence_at d.left.stands.0 f, sequence_at d.right.stands.0 e))

  pub both_given : GivenPair old pos second end → GivenMade old pos end
  both_given g = record {
    list = g.a ∷ g.b ∷ [];
    spans = spans_append (g.a ∷ []) (g.b ∷ []) g.pair.left g.pair.right;
    inside = g.inside;
    small = g.small;
  }

  pub joins_both : eqb (head_at old (pos + 1)).kind kind.sequence ≡ false → eqb (head_at old second).kind kind.sequence ≡ false
      → {new : List ℕ} {place : Place} → Makes make_sequence old new pos end place → Joins old new pos second end place end
  unfolding join_sequence is_kind
  joins_both f e {new} {place} w = record { by = λ a b d. go a b d }
    where
      go : (a b : Tree) → Pair old pos second end a b → Wrote old new pos end (join_sequence place a b ∷ [])
      go a b d =
          wrote_as (w.by (a ∷ b ∷ []) (spans_append (a ∷ []) (b ∷ []) d.left d.right))
          (rw (sequence_at d.left.stands.0 f, sequence_at d.right.stands.0 e))

-- A list of two, and the size of a second tree, by the size z of the first.
module _ {old : List ℕ} (pos : ℕ) {end : ℕ} (z : ℕ) (ez : z ≡ subtree_at old (pos + 1)) where
  pair_of : (x y : Tree) → Spans old (pos + 1) end (x ∷ y ∷ []) → Pair old pos (pos + 1 + z) end x y
  pair_of x y d = record { left = rw (← ez) at (first_spans x (y ∷ []) d); right = rw (← ez) at (rest_spans x (y ∷ []) d) }

  second_size : (v : ℕ) → v ≡ subtree_at old (pos + 1 + z) → (x y : Tree) (ys : List Tree) → Spans old (pos + 1) end (x ∷ y ∷ ys) → v ≡ suc (records y.kids)
  second_size v ev x y ys d = ev ∙ (rw (← ez) at (rest_spans x (y ∷ ys) d)).stands.2

-- The list by the sizes of its first and second tree.
module _ {u : Record} {old : List ℕ} {pos end z : ℕ} (ez : z ≡ subtree_at old (pos + 1)) (n : end ≡ pos + 1 → ⊥) where
  pub join_one : pos + 1 + z ≡ end → {new : List ℕ} {r : ℕ} → Becomes none_one_several_of u old new pos end r → Becomes join_kept_of u old new pos end r
  join_one e {new} {r} w = record { by = go }
    where
      go : (t : Tree) → head u ≡ t.head → (ts : List Tree) → Spans old (pos + 1) end ts → Wrote old new pos r (join_kept (place_of t) ts)
      go t h [] d = w.by t h [] d
      go t h (x ∷ []) d = w.by t h (x ∷ []) d
      go t h (x ∷ y ∷ ys) d = absurd (omega (arith, d.ends, d.stands.2))

  module _ (ne : pos + 1 + z ≡ end → ⊥) where
    pub second_inside : GivenList u old pos end → pos + 1 + z + 1 ≤ records_in old
    second_inside g = go g.list g.spans
      where
        go : (ts : List Tree) → Spans old (pos + 1) end ts → pos + 1 + z + 1 ≤ records_in old
        go [] d = absurd (n (omega (arith, d.ends)))
        go (x ∷ []) d = absurd (ne (omega (arith, d.ends, d.stands.2)))
        go (x ∷ y ∷ ys) d = omega (arith, d.ends, d.stands.2, g.inside)

    module _ (v : ℕ) (ev : v ≡ subtree_at old (pos + 1 + z)) where
      pub pair_given : pos + 1 + z + v ≡ end → GivenList u old pos end → GivenPair old pos (pos + 1 + z) end
      pair_given e g = go g.list g.spans
        where
          go : (ts : List Tree) → Spans old (pos + 1) end ts → GivenPair old pos (pos + 1 + z) end
          go [] d = absurd (n (omega (arith, d.ends)))
          go (x ∷ []) d = absurd (ne (omega (arith, d.ends, d.stands.2)))
          go (x ∷ y ∷ []) d = record { a = x; b = y; pair = pair_of pos z ez x y d; inside = g.inside; small = g.small }
          go (x ∷ y ∷ c ∷ cs) d = absurd (omega (arith, d.ends, d.stands.2, second_size pos z ez v ev x y (c ∷ cs) d))

      pub join_two : pos + 1 + z + v ≡ end → {new : List ℕ} {place : Place} {r : ℕ} → place ≡ (head u).place → Joins old new pos (pos + 1 + z) end place r → Becomes join_kept_of u old new pos end r
      join_two e {new} {place} {r} ep w = record { by = λ t h ts d. go t (ep ∙ ap (λ (x : Head). x.place) h) ts d }
        where
          go : (t : Tree) → place ≡ t.head.place → (ts : List Tree) → Spans old (pos + 1) end ts → Wrote old new pos r (join_kept (place_of t) ts)
          go t p [] d = absurd (n (omega (arith, d.ends)))
          go t p (x ∷ []) d = absurd (ne (omega (arith, d.ends, d.stands.2)))
          go t p (x ∷ y ∷ []) d = wrote_as (w.by x y (pair_of pos z ez x y d)) (ap (λ (q : Place). join_sequence q x y ∷ []) p)
          go t p (x ∷ y ∷ c ∷ cs) d = absurd (omega (arith, d.ends, d.stands.2, second_size pos z ez v ev x y (c ∷ cs) d))

      pub join_several : (pos + 1 + z + v ≡ end → ⊥) → {new : List ℕ} {r : ℕ} → Becomes none_one_several_of u old new pos end r → Becomes join_kept_of u old new pos end r
      join_several e {new} {r} w = record { by = go }
        where
          go : (t : Tree) → head u ≡ t.head → (ts : List Tree) → Spans old (pos + 1) end ts → Wrote old new pos r (join_kept (place_of t) ts)
          go t h [] d = w.by t h [] d
          go t h (x ∷ []) d = w.by t h (x ∷ []) d
          go t h (x ∷ y ∷ []) d = absurd (e (omega (arith, d.ends, d.stands.2, second_size pos z ez v ev x y [] d)))
          go t h (x ∷ y ∷ c ∷ cs) d = w.by t h (x ∷ y ∷ c ∷ cs) d
