-- A flagged conditional: its arms are reduced behind records for itself and its test.
use Rattle.std.specs.Prelude.{◌≡◌, refl, List, [], ◌∷◌, ℕ, ◌+◌, ◌*◌, ◌-◌, ◌<◌, ◌≤◌}
use Rattle.std.proofs.Common.{ap, sym, ◌∙◌, append-nil, arith}
use Rattle.tree.specs.Tree.{Tree, All, trees, records, size, forest, forest_trees}
use Rattle.tree.specs.Layout.{version_in}
use Rattle.rules.specs.Settings.{Settings}
use Rattle.rules.specs.Conditional as conditional
use Rattle.rules.specs.Reduce.{reduce, join_arms}
use Rattle.rules.proofs.Theorems.{at_most_twice}
use Rattle.readings.specs.At.{tree_at}
use Rattle.readings.specs.View.{tree}
use Rattle.readings.specs.declared.node.Node.{Node}
use Rattle.effects.specs.Listing.{Listable, listable_kids}
use Rattle.handlers.specs.Outcome.{HandledAs}
use Rattle.handlers.specs.declared.outcome.Outcome.TheVariants.{Conditional}
use Rattle.output.specs.Given as whole
use Rattle.output.specs.Records.{Before, Behind, before_less, before_trans}
use Rattle.output.specs.Trees.{Spans, Wrote, spans_agree, spans_kept, wrote_as}
use Rattle.rewrite.specs.Arms.{GivenArms, JoinsArms}
use Rattle.reducer.specs.Given.{GivenTree}

pub record GivenConditional (u : Node) (depth : ℕ) (st : Settings) (out : List ℕ) (pos : ℕ) : Type 0 where
  pub given : GivenTree u depth out pos
  pub handles : HandledAs st (tree u) Conditional

-- Its test and its arms: three children, of the same bytes.
pub record Arms (u test first second : Node) : Type 0 where
  pub kids : trees (tree u).kids ≡ tree test ∷ tree first ∷ tree second ∷ []
  pub source : (test.record.src.now ≡ u.record.src.now) × (first.record.src.now ≡ u.record.src.now) × (second.record.src.now ≡ u.record.src.now)

module _ {u test first second : Node} (a : Arms u test first second) where
  pub arms_size : 1 + size (tree test) + size (tree first) + size (tree second) ≡ size (tree u)
  arms_size = omega (arith, ap (λ (l : List Tree). records (forest l)) a.kids, ap records (forest_trees (tree u).kids))

  module _ {st : Settings} {depth : ℕ} {old : List ℕ} {pos : ℕ} (g : GivenConditional u depth st old pos) where
    three : All (Listable (depth - 1)) (tree test ∷ tree first ∷ tree second ∷ [])
    three = rw a.kids at (listable_kids g.given.listable)

    joined : reduce st (tree u) ≡ join_arms (tree u) (reduce st (tree test)) (reduce st (tree first)) (reduce st (tree second))
    joined = g.handles.is ∙ rw (a.kids, append-nil (reduce st (tree test)), append-nil (reduce st (tree first)), append-nil (reduce st (tree second)))

    pub first_given : GivenTree first (depth - 1) old (pos + 1 + size (tree test))
    first_given = record { listable = three.1.0; same = g.given.same ∙ ap version_in (sym a.source.1); fits = omega (arith, g.given.fits, arms_size); small = omega (arith, g.given.small, arms_size) }

    module _ {mid : List ℕ} {middle : ℕ} (x : Wrote old mid (pos + 1 + size (tree test)) middle (reduce st (tree first))) where
      first_few : middle + 1 ≤ pos + 1 + size (tree test) + 2 * size (tree first)
      first_few = omega (arith, x.spans.ends, at_most_twice st (tree first))

      pub second_given : GivenTree second (depth - 1) mid middle
      second_given = record {
        listable = three.1.1.0;
        same = x.frame.same ∙ g.given.same ∙ ap version_in (sym a.source.2);
        fits = omega (arith, x.frame.room, g.given.fits, arms_size, first_few);
        small = omega (arith, g.given.small, arms_size);
      }

      module _ {mid' : List ℕ} {end : ℕ} (y : Wrote mid mid' middle end (reduce st (tree second))) where
        frame : Before old mid' (pos + 1 + size (tree test))
        frame = before_trans x.frame y.frame (omega (arith, x.spans.ends))

        first_spans : Spans mid' (pos + 1 + size (tree test)) middle (reduce st (tree first))
        first_spans = spans_agree x.spans y.frame (omega arith)

        few : end < pos + 2 * size (tree u)
        few = omega (arith, y.spans.ends, at_most_twice st (tree second), arms_size, first_few)

        -- Both are gone: the test is reduced in the conditional's place.
        pub test_given : GivenTree test (depth - 1) mid' pos
        test_given = record {
          listable = three.0;
          same = frame.same ∙ g.given.same ∙ ap version_in (sym a.source.0);
          fits = omega (arith, frame.room, g.given.fits, arms_size);
          small = omega (arith, g.given.small, arms_size);
        }

        pub both_gone : end ≡ pos + 1 + size (tree test) → {new : List ℕ} {r : ℕ} → Wrote mid' new pos r (reduce st (tree test)) → Wrote old new pos r (reduce st (tree u))
        both_gone e {new} {r} d = go (reduce st (tree first)) (reduce st (tree second)) first_spans y.spans joined
          where
            go : (cs bs : List Tree) → Spans mid' (pos + 1 + size (tree test)) middle cs → Spans mid' middle end bs
                → reduce st (tree u) ≡ join_arms (tree u) (reduce st (tree test)) cs bs → Wrote old new pos r (reduce st (tree u))
            go [] [] p q z = wrote_as (record { spans = d.spans; frame = before_trans (before_less pos (omega arith) frame) d.frame (omega arith) }) (sym z)
            go [] (v ∷ vs) p q z = absurd (omega (arith, e, p.ends, q.ends))
            go (v ∷ vs) bs p q z = absurd (omega (arith, e, p.ends, q.ends))

        -- One is left: the test is copied before them.
        pub test_room : whole.GivenTree test mid' (pos + 1)
        test_room = record { same = test_given.same; fits = omega (arith, frame.room, g.given.fits, arms_size) }

-- One is left: the test is copied before them.
module _ {u test first second : Node} (a : Arms u test first second) {st : Settings} {depth : ℕ} {old mid mid' mid'' : List ℕ} {pos middle end : ℕ} (g : GivenConditional u depth st old pos)
    (x : Wrote old mid (pos + 1 + size (tree test)) middle (reduce st (tree first))) (y : Wrote mid mid' middle end (reduce st (tree second)))
    {next : ℕ} (m : Wrote mid' mid'' (pos + 1) next (tree test ∷ [])) (behind : Behind mid' mid'' (pos + 1 + size (tree test))) where
  test_spans : Spans mid'' (pos + 1) (pos + 1 + size (tree test)) (tree test ∷ [])
  test_spans = record { stands = m.spans.stands; ends = omega arith }

  consequent_spans : Spans mid'' (pos + 1 + size (tree test)) middle (reduce st (tree first))
  consequent_spans = spans_kept (first_spans a g x y) behind (omega arith)

  alternate_spans : Spans mid'' middle end (reduce st (tree second))
  alternate_spans = spans_kept y.spans behind (omega (arith, x.spans.ends))

  pub arms_given : (end ≡ pos + 1 + size (tree test) → ⊥) → GivenArms u.record mid'' pos (pos + 1 + size (tree test)) middle end
  arms_given k = record {
    same = m.frame.same ∙ (frame a g x y).same ∙ g.given.same;
    tests = tree test ∷ [];
    consequents = reduce st (tree first);
    alternates = reduce st (tree second);
    test_spans = test_spans;
    consequent_spans = consequent_spans;
    alternate_spans = alternate_spans;
    some = omega (arith, k, x.spans.ends, y.spans.ends);
    inside = omega (arith, m.frame.room, (frame a g x y).room, few a g x y, g.given.fits);
    small = omega (arith, few a g x y, g.given.small);
  }

  pub conditional_done : {new : List ℕ} {r : ℕ} → JoinsArms u.record mid'' new pos (pos + 1 + size (tree test)) middle end r → Wrote old new pos r (reduce st (tree u))
  unfolding tree_at
  conditional_done j =
      let e : conditional.test (tree u) ≡ tree test ∷ [] = rw a.kids refl in
      let z = j.by (tree u) refl (rw e test_spans) (reduce st (tree test)) (reduce st (tree first)) (reduce st (tree second)) consequent_spans alternate_spans in
      wrote_as (record { spans = z.spans; frame = before_trans (before_trans (before_less pos (omega arith) (frame a g x y)) (before_less pos (omega arith) m.frame) (omega arith)) z.frame (omega arith) }) (sym (joined a g))
