-- The walk over a list of children.
use Rattle.std.specs.Prelude.{◌≡◌, List, [], ◌∷◌, ℕ, ◌+◌, ◌*◌, ◌-◌, ◌<◌, ◌≤◌}
use Rattle.std.proofs.Common.{ap, sym, subst, ◌∙◌, arith}
use Rattle.tree.specs.Tree.{Tree, All}
use Rattle.tree.specs.Layout.{version_in}
use Rattle.tree.specs.Room.{records_in}
use Rattle.readings.specs.Given.{given}
use Rattle.readings.specs.View.{left, tree}
use Rattle.readings.specs.declared.node.Node.{Node}
use Rattle.readings.specs.declared.node.Trees.{Trees}
use Rattle.effects.specs.Listing.{Listable}
use Rattle.output.specs.Given.{step_size}
use Rattle.output.specs.Records.{before_all}
use Rattle.output.specs.Trees.{wrote_none, wrote_both}
use Rattle.rewrite.specs.declared.waiting.Waiting.{Waiting}
use Rattle.rewrite.specs.Waiting.{Waits, none_at, waits_none}
use Rattle.reducer.specs.declared.expression.Reduction.{Reduction}
use Rattle.reducer.specs.declared.walk.Part.{Part}
use Rattle.reducer.specs.Walked.{step, walked}
use Rattle.reducer.specs.Given.{GivenChild, ReducedChild, GivenChildren, ReducedChildren, stays_all, stays_both}

-- Where the walk over w stands: what is left of the trees of s, behind what is settled and what waits, is what is left of all.
pub record Walking (w : Trees) (depth : ℕ) (part : Part) (old : Reduction) (pos : ℕ) (s : Trees) (cur : Reduction) (at : Waiting) : Type 0 where
  pub listable : All (Listable depth) (left s)
  pub same : version_in cur.out.now ≡ version_in s.src.now
  pub small : 2 * (w.end - w.at) < 65536
  pub fits : pos + 2 * (w.end - w.at) ≤ records_in cur.out.now
  pub behind : pos ≤ at.slot
  pub few : at.next + 2 * (s.end - s.at) ≤ pos + 2 * (w.end - w.at)
  pub wait : List Tree
  pub waits : Waits cur.out.now at wait
  pub whole : (new : Reduction) (at' : Waiting) → ReducedChildren (left s) part cur new at at' → ReducedChildren (left w) part old new (none_at pos) at'

pub walk_start : (w : Trees) {depth : ℕ} (part : Part) {old : Reduction} {pos : ℕ} → GivenChildren w depth old.out.now pos → Walking w depth part old pos w old (none_at pos)
walk_start w part {old} {pos} g = record {
  listable = g.listable;
  same = g.same;
  small = g.small;
  fits = g.fits;
  behind = omega arith;
  few = omega arith;
  wait = [];
  waits = waits_none old.out.now pos;
  whole = λ new a y. y;
}

module _ (w : Trees) {depth : ℕ} (part : Part) {old : Reduction} {pos : ℕ} (s : Trees) {cur : Reduction} {at : Waiting} (k : Walking w depth part old pos s cur at) where
  pub walk_done : left s ≡ [] → ReducedChildren (left w) part old cur (none_at pos) at
  walk_done e = k.whole cur at (record { by = λ v x. rw e (record { done = wrote_none (before_all cur.out.now at.slot); waiting = x }); few = omega arith; stays = stays_all cur })

  -- The next tree, and the trees behind it.
  module _ (t : Trees) (n : Node) (y : (left s ≡ tree n ∷ left t) × (t.src.now ≡ s.src.now) × (n.record.src.now ≡ s.src.now)) where
    both : All (Listable depth) (tree n ∷ left t)
    both = subst (λ (l : List Tree). All (Listable depth) l) y.0 k.listable

    pub next_given : GivenChild n depth cur.out.now at
    next_given = record {
      listable = both.0;
      same = k.same ∙ ap version_in (sym y.2);
      wait = k.wait;
      waits = k.waits;
      fits = omega (arith, k.fits, k.few, step_size s t n y);
      small = omega (arith, k.small, k.few, k.behind, step_size s t n y);
    }

    module _ {cur' : Reduction} {at' : Waiting} (a : ReducedChild (tree n) part cur cur' at at') where
      rest_whole : (new : Reduction) (at'' : Waiting) → ReducedChildren (left t) part cur' new at' at'' → ReducedChildren (left s) part cur new at at''
      rest_whole new at'' b = rw y.0 (record {
        by = λ v x.
            let st = given cur.settings in
            let q = step part st v (tree n) in
            let c = a.by v x in
            let d = rw a.stays.settings at (b.by q.waiting c.waiting) in
            record { done = wrote_both q.done (walked part st q.waiting (left t)).done c.done d.done; waiting = d.waiting };
        few = omega (arith, a.few, b.few);
        stays = stays_both a.stays b.stays;
      })

      pub walk_on : Walking w depth part old pos t cur' at'
      walk_on =
          let d = a.by k.wait k.waits in
          record {
            listable = both.1;
            same = d.done.frame.same ∙ k.same ∙ ap version_in (sym y.1);
            small = k.small;
            fits = omega (arith, k.fits, d.done.frame.room);
            behind = omega (arith, k.behind, d.done.spans.ends);
            few = omega (arith, k.few, a.few, step_size s t n y);
            wait = (step part (given cur.settings) k.wait (tree n)).waiting;
            waits = d.waiting;
            whole = λ new b v. k.whole new b (rest_whole new b v);
          }
