-- The end of a list whose trees may wait.
use Rattle.std.specs.Prelude.{◌≡◌, refl, List, ◌++◌, ℕ, ◌+◌, ◌<◌, ◌≤◌}
use Rattle.std.proofs.Common.{subst, ◌∙◌, arith}
use Rattle.tree.specs.Tree.{Place, Tree}
use Rattle.tree.specs.Layout.{version_in}
use Rattle.tree.specs.Room.{records_in}
use Rattle.fields.specs.Record.{head, node}
use Rattle.fields.specs.declared.record.Record.{Record}
use Rattle.rules.specs.Reduce.{flush, none_one_several}
use Rattle.output.specs.Trees.{Spans, Wrote, wrote_over, spans_agree, spans_append}
use Rattle.rewrite.specs.declared.waiting.Waiting.{Waiting}
use Rattle.rewrite.specs.Waiting.{Waits, GivenWaiting, Flushed}
use Rattle.rewrite.specs.Becomes.{GivenList, Becomes, none_one_several_of}
use Rattle.reducer.specs.Walked.{Progress}

-- Behind the free record pos of out, whose records are as wide as the node's, stand trees that are settled, and trees that wait.
pub record GivenWalked (u : Record) (out : List ℕ) (pos : ℕ) (at : Waiting) : Type 0 where
  pub same : version_in out ≡ version_in u.src.now
  pub progress : Progress
  pub settled : Spans out (pos + 1) at.slot progress.done
  pub waits : Waits out at progress.waiting
  pub inside : at.next ≤ records_in out
  pub small : at.next < pos + 65536

-- Whatever trees are settled and wait: those that wait make a node at the place, and several that are left then a sequence there.
pub record Closes (make : Place → List Tree → Tree) (place : Place) (old new : List ℕ) (pos : ℕ) (at : Waiting) (r : ℕ) : Type 0 where
  pub by : (q : Progress) → Spans old (pos + 1) at.slot q.done → Waits old at q.waiting
      → Wrote old new pos r (none_one_several place (q.done ++ flush make place q.waiting))

closed_list : (make : Place → List Tree → Tree) {old mid : List ℕ} {from : ℕ} {at : Waiting} {place : Place} → Flushed make old mid at place → (q : Progress) → Spans old from at.slot q.done → Waits old at q.waiting
    → Spans mid from at.next (q.done ++ flush make place q.waiting)
closed_list make {place = place} f q d w =
    let y = f.by q.waiting w in
    spans_append q.done (flush make place q.waiting) (spans_agree d y.frame (omega arith)) y.spans

module _ {u : Record} {old : List ℕ} {pos : ℕ} {at : Waiting} where
  pub closing_waiting : GivenWalked u old pos at → GivenWaiting old at
  closing_waiting g = record { list = g.progress.waiting; waits = g.waits; inside = g.inside; small = omega (arith, g.small, g.settled.ends) }

  module _ (make : Place → List Tree → Tree) {mid : List ℕ} {place : Place} (f : Flushed make old mid at place) where
    pub closing_list : GivenWalked u old pos at → GivenList u mid pos at.next
    closing_list g = record {
      same = (f.by g.progress.waiting g.waits).frame.same ∙ g.same;
      list = g.progress.done ++ flush make place g.progress.waiting;
      spans = closed_list make f g.progress g.settled g.waits;
      inside = omega (arith, (f.by g.progress.waiting g.waits).frame.room, g.inside);
      small = g.small;
    }

    pub closed : place ≡ (head u).place → {new : List ℕ} {r : ℕ} → Becomes none_one_several_of u mid new pos at.next r → Closes make (head u).place old new pos at r
    closed ep {new} {r} b = record {
      by = λ q d w.
          wrote_over (f.by q.waiting w) (omega (arith, d.ends))
          (subst (λ (x : Place). Wrote mid new pos r (none_one_several (head u).place (q.done ++ flush make x q.waiting))) ep
          (b.by (node u) refl (q.done ++ flush make place q.waiting) (closed_list make f q d w)));
    }
