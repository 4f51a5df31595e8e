-- One child: it waits, is wrapped, or is reduced and settled.
use Rattle.std.specs.Prelude.{◌≡◌, refl, Bool, true, false, cond, List, [], ◌∷◌, ◌++◌, ℕ, ◌+◌, ◌*◌, ◌<◌, ◌≤◌}
use Rattle.std.proofs.Common.{sym, ap, subst, ◌∙◌, arith}
use Rattle.tree.specs.Tree.{Tree, forest, records, size}
use Rattle.fields.specs.Record.{node}
use Rattle.rules.specs.Facts.{flagged}
use Rattle.rules.specs.Handler.{is_kind}
use Rattle.rules.specs.Lists.{keep_if}
use Rattle.rules.specs.Made.{place_of, make_array, with_children}
use Rattle.rules.specs.Settings.{Settings}
use Rattle.rules.specs.Reduce.{reduce}
use Rattle.rules.proofs.Theorems.{at_most_twice}
use Rattle.readings.specs.At.{tree_at}
use Rattle.readings.specs.Given.{given}
use Rattle.readings.specs.View.{tree}
use Rattle.readings.specs.declared.node.Node.{Node}
use Rattle.output.specs.Given as whole
use Rattle.output.specs.Records.{Before, before_less, before_trans}
use Rattle.output.specs.Trees.{Wrote, wrote_none, wrote_as}
use Rattle.rewrite.specs.declared.waiting.Waiting.{Waiting}
use Rattle.rewrite.specs.Waiting.{Held, Wrapped, waits_after, waits_agree}
use Rattle.reducer.specs.declared.expression.Reduction.{Reduction}
use Rattle.reducer.specs.declared.walk.Part.{Part}
use Rattle.reducer.specs.declared.walk.Part.TheVariants.{InOrder, Argument, Template, Object}
use Rattle.reducer.specs.Walked.{Progress, waits, wraps, left_of, settled, step}
use Rattle.reducer.specs.Laws.{left_wrapped, left_reduced}
use Rattle.reducer.specs.Settled.{Stepped, GivenSettle, Settles}
use Rattle.reducer.specs.Given.{Stays, GivenTree, Reduced, GivenChild, ReducedChild, stays_both}

-- What was written over bytes that agree.
stepped_over : {old mid new : List ℕ} {pos : ℕ} {at : Waiting} {q : Progress} → Before old mid pos → Stepped mid new pos at q → Stepped old new pos at q
stepped_over a d = record { done = record { spans = d.done.spans; frame = before_trans a d.done.frame (omega arith) }; waiting = d.waiting }

stepped_as : {old new : List ℕ} {pos : ℕ} {at : Waiting} {p q : Progress} → p ≡ q → Stepped old new pos at p → Stepped old new pos at q
stepped_as {old} {new} {pos} {at} e d = subst (λ (x : Progress). Stepped old new pos at x) e d

-- What is left of a child takes at most twice the records.
left_few : (part : Part) (st : Settings) (t : Tree) → records (forest (left_of part st t)) ≤ 2 * size t
unfolding make_array with_children
left_few part st t = go (wraps part t) refl
  where
    kept_few : (b : Bool) → records (forest (keep_if b (make_array (place_of t) (t ∷ [])))) ≤ 2 * size t
    kept_few true = omega arith
    kept_few false = omega arith

    go : (b : Bool) → wraps part t ≡ b → records (forest (left_of part st t)) ≤ 2 * size t
    go true e = rw (left_wrapped st part t e) (kept_few (flagged t))
    go false e = rw (left_reduced st part t e) (omega (arith, at_most_twice st t))

module _ {u : Node} {depth : ℕ} {old : List ℕ} {at : Waiting} (g : GivenChild u depth old at) where
  pub child_tree : GivenTree u depth old at.next
  child_tree = record { listable = g.listable; same = g.same; fits = omega (arith, g.fits); small = omega (arith, g.small, waits_after g.waits) }

  pub child_copy : whole.GivenTree u old (at.next + 1)
  child_copy = record { same = g.same; fits = omega (arith, g.fits) }

  pub child_small : size (tree u) < 65535
  child_small = omega (arith, g.small, waits_after g.waits)

  pub given_settle : (part : Part) (st : Settings) {mid : List ℕ} {end : ℕ} → Wrote old mid at.next end (left_of part st (tree u)) → GivenSettle u.record mid at end
  given_settle part st a = record {
    same = a.frame.same ∙ g.same;
    list = record {
      wait = g.wait;
      waits = waits_agree g.waits a.frame;
      left = left_of part st (tree u);
      spans = a.spans;
      inside = omega (arith, a.frame.room, g.fits, a.spans.ends, left_few part st (tree u));
      small = omega (arith, g.small);
    };
  }

module _ (part : Part) (t : Tree) {b : Bool} (p : b ≡ waits part t) where
  by_waits : (st : Settings) (c : Bool) → b ≡ c → (w : List Tree) → cond c (record { done = []; waiting = w ++ (t ∷ []) }) (settled part (place_of t) w (left_of part st t)) ≡ step part st w t
  by_waits st c e w = ap (λ (x : Bool). cond x (record { done = []; waiting = w ++ (t ∷ []) }) (settled part (place_of t) w (left_of part st t))) (sym e ∙ p)

  -- It waits.
  pub child_held : b ≡ true → {old new : Reduction} {at at' : Waiting} → Stays old new → Held t old.out.now new.out.now at at' → ReducedChild t part old new at at'
  child_held e {old} {at = at} k h = record {
    by = λ w x. stepped_as (by_waits (given old.settings) true e w) (record { done = rw h.slot (wrote_none (before_less at.slot (omega (arith, waits_after x)) h.frame)); waiting = h.by w x });
    few = omega (arith, h.few);
    stays = k;
  }

  -- It does not, and what is left of it was written behind what waits.
  pub child_settled : b ≡ false → {old mid new : Reduction} {at at' : Waiting} {end : ℕ} → Reduced old mid at.next end (left_of part (given old.settings) t) → Stays mid new
      → Settles (place_of t) part mid.out.now new.out.now at end at' → ReducedChild t part old new at at'
  child_settled e {old} {at = at} a k f = record {
    by = λ w x.
        stepped_as (by_waits (given old.settings) false e w)
        (stepped_over (before_less at.slot (omega (arith, waits_after x)) a.wrote.frame) (f.by w (waits_agree x a.wrote.frame) (left_of part (given old.settings) t) a.wrote.spans));
    few = omega (arith, f.few, a.wrote.spans.ends, left_few part (given old.settings) t);
    stays = stays_both a.stays k;
  }

-- A spread among arguments was wrapped; any other child was reduced.
module _ (part : Part) (t : Tree) {c : Bool} (q : c ≡ wraps part t) {old mid : Reduction} {next end : ℕ} where
  pub child_wrapped : c ≡ true → Stays old mid → Wrapped t old.out.now mid.out.now next end → Reduced old mid next end (left_of part (given old.settings) t)
  child_wrapped e k m = record { wrote = wrote_as m.wrote (sym (left_wrapped (given old.settings) part t (sym q ∙ e))); stays = k }

  pub child_reduced : c ≡ false → Reduced old mid next end (reduce (given old.settings) t) → Reduced old mid next end (left_of part (given old.settings) t)
  child_reduced e m = record { wrote = wrote_as m.wrote (sym (left_reduced (given old.settings) part t (sym q ∙ e))); stays = m.stays }

-- Whether it is wrapped its record alone says.
pub own_wraps : (part : Part) (u : Node) → wraps part (node u.record) ≡ wraps part (tree u)
unfolding is_kind tree_at
own_wraps InOrder u = refl
own_wraps Argument u = refl
own_wraps Template u = refl
own_wraps Object u = refl

-- The same of a node, by its record.
module _ (part : Part) (u : Node) {c : Bool} (q : c ≡ wraps part (node u.record)) {old mid : Reduction} {next end : ℕ} where
  pub node_wrapped : c ≡ true → Stays old mid → Wrapped (tree u) old.out.now mid.out.now next end → Reduced old mid next end (left_of part (given old.settings) (tree u))
  node_wrapped = child_wrapped part (tree u) (q ∙ own_wraps part u)

  pub node_reduced : c ≡ false → Reduced old mid next end (reduce (given old.settings) (tree u)) → Reduced old mid next end (left_of part (given old.settings) (tree u))
  node_reduced = child_reduced part (tree u) (q ∙ own_wraps part u)
