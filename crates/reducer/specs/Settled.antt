-- Trees settled and waiting, as they stand in the output.
use Rattle.std.specs.Prelude.{◌≡◌, List, [], ◌∷◌, ℕ, ◌+◌, ◌<◌, ◌≤◌}
use Rattle.std.proofs.Common.{sym, ap, subst, ◌∙◌, arith}
use Rattle.tree.specs.Tree.{Place, Head, Tree}
use Rattle.tree.specs.Layout.{version_in}
use Rattle.tree.specs.Room.{records_in}
use Rattle.tree.specs.Fields.{head_at}
use Rattle.fields.specs.declared.record.Record.{Record}
use Rattle.rules.specs.Made.{place_of, make_template, make_object}
use Rattle.rules.specs.Reduce.{flush}
use Rattle.output.specs.Records.{before_all}
use Rattle.output.specs.Trees.{Spans, Wrote, wrote_none, spans_append, spans_kept}
use Rattle.rewrite.specs.declared.waiting.Waiting.{Waiting}
use Rattle.rewrite.specs.Waiting.{Waits, GivenWaiting, Flushed, none_at, waits_none}
use Rattle.reducer.specs.declared.walk.Part.{Part}
use Rattle.reducer.specs.declared.walk.Part.TheVariants.{InOrder, Argument, Template, Object}
use Rattle.reducer.specs.Walked.{Progress, settled_kept, settled}

-- From record pos on the settled trees were written, and behind them stand those that wait.
pub record Stepped (old new : List ℕ) (pos : ℕ) (at : Waiting) (q : Progress) : Type 0 where
  pub done : Wrote old new pos at.slot q.done
  pub waiting : Waits new at q.waiting

pub record GivenSettled (out : List ℕ) (at : Waiting) (end : ℕ) : Type 0 where
  pub wait : List Tree
  pub waits : Waits out at wait
  pub left : List Tree
  pub spans : Spans out at.next end left
  pub inside : end ≤ records_in out
  pub small : at.next < at.slot + 65536

-- Whatever waited, and whatever trees stand behind it, to record end.
pub record SettlesKept (old new : List ℕ) (at : Waiting) (end : ℕ) (at' : Waiting) : Type 0 where
  pub by : (w : List Tree) → Waits old at w → (r : List Tree) → Spans old at.next end r → Stepped old new at.slot at' (settled_kept w r)
  pub few : at'.next ≤ end

pub record GivenSettle (u : Record) (out : List ℕ) (at : Waiting) (end : ℕ) : Type 0 where
  pub same : version_in out ≡ version_in u.src.now
  pub list : GivenSettled out at end

pub record Settles (p : Place) (part : Part) (old new : List ℕ) (at : Waiting) (end : ℕ) (at' : Waiting) : Type 0 where
  pub by : (w : List Tree) → Waits old at w → (r : List Tree) → Spans old at.next end r → Stepped old new at.slot at' (settled part p w r)
  pub few : at'.next ≤ end

pub settled_waiting : {out : List ℕ} {at : Waiting} {end : ℕ} → GivenSettled out at end → GivenWaiting out at
settled_waiting g = record { list = g.wait; waits = g.waits; inside = omega (arith, g.inside, g.spans.ends); small = g.small }

pub settled_inside : {out : List ℕ} {at : Waiting} {end : ℕ} → GivenSettled out at end → (end ≡ at.next → ⊥) → at.next + 1 ≤ records_in out
settled_inside g n = omega (arith, g.inside, g.spans.ends, n)

module _ {old : List ℕ} {at : Waiting} {end : ℕ} where
  -- Nothing is left of the child.
  pub settled_gone : end ≡ at.next → SettlesKept old old at end at
  settled_gone e = record { by = λ w x r d. go w x r d; few = omega arith }
    where
      go : (w : List Tree) → Waits old at w → (r : List Tree) → Spans old at.next end r → Stepped old old at.slot at (settled_kept w r)
      go w x [] d = record { done = wrote_none (before_all old at.slot); waiting = x }
      go w x (t ∷ r) d = absurd (omega (arith, d.ends))

  -- What waited is made, and the trees behind it are settled.
  pub settled_left : {new : List ℕ} {place : Place} → (end ≡ at.next → ⊥) → place ≡ (head_at old at.next).place → Flushed make_template old new at place → SettlesKept old new at end (none_at end)
  settled_left {new} {place} n ep f = record { by = λ w x r d. go w x r d; few = omega arith }
    where
      go : (w : List Tree) → Waits old at w → (r : List Tree) → Spans old at.next end r → Stepped old new at.slot (none_at end) (settled_kept w r)
      go w x [] d = absurd (n (omega (arith, d.ends)))
      go w x (t ∷ r) d =
          let p : place ≡ t.head.place = ep ∙ ap (λ (h : Head). h.place) d.stands.0 in
          let y : Wrote old new at.slot at.next (flush make_template (place_of t) w) = subst (λ (q : Place). Wrote old new at.slot at.next (flush make_template q w)) p (f.by w x) in
          record {
            done = record { spans = spans_append (flush make_template (place_of t) w) (t ∷ r) y.spans (spans_kept d f.above (omega arith)); frame = y.frame };
            waiting = waits_none new end;
          }

module _ {p : Place} {old : List ℕ} {at : Waiting} {end : ℕ} where
  pub settled_object : {new : List ℕ} {place : Place} → GivenSettled old at end → place ≡ p → Flushed make_object old new at place → Settles p Object old new at end (none_at end)
  settled_object {new} {place} g ep f = record { by = go; few = omega arith }
    where
      go : (w : List Tree) → Waits old at w → (r : List Tree) → Spans old at.next end r → Stepped old new at.slot (none_at end) (settled Object p w r)
      go w x r d =
          let y : Wrote old new at.slot at.next (flush make_object p w) = subst (λ (q : Place). Wrote old new at.slot at.next (flush make_object q w)) ep (f.by w x) in
          record {
            done = record { spans = spans_append (flush make_object p w) r y.spans (spans_kept d f.above (omega arith)); frame = y.frame };
            waiting = waits_none new end;
          }

  module _ {new : List ℕ} {at' : Waiting} (k : SettlesKept old new at end at') where
    pub settled_in_order : Settles p InOrder old new at end at'
    settled_in_order = record { by = k.by; few = k.few }

    pub settled_argument : Settles p Argument old new at end at'
    settled_argument = record { by = k.by; few = k.few }

    pub settled_template : Settles p Template old new at end at'
    settled_template = record { by = k.by; few = k.few }

  pub settles_as : {new : List ℕ} {at' : Waiting} (part : Part) {q : Part} → part ≡ q → Settles p q old new at end at' → Settles p part old new at end at'
  settles_as {new} {at'} part e w = subst (λ (x : Part). Settles p x old new at end at') (sym e) w
