-- A list that stands behind a free record, and what it becomes: none, one or several trees left.
use Rattle.std.specs.Prelude.{◌≡◌, Bool, true, false, cond, List, [], ◌∷◌, ◌⊎◌, ℕ, ◌+◌, ◌-◌, ◌<◌, ◌≤◌}
use Rattle.std.proofs.Common.{ap, ◌∙◌, inl, inr, arith}
use Rattle.tree.specs.Tree.{Place, Head, Tree, forest, records}
use Rattle.tree.specs.Layout.{version_in}
use Rattle.tree.specs.Room.{records_in}
use Rattle.tree.specs.Fields.{subtree_at}
use Rattle.fields.specs.Record.{head}
use Rattle.fields.specs.declared.record.Record.{Record}
use Rattle.rules.specs.Lists.{any}
use Rattle.rules.specs.Handler.{is_spread}
use Rattle.rules.specs.Made.{place_of, make_sequence, with_children}
use Rattle.rules.specs.Reduce.{none_one_several, sequence_if_any, stays_with, join_kept}
use Rattle.output.specs.Records.{MovedRecords, Recorded, before_all}
use Rattle.output.specs.Trees.{Spans, Wrote, wrote_as, stands_copied, recorded_node}
use Rattle.output.specs.Lists.{Counts}
use Rattle.rewrite.specs.Made.{GivenMade, Makes}

-- A node's record, and some list behind the free record pos of out, whose records are as wide.
pub record GivenList (u : Record) (out : List ℕ) (pos end : ℕ) : Type 0 where
  pub same : version_in out ≡ version_in u.src.now
  pub list : List Tree
  pub spans : Spans out (pos + 1) end list
  pub inside : end ≤ records_in out
  pub small : end < pos + 65536

-- Whatever node t has the record's head, and whatever list stands behind record pos: f t of the list was written from there to r.
pub record Becomes (f : Tree → List Tree → List Tree) (u : Record) (old new : List ℕ) (pos end r : ℕ) : Type 0 where
  pub by : (t : Tree) → head u ≡ t.head → (ts : List Tree) → Spans old (pos + 1) end ts → Wrote old new pos r (f t ts)

abbrev pub none_one_several_of : Tree → List Tree → List Tree
none_one_several_of t ts = none_one_several (place_of t) ts

abbrev pub sequence_if_any_of : Tree → List Tree → List Tree
sequence_if_any_of t ts = sequence_if_any (place_of t) ts

-- One or the other, by whether one tree stands alone for the node.
abbrev pub list_of : Bool → Tree → List Tree → List Tree
list_of true t ts = none_one_several_of t ts
list_of false t ts = sequence_if_any_of t ts

abbrev pub array_of : Tree → List Tree → List Tree
array_of t ts = cond (any is_spread ts) (stays_with t ts) (none_one_several (place_of t) ts)

abbrev pub join_kept_of : Tree → List Tree → List Tree
join_kept_of t ts = join_kept (place_of t) ts

module _ {u : Record} {out : List ℕ} {pos end : ℕ} (g : GivenList u out pos end) where
  pub list_made : GivenMade out pos end
  list_made = record { list = g.list; spans = g.spans; inside = g.inside; small = g.small }

-- `one` is the first tree's size z where one tree stands alone, and else 0.
abbrev pub OneOf : Bool → ℕ → ℕ → Type 0
OneOf alone one z = ((alone ≡ true) × (one ≡ z)) ⊎ ((alone ≡ false) × (one ≡ 0))

-- One tree, by its size z: moved down.
one_left : {u : Record} {old new : List ℕ} {pos end z : ℕ} → z ≡ subtree_at old (pos + 1) → (end ≡ pos + 1 → ⊥) → pos + 1 + z ≡ end → MovedRecords old (pos + 1) z old new pos → Becomes none_one_several_of u old new pos end (end - 1)
one_left {u} {old} {new} {pos} {end} {z} ez n e m = record { by = λ t h ts d. go t ts d }
  where
    go : (t : Tree) (ts : List Tree) → Spans old (pos + 1) end ts → Wrote old new pos (end - 1) (none_one_several (place_of t) ts)
    go t [] d = absurd (n (omega (arith, d.ends)))
    go t (x ∷ []) d =
        let y : z ≡ records (forest (x ∷ [])) = omega (arith, d.stands.2) in
        record {
          spans = record { stands = stands_copied (forest (x ∷ [])) (pos + 1) pos (rw y at m.there) d.stands; ends = omega (arith, d.ends) };
          frame = m.below;
        }
    go t (x ∷ y ∷ ys) d = absurd (omega (arith, d.ends, d.stands.2))

-- More than one, by the first one's size z.
module _ {u : Record} {old : List ℕ} {pos end z : ℕ} (ez : z ≡ subtree_at old (pos + 1)) (n : end ≡ pos + 1 → ⊥) where
  several_left : {new : List ℕ} {place : Place} → (pos + 1 + z ≡ end → ⊥) → place ≡ (head u).place → Makes make_sequence old new pos end place → Becomes none_one_several_of u old new pos end end
  several_left {new} {place} e ep m = record { by = λ t h ts d. go t (ep ∙ ap (λ (x : Head). x.place) h) ts d }
    where
      go : (t : Tree) → place ≡ t.head.place → (ts : List Tree) → Spans old (pos + 1) end ts → Wrote old new pos end (none_one_several (place_of t) ts)
      go t p [] d = absurd (n (omega (arith, d.ends)))
      go t p (x ∷ []) d = absurd (e (omega (arith, d.ends, d.stands.2)))
      go t p (x ∷ y ∷ ys) d = wrote_as (m.by (x ∷ y ∷ ys) d) (ap (λ (q : Place). make_sequence q (x ∷ y ∷ ys) ∷ []) p)

  -- A sequence of one or more.
  any_left : {new : List ℕ} {place : Place} → place ≡ (head u).place → Makes make_sequence old new pos end place → Becomes sequence_if_any_of u old new pos end end
  any_left {new} {place} ep m = record { by = λ t h ts d. go t (ep ∙ ap (λ (x : Head). x.place) h) ts d }
    where
      go : (t : Tree) → place ≡ t.head.place → (ts : List Tree) → Spans old (pos + 1) end ts → Wrote old new pos end (sequence_if_any (place_of t) ts)
      go t p [] d = absurd (n (omega (arith, d.ends)))
      go t p (x ∷ xs) d = wrote_as (m.by (x ∷ xs) d) (ap (λ (q : Place). make_sequence q (x ∷ xs) ∷ []) p)

  pub list_one : (alone : Bool) {one : ℕ} → OneOf alone one z → pos + 1 + one ≡ end → {new : List ℕ} → MovedRecords old (pos + 1) one old new pos
      → Becomes (list_of alone) u old new pos end (end - 1)
  list_one alone (inl (a, o)) e {new} m = rw a (one_left (o ∙ ez) n e m)
  list_one alone (inr (a, o)) e m = absurd (n (omega arith))

  pub list_several : (alone : Bool) {one : ℕ} → OneOf alone one z → (pos + 1 + one ≡ end → ⊥) → {new : List ℕ} {place : Place} → place ≡ (head u).place
      → Makes make_sequence old new pos end place → Becomes (list_of alone) u old new pos end end
  list_several alone (inl (a, o)) e ep m = rw a (several_left (λ x. e (omega (arith, x, o))) ep m)
  list_several alone (inr (a, o)) e ep m = rw a (any_left ep m)

-- The node itself over what is left.
pub stays_some : {u : Record} {old new : List ℕ} {pos end n z : ℕ} → (end ≡ pos + 1 → ⊥) → Counts old (pos + 1) end n → z ≡ end - pos → Recorded old new pos (head u) n z → Becomes stays_with u old new pos end end
unfolding with_children
stays_some {u} {old} {new} {pos} {end} {n} {z} ne c ez r = record { by = go }
  where
    go : (t : Tree) → head u ≡ t.head → (ts : List Tree) → Spans old (pos + 1) end ts → Wrote old new pos end (stays_with t ts)
    go t h [] d = absurd (ne (omega (arith, d.ends)))
    go t h (x ∷ xs) d =
        wrote_as (recorded_node (x ∷ xs) (before_all old pos) d r (c.by (x ∷ xs) d) (omega (arith, d.ends)))
        (ap (λ (y : Head). record { head = y; kids = forest (x ∷ xs) } ∷ []) h)
