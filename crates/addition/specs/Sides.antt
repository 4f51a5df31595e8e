-- One addition, its left side folded already, as it is written.
use Rattle.std.specs.Prelude.{◌≡◌, refl, Bool, true, false, cond, List, [], ◌∷◌, ℕ, ◌+◌, ◌-◌, ◌<◌, ◌≤◌}
use Rattle.std.proofs.Common.{sym, ap, ◌∙◌, arith}
use Rattle.tree.specs.Tree.{Place, Head, Tree, alone, forest, records, size}
use Rattle.tree.specs.Layout.{version_in}
use Rattle.tree.specs.Room.{records_in}
use Rattle.tree.specs.Fields.{head_at}
use Rattle.tree.specs.Symbol.{string_fact, is_string}
use Rattle.tree.specs.Kind as kind
use Rattle.rules.specs.Facts.{flagged}
use Rattle.rules.specs.Made.{place_of, made_head, empty_literal, with_children}
use Rattle.rules.specs.Addition.{emptied_unless_flagged, is_dropped_right, fold_sides}
use Rattle.rules.proofs.Lists.{by_cond}
use Rattle.readings.specs.View.{tree}
use Rattle.readings.specs.declared.node.Node.{Node}
use Rattle.output.specs.Records.{Before, MovedRecords, Recorded, before_all, before_less, before_trans}
use Rattle.output.specs.Trees.{Spans, Wrote, spans_copied, wrote_both, wrote_over, wrote_as, recorded_node}
use Rattle.output.specs.Given.{GivenTree}

-- One tree stands in the buffer from record `at` to record next.
pub record GivenOne (s : List ℕ) (at next : ℕ) : Type 0 where
  pub tree : Tree
  pub spans : Spans s at next (tree ∷ [])
  pub inside : next ≤ records_in s

-- The tree that stood there became the empty literal, unless it is flagged.
pub record Emptied (old new : List ℕ) (at next r : ℕ) : Type 0 where
  pub by : (t : Tree) → Spans old at next (t ∷ []) → Wrote old new at r (emptied_unless_flagged t ∷ [])

-- "Otherwise a right side that is a string and unflagged becomes the empty literal."
abbrev pub folded_right : Tree → Tree
folded_right r = cond (string_fact r) (emptied_unless_flagged r) r

-- The left side stands in the buffer, whose records are as wide as the addition's, behind record pos, up to record next; from there on
-- is room for the right side.
pub record GivenSides (u right : Node) (out : List ℕ) (pos next : ℕ) : Type 0 where
  pub same : version_in out ≡ version_in u.record.src.now
  pub left : GivenOne out (pos + 1) next
  pub right_given : GivenTree right out next
  pub small : next + size (tree right) < pos + 65536

-- Whatever the left side of the addition t is, its fold over that and the right side y was written from record pos to record r.
pub record SidesFolded (t y : Tree) (string : Bool) (old new : List ℕ) (pos next r : ℕ) : Type 0 where
  pub by : (x : Tree) → string ≡ is_string x → Spans old (pos + 1) next (x ∷ []) → Wrote old new pos r (fold_sides t x y ∷ [])

pub emptied_size : (x : Tree) → size (emptied_unless_flagged x) ≤ size x
unfolding emptied_unless_flagged empty_literal
emptied_size x = by_cond (λ y. size y ≤ size x) (flagged x) x (empty_literal (place_of x)) (λ _. omega arith) (λ _. omega arith)

module _ {old : List ℕ} {at next : ℕ} (g : GivenOne old at next) where
  pub one_inside : at + 1 ≤ records_in old
  one_inside = omega (arith, g.inside, g.spans.ends)

module _ {old : List ℕ} {at next : ℕ} {b : Bool} (f : b ≡ flagged (alone (head_at old at))) where
  flag_is : (t : Tree) → Spans old at next (t ∷ []) → b ≡ flagged t
  unfolding flagged
  flag_is t d = f ∙ ap (λ (h : Head). flagged (alone h)) d.stands.0

  pub flagged_stays : b ≡ true → Emptied old old at next next
  unfolding emptied_unless_flagged
  flagged_stays v = record {
    by = λ t d. wrote_as (record { spans = d; frame = before_all old at }) (rw (sym (flag_is t d) ∙ v));
  }

  pub clear_emptied : b ≡ false → {place : Place} → place ≡ (head_at old at).place → {new : List ℕ} → Recorded old new at (made_head kind.literal 0 18 place) 0 1
      → Emptied old new at next (at + 1)
  unfolding emptied_unless_flagged empty_literal
  clear_emptied v {place} e {new} w = record {
    by = λ t d.
        wrote_as (recorded_node [] (before_all old at) (record { stands = tt; ends = omega arith }) w refl refl)
        (rw (e ∙ ap (λ (h : Head). h.place) d.stands.0, sym (flag_is t d) ∙ v));
  }

-- The right side t, copied.
module _ {t : Tree} {old mid : List ℕ} {pos e : ℕ} (c : Wrote old mid pos e (t ∷ [])) where
  pub copied_one : pos + size t ≤ records_in old → GivenOne mid pos e
  copied_one l = record { tree = t; spans = c.spans; inside = omega (arith, l, c.spans.ends, c.frame.room) }

  module _ {b : Bool} (f : b ≡ string_fact t) where
    pub right_emptied : b ≡ true → {new : List ℕ} {r : ℕ} → Emptied mid new pos e r → Wrote old new pos r (folded_right t ∷ [])
    right_emptied v m = wrote_as (wrote_over c (omega arith) (m.by t c.spans)) (rw (sym f ∙ v))

    pub right_copied : b ≡ false → Wrote old mid pos e (folded_right t ∷ [])
    right_copied v = wrote_as c (rw (sym f ∙ v))

-- Where they end, and that what stands before them is as it was.
pub emptied_some : {old new : List ℕ} {at next r : ℕ} → GivenOne old at next → Emptied old new at next r → at < r
emptied_some g m = omega (arith, (m.by g.tree g.spans).spans.ends)

pub emptied_within : {old new : List ℕ} {at next r : ℕ} → GivenOne old at next → Emptied old new at next r → r ≤ next
emptied_within g m = omega (arith, (m.by g.tree g.spans).spans.ends, g.spans.ends, emptied_size g.tree)

pub emptied_frame : {old new : List ℕ} {at next r : ℕ} → GivenOne old at next → Emptied old new at next r → Before old new at
emptied_frame g m = (m.by g.tree g.spans).frame

pub right_size : (x : Tree) → size (folded_right x) ≤ size x
right_size x = by_cond (λ y. size y ≤ size x) (string_fact x) (emptied_unless_flagged x) x (λ _. emptied_size x) (λ _. omega arith)

-- The left side alone, moved to where the addition is to stand.
moved_down : {old mid new : List ℕ} {pos e : ℕ} {ts : List Tree} → Wrote old mid (pos + 1) e ts → (n : ℕ) → n ≡ e - pos - 1 → MovedRecords mid (pos + 1) n mid new pos → Wrote old new pos (e - 1) ts
moved_down {old} {mid} {new} {pos} {e} {ts} w n en m =
    let y : n ≡ records (forest ts) = omega (arith, w.spans.ends) in
    let z : pos + records (forest ts) ≡ e - 1 = omega (arith, w.spans.ends) in
    record {
      spans = rw z at (spans_copied pos w.spans (rw y at m.there));
      frame = before_trans (before_less pos (omega arith) w.frame) m.below (omega arith);
    }

-- The addition over its two sides.
kept_over : {old mid new : List ℕ} {pos e z : ℕ} (t x y : Tree) → Wrote old mid (pos + 1) e (x ∷ y ∷ []) → z ≡ e - pos → Recorded mid new pos t.head 2 z
    → Wrote old new pos e (with_children t (x ∷ y ∷ []) ∷ [])
unfolding with_children
kept_over {pos = pos} t x y w ez m = recorded_node (x ∷ y ∷ []) (before_less pos (omega arith) w.frame) w.spans m refl (omega (arith, w.spans.ends))

module _ {t y : Tree} {old mid : List ℕ} {pos next : ℕ} {string : Bool} where
  -- A left side that is a string.
  module _ (v : string ≡ true) {e : ℕ} (m : Emptied old mid (pos + 1) next e) {d : Bool} (p : d ≡ is_dropped_right y) where
    pub dropped_done : d ≡ true → {n : ℕ} → n ≡ e - pos - 1 → {new : List ℕ} → MovedRecords mid (pos + 1) n mid new pos → SidesFolded t y string old new pos next (e - 1)
    unfolding fold_sides
    dropped_done u {n} en w = record { by = λ x b l. wrote_as (moved_down (m.by x l) n en w) (rw (sym b ∙ v, sym p ∙ u)) }

    pub kept_done : d ≡ false → {mid' : List ℕ} {e' : ℕ} → Wrote mid mid' e e' (y ∷ []) → {z : ℕ} → z ≡ e' - pos → {new : List ℕ} → Recorded mid' new pos t.head 2 z
        → SidesFolded t y string old new pos next e'
    unfolding fold_sides
    kept_done u c ez w = record {
      by = λ x b l.
          wrote_as (kept_over t (emptied_unless_flagged x) y (wrote_both (emptied_unless_flagged x ∷ []) (y ∷ []) (m.by x l) c) ez w) (rw (sym b ∙ v, sym p ∙ u));
    }

  -- Any other left side.
  pub other_done : string ≡ false → {e : ℕ} → Wrote old mid next e (folded_right y ∷ []) → {z : ℕ} → z ≡ e - pos → {new : List ℕ} → Recorded mid new pos t.head 2 z
      → SidesFolded t y string old new pos next e
  unfolding fold_sides
  other_done v f ez w = record {
    by = λ x b l.
        wrote_as (kept_over t x (folded_right y) (wrote_both (x ∷ []) (folded_right y ∷ []) (record { spans = l; frame = before_all old (pos + 1) }) f) ez w)
        (rw (sym b ∙ v));
  }

-- What `fold_sides` stands on.
pub ruleset one_addition = (emptied_some, emptied_within, emptied_frame, right_size, dropped_done, kept_done, other_done)
