-- Trees that wait, behind a free record that is made when they stop waiting.
use Rattle.std.specs.Prelude.{◌≡◌, Bool, false, List, [], ◌∷◌, ◌++◌}
use Rattle.std.proofs.Math.Path.{refl, sym}
use Rattle.std.proofs.Common.{◌∙◌, arith}
use Rattle.std.proofs.Math.Bool.{true}
use Prim.Native.Nat.{ℕ, suc, ◌+◌, ◌<◌, ◌≤◌}
use Rattle.tree.specs.Tree.{Place, Tree, forest, one, records, size}
use Rattle.tree.specs.Room.{records_in}
use Rattle.tree.specs.Stands.{Stands}
use Rattle.rules.specs.Lists.{keep_if}
use Rattle.rules.specs.Facts.{flagged}
use Rattle.rules.specs.Made.{place_of, made_head, flag_of, make_array}
use Rattle.rules.specs.Reduce.{flush}
use Rattle.tree.specs.Kind as kind
use Rattle.output.specs.Records.{Before, Behind, Recorded, before_all, before_less, behind_more}
use Rattle.output.specs.Trees.{CopiedTree, Spans, Wrote, wrote_none, wrote_as, spans_agree, spans_append, recorded_node}
use Rattle.rewrite.specs.declared.waiting.Waiting.{Waiting}
use Rattle.rewrite.specs.Made.{Makes}

-- The records that trees which wait take with the free one before them: none if none wait.
abbrev pub held_records : List Tree → ℕ
held_records [] = 0
held_records (t ∷ w) = suc (records (forest (t ∷ w)))

-- The trees w wait.
pub record Waits (out : List ℕ) (at : Waiting) (w : List Tree) : Type 0 where
  pub stands : Stands out (at.slot + 1) (forest w)
  pub ends : at.next ≡ at.slot + held_records w

abbrev pub none_at : ℕ → Waiting
none_at pos = record { slot = pos; next = pos }

waits_spans : {out : List ℕ} {at : Waiting} {t : Tree} {w : List Tree} → Waits out at (t ∷ w) → Spans out (at.slot + 1) at.next (t ∷ w)
waits_spans x = record { stands = x.stands; ends = omega (arith, x.ends) }

spans_waits : {out : List ℕ} {at : Waiting} (w : List Tree) (t : Tree) → Spans out (at.slot + 1) at.next (w ++ (t ∷ [])) → Waits out at (w ++ (t ∷ []))
spans_waits [] t d = record { stands = d.stands; ends = omega (arith, d.ends) }
spans_waits (u ∷ w) t d = record { stands = d.stands; ends = omega (arith, d.ends) }

pub waits_none : (out : List ℕ) (pos : ℕ) → Waits out (none_at pos) []
waits_none out pos = record { stands = tt; ends = omega arith }

-- Where those that wait start, and what is written behind them leaves them.
pub waits_after : {out : List ℕ} {at : Waiting} {w : List Tree} → Waits out at w → at.slot ≤ at.next
waits_after x = omega (arith, x.ends)

pub waits_agree : {old new : List ℕ} {at : Waiting} {w : List Tree} → Waits old at w → Before old new at.next → Waits new at w
waits_agree {old} {new} {at} {w} x a = go w x
  where
    go : (w : List Tree) → Waits old at w → Waits new at w
    go [] x = record { stands = tt; ends = x.ends }
    go (t ∷ w) x = record { stands = (spans_agree (waits_spans x) a (omega arith)).stands; ends = x.ends }

pub record GivenWaiting (out : List ℕ) (at : Waiting) : Type 0 where
  pub list : List Tree
  pub waits : Waits out at list
  pub inside : at.next ≤ records_in out
  pub small : at.next < at.slot + 65536

-- Whatever trees waited, the tree t waits behind them.
pub record Held (t : Tree) (old new : List ℕ) (at at' : Waiting) : Type 0 where
  pub by : (w : List Tree) → Waits old at w → Waits new at' (w ++ (t ∷ []))
  pub frame : Before old new at.next
  pub slot : at'.slot ≡ at.slot
  pub few : at'.next ≤ at.next + 1 + size t

-- The same of whatever tree stands at record p of s, in n records.
pub record HeldRecords (s : List ℕ) (p n : ℕ) (old new : List ℕ) (at at' : Waiting) : Type 0 where
  pub by : (t : Tree) → Stands s p (one t) → n ≡ size t → Held t old new at at'
  pub frame : Before old new at.next
  pub slot : at'.slot ≡ at.slot
  pub few : at'.next ≤ at.next + 1 + n

-- Whatever trees waited, the node that is made of them was written; all from record next on is as it was.
pub record Flushed (make : Place → List Tree → Tree) (old new : List ℕ) (at : Waiting) (place : Place) : Type 0 where
  pub by : (w : List Tree) → Waits old at w → Wrote old new at.slot at.next (flush make place w)
  pub above : Behind old new at.next

module _ {t : Tree} {old new : List ℕ} {at : Waiting} {r : ℕ} where
  pub first_held : at.slot ≡ at.next → Wrote old new (at.next + 1) r (t ∷ []) → Held t old new at (record { slot = at.slot; next = r })
  first_held e c = record { by = go; frame = before_less at.next (omega arith) c.frame; slot = refl; few = omega (arith, c.spans.ends) }
    where
      go : (w : List Tree) → Waits old at w → Waits new (record { slot = at.slot; next = r }) (w ++ (t ∷ []))
      go [] x = spans_waits [] t (rw e c.spans)
      go (y ∷ w) x = absurd (omega (arith, x.ends))

  pub more_held : (at.slot ≡ at.next → ⊥) → Wrote old new at.next r (t ∷ []) → Held t old new at (record { slot = at.slot; next = r })
  more_held n c = record { by = go; frame = c.frame; slot = refl; few = omega (arith, c.spans.ends) }
    where
      go : (w : List Tree) → Waits old at w → Waits new (record { slot = at.slot; next = r }) (w ++ (t ∷ []))
      go [] x = absurd (n (omega (arith, x.ends)))
      go (y ∷ w) x = spans_waits (y ∷ w) t (spans_append (y ∷ w) (t ∷ []) (spans_agree (waits_spans x) c.frame (omega arith)) c.spans)

module _ {s : List ℕ} {p n : ℕ} {old new : List ℕ} {at : Waiting} {r : ℕ} where
  pub hold_first : at.slot ≡ at.next → CopiedTree s p n old new (at.next + 1) r → HeldRecords s p n old new at (record { slot = at.slot; next = r })
  hold_first e c = record {
    by = λ t d z. first_held e (c.by t d z);
    frame = before_less at.next (omega arith) c.frame;
    slot = refl;
    few = omega (arith, c.ends);
  }

  pub hold_more : (at.slot ≡ at.next → ⊥) → CopiedTree s p n old new at.next r → HeldRecords s p n old new at (record { slot = at.slot; next = r })
  hold_more x c = record { by = λ t d z. more_held x (c.by t d z); frame = c.frame; slot = refl; few = omega (arith, c.ends) }

module _ (make : Place → List Tree → Tree) {old : List ℕ} {at : Waiting} {place : Place} where
  pub flushed_made : at.slot < at.next → {new : List ℕ} → Makes make old new at.slot at.next place → Flushed make old new at place
  flushed_made l {new} m = record { by = λ w x. go w x; above = behind_more at.next (omega arith) m.above }
    where
      go : (w : List Tree) → Waits old at w → Wrote old new at.slot at.next (flush make place w)
      go [] x = absurd (omega (arith, x.ends))
      go (t ∷ w) x = m.by (t ∷ w) (waits_spans x)

-- A spread among arguments: its array, or nothing.
pub record Wrapped (t : Tree) (old new : List ℕ) (pos r : ℕ) : Type 0 where
  pub wrote : Wrote old new pos r (keep_if (flagged t) (make_array (place_of t) (t ∷ [])))

-- The same where it was taken to have n records.
pub record WrappedRecords (t : Tree) (n : ℕ) (old new : List ℕ) (pos r : ℕ) : Type 0 where
  pub by : n ≡ size t → Wrapped t old new pos r
  pub few : r ≤ pos + 1 + n

module _ (t : Tree) {b : Bool} (f : b ≡ flagged t) {old : List ℕ} {pos : ℕ} where
  pub gone_wrapped : b ≡ false → Wrapped t old old pos pos
  gone_wrapped x = record { wrote = rw (sym f ∙ x) (wrote_none (before_all old pos)) }

  pub kept_wrapped : b ≡ true → {mid new : List ℕ} {r z : ℕ} {place : Place} → Wrote old mid (pos + 1) r (t ∷ []) → place ≡ t.head.place → z ≡ size t + 1
      → Recorded mid new pos (made_head kind.array 0 1 place) 1 z → Wrapped t old new pos r
  unfolding make_array flag_of
  kept_wrapped x a p ez w = record {
    wrote =
        wrote_as (recorded_node (t ∷ []) (before_less pos (omega arith) a.frame) a.spans w refl (omega arith))
        (rw (sym f ∙ x, p));
  }

module _ (t : Tree) {b : Bool} (f : b ≡ flagged t) {n : ℕ} {old : List ℕ} {pos : ℕ} where
  pub wrapped_gone : b ≡ false → WrappedRecords t n old old pos pos
  wrapped_gone x = record { by = λ y. gone_wrapped t f x; few = omega arith }

  pub wrapped_kept : b ≡ true → {s mid new : List ℕ} {p r z : ℕ} {place : Place} → Stands s p (one t) → CopiedTree s p n old mid (pos + 1) r → place ≡ t.head.place → z ≡ n + 1
      → Recorded mid new pos (made_head kind.array 0 1 place) 1 z → WrappedRecords t n old new pos r
  wrapped_kept x d c ep ez w = record { by = λ y. kept_wrapped t f x (c.by t d y) ep (omega (arith, ez, y)) w; few = omega (arith, c.ends) }
