-- Lists of trees that stand in a buffer, from one record to another, as writing leaves them.
use Rattle.std.specs.Prelude.{◌≡◌, refl, List, [], ◌∷◌, ◌++◌, ℕ, suc, ◌+◌, ◌≤◌, length}
use Rattle.std.proofs.Common.{sym, ap, subst, ◌∙◌, arith}
use Rattle.tree.specs.Tree.{Head, Forest, nil, node, Tree, trees, forest, one, count, records, forest_trees}
use Rattle.tree.specs.Stands.{Stands}
use Rattle.output.specs.Records.{Before, Behind, CopiedRecords, MovedRecords, Recorded, before_less, before_trans, before_copied, behind_copied, copied_records, head_copied, children_copied, subtree_copied}

-- The trees ts stand from record p to record e.
pub record Spans (s : List ℕ) (p e : ℕ) (ts : List Tree) : Type 0 where
  pub stands : Stands s p (forest ts)
  pub ends : e ≡ p + records (forest ts)

-- The trees ts were written from record pos to record next. Records before pos are as they were; those behind next are free.
pub record Wrote (old new : List ℕ) (pos next : ℕ) (ts : List Tree) : Type 0 where
  pub spans : Spans new pos next ts
  pub frame : Before old new pos

-- Whatever tree stands at record `at` of s, it was written from record pos to record r.
pub record CopiedTree (s : List ℕ) (at size : ℕ) (old new : List ℕ) (pos r : ℕ) : Type 0 where
  pub by : (t : Tree) → Stands s at (one t) → size ≡ suc (records t.kids) → Wrote old new pos r (t ∷ [])
  pub frame : Before old new pos
  pub ends : r ≡ pos + size

-- A list stands where its bytes are copied to.
pub stands_copied : (f : Forest) {s s' : List ℕ} (i j : ℕ) → CopiedRecords s i s' j (records f) → Stands s i f → Stands s' j f
stands_copied nil i j c d = tt
stands_copied (node h cs rest) i j c d = (
  head_copied c (omega arith) ∙ d.0,
  children_copied c (omega arith) ∙ d.1,
  subtree_copied c (omega arith) ∙ d.2,
  stands_copied cs (i + 1) (j + 1) (copied_records c (i + 1) (j + 1) 1 (records cs) refl refl (omega arith)) d.3,
  stands_copied rest (i + suc (records cs)) (j + suc (records cs)) (copied_records c (i + suc (records cs)) (j + suc (records cs)) (suc (records cs)) (records rest) refl refl (omega arith)) d.4,
)

module _ {ts : List Tree} where
  pub spans_copied : {s s' : List ℕ} {i e : ℕ} (j : ℕ) → Spans s i e ts → CopiedRecords s i s' j (records (forest ts)) → Spans s' j (j + records (forest ts)) ts
  spans_copied {i = i} j d c = record { stands = stands_copied (forest ts) i j c d.stands; ends = refl }

  -- What stands before what was written still stands.
  pub spans_agree : {s s' : List ℕ} {p e n : ℕ} → Spans s p e ts → Before s s' n → e ≤ n → Spans s' p e ts
  spans_agree {p = p} d a l = record {
    stands = stands_copied (forest ts) p p (before_copied p (records (forest ts)) (omega (arith, d.ends)) a) d.stands;
    ends = d.ends;
  }

  -- What stands behind what was written still stands.
  pub spans_kept : {s s' : List ℕ} {p e n : ℕ} → Spans s p e ts → Behind s s' n → n ≤ p → Spans s' p e ts
  spans_kept {p = p} d k l = record {
    stands = stands_copied (forest ts) p p (behind_copied p (records (forest ts)) l k) d.stands;
    ends = d.ends;
  }

pub records_append : (a b : List Tree) → records (forest (a ++ b)) ≡ records (forest a) + records (forest b)
records_append [] b = omega arith
records_append (t ∷ a) b = omega (arith, records_append a b)

pub count_forest : (ts : List Tree) → count (forest ts) ≡ length ts
count_forest [] = refl
count_forest (t ∷ ts) = ap suc (count_forest ts)

stands_append : (s : List ℕ) (p : ℕ) (a b : List Tree) → Stands s p (forest a) → Stands s (p + records (forest a)) (forest b) → Stands s p (forest (a ++ b))
stands_append s p [] b d g = let e : p + 0 ≡ p = omega arith in rw e at g
stands_append s p (t ∷ a) b d g =
    let e : p + suc (records t.kids + records (forest a)) ≡ p + suc (records t.kids) + records (forest a) = omega arith in
    (d.0, d.1, d.2, d.3, stands_append s (p + suc (records t.kids)) a b d.4 (rw e at g))

pub spans_append : {s : List ℕ} {p q e : ℕ} (a b : List Tree) → Spans s p q a → Spans s q e b → Spans s p e (a ++ b)
spans_append {s} {p} {q} {e} a b x y = record {
  stands = stands_append s p a b x.stands (subst (λ (i : ℕ). Stands s i (forest b)) x.ends y.stands);
  ends = omega (arith, x.ends, y.ends, records_append a b);
}

pub wrote_none : {old new : List ℕ} {pos : ℕ} → Before old new pos → Wrote old new pos pos []
wrote_none a = record { spans = record { stands = tt; ends = omega arith }; frame = a }

pub wrote_both : {old mid new : List ℕ} {pos next end : ℕ} (a b : List Tree) → Wrote old mid pos next a → Wrote mid new next end b → Wrote old new pos end (a ++ b)
wrote_both a b x y = record {
  spans = spans_append a b (spans_agree x.spans y.frame (omega arith)) y.spans;
  frame = before_trans x.frame y.frame (omega (arith, x.spans.ends));
}

-- What is written over trees that were written from record p on.
pub wrote_over : {old mid new : List ℕ} {p next pos end : ℕ} {a b : List Tree} → Wrote old mid p next a → pos ≤ p → Wrote mid new pos end b → Wrote old new pos end b
wrote_over {pos = pos} x l y = record { spans = y.spans; frame = before_trans (before_less pos (omega arith) x.frame) y.frame (omega arith) }

pub wrote_as : {old new : List ℕ} {pos next : ℕ} {a b : List Tree} → Wrote old new pos next a → a ≡ b → Wrote old new pos next b
wrote_as {old} {new} {pos} {next} w e = subst (λ (l : List Tree). Wrote old new pos next l) e w

pub copied_tree : {s : List ℕ} {at size : ℕ} {old new : List ℕ} {pos : ℕ} → MovedRecords s at size old new pos → CopiedTree s at size old new pos (pos + size)
copied_tree {s} {at} {size} {old} {new} {pos} m = record {
  by = λ t d e. record {
    spans = record {
      stands = stands_copied (one t) at pos (let z : size ≡ suc (records t.kids + 0) = omega arith in rw z at m.there) d;
      ends = omega arith;
    };
    frame = m.below;
  };
  frame = m.below;
  ends = refl;
}

-- Trees of the input, by the records they take.
pub copied_trees : {s : List ℕ} {at n : ℕ} {old new : List ℕ} {pos : ℕ} (f : Forest) → Stands s at f → n ≡ records f → MovedRecords s at n old new pos → Wrote old new pos (pos + n) (trees f)
copied_trees {s} {at} {n} {old} {new} {pos} f d e m =
    let x = sym (forest_trees f) in
    record {
      spans = record {
        stands = subst (λ (g : Forest). Stands new pos g) x (stands_copied f at pos (rw e at m.there) d);
        ends = subst (λ (g : Forest). pos + n ≡ pos + records g) x (omega arith);
      };
      frame = m.below;
    }

-- A record over the trees that stand behind it.
pub recorded_node : {old mid new : List ℕ} {pos e : ℕ} {h : Head} {n z : ℕ} (ts : List Tree) → Before old mid pos → Spans mid (pos + 1) e ts → Recorded mid new pos h n z → n ≡ length ts → z ≡ suc (records (forest ts))
    → Wrote old new pos e (record { head = h; kids = forest ts } ∷ [])
recorded_node {pos = pos} ts a d r en ez = record {
  spans = record {
    stands = (r.head, r.children ∙ en ∙ sym (count_forest ts), r.subtree ∙ ez, stands_copied (forest ts) (pos + 1) (pos + 1) (behind_copied (pos + 1) (records (forest ts)) (omega arith) r.above) d.stands, tt);
    ends = omega (arith, d.ends);
  };
  frame = before_trans a r.below (omega arith);
}
