-- What copying, moving and making records leaves of a buffer's records. These are counted in records: a byte's place is in `Bytes`.
use Rattle.std.specs.Prelude.{◌≡◌, refl, List, ℕ, ◌+◌, ◌*◌, ◌-◌, ◌≤◌, length}
use Rattle.std.proofs.Common.{ap, ◌∙◌, arith}
use Rattle.tree.specs.Tree.{Head}
use Rattle.tree.specs.Offset as offset
use Rattle.tree.specs.Layout.{Version, version_in, width, span, start, start_in}
use Rattle.tree.specs.Room.{records_in, version_same, room_same, fields_within, header_before, span_by, span_inside, span_none, span_one, span_plus, start_plus, span_le, start_le}
use Rattle.tree.specs.Fields.{head_at, children_at, subtree_at}
use Rattle.output.specs.Bytes.{Agree, Kept, Copied, Moved, agree_all, agree_less, agree_trans, agree_copied, kept_copied, copied_part, copied_u16, head_same}

-- The header and the records before n are as they were, as wide, and there is room for as many records as before.
pub record Before (old new : List ℕ) (n : ℕ) : Type 0 where
  pub bytes : Agree old new (start_in old n)
  pub same : version_in new ≡ version_in old
  pub room : records_in new ≡ records_in old

-- The records from n on are as they were, and as wide.
pub record Behind (old new : List ℕ) (n : ℕ) : Type 0 where
  pub bytes : Kept old new (start_in old n)
  pub same : version_in new ≡ version_in old

-- n records from j on in s' are those from i on in s, and as wide.
pub record CopiedRecords (s : List ℕ) (i : ℕ) (s' : List ℕ) (j n : ℕ) : Type 0 where
  pub bytes : Copied s (start_in s i) s' (start_in s j) (span (version_in s) n)
  pub same : version_in s' ≡ version_in s

-- n records of s from `at` on were copied to pos, and all else is as it was.
pub record MovedRecords (s : List ℕ) (at n : ℕ) (old new : List ℕ) (pos : ℕ) : Type 0 where
  pub there : CopiedRecords s at new pos n
  pub below : Before old new pos
  pub above : Behind old new (pos + n)

-- Record pos says h, has n children and takes z records; all else is as it was.
pub record Recorded (old new : List ℕ) (pos : ℕ) (h : Head) (n z : ℕ) : Type 0 where
  pub head : head_at new pos ≡ h
  pub children : children_at new pos ≡ n
  pub subtree : subtree_at new pos ≡ z
  pub below : Before old new pos
  pub above : Behind old new (pos + 1)

-- The header says how wide the records are, so that these are as wide as before where it is as it was.
pub before_of : {old new : List ℕ} (n : ℕ) → Agree old new (start_in old n) → length new ≡ length old → Before old new n
before_of {old} {new} n a l =
    let v = version_same old new (a.same 3 (omega (arith, header_before (version_in old) n))) in
    record { bytes = a; same = v; room = room_same old new v l }

pub before_all : (s : List ℕ) (n : ℕ) → Before s s n
before_all s n = record { bytes = agree_all s (start_in s n); same = refl; room = refl }

pub before_less : {a b : List ℕ} {n : ℕ} (m : ℕ) → m ≤ n → Before a b n → Before a b m
before_less {a} {b} {n} m l e = record { bytes = agree_less (start_in a m) (start_le (version_in a) m n l) e.bytes; same = e.same; room = e.room }

pub before_trans : {a b c : List ℕ} {n m : ℕ} → Before a b n → Before b c m → n ≤ m → Before a c n
before_trans {a} {b} {c} {n} {m} x y l =
    let z : Agree b c (start (version_in a) m) = rw x.same at y.bytes in
    record { bytes = agree_trans x.bytes z (start_le (version_in a) n m l); same = y.same ∙ x.same; room = y.room ∙ x.room }

-- Records that are as they were are a copy of themselves.
pub before_copied : {a b : List ℕ} {n : ℕ} (p m : ℕ) → p + m ≤ n → Before a b n → CopiedRecords a p b p m
before_copied {a} {b} {n} p m l e =
    let v = version_in a in
    record { bytes = agree_copied (start v p) (span v m) (omega (arith, start_plus v p m, start_le v (p + m) n l)) e.bytes; same = e.same }

pub behind_copied : {a b : List ℕ} {n : ℕ} (p m : ℕ) → n ≤ p → Behind a b n → CopiedRecords a p b p m
behind_copied {a} {b} {n} p m l e =
    let v = version_in a in
    record { bytes = kept_copied (start v p) (span v m) (start_le v n p l) e.bytes; same = e.same }

pub behind_all : (s : List ℕ) (n : ℕ) → Behind s s n
behind_all s n = record { bytes = record { same = λ k l. refl }; same = refl }

pub behind_trans : {a b c : List ℕ} {n : ℕ} → Behind a b n → Behind b c n → Behind a c n
behind_trans {a} {b} {c} {n} x y =
    let z : Kept b c (start (version_in a) n) = rw x.same at y.bytes in
    record { bytes = record { same = λ k l. z.same k l ∙ x.bytes.same k l }; same = y.same ∙ x.same }

pub behind_more : {a b : List ℕ} {n : ℕ} (m : ℕ) → n ≤ m → Behind a b n → Behind a b m
behind_more {a} {b} {n} m l e =
    let x = start_le (version_in a) n m l in
    record { bytes = record { same = λ k q. e.bytes.same k (omega arith) }; same = e.same }

module _ {s s' : List ℕ} {i j n : ℕ} (c : CopiedRecords s i s' j n) where
  -- Some of the records that are copied.
  pub copied_records : (i' j' a m : ℕ) → i' ≡ i + a → j' ≡ j + a → a + m ≤ n → CopiedRecords s i' s' j' m
  copied_records i' j' a m x y l =
      let v = version_in s in
      record {
        bytes =
            copied_part c.bytes (start v i') (start v j') (span v a) (span v m) (ap (start v) x ∙ start_plus v i a) (ap (start v) y ∙ start_plus v j a)
            (omega (arith, span_plus v a m, span_le v (a + m) n l));
        same = c.same;
      }

  module _ (l : 1 ≤ n) where
    long : width (version_in s) ≤ span (version_in s) n
    long = omega (arith, span_one (version_in s), span_le (version_in s) 1 n l)

    pub head_copied : head_at s' j ≡ head_at s i
    head_copied =
        let v = version_in s in
        let w = fields_within v in
        head_same v i j refl c.same w (copied_part c.bytes (start v i) (start v j) 0 offset.children (omega arith) (omega arith) (omega (arith, long)))
        (copied_part c.bytes (start v i + offset.text) (start v j + offset.text) offset.text (width v - offset.text) refl refl (omega (arith, long)))

    pub children_copied : children_at s' j ≡ children_at s i
    children_copied =
        let v = version_in s in
        rw c.same (copied_u16 c.bytes (start v j + offset.children) (start v i + offset.children) offset.children refl refl (omega (arith, long, fields_within v)))

    pub subtree_copied : subtree_at s' j ≡ subtree_at s i
    subtree_copied =
        let v = version_in s in
        rw c.same (copied_u16 c.bytes (start v j + offset.subtree) (start v i + offset.subtree) offset.subtree refl refl (omega (arith, long, fields_within v)))

-- A copy of n records is a copy of that many bytes, from where the first of them starts.
pub moved_none : (s : List ℕ) (at : ℕ) {n : ℕ} (old : List ℕ) (pos : ℕ) → version_in old ≡ version_in s → n ≡ 0 → MovedRecords s at n old old pos
moved_none s at {n} old pos v e = record {
  there = record { bytes = record { same = λ k l. absurd (omega (arith, span_le (version_in s) n 0 (omega arith), span_none (version_in s))) }; same = v };
  below = before_all old pos;
  above = behind_all old (pos + n);
}

pub moved_records : {s : List ℕ} {at n : ℕ} {old new : List ℕ} {pos p q m : ℕ} → version_in old ≡ version_in s → p ≡ start_in s at → q ≡ start_in old pos → m ≡ span (version_in s) n
    → length new ≡ length old → Moved s p m old new q → MovedRecords s at n old new pos
moved_records {s} {at} {n} {old} {new} {pos} {p} {q} {m} ev ep eq em el c =
    let below : Before old new pos = before_of pos (rw (← eq) c.below) el in
    let eq' : q ≡ start_in s pos = rw (← ev) eq in
    record {
      there = record { bytes = rw (← ep, ← eq', ← em) c.there; same = below.same ∙ ev };
      below = below;
      above = record {
        bytes = record { same = λ k l. c.above.same k (omega (arith, em, ap (λ (v : Version). span v n) ev, start_plus (version_in old) pos n)) };
        same = below.same;
      };
    }

-- The records from pos on, of which the first is to be overwritten by the n behind it, are within the bytes.
pub records_within : (s : List ℕ) (pos n : ℕ) {to w : ℕ} → pos + 1 + n ≤ records_in s → to ≡ start_in s pos → w ≡ width (version_in s) → to + w + w * n ≤ length s
records_within s pos n l e f = let v = version_in s in omega (arith, e, f, span_by v n f, span_inside v (length s) pos (n + 1) (omega arith) (omega arith), span_plus v n 1, span_one v)

-- Some records are within the bytes, whoever told how wide they are.
pub records_inside : (s : List ℕ) (at n : ℕ) {p w : ℕ} {v : Version} → at + n ≤ records_in s → 1 ≤ n → p ≡ start_in s at → version_in s ≡ v → w ≡ width v → p + w * n ≤ length s
records_inside s at n {v = v} l m e x f = omega (arith, e, f, ap (λ (u : Version). span u n) x, span_by v n f, span_inside (version_in s) (length s) at n l m)
