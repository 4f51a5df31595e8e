-- What a function that was lent `&mut out[a..]` says of the part, said of the whole.
use Rattle.std.specs.Prelude.{◌≡◌, List, ◌⊎◌, ℕ, ◌+◌, ◌-◌, ◌<◌, ◌≤◌, drop}
use Rattle.std.proofs.Math.Path.{refl, sym, subst}
use Rattle.std.proofs.Common.{ap, ◌∙◌, inl, inr, zero-add, length-drop, take_all}
use Rattle.std.proofs.Math.Logic.{⊎_elim}
use native.Mathlib.Omega.{arith}
use Rattle.std.proofs.lemmas.List.{places}
use Rattle.std.proofs.Math.ListN.{length, get_or}
use borrow.Rule.Slice.PartMut.{mid_of, put_mid}
use Rattle.tree.specs.Tree.{Place}
use Rattle.tree.specs.Offset as offset
use Rattle.tree.specs.Layout.{Version, version_in, width, start, start_in}
use Rattle.tree.specs.Room.{records_in, fields_within, span_one, start_apart, record_inside}
use Rattle.tree.specs.Fields.{place_in, head_at, children_at, subtree_at}
use Rattle.rules.specs.Made.{made_head}
use Rattle.le.specs.Le.{u16_at}
use Rattle.output.specs.Bytes.{Agree, Kept, Copied, Patched, Made, copied_at, copied_part, copied_u16, copied_u32, place_copied, head_same}
use Rattle.output.specs.Records.{Before, Behind, MovedRecords, Recorded, before_of, before_trans, behind_trans}

module _ (a : ℕ) (xs ys : List ℕ) (h : a ≤ length xs) where
  -- The part's byte i is the whole's a + i.
  part_byte : (i : ℕ) → get_or (mid_of a (length xs - a) xs) i 0 ≡ get_or xs (a + i) 0
  part_byte i = grind (arith, places)

  put_byte : (i : ℕ) → get_or (put_mid a (length xs - a) xs ys) (a + i) 0 ≡ get_or ys i 0
  put_byte i = grind (arith, places)

  put_below : Agree xs (put_mid a (length xs - a) xs ys) a
  put_below = record { same = λ i l. grind (arith, places) }

  -- What stays of the part stays of the whole.
  put_kept : (k n : ℕ) → a + n ≤ k → Kept (mid_of a (length xs - a) xs) ys n → get_or (put_mid a (length xs - a) xs ys) k 0 ≡ get_or xs k 0
  put_kept k n l e =
      let x : k ≡ a + (k - a) = omega arith in
      rw x (put_byte (k - a) ∙ e.same (k - a) (omega arith) ∙ part_byte (k - a))

  put_copied : (n : ℕ) → Copied ys 0 (put_mid a (length xs - a) xs ys) a n
  put_copied n = record { same = λ k x. put_byte k ∙ ap (λ (j : ℕ). get_or ys j 0) (sym (zero-add k)) }

-- The part from byte p on, as it is lent, and the whole, once it is given back.
abbrev lent : List ℕ → ℕ → List ℕ
lent xs p = mid_of p (length xs - p) xs

abbrev given_back : List ℕ → List ℕ → ℕ → List ℕ
given_back xs ys p = put_mid p (length xs - p) xs ys

-- A record is within the part that starts with it.
pub part_wide : (xs : List ℕ) (pos : ℕ) → pos + 1 ≤ records_in xs → {p : ℕ} → p ≡ start_in xs pos → width (version_in xs) ≤ length (lent xs p)
part_wide xs pos h {p} e =
    let n : length (drop p xs) ≡ length xs - p = length-drop p xs in
    rw (take_all (length xs - p) (drop p xs) (omega (arith, n)), n) (omega (arith, e, record_inside (version_in xs) (length xs) pos h))

module _ (xs ys : List ℕ) (pos : ℕ) (h : pos + 1 ≤ records_in xs) (l : length (given_back xs ys (start_in xs pos)) ≡ length xs) where
  v : Version
  v = version_in xs

  at : ℕ
  at = start_in xs pos

  after : List ℕ
  after = given_back xs ys (start_in xs pos)

  inside : start_in xs pos ≤ length xs
  inside = omega (arith, record_inside (version_in xs) (length xs) pos h)

  -- All but the bytes of this record are as they were.
  below : Before xs after pos
  unfolding after
  below = before_of pos (put_below (start_in xs pos) xs ys inside) l

  above : (n : ℕ) → n ≤ width v → Kept (lent xs at) ys n → Behind xs after (pos + 1)
  unfolding after at v
  above n b e = record {
    bytes = record { same = λ k m. put_kept at xs ys inside k n (omega (arith, start_apart v pos (pos + 1) (omega arith))) e };
    same = below.same;
  }

  -- The counts, as they stand in the part.
  children_is : (n : ℕ) → u16_at ys offset.children ≡ n → children_at after pos ≡ n
  unfolding after at
  children_is n e = rw below.same (copied_u16 (put_copied at xs ys inside offset.end) (at + offset.children) offset.children offset.children refl refl (omega arith) ∙ e)

  subtree_is : (z : ℕ) → u16_at ys offset.subtree ≡ z → subtree_at after pos ≡ z
  unfolding after at
  subtree_is z e = rw below.same (copied_u16 (put_copied at xs ys inside offset.end) (at + offset.subtree) offset.subtree offset.subtree refl refl (omega arith) ∙ e)

  made_start : (kind sub facts : ℕ) (place : Place) (n z : ℕ) → Made v (lent xs at) ys kind sub facts place n z
      → Recorded xs after pos (made_head kind sub facts (place_in v place)) n z
  unfolding after at v
  made_start kind sub facts place n z m =
      let c = put_copied at xs ys inside (width v) in
      let w = fields_within v in
      let k = copied_at c (at + offset.kind) offset.kind offset.kind refl refl (omega arith) ∙ m.kind_is in
      let f = copied_at c (at + offset.facts) offset.facts offset.facts refl refl (omega arith) ∙ m.facts_is in
      let u = copied_at c (at + offset.sub) offset.sub offset.sub refl refl (omega arith) ∙ m.sub_is in
      let r = copied_at c (at + offset.reserved) offset.reserved offset.reserved refl refl (omega arith) ∙ m.reserved_is in
      let t = copied_u32 c (at + offset.text) offset.text offset.text refl refl (omega arith) ∙ m.text_is in
      let p = place_copied v 0 at (copied_part c offset.text (at + offset.text) offset.text (width v - offset.text) refl refl (omega arith)) ∙ m.place_is in
      record {
        head = rw below.same (λ x. record { kind = k x; facts = f x; sub = u x; reserved = r x; text = t x; place = p x });
        children = children_is n m.children;
        subtree = subtree_is z m.subtree;
        below = below;
        above = above (width v) (omega arith) m.above;
      }

  -- Record i of s copied to record pos, and its counts set there.
  module _ (s : List ℕ) (i : ℕ) (old : List ℕ) (n z : ℕ) (m : MovedRecords s i 1 old xs pos) where
    same : version_in s ≡ v
    unfolding v
    same = sym m.there.same

    kept_start : Patched (lent xs at) ys n z → Recorded old after pos (head_at s i) n z
    unfolding after at v
    kept_start p =
        let w = fields_within v in
        let from : (k : ℕ) → k < width v → get_or xs (at + k) 0 ≡ get_or s (start v i + k) 0 =
        λ k l. let b = m.there.bytes in (rw same at b).same k (omega (arith, span_one v)) in
        let byte : (k : ℕ) → k < width v → (k < offset.children) ⊎ (offset.text ≤ k) → get_or after (at + k) 0 ≡ get_or s (start v i + k) 0 =
        λ k l o.
        put_byte at xs ys inside k
        ∙ ⊎_elim (λ (x : k < offset.children). p.below.same k x) (λ (x : offset.text ≤ k). p.above.same k x) o
        ∙ part_byte at xs ys inside k
        ∙ from k l in
        let later : (k : ℕ) → k < width v - offset.text → get_or after (at + offset.text + k) 0 ≡ get_or s (start v i + offset.text + k) 0 =
        λ k l.
        let x : at + offset.text + k ≡ at + (offset.text + k) = omega arith in
        let y : start v i + offset.text + k ≡ start v i + (offset.text + k) = omega arith in
        rw (x, y) (byte (offset.text + k) (omega arith) (inr (omega arith))) in
        record {
          head = head_same v i pos same below.same w (record { same = λ k l. byte k (omega arith) (inl l) }) (record { same = λ k l. later k l });
          children = children_is n p.children;
          subtree = subtree_is z p.subtree;
          below = before_trans m.below below (omega arith);
          above = behind_trans m.above (above offset.text (omega arith) p.above);
        }

-- The same of a part that starts at p, which is where record pos starts.
module _ (xs ys : List ℕ) (pos : ℕ) (h : pos + 1 ≤ records_in xs) (p : ℕ) (e : p ≡ start_in xs pos) where
  pub made_at : length (given_back xs ys p) ≡ length xs → (kind sub facts : ℕ) (place : Place) (n z : ℕ) → Made (version_in xs) (lent xs p) ys kind sub facts place n z
      → Recorded xs (given_back xs ys p) pos (made_head kind sub facts (place_in (version_in xs) place)) n z
  unfolding after at v
  made_at l kind sub facts place n z =
      subst (λ (q : ℕ). length (given_back xs ys q) ≡ length xs → Made (version_in xs) (lent xs q) ys kind sub facts place n z → Recorded xs (given_back xs ys q) pos (made_head kind sub facts (place_in (version_in xs) place)) n z) (sym e)
      (λ k. made_start xs ys pos h k kind sub facts place n z) l

  pub kept_at : length (given_back xs ys p) ≡ length xs → (s : List ℕ) (i : ℕ) (old : List ℕ) (n z : ℕ) → MovedRecords s i 1 old xs pos → Patched (lent xs p) ys n z
      → Recorded old (given_back xs ys p) pos (head_at s i) n z
  unfolding after at v
  kept_at l s i old n z m =
      subst (λ (q : ℕ). length (given_back xs ys q) ≡ length xs → Patched (lent xs q) ys n z → Recorded old (given_back xs ys q) pos (head_at s i) n z) (sym e)
      (λ k. kept_start xs ys pos h k s i old n z m) l
