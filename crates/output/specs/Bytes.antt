-- What copying, moving and making records leaves of a buffer's bytes.
use Rattle.std.specs.Prelude.{◌≡◌, refl, ◌≢◌, ◌⊎◌, List, ℕ, ◌+◌, ◌-◌, ◌<◌, ◌≤◌, length, get_or, set}
use Rattle.std.proofs.Common.{ap, ◌∙◌, inl, inr, ⊎_elim, arith, eq-or-lt_of_le, length-set, get_or-set_same, get_or-set_other}
use Rattle.le.specs.Le.{u16_at, u32_at, set16, set32}
use Rattle.le.specs.Laws.{u16_same, u32_same, u16_set16, u32_set32, get_d_set16_other, get_d_set32_other, length_set16}
use Rattle.tree.specs.Tree.{Place}
use Rattle.tree.specs.Offset as offset
use Rattle.tree.specs.Layout.{Version, v1, v2, version_in, width, start}
use Rattle.tree.specs.Fields.{place_in, place_from, head_at}

-- The first n bytes are as they were.
pub record Agree (old new : List ℕ) (n : ℕ) : Type 0 where
  pub same : (k : ℕ) → k < n → get_or new k 0 ≡ get_or old k 0

-- The bytes from n on are as they were.
pub record Kept (old new : List ℕ) (n : ℕ) : Type 0 where
  pub same : (k : ℕ) → n ≤ k → get_or new k 0 ≡ get_or old k 0

-- n bytes from q on in s' are those from p on in s.
pub record Copied (s : List ℕ) (p : ℕ) (s' : List ℕ) (q n : ℕ) : Type 0 where
  pub same : (k : ℕ) → k < n → get_or s' (q + k) 0 ≡ get_or s (p + k) 0

-- n bytes of s from p on were copied to q, and all else is as it was.
pub record Moved (s : List ℕ) (p n : ℕ) (old new : List ℕ) (q : ℕ) : Type 0 where
  pub there : Copied s p new q n
  pub below : Agree old new q
  pub above : Kept old new (q + n)

-- The counts of the record at the front were set, and all else is as it was.
pub record Patched (old new : List ℕ) (n z : ℕ) : Type 0 where
  pub children : u16_at new offset.children ≡ n
  pub subtree : u16_at new offset.subtree ≡ z
  pub below : Agree old new offset.children
  pub above : Kept old new offset.text

-- The place of the record at the front, one of a version, was set, and all else is as it was.
pub record Placed (v : Version) (old new : List ℕ) (place : Place) : Type 0 where
  pub place_is : place_from v new 0 ≡ place_in v place
  pub below : Agree old new offset.place
  pub above : Kept old new (width v)

-- The record at the front, one of a version, was made anew, and all else is as it was.
pub record Made (v : Version) (old new : List ℕ) (kind sub facts : ℕ) (place : Place) (n z : ℕ) : Type 0 where
  pub kind_is : get_or new offset.kind 0 ≡ kind
  pub facts_is : get_or new offset.facts 0 ≡ facts
  pub sub_is : get_or new offset.sub 0 ≡ sub
  pub reserved_is : get_or new offset.reserved 0 ≡ 0
  pub children : u16_at new offset.children ≡ n
  pub subtree : u16_at new offset.subtree ≡ z
  pub text_is : u32_at new offset.text ≡ 0
  pub place_is : place_from v new 0 ≡ place_in v place
  pub above : Kept old new (width v)

pub agree_all : (s : List ℕ) (n : ℕ) → Agree s s n
agree_all s n = record { same = λ k l. refl }

pub agree_less : {a b : List ℕ} {n : ℕ} (m : ℕ) → m ≤ n → Agree a b n → Agree a b m
agree_less m l e = record { same = λ k x. e.same k (omega arith) }

pub agree_trans : {a b c : List ℕ} {n m : ℕ} → Agree a b n → Agree b c m → n ≤ m → Agree a c n
agree_trans x y l = record { same = λ k h. y.same k (omega arith) ∙ x.same k h }

-- Bytes that are as they were are a copy of themselves.
pub agree_copied : {a b : List ℕ} {n : ℕ} (p m : ℕ) → p + m ≤ n → Agree a b n → Copied a p b p m
agree_copied p m l e = record { same = λ k h. e.same (p + k) (omega arith) }

pub kept_copied : {a b : List ℕ} {n : ℕ} (p m : ℕ) → n ≤ p → Kept a b n → Copied a p b p m
kept_copied p m l e = record { same = λ k h. e.same (p + k) (omega arith) }

module _ {s s' : List ℕ} {p q n : ℕ} (c : Copied s p s' q n) where
  pub copied_at : (i j k : ℕ) → i ≡ q + k → j ≡ p + k → k < n → get_or s' i 0 ≡ get_or s j 0
  copied_at i j k a b l = rw (a, b) (c.same k l)

  -- A part of what is copied.
  pub copied_part : (i j a m : ℕ) → i ≡ p + a → j ≡ q + a → a + m ≤ n → Copied s i s' j m
  copied_part i j a m x y h = record { same = λ k l. copied_at (j + k) (i + k) (a + k) (omega arith) (omega arith) (omega arith) }

  pub copied_u16 : (i j k : ℕ) → i ≡ q + k → j ≡ p + k → k + 2 ≤ n → u16_at s' i ≡ u16_at s j
  copied_u16 i j k a b h = u16_same s s' j i (copied_at i j k a b (omega arith)) (copied_at (i + 1) (j + 1) (k + 1) (omega arith) (omega arith) (omega arith))

  pub copied_u32 : (i j k : ℕ) → i ≡ q + k → j ≡ p + k → k + 4 ≤ n → u32_at s' i ≡ u32_at s j
  copied_u32 i j k a b h = u32_same s s' j i (copied_u16 i j k a b (omega arith)) (copied_u16 (i + 2) (j + 2) (k + 2) (omega arith) (omega arith) (omega arith))

-- A place is copied with the record that starts at byte p, or with its bytes from the text on.
pub place_copied : (v : Version) {s s' : List ℕ} (p q : ℕ) → Copied s (p + offset.text) s' (q + offset.text) (width v - offset.text) → place_from v s' q ≡ place_from v s p
unfolding width place_in
place_copied v1 p q c =
    let e = copied_u32 c (q + offset.place) (p + offset.place) (offset.place - offset.text) (omega arith) (omega arith) (omega arith) in
    λ x. record { start = e x; end = e x }
place_copied v2 p q c =
    let e = copied_u32 c (q + offset.place) (p + offset.place) (offset.place - offset.text) (omega arith) (omega arith) (omega arith) in
    let f = copied_u32 c (q + offset.end) (p + offset.end) (offset.end - offset.text) (omega arith) (omega arith) (omega arith) in
    λ x. record { start = e x; end = f x }

-- The head of a record, of which the counts need not be copied.
pub head_same : (v : Version) {s s' : List ℕ} (i j : ℕ) → version_in s ≡ v → version_in s' ≡ v → offset.end ≤ width v → Copied s (start v i) s' (start v j) offset.children
    → Copied s (start v i + offset.text) s' (start v j + offset.text) (width v - offset.text) → head_at s' j ≡ head_at s i
head_same v {s} {s'} i j e e' w a b =
    let k = a.same offset.kind (omega arith) in
    let f = a.same offset.facts (omega arith) in
    let u = a.same offset.sub (omega arith) in
    let r = a.same offset.reserved (omega arith) in
    let t = copied_u32 b (start v j + offset.text) (start v i + offset.text) 0 (omega arith) (omega arith) (omega arith) in
    let p = place_copied v (start v i) (start v j) b in
    rw (e, e') (λ x. record { kind = k x; facts = f x; sub = u x; reserved = r x; text = t x; place = p x })

-- The copy, a byte at a time.
pub moved_none : (s : List ℕ) (p : ℕ) (old : List ℕ) (q : ℕ) → Moved s p 0 old old q
moved_none s p old q = record {
  there = record { same = λ k l. absurd (omega arith) };
  below = agree_all old q;
  above = record { same = λ k l. refl };
}

pub moved_more : {s : List ℕ} {p i : ℕ} {old out : List ℕ} {q : ℕ} → Moved s p i old out q → q + i < length out → Moved s p (i + 1) old (set out (q + i) (get_or s (p + i) 0)) q
moved_more {s} {p} {i} {old} {out} {q} m h = record {
  there = record {
    same = λ k l.
        ⊎_elim (λ (e : k ≡ i). rw e (get_or-set_same out (q + i) _ 0 h))
        (λ (e : k < i). let n : q + k ≢ q + i = omega arith in rw get_or-set_other (m.there.same k e)) (eq-or-lt_of_le (omega arith));
  };
  below = record { same = λ k l. let n : k ≢ q + i = omega arith in rw get_or-set_other (m.below.same k l) };
  above = record { same = λ k l. let n : k ≢ q + i = omega arith in rw get_or-set_other (m.above.same k (omega arith)) };
}

-- The move down by w, a byte at a time: those up to byte q of the buffer have been moved.
pub record Shifting (old new : List ℕ) (to q w : ℕ) : Type 0 where
  pub shifted : Moved old (to + w) (q - to) old new to
  pub ahead : to ≤ q

pub shifting_none : (old : List ℕ) (to w : ℕ) → Shifting old old to to w
shifting_none old to w = record {
  shifted = record { there = record { same = λ k l. absurd (omega arith) }; below = agree_all old to; above = record { same = λ k l. refl } };
  ahead = omega arith;
}

pub shifting_more : {old new : List ℕ} {to q w : ℕ} → Shifting old new to q w → q < length new → Shifting old (set new q (get_or new (q + w) 0)) to (q + 1) w
shifting_more {old} {new} {to} {q} {w} m h =
    let a = m.ahead in
    let there : (k : ℕ) → k < q + 1 - to → get_or (set new q (get_or new (q + w) 0)) (to + k) 0 ≡ get_or old (to + w + k) 0 =
    λ k l.
    ⊎_elim (λ (e : k ≡ q - to).
    let x : to + k ≡ q = omega arith in
    let y : q + w ≡ to + w + k = omega arith in
    rw x (get_or-set_same new q _ 0 h ∙ m.shifted.above.same (q + w) (omega arith) ∙ ap (λ (j : ℕ). get_or old j 0) y))
    (λ (e : k < q - to). let n : to + k ≢ q = omega arith in rw get_or-set_other (m.shifted.there.same k e)) (eq-or-lt_of_le (omega arith)) in
    record {
      shifted = record {
        there = record { same = there };
        below = record { same = λ k l. let n : k ≢ q = omega arith in rw get_or-set_other (m.shifted.below.same k l) };
        above = record { same = λ k l. let n : k ≢ q = omega arith in rw get_or-set_other (m.shifted.above.same k (omega arith)) };
      };
      ahead = omega arith;
    }

pub patched : {old mid new : List ℕ} {n z : ℕ} → mid ≡ set16 old offset.children n → new ≡ set16 mid offset.subtree z → offset.end ≤ length old → Patched old new n z
patched {old} {mid} {new} {n} {z} e f h =
    let o : (k : ℕ) → k ≢ 6 → k ≢ 7 → get_or new k 0 ≡ get_or mid k 0 = λ k a b. rw (f, get_d_set16_other mid 6 z k a b) in
    let p : (k : ℕ) → k ≢ 4 → k ≢ 5 → get_or mid k 0 ≡ get_or old k 0 = λ k a b. rw (e, get_d_set16_other old 4 n k a b) in
    record {
      children = u16_same mid new 4 4 (o 4 (omega arith) (omega arith)) (o 5 (omega arith) (omega arith)) ∙ rw e (u16_set16 old 4 n (omega arith));
      subtree = rw f (u16_set16 mid 6 z (rw e (rw length_set16 (omega arith))));
      below = record { same = λ k l. o k (omega arith) (omega arith) ∙ p k (omega arith) (omega arith) };
      above = record { same = λ k l. o k (omega arith) (omega arith) ∙ p k (omega arith) (omega arith) };
    }

-- The start, and behind it the end where the version has one.
pub placed_start : {old new : List ℕ} (place : Place) → new ≡ set32 old offset.place place.start → width v1 ≤ length old → Placed v1 old new place
unfolding width place_in
placed_start {old} {new} place e h =
    let p : u32_at new offset.place ≡ place.start = rw e (u32_set32 old offset.place place.start (omega arith)) in
    record {
      place_is = λ x. record { start = p x; end = p x };
      below = record { same = λ k l. rw e (get_d_set32_other old offset.place place.start k (inl l)) };
      above = record { same = λ k l. rw e (get_d_set32_other old offset.place place.start k (inr l)) };
    }

pub placed_both : {old mid new : List ℕ} (place : Place) → mid ≡ set32 old offset.place place.start → new ≡ set32 mid offset.end place.end → length mid ≡ length old → width v2 ≤ length old
    → Placed v2 old new place
unfolding width place_in
placed_both {old} {mid} {new} place e f lm h =
    let kept : (k : ℕ) → (k < offset.end) ⊎ (20 ≤ k) → get_or new k 0 ≡ get_or mid k 0 = λ k o. rw f (get_d_set32_other mid offset.end place.end k o) in
    let p : u32_at new offset.place ≡ place.start =
    u32_same mid new offset.place offset.place (u16_same mid new 12 12 (kept 12 (inl (omega arith))) (kept 13 (inl (omega arith)))) (u16_same mid new 14 14 (kept 14 (inl (omega arith))) (kept 15 (inl (omega arith))))
    ∙ rw e (u32_set32 old offset.place place.start (omega arith)) in
    let q : u32_at new offset.end ≡ place.end = rw f (u32_set32 mid offset.end place.end (omega arith)) in
    record {
      place_is = λ x. record { start = p x; end = q x };
      below = record { same = λ k l. kept k (inl (omega arith)) ∙ rw e (get_d_set32_other old offset.place place.start k (inl l)) };
      above = record { same = λ k l. kept k (inr l) ∙ rw e (get_d_set32_other old offset.place place.start k (inr (omega arith))) };
    }

-- A record made anew, a field at a time.
pub made_of : (v : Version) {old a b c d new : List ℕ} {kind sub facts : ℕ} {place : Place} {n z : ℕ} → offset.end ≤ width v
    → a ≡ set (set (set (set old offset.kind kind) offset.facts facts) offset.sub sub) offset.reserved 0 → b ≡ set16 a offset.children n
    → c ≡ set16 b offset.subtree z → d ≡ set32 c offset.text 0 → Placed v d new place → width v ≤ length old → Made v old new kind sub facts place n z
made_of v {old} {a} {b} {c} {d} {new} {kind} {sub} {facts} {place} {n} {z} w ea eb ec ed en h =
    let lb : length b ≡ length a = rw eb (length_set16 a 4 n) in
    let lc : length c ≡ length b = rw ec (length_set16 b 6 z) in
    let d_c : (k : ℕ) → (k < 8) ⊎ (12 ≤ k) → get_or d k 0 ≡ get_or c k 0 = λ k o. rw ed (get_d_set32_other c 8 0 k o) in
    let c_b : (k : ℕ) → k ≢ 6 → k ≢ 7 → get_or c k 0 ≡ get_or b k 0 = λ k x y. rw ec (get_d_set16_other b 6 z k x y) in
    let b_a : (k : ℕ) → k ≢ 4 → k ≢ 5 → get_or b k 0 ≡ get_or a k 0 = λ k x y. rw eb (get_d_set16_other a 4 n k x y) in
    let n_d : (k : ℕ) → k < 12 → get_or new k 0 ≡ get_or d k 0 = en.below.same in
    let n_c : (k : ℕ) → k < 8 → get_or new k 0 ≡ get_or c k 0 = λ k l. n_d k (omega arith) ∙ d_c k (inl l) in
    let low : (k : ℕ) → k < 4 → get_or new k 0 ≡ get_or a k 0 = λ k l. n_c k (omega arith) ∙ c_b k (omega arith) (omega arith) ∙ b_a k (omega arith) (omega arith) in
    record {
      kind_is = low 0 (omega arith) ∙ rw ea (grind (arith, get_or-set_same, get_or-set_other, length-set));
      facts_is = low 1 (omega arith) ∙ rw ea (grind (arith, get_or-set_same, get_or-set_other, length-set));
      sub_is = low 2 (omega arith) ∙ rw ea (grind (arith, get_or-set_same, get_or-set_other, length-set));
      reserved_is = low 3 (omega arith) ∙ rw ea (grind (arith, get_or-set_same, get_or-set_other, length-set));
      children =
          u16_same b new 4 4 (n_c 4 (omega arith) ∙ c_b 4 (omega arith) (omega arith)) (n_c 5 (omega arith) ∙ c_b 5 (omega arith) (omega arith)) ∙ rw eb (u16_set16 a 4 n (rw ea (grind (arith, get_or-set_same, get_or-set_other, length-set))));
      subtree = u16_same c new 6 6 (n_c 6 (omega arith)) (n_c 7 (omega arith)) ∙ rw ec (u16_set16 b 6 z (rw (lb, ea) (grind (arith, get_or-set_same, get_or-set_other, length-set))));
      text_is =
          u32_same d new 8 8 (u16_same d new 8 8 (n_d 8 (omega arith)) (n_d 9 (omega arith))) (u16_same d new 10 10 (n_d 10 (omega arith)) (n_d 11 (omega arith)))
          ∙ rw ed (u32_set32 c 8 0 (rw (lc, lb, ea) (grind (arith, get_or-set_same, get_or-set_other, length-set))));
      place_is = en.place_is;
      above = record {
        same = λ k l. en.above.same k l ∙ d_c k (inr (omega arith)) ∙ c_b k (omega arith) (omega arith) ∙ b_a k (omega arith) (omega arith) ∙ rw ea (grind (arith, get_or-set_same, get_or-set_other, length-set));
      };
    }
