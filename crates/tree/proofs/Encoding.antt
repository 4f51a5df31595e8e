-- What stands in a list of bytes is its encoding, and what is encoded stands there.
use Rattle.std.specs.Prelude.{◌≡◌, ◌&&◌, length}
use Rattle.std.proofs.Math.Path.{refl, sym, ap}
use Rattle.std.proofs.Common.{subst, ◌∙◌, add-zero, add-one, length-append, drop-cons, get_or-drop, drop-drop}
use Rattle.std.proofs.Math.Bool.{true}
use mathlib.Core.List.{List, [], ◌∷◌, ◌++◌, append_assoc}
use Prim.Native.Nat.{ℕ, zero, suc, ◌+◌, ◌*◌, ◌/◌, ◌%◌, ◌<◌, ◌≤◌, ◌^◌}
use native.Mathlib.Omega.{arith}
use Rattle.std.proofs.Math.Dec.{ltb}
use Rattle.std.proofs.Math.ListN.{get_or, drop}
use Rattle.std.proofs.Math.Seq.{drop_at}
use borrow.Author.Tests.{eq-eqb, eqb-true, lt-ltb, ltb-true}
use Rattle.le.specs.Le.{u16_at, u32_at}
use Rattle.tree.specs.Tree.{Place, Head, Forest, nil, node, Tree, All, one, count, records, size, all_nodes}
use Rattle.tree.specs.Below.{and_both, and_left, and_right}
use Rattle.tree.specs.File.{Rec, preorder, le16, le32, place_bytes, record_bytes, bytes, version_number, file_bytes, end_fits, place_fits, encodable, all_encodable}
use Rattle.tree.specs.Offset as offset
use Rattle.tree.specs.Layout.{Version, v1, v2, version_in, width, span, start, start_in}
use Rattle.tree.specs.Room.{records_in, fields_within, span_none, span_one, span_plus, start_plus, start_next, start_first, start_span, record_inside}
use Rattle.tree.specs.Fields.{place_in, place_from, head_at, children_at, subtree_at}
use Rattle.tree.specs.Stands.{Stands}
use Rattle.tree.specs.Encoding.{Bytes}

-- What goes before a list of bytes goes before it where it is a part of a longer one.
record_append : (v : Version) (r : Rec) (a b : List ℕ) → record_bytes v r (a ++ b) ≡ record_bytes v r a ++ b
record_append v1 r a b = refl
record_append v2 r a b = refl

bytes_append : (v : Version) (a b : List Rec) → bytes v (a ++ b) ≡ bytes v a ++ bytes v b
unfolding bytes
bytes_append v [] b = refl
bytes_append v (r ∷ a) b = ap (record_bytes v r) (bytes_append v a b) ∙ record_append v r (bytes v a) (bytes v b)

length_record : (v : Version) (r : Rec) (l : List ℕ) → length (record_bytes v r l) ≡ width v + length l
unfolding width
length_record v1 r l = omega arith
length_record v2 r l = omega arith

length_bytes : (v : Version) (f : Forest) → length (bytes v (preorder f)) ≡ span v (records f)
unfolding bytes preorder
length_bytes v nil = sym (span_none v)
length_bytes v (node h cs rest) =
    let r : Rec = record { head = h; children = count cs; subtree = suc (records cs) } in
    let n : suc (records cs + records rest) ≡ 1 + (records cs + records rest) = omega arith in
    length_record v r (bytes v (preorder cs ++ preorder rest))
    ∙ ap (width v +◌) (ap length (bytes_append v (preorder cs) (preorder rest)) ∙ length-append (bytes v (preorder cs)) (bytes v (preorder rest)))
    ∙ omega (arith, length_bytes v cs, length_bytes v rest, ap (span v) n, span_plus v 1 (records cs + records rest), span_plus v (records cs) (records rest), span_one v)

pub length_file : (v : Version) (settings : ℕ) (t : Tree) → length (file_bytes v settings t) ≡ start v (size t)
unfolding file_bytes
length_file v settings t =
    let n : records (one t) ≡ size t = omega arith in
    omega (arith, length_bytes v (one t), ap (span v) n, start_span v (size t), start_first v)

-- From where it stands to its encoding.
pub drop_next : (s : List ℕ) (p q : ℕ) → p < length s → q ≡ p + 1 → drop p s ≡ get_or s p 0 ∷ drop q s
drop_next s p q h e = rw (e, add-one) (drop-cons s p 0 h)

two : (a b : ℕ) (l : List ℕ) → a < 256 → le16 (a + 256 * b) l ≡ a ∷ b ∷ l
two a b l h =
    let x : (a + 256 * b) % 256 ≡ a = omega arith in
    let y : (a + 256 * b) / 256 ≡ b = omega arith in
    rw (x, y)

module _ (s : List ℕ) (bs : Bytes s) where
  pub drop_u16 : (p q v : ℕ) → p + 2 ≤ length s → q ≡ p + 2 → u16_at s p ≡ v → drop p s ≡ le16 v (drop q s)
  unfolding u16_at
  drop_u16 p q v h e w =
      drop_next s p (p + 1) (omega arith) refl
      ∙ ap (λ (l : List ℕ). get_or s p 0 ∷ l) (drop_next s (p + 1) q (omega arith) (omega arith))
      ∙ rw (← w) (sym (two (get_or s p 0) (get_or s (p + 1) 0) (drop q s) (bs.small p)))

  pub u16_small : (p : ℕ) → u16_at s p < 65536
  unfolding u16_at
  u16_small p = omega (arith, bs.small p, bs.small (p + 1))

  u32_small : (p : ℕ) → u32_at s p < 2 ^ 32
  unfolding u32_at
  u32_small p = omega (arith, u16_small p, u16_small (p + 2))

  drop_u32 : (p q v : ℕ) → p + 4 ≤ length s → q ≡ p + 4 → u32_at s p ≡ v → drop p s ≡ le32 v (drop q s)
  unfolding u32_at
  drop_u32 p q v h e w =
      drop_u16 p (p + 2) (v % 65536) (omega arith) refl (omega (arith, u16_small p))
      ∙ ap (le16 (v % 65536)) (drop_u16 (p + 2) q (v / 65536) (omega arith) (omega arith) (omega (arith, u16_small p)))

  -- The place of a record that starts at byte p.
  drop_place : (v : Version) (p q : ℕ) → p + width v ≤ length s → q ≡ p + width v → drop (p + offset.place) s ≡ place_bytes v (place_from v s p) (drop q s)
  unfolding width place_in
  drop_place v1 p q h e = drop_u32 (p + offset.place) q (u32_at s (p + offset.place)) (omega arith) (omega arith) refl
  drop_place v2 p q h e =
      drop_u32 (p + offset.place) (p + offset.end) (u32_at s (p + offset.place)) (omega arith) (omega arith) refl
      ∙ ap (le32 (u32_at s (p + offset.place))) (drop_u32 (p + offset.end) q (u32_at s (p + offset.end)) (omega arith) (omega arith) refl)

  drop_record : (i : ℕ) (h : Head) (n z : ℕ) → i + 1 ≤ records_in s → head_at s i ≡ h → children_at s i ≡ n → subtree_at s i ≡ z
      → drop (start_in s i) s ≡ record_bytes (version_in s) (record { head = h; children = n; subtree = z }) (drop (start_in s (i + 1)) s)
  drop_record i h n z l e a b =
      let v = version_in s in
      let o : ℕ = start v i in
      let within = fields_within v in
      let inside : o + width v ≤ length s = record_inside v (length s) i l in
      subst (λ (x : Head). drop o s ≡ record_bytes v (record { head = x; children = n; subtree = z }) (drop (start v (i + 1)) s)) e
      (ap (λ (p : ℕ). drop p s) (sym (add-zero o))
      ∙ drop_next s (o + offset.kind) (o + offset.facts) (omega arith) (omega arith) ∙ ap (λ (r : List ℕ). (head_at s i).kind ∷ r)
      (drop_next s (o + offset.facts) (o + offset.sub) (omega arith) (omega arith) ∙ ap (λ (r : List ℕ). (head_at s i).facts ∷ r)
      (drop_next s (o + offset.sub) (o + offset.reserved) (omega arith) (omega arith) ∙ ap (λ (r : List ℕ). (head_at s i).sub ∷ r)
      (drop_next s (o + offset.reserved) (o + offset.children) (omega arith) (omega arith) ∙ ap (λ (r : List ℕ). (head_at s i).reserved ∷ r)
      (drop_u16 (o + offset.children) (o + offset.subtree) n (omega arith) (omega arith) a ∙ ap (le16 n)
      (drop_u16 (o + offset.subtree) (o + offset.text) z (omega arith) (omega arith) b ∙ ap (le16 z)
      (drop_u32 (o + offset.text) (o + offset.place) (head_at s i).text (omega arith) (omega arith) refl ∙ ap (le32 (head_at s i).text)
      (drop_place v o (start v (i + 1)) inside (start_next v i)))))))))

  -- The bytes from where a list stands are its encoding, and then what follows it.
  pub bytes_stand : (f : Forest) (i j : ℕ) → Stands s i f → i + records f ≤ records_in s → j ≡ i + records f
      → drop (start_in s i) s ≡ bytes (version_in s) (preorder f) ++ drop (start_in s j) s
  unfolding bytes preorder
  bytes_stand nil i j d l e = let x : i ≡ j = omega arith in ap (λ (k : ℕ). drop (start_in s k) s) x
  bytes_stand (node h cs rest) i j d l e =
      let v = version_in s in
      let r : Rec = record { head = h; children = count cs; subtree = suc (records cs) } in
      drop_record i h (count cs) (suc (records cs)) (omega arith) d.0 d.1 d.2
      ∙ ap (record_bytes v r)
      (bytes_stand cs (i + 1) (i + suc (records cs)) d.3 (omega arith) (omega arith)
      ∙ ap (λ (r : List ℕ). bytes v (preorder cs) ++ r) (bytes_stand rest (i + suc (records cs)) j d.4 (omega arith) (omega arith))
      ∙ sym (append_assoc (bytes v (preorder cs)) (bytes v (preorder rest)) (drop (start v j) s))
      ∙ ap (λ (r : List ℕ). r ++ drop (start v j) s) (sym (bytes_append v (preorder cs) (preorder rest))))
      ∙ record_append v r (bytes v (preorder cs ++ preorder rest)) (drop (start v j) s)

  place_read : (v : Version) (p : ℕ) → place_fits v (place_from v s p) ≡ true
  unfolding place_fits end_fits place_in
  place_read v1 p = and_both (lt-ltb _ (2 ^ 32) (u32_small (p + offset.place))) (eq-eqb (u32_at s (p + offset.place)) (u32_at s (p + offset.place)) refl)
  place_read v2 p = and_both (lt-ltb _ (2 ^ 32) (u32_small (p + offset.place))) (lt-ltb _ (2 ^ 32) (u32_small (p + offset.end)))

  -- The heads of what stands in bytes fit their bytes.
  pub encodable_stand : (f : Forest) (i : ℕ) → Stands s i f → all_encodable (version_in s) f ≡ true
  unfolding all_nodes encodable
  encodable_stand nil i d = refl
  encodable_stand (node h cs rest) i d =
      and_both (subst (λ (x : Head). encodable (version_in s) x ≡ true) d.0
      (and_both (and_both (small offset.kind) (and_both (small offset.facts) (and_both (small offset.sub) (small offset.reserved))))
      (and_both (lt-ltb _ (2 ^ 32) (u32_small (start_in s i + offset.text))) (place_read (version_in s) (start_in s i)))))
      (and_both (encodable_stand cs (i + 1) d.3) (encodable_stand rest (i + suc (records cs)) d.4))
    where
      small : (k : ℕ) → ltb (get_or s (start_in s i + k) 0) 256 ≡ true
      small k = lt-ltb (get_or s (start_in s i + k) 0) 256 (bs.small (start_in s i + k))

-- A place that was given to a head fits the bytes of another.
pub place_fits_lem : (v : Version) (h : Head) → encodable v h ≡ true → place_fits v h.place ≡ true
unfolding encodable
place_fits_lem v h e =
    and_right (ltb h.text (2 ^ 32)) (place_fits v h.place)
    (and_right (ltb h.kind 256 && (ltb h.facts 256 && (ltb h.sub 256 && ltb h.reserved 256))) (ltb h.text (2 ^ 32) && place_fits v h.place) e)

-- From its encoding to where it stands.
at_drop : (s : List ℕ) (b j : ℕ) (l : List ℕ) → drop b s ≡ l → get_or s (b + j) 0 ≡ get_or l j 0
at_drop s b j l e = sym (get_or-drop b s j 0) ∙ ap (λ (x : List ℕ). get_or x j 0) e

u16_drop : (s : List ℕ) (b j : ℕ) (l : List ℕ) → drop b s ≡ l → u16_at s (b + j) ≡ u16_at l j
unfolding u16_at
u16_drop s b j l e =
    let x : b + j + 1 ≡ b + (j + 1) = omega arith in
    rw (x, at_drop s b j l e, at_drop s b (j + 1) l e)

u32_drop : (s : List ℕ) (b j : ℕ) (l : List ℕ) → drop b s ≡ l → u32_at s (b + j) ≡ u32_at l j
unfolding u32_at
u32_drop s b j l e =
    let x : b + j + 2 ≡ b + (j + 2) = omega arith in
    rw (x, u16_drop s b j l e, u16_drop s b (j + 2) l e)

-- A place is read back, if it is one that a record of its version can say.
read_place : (v : Version) (s : List ℕ) (b : ℕ) (r : Rec) (l : List ℕ) → drop b s ≡ record_bytes v r l → place_fits v r.head.place ≡ true → place_from v s b ≡ r.head.place
unfolding u16_at u32_at place_in place_fits end_fits
read_place v1 s b r l e f =
    let p : u32_at s (b + offset.place) ≡ r.head.place.start = u32_drop s b offset.place (record_bytes v1 r l) e ∙ omega arith in
    let q : r.head.place.end ≡ r.head.place.start =
    eqb-true r.head.place.end r.head.place.start (and_right (ltb r.head.place.start (2 ^ 32)) (end_fits v1 r.head.place) f) in
    let z : u32_at s (b + offset.place) ≡ r.head.place.end = p ∙ sym q in
    λ m. record { start = p m; end = z m }
read_place v2 s b r l e f =
    let p : u32_at s (b + offset.place) ≡ r.head.place.start = u32_drop s b offset.place (record_bytes v2 r l) e ∙ omega arith in
    let z : u32_at s (b + offset.end) ≡ r.head.place.end = u32_drop s b offset.end (record_bytes v2 r l) e ∙ omega arith in
    λ m. record { start = p m; end = z m }

module _ (s : List ℕ) where
  read_head : (v : Version) → version_in s ≡ v → (i : ℕ) (r : Rec) (l : List ℕ) → drop (start v i) s ≡ record_bytes v r l → place_fits v r.head.place ≡ true → head_at s i ≡ r.head
  unfolding u16_at u32_at
  read_head v w i r l e f =
      let b : ℕ = start v i in
      let t : u32_at s (b + offset.text) ≡ r.head.text = u32_drop s b offset.text (record_bytes v r l) e ∙ omega arith in
      rw w (λ m. record {
        kind = at_drop s b offset.kind (record_bytes v r l) e m;
        facts = at_drop s b offset.facts (record_bytes v r l) e m;
        sub = at_drop s b offset.sub (record_bytes v r l) e m;
        reserved = at_drop s b offset.reserved (record_bytes v r l) e m;
        text = t m;
        place = read_place v s b r l e f m;
      })

  read_children : (v : Version) → version_in s ≡ v → (i : ℕ) (r : Rec) (l : List ℕ) → drop (start v i) s ≡ record_bytes v r l → children_at s i ≡ r.children
  unfolding u16_at
  read_children v w i r l e = rw w (u16_drop s (start v i) offset.children (record_bytes v r l) e ∙ omega arith)

  read_subtree : (v : Version) → version_in s ≡ v → (i : ℕ) (r : Rec) (l : List ℕ) → drop (start v i) s ≡ record_bytes v r l → subtree_at s i ≡ r.subtree
  unfolding u16_at
  read_subtree v w i r l e = rw w (u16_drop s (start v i) offset.subtree (record_bytes v r l) e ∙ omega arith)

  drop_width : (v : Version) (r : Rec) (l : List ℕ) → drop (width v) (record_bytes v r l) ≡ l
  unfolding width
  drop_width v1 r l = refl
  drop_width v2 r l = refl

  pub stand_bytes : (v : Version) → version_in s ≡ v → (f : Forest) → all_encodable v f ≡ true → (i : ℕ) (l : List ℕ) → drop (start v i) s ≡ bytes v (preorder f) ++ l → Stands s i f
  unfolding bytes preorder all_nodes
  stand_bytes v w nil o i l e = tt
  stand_bytes v w (node h cs rest) o i l e =
      let r : Rec = record { head = h; children = count cs; subtree = suc (records cs) } in
      let below = and_right (encodable v h) (all_encodable v cs && all_encodable v rest) o in
      let fits = place_fits_lem v h (and_left (encodable v h) (all_encodable v cs && all_encodable v rest) o) in
      let here : drop (start v i) s ≡ record_bytes v r (bytes v (preorder cs ++ preorder rest) ++ l) = e ∙ sym (record_append v r (bytes v (preorder cs ++ preorder rest)) l) in
      let under : bytes v (preorder cs ++ preorder rest) ++ l ≡ bytes v (preorder cs) ++ (bytes v (preorder rest) ++ l) =
      rw (bytes_append v (preorder cs) (preorder rest)) (append_assoc (bytes v (preorder cs)) (bytes v (preorder rest)) l) in
      let next : drop (start v (i + 1)) s ≡ bytes v (preorder cs) ++ (bytes v (preorder rest) ++ l) =
      rw (start_next v i)
      (sym (drop-drop (width v) (start v i) s) ∙ ap (drop (width v)) here ∙ drop_width v r (bytes v (preorder cs ++ preorder rest) ++ l) ∙ under) in
      let after : drop (start v (i + suc (records cs))) s ≡ bytes v (preorder rest) ++ l =
      (let n : i + suc (records cs) ≡ i + 1 + records cs = omega arith in
      let x : start v (i + suc (records cs)) ≡ start v (i + 1) + span v (records cs) = ap (start v) n ∙ start_plus v (i + 1) (records cs) in
      rw x
      (sym (drop-drop (span v (records cs)) (start v (i + 1)) s)
      ∙ ap (drop (span v (records cs))) next
      ∙ drop_at (bytes v (preorder cs)) (bytes v (preorder rest) ++ l) (span v (records cs)) (length_bytes v cs))) in (
        read_head v w i r (bytes v (preorder cs ++ preorder rest) ++ l) here fits,
        read_children v w i r (bytes v (preorder cs ++ preorder rest) ++ l) here,
        read_subtree v w i r (bytes v (preorder cs ++ preorder rest) ++ l) here,
        stand_bytes v w cs (and_left (all_encodable v cs) (all_encodable v rest) below) (i + 1) (bytes v (preorder rest) ++ l) next,
        stand_bytes v w rest (and_right (all_encodable v cs) (all_encodable v rest) below) (i + suc (records cs)) l after,
      )

-- The encoding of what fits its bytes is a list of bytes.
abbrev Small : List ℕ → Type 0
Small l = All (λ (x : ℕ). x < 256) l

small_append : (a b : List ℕ) → Small a → Small b → Small (a ++ b)
small_append [] b p q = q
small_append (x ∷ a) b p q = (p.0, small_append a b p.1 q)

small_bytes : (l : List ℕ) → Small l → (k : ℕ) → get_or l k 0 < 256
small_bytes [] p k = omega arith
small_bytes (x ∷ l) p zero = p.0
small_bytes (x ∷ l) p (suc k) = small_bytes l p.1 k

small_le16 : (n : ℕ) (l : List ℕ) → n < 65536 → Small l → Small (le16 n l)
small_le16 n l h p = (omega arith, (omega arith, p))

small_le32 : (n : ℕ) (l : List ℕ) → n < 2 ^ 32 → Small l → Small (le32 n l)
small_le32 n l h p = small_le16 (n % 65536) (le16 (n / 65536) l) (omega arith) (small_le16 (n / 65536) l (omega arith) p)

small_place : (v : Version) (p : Place) (l : List ℕ) → place_fits v p ≡ true → Small l → Small (place_bytes v p l)
unfolding place_fits end_fits
small_place v1 p l f q = small_le32 p.start l (ltb-true p.start (2 ^ 32) (and_left (ltb p.start (2 ^ 32)) (end_fits v1 p) f)) q
small_place v2 p l f q =
    small_le32 p.start (le32 p.end l) (ltb-true p.start (2 ^ 32) (and_left (ltb p.start (2 ^ 32)) (end_fits v2 p) f))
    (small_le32 p.end l (ltb-true p.end (2 ^ 32) (and_right (ltb p.start (2 ^ 32)) (end_fits v2 p) f)) q)

small_record : (v : Version) (r : Rec) (l : List ℕ) → encodable v r.head ≡ true → r.children < 65536 → r.subtree < 65536 → Small l → Small (record_bytes v r l)
unfolding encodable
small_record v r l e c z p =
    let h = r.head in
    let k = ltb h.kind 256 in
    let f = ltb h.facts 256 in
    let b = ltb h.sub 256 in
    let d = ltb h.reserved 256 in
    let t = ltb h.text (2 ^ 32) in
    let q = place_fits v h.place in
    let low = and_left (k && (f && (b && d))) (t && q) e in
    let high = and_right (k && (f && (b && d))) (t && q) e in
    let low' = and_right k (f && (b && d)) low in
    let low'' = and_right f (b && d) low' in (
      ltb-true h.kind 256 (and_left k (f && (b && d)) low),
      (
        ltb-true h.facts 256 (and_left f (b && d) low'),
        (
          ltb-true h.sub 256 (and_left b d low''),
          (
            ltb-true h.reserved 256 (and_right b d low''),
            small_le16 r.children (le16 r.subtree (le32 h.text (place_bytes v h.place l))) c
                (small_le16 r.subtree (le32 h.text (place_bytes v h.place l)) z
                (small_le32 h.text (place_bytes v h.place l) (ltb-true h.text (2 ^ 32) (and_left t q high))
                (small_place v h.place l (place_fits_lem v h e) p))),
          ),
        ),
      ),
    )

count_records : (f : Forest) → count f ≤ records f
count_records nil = omega arith
count_records (node h cs rest) = omega (arith, count_records rest)

small_forest : (v : Version) (f : Forest) → all_encodable v f ≡ true → records f < 65536 → Small (bytes v (preorder f))
unfolding all_nodes bytes preorder
small_forest v nil e l = tt
small_forest v (node h cs rest) e l =
    let under = and_right (encodable v h) (all_encodable v cs && all_encodable v rest) e in
    let a = small_forest v cs (and_left (all_encodable v cs) (all_encodable v rest) under) (omega arith) in
    let b = small_forest v rest (and_right (all_encodable v cs) (all_encodable v rest) under) (omega arith) in
    small_record v (record { head = h; children = count cs; subtree = suc (records cs) }) (bytes v (preorder cs ++ preorder rest))
    (and_left (encodable v h) (all_encodable v cs && all_encodable v rest) e) (omega (arith, count_records cs)) (omega arith)
    (rw (bytes_append v (preorder cs) (preorder rest)) (small_append (bytes v (preorder cs)) (bytes v (preorder rest)) a b))

version_small : (v : Version) → version_number v < 65536
version_small v1 = omega arith
version_small v2 = omega arith

pub file_bytes_lem : (v : Version) (settings : ℕ) (t : Tree) → settings < 256 → all_encodable v (one t) ≡ true → size t < 65536 → Bytes (file_bytes v settings t)
unfolding file_bytes
file_bytes_lem v settings t s e l = record {
  small = small_bytes (file_bytes v settings t) (
    omega arith,
    (
      omega arith,
      (
        omega arith,
        small_le16 (version_number v) (settings ∷ le16 (size t) (bytes v (preorder (one t)))) (version_small v) (s, small_le16 (size t) (bytes v (preorder (one t))) l (small_forest v (one t) e (omega arith))),
      ),
    ),
  );
}
