-- What is accepted, both ways: an accepted file is the bytes of its tree, which is permitted, and the bytes of each permitted tree are
-- an accepted file of that tree. So of the encoding a reader has to believe only `File`: `Fields` and `decode` agree with it. What is
-- well-formed (`Record`, `Children`) and the numbers and their order (`Refusal`) are 01's rules themselves.
use Rattle.std.specs.Prelude.{◌≡◌, Bool, true, false, ◌&&◌, ◌||◌, ℕ, suc, ◌<◌, ◌≤◌, eqb, leb, length, get_or, drop}
use Rattle.std.proofs.Math.Path.{refl, sym, ap}
use Rattle.std.proofs.Common.{ap₂, subst, ◌∙◌, true≢false, drop_of_length-le}
use mathlib.Core.List.{List, [], ◌∷◌, ◌++◌, append-nil}
use native.Mathlib.Omega.{arith}
use borrow.Author.Tests.{eqb-true, eq-eqb, ne_eqb, leb-true, le-leb, ltb-true, lt-ltb}
use Rattle.le.specs.Le.{u16_at}
use Rattle.tree.specs.Tree.{Head, Forest, nil, node, Tree, one, all_heads, size, depth, all_nodes}
use Rattle.tree.specs.Below.{all_below, and_both, and_left, and_right, all_at, all_of}
use Rattle.tree.specs.Record.{record_ok, included, logical_taken, taken, end_ok}
use Rattle.tree.specs.Symbol.{additions_agree}
use Rattle.tree.specs.Children.{node_ok, formed, well_formed}
use Rattle.tree.specs.File.{preorder, le16, bytes, version_number, header, file_bytes, all_encodable}
use Rattle.tree.specs.Fields.{version_of, settings_of, count_of, head_at, subtree_at}
use Rattle.tree.specs.Layout.{Version, v1, v2, version_by, version_in, header_bytes, start, start_in}
use Rattle.tree.specs.Room.{records_in, start_first, header_before, has_room}
use Rattle.tree.specs.Refusal.{Limits, mark_ok, version_ok, settings_ok, count_ok, records_ok, all_taken, shape_at, shape_ok, decode, tree_of, additions_ok, ends_ok, depth_ok, unless, refusal}
use Rattle.tree.specs.Stands.{Stands, Tested, decoded_root, decode_stands, tested_of, heads_stand, heads_at, formed_one}
use Rattle.tree.specs.Encoding.{Bytes}
use Rattle.tree.proofs.Encoding.{length_file, drop_next, drop_u16, bytes_stand, encodable_stand, stand_bytes, file_bytes_lem}
use Rattle.tree.specs.Kind as kind
use Rattle.tree.specs.Accepted.{Passed, Counted, Rooted, Permitted, Accepted, FileOf}

unless_ok : (b : Bool) (n r : ℕ) → unless b (suc n) r ≡ 0 → b ≡ true
unless_ok true n r e = refl
unless_ok false n r e = absurd (omega arith)

unless_next : (b : Bool) (n r : ℕ) → unless b (suc n) r ≡ 0 → r ≡ 0
unless_next true n r e = e
unless_next false n r e = absurd (omega arith)

pub passed : (limits : Limits) (s : List ℕ) → refusal limits s ≡ 0 → Passed limits s
unfolding refusal
passed limits s e =
    let r8 = unless (depth_ok limits.depth s) 8 0 in
    let r17 = unless (ends_ok s) 17 r8 in
    let r5' = unless (additions_ok s) 5 r17 in
    let r7 = unless (shape_ok s) 7 r5' in
    let r6 = unless (all_taken limits.logicals s) 6 r7 in
    let r5 = unless (records_ok s) 5 r6 in
    let r4 = unless (count_ok limits.records s) 4 r5 in
    let r3 = unless (settings_ok s) 3 r4 in
    let r2 = unless (version_ok s) 2 r3 in
    let e2 = unless_next (mark_ok s) 0 r2 e in
    let e3 = unless_next (version_ok s) 1 r3 e2 in
    let e4 = unless_next (settings_ok s) 2 r4 e3 in
    let e5 = unless_next (count_ok limits.records s) 3 r5 e4 in
    let e6 = unless_next (records_ok s) 4 r6 e5 in
    let e7 = unless_next (all_taken limits.logicals s) 5 r7 e6 in
    let e5' = unless_next (shape_ok s) 6 r5' e7 in
    let e17 = unless_next (additions_ok s) 4 r17 e5' in
    let e8 = unless_next (ends_ok s) 16 r8 e17 in
    record {
      mark = unless_ok (mark_ok s) 0 r2 e;
      version = unless_ok (version_ok s) 1 r3 e2;
      settings = unless_ok (settings_ok s) 2 r4 e3;
      counted = unless_ok (count_ok limits.records s) 3 r5 e4;
      recorded = unless_ok (records_ok s) 4 r6 e5;
      is_taken = unless_ok (all_taken limits.logicals s) 5 r7 e6;
      shape = unless_ok (shape_ok s) 6 r5' e7;
      additions = unless_ok (additions_ok s) 4 r17 e5';
      ends = unless_ok (ends_ok s) 16 r8 e17;
      low = unless_ok (depth_ok limits.depth s) 7 0 e8;
    }

unrefused : (limits : Limits) (s : List ℕ) → Passed limits s → refusal limits s ≡ 0
unfolding refusal
unrefused limits s p =
    rw (p.mark, p.version, p.settings, p.counted, p.recorded, p.is_taken, p.shape, p.additions, p.ends, p.low)

pub counted_parts : (max_records : ℕ) (s : List ℕ) → count_ok max_records s ≡ true → Counted max_records s
unfolding count_ok
counted_parts max_records s w =
    let some = leb 1 (count_of s) in
    let few = leb (count_of s) max_records in
    let long = eqb (length s) (start_in s (count_of s)) in
    let a = and_left (some && few) long w in
    record {
      some = leb-true 1 (count_of s) (and_left some few a);
      few = leb-true (count_of s) max_records (and_right some few a);
      long = eqb-true (length s) (start_in s (count_of s)) (and_right (some && few) long w);
    }

-- So all records are within the bytes.
pub counted_room : {max_records : ℕ} {s : List ℕ} → Counted max_records s → count_of s ≤ records_in s
counted_room {s = s} k = has_room (version_in s) (length s) (count_of s) (omega (arith, k.long))

-- The tests of the tree's shape, taken apart.
record Shaped (s : List ℕ) : Type 0 where
  root : subtree_at s 0 ≡ count_of s
  expression : kind.is_expression (head_at s 0).kind ≡ true
  nodes : all_below (shape_at s (count_of s)) (count_of s) ≡ true

shaped_parts : (s : List ℕ) → shape_ok s ≡ true → Shaped s
unfolding shape_ok
shaped_parts s w =
    let root = eqb (subtree_at s 0) (count_of s) in
    let expression = kind.is_expression (head_at s 0).kind in
    let nodes = all_below (shape_at s (count_of s)) (count_of s) in
    let a = and_left (root && expression) nodes w in
    record {
      root = eqb-true (subtree_at s 0) (count_of s) (and_left root expression a);
      expression = and_right root expression a;
      nodes = and_right (root && expression) nodes w;
    }

pub rooted : (logicals : Bool) (s : List ℕ) → 1 ≤ count_of s → records_ok s ≡ true → all_taken logicals s ≡ true → shape_ok s ≡ true → Rooted logicals s
unfolding records_ok all_taken tree_of well_formed formed
rooted logicals s some a b c =
    let n = count_of s in
    let q = shaped_parts s c in
    let tested : (i : ℕ) → i < n → Tested s n i = λ i l. record {
      record_ok_lem = all_at (λ j. record_ok (head_at s j)) n a i l;
      is_included_lem = and_left (included (head_at s i)) (logical_taken logicals (head_at s i)) (all_at (λ j. taken logicals (head_at s j)) n b i l);
      shape = all_at (shape_at s n) n q.nodes i l;
    } in
    let c = decoded_root s n tested q.root some in
    let stands : Stands s 0 (one (tree_of s)) = (refl, sym c.0.counts, omega (arith, q.root, c.0.ends), c.0.stands, tt) in
    record {
      stands = stands;
      sized = omega (arith, c.0.ends);
      well = and_both q.expression (and_both c.1 c.0.ok);
      is_taken = heads_stand s (logical_taken logicals) 0 (one (tree_of s)) stands
          (λ i l. and_right (included (head_at s i)) (logical_taken logicals (head_at s i)) (all_at (λ j. taken logicals (head_at s j)) n b i (omega (arith, l, c.0.ends))));
    }

-- The mark, taken apart.
record Marked (s : List ℕ) : Type 0 where
  long : 8 ≤ length s
  u : get_or s 0 0 ≡ 85
  x : get_or s 1 0 ≡ 88
  t : get_or s 2 0 ≡ 84

marked_parts : (s : List ℕ) → mark_ok s ≡ true → Marked s
unfolding mark_ok
marked_parts s w =
    let long = leb 8 (length s) in
    let u = eqb (get_or s 0 0) 85 in
    let x = eqb (get_or s 1 0) 88 in
    let t = eqb (get_or s 2 0) 84 in
    let a = and_right long (u && (x && t)) w in
    let b = and_right u (x && t) a in
    record {
      long = leb-true 8 (length s) (and_left long (u && (x && t)) w);
      u = eqb-true (get_or s 0 0) 85 (and_left u (x && t) a);
      x = eqb-true (get_or s 1 0) 88 (and_left x t b);
      t = eqb-true (get_or s 2 0) 84 (and_right x t b);
    }

pub mark_long : (s : List ℕ) → mark_ok s ≡ true → header_bytes ≤ length s
mark_long s w = (marked_parts s w).long

-- A mark is copied with its bytes.
pub mark_copied : (s t : List ℕ) → mark_ok s ≡ true → header_bytes ≤ length t → ((k : ℕ) → k < 3 → get_or t k 0 ≡ get_or s k 0) → mark_ok t ≡ true
unfolding mark_ok
mark_copied s t w l e =
    let m = marked_parts s w in
    and_both (le-leb header_bytes (length t) l)
    (rw (e 0 (omega arith), e 1 (omega arith), e 2 (omega arith), m.u, m.x, m.t))

-- A version that is taken is the one that its byte tells.
version_told : (s : List ℕ) → Bytes s → version_ok s ≡ true → version_of s ≡ version_number (version_in s)
unfolding version_ok version_in u16_at
version_told s bs v = go (eqb (version_of s) 1) refl v
  where
    go : (b : Bool) → eqb (version_of s) 1 ≡ b → (b || eqb (version_of s) 2) ≡ true → version_of s ≡ version_number (version_by (eqb (get_or s 3 0) 2))
    go true e w =
        let n : version_of s ≡ 1 = eqb-true (version_of s) 1 e in
        rw (ne_eqb (get_or s 3 0) 2 (λ x. absurd (omega (arith, n, x)))) n
    go false e w =
        let n : version_of s ≡ 2 = eqb-true (version_of s) 2 w in
        rw (eq-eqb (get_or s 3 0) 2 (omega (arith, n, bs.small 3))) n

-- A file's first bytes are its header.
pub header_is : (s : List ℕ) → Bytes s → mark_ok s ≡ true → version_ok s ≡ true → s ≡ header (version_in s) (settings_of s) (count_of s) (drop header_bytes s)
header_is s bs w v =
    let m = marked_parts s w in
    drop_next s 0 1 (omega (arith, m.long)) refl
    ∙ ap₂ (◌∷◌) m.u (drop_next s 1 2 (omega (arith, m.long)) refl
    ∙ ap₂ (◌∷◌) m.x (drop_next s 2 3 (omega (arith, m.long)) refl
    ∙ ap₂ (◌∷◌) m.t (drop_u16 s bs 3 5 (version_number (version_in s)) (omega (arith, m.long)) refl (version_told s bs v)
    ∙ ap (le16 (version_number (version_in s))) (drop_next s 5 6 (omega (arith, m.long)) refl
    ∙ ap (λ (r : List ℕ). settings_of s ∷ r) (drop_u16 s bs 6 8 (count_of s) (omega (arith, m.long)) refl refl)))))

-- An operation that takes logical nodes takes every tree so far.
pub logicals_taken : (f : Forest) → all_heads (logical_taken true) f ≡ true
unfolding all_nodes logical_taken
logicals_taken nil = refl
logicals_taken (node h cs rest) = and_both refl (and_both (logicals_taken cs) (logicals_taken rest))

-- What is accepted is the bytes of a permitted tree.
pub accepted : (limits : Limits) (s : List ℕ) → Bytes s → refusal limits s ≡ 0 → Accepted limits s
unfolding settings_ok additions_ok ends_ok depth_ok file_bytes
accepted limits s bs e =
    let v = version_in s in
    let p = passed limits s e in
    let k = counted_parts limits.records s p.counted in
    let r = rooted limits.logicals s k.some p.recorded p.is_taken p.shape in
    let all : drop header_bytes s ≡ bytes v (preorder (one (tree_of s))) ++ drop (start v (count_of s)) s =
    ap (λ (p : ℕ). drop p s) (sym (start_first v))
    ∙ bytes_stand s bs (one (tree_of s)) 0 (count_of s) r.stands (omega (arith, counted_room k, r.sized)) (omega (arith, r.sized)) in
    let end : drop (start v (count_of s)) s ≡ [] = (let l : length s ≤ start v (count_of s) = omega (arith, k.long) in drop_of_length-le s l) in
    record {
      is_file =
          header_is s bs p.mark p.version
          ∙ ap (header v (settings_of s) (count_of s)) (all ∙ rw (end, append-nil))
          ∙ ap (λ (n : ℕ). header v (settings_of s) n (bytes v (preorder (one (tree_of s))))) (sym r.sized);
      permitted = record {
        settings_ok_lem = ltb-true (settings_of s) 8 p.settings;
        well = r.well;
        is_taken = r.is_taken;
        agrees = p.additions;
        ends = heads_stand s (λ h. end_ok h.place) 0 (one (tree_of s)) r.stands (λ i l. all_at (λ j. end_ok (head_at s j).place) (count_of s) p.ends i (omega (arith, l, r.sized)));
        fits = encodable_stand s bs (one (tree_of s)) 0 r.stands;
        few = omega (arith, r.sized, k.few);
        low = leb-true (depth (tree_of s)) limits.depth p.low;
      };
      sized = r.sized;
      stands = r.stands;
    }

version_held : (v : Version) (settings : ℕ) (t : Tree) → version_in (file_bytes v settings t) ≡ v
unfolding version_in file_bytes
version_held v1 settings t = refl
version_held v2 settings t = refl

version_taken : (v : Version) (settings : ℕ) (t : Tree) → version_ok (file_bytes v settings t) ≡ true
unfolding version_ok file_bytes u16_at
version_taken v1 settings t = refl
version_taken v2 settings t = refl

module _ (v : Version) (settings : ℕ) (t : Tree) where
  s : List ℕ
  s = file_bytes v settings t

  count_is : count_of s ≡ size t
  unfolding s file_bytes u16_at
  count_is = omega arith

  length_is : length s ≡ start_in s (size t)
  unfolding s
  length_is = length_file v settings t ∙ ap (λ (w : Version). start w (size t)) (sym (version_held v settings t))

  holds_settings : settings_of (file_bytes v settings t) ≡ settings
  unfolding file_bytes
  holds_settings = refl

  mark_is : mark_ok s ≡ true
  unfolding s mark_ok file_bytes
  mark_is = and_both (le-leb 8 (length s) (omega (arith, length_is, header_before (version_in s) (size t)))) refl

  version_is : version_ok s ≡ true
  unfolding s
  version_is = version_taken v settings t

  settings_ok_is : settings < 8 → settings_ok s ≡ true
  unfolding s settings_ok file_bytes
  settings_ok_is l = lt-ltb settings 8 l

  counted_is : (max_records : ℕ) → size t ≤ max_records → count_ok max_records s ≡ true
  unfolding count_ok
  counted_is max_records l =
      let n = count_is in
      and_both (and_both (le-leb 1 (count_of s) (omega (arith, n))) (le-leb (count_of s) max_records (omega (arith, n))))
      (eq-eqb (length s) (start_in s (count_of s)) (length_is ∙ ap (start_in s) (sym n)))

  -- If the fields of the tree fit their bytes, it stands there.
  module _ (fits : all_encodable v (one t) ≡ true) where
    stands_is : Stands s 0 (one t)
    unfolding s file_bytes
    stands_is = stand_bytes s v (version_held v settings t) (one t) fits 0 [] (rw (start_first v) (sym (append-nil (bytes v (preorder (one t))))))

    holds_tree : tree_of (file_bytes v settings t) ≡ t
    unfolding tree_of s
    holds_tree =
        let n = count_is in
        let kids : decode (count_of s) s 1 (count_of s) ≡ t.kids =
        decode_stands s (count_of s) 1 (count_of s) t.kids stands_is.3 (omega (arith, n)) (omega (arith, n)) in
        λ i. record { head = stands_is.0 i; kids = kids i }

    additions_are : additions_agree (one t) ≡ true → additions_ok s ≡ true
    unfolding additions_ok s
    additions_are h = rw holds_tree h

    low_is : (max_depth : ℕ) → depth t ≤ max_depth → depth_ok max_depth s ≡ true
    unfolding depth_ok s
    low_is max_depth l = rw holds_tree (le-leb (depth t) max_depth l)

    -- A test that each head passes is passed by each record.
    heads_are : (test : Head → Bool) → all_heads test (one t) ≡ true → (i : ℕ) → i < count_of s → test (head_at s i) ≡ true
    heads_are test h i l = let n = count_is in heads_at s test 0 (one t) stands_is h i (omega arith) (omega (arith, n))

    ends_are : all_heads (λ h. end_ok h.place) (one t) ≡ true → ends_ok s ≡ true
    unfolding ends_ok
    ends_are h = all_of (λ i. end_ok (head_at s i).place) (count_of s) (heads_are (λ h. end_ok h.place) h)

    module _ (well : well_formed t ≡ true) where
      expression_is : kind.is_expression t.head.kind ≡ true
      unfolding well_formed
      expression_is = and_left (kind.is_expression t.head.kind) (node_ok t.head t.kids && formed t.kids) well

      tested : (i : ℕ) → i < count_of s → Tested s (count_of s) i
      tested i l = let n = count_is in tested_of s (count_of s) 0 (one t) stands_is (formed_one t well) (omega (arith, n)) i (omega arith) (omega (arith, n))

      records_are : records_ok s ≡ true
      unfolding records_ok
      records_are = all_of (λ i. record_ok (head_at s i)) (count_of s) (λ i l. (tested i l).record_ok_lem)

      taken_are : (logicals : Bool) → all_heads (logical_taken logicals) (one t) ≡ true → all_taken logicals s ≡ true
      unfolding all_taken
      taken_are logicals h =
          all_of (λ i. taken logicals (head_at s i)) (count_of s) (λ i l. and_both (tested i l).is_included_lem (heads_are (logical_taken logicals) h i l))

      shape_is : shape_ok s ≡ true
      unfolding shape_ok
      shape_is =
          and_both (and_both (eq-eqb (subtree_at s 0) (count_of s) (stands_is.2 ∙ sym count_is))
          (subst (λ (x : Head). kind.is_expression x.kind ≡ true) (sym stands_is.0) expression_is))
          (all_of (shape_at s (count_of s)) (count_of s) (λ i l. (tested i l).shape))

  accepts : (limits : Limits) → Permitted limits v settings t → refusal limits s ≡ 0
  accepts limits p = unrefused limits s (record {
    mark = mark_is;
    version = version_is;
    settings = settings_ok_is p.settings_ok_lem;
    counted = counted_is limits.records p.few;
    recorded = records_are p.fits p.well;
    is_taken = taken_are p.fits p.well limits.logicals p.is_taken;
    shape = shape_is p.fits p.well;
    additions = additions_are p.fits p.agrees;
    ends = ends_are p.fits p.ends;
    low = low_is p.fits limits.depth p.low;
  })

  -- Each permitted tree has a file, if the limits are ones that a count of two bytes can reach.
  pub file_of_lem : (limits : Limits) → limits.records < 65536 → Permitted limits v settings t → FileOf limits v settings t
  unfolding s
  file_of_lem limits l p = record {
    is_bytes = file_bytes_lem v settings t (omega (arith, p.settings_ok_lem)) p.fits (omega (arith, p.few));
    accepted = accepts limits p;
    version_is = version_held v settings t;
    settings_is = holds_settings;
    tree_is = holds_tree p.fits;
  }

-- A test that is passed where no logical node is taken is passed where they are.
taken_wider : (a b : Bool) → (a ≡ true → b ≡ true) → (s : List ℕ) → all_taken a s ≡ true → all_taken b s ≡ true
unfolding all_taken logical_taken
taken_wider a true w s e =
    all_of (λ i. taken true (head_at s i)) (count_of s)
    (λ i l. and_both (and_left (included (head_at s i)) (logical_taken a (head_at s i)) (all_at (λ j. taken a (head_at s j)) (count_of s) e i l)) refl)
taken_wider false false w s e = e
taken_wider true false w s e = absurd (true≢false (sym (w refl)))

-- What is accepted within limits is accepted within wider ones.
pub wider : (low high : Limits) → low.records ≤ high.records → low.depth ≤ high.depth → (low.logicals ≡ true → high.logicals ≡ true)
    → (s : List ℕ) → refusal low s ≡ 0 → refusal high s ≡ 0
unfolding count_ok depth_ok
wider low high r d g s e =
    let p = passed low s e in
    let k = counted_parts low.records s p.counted in
    unrefused high s record {
      mark = p.mark;
      version = p.version;
      settings = p.settings;
      counted = and_both (and_both (le-leb 1 (count_of s) k.some) (le-leb (count_of s) high.records (omega (arith, k.few)))) (eq-eqb (length s) (start_in s (count_of s)) k.long);
      recorded = p.recorded;
      is_taken = taken_wider low.logicals high.logicals g s p.is_taken;
      shape = p.shape;
      additions = p.additions;
      ends = p.ends;
      low = le-leb (depth (tree_of s)) high.depth (omega (arith, leb-true (depth (tree_of s)) low.depth p.low));
    }
