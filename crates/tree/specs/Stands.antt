-- A list of trees that stands in a list of bytes, record i its first: the relation by which code that walks records speaks of trees.
use Rattle.std.specs.Prelude.{◌≡◌, Bool, ◌&&◌, List, eqb, leb}
use Rattle.std.proofs.Math.Path.{refl, sym, ap, subst}
use Rattle.std.proofs.Math.Bool.{true, false}
use Rattle.std.proofs.Math.Logic.{⊎_elim}
use Prim.Native.Nat.{ℕ, zero, suc, ◌+◌, ◌<◌, ◌≤◌}
use Rattle.std.proofs.Common.{eq-or-lt_of_le, arith}
use borrow.Author.Tests.{eqb-true, le-leb, leb-true, lt-ltb, le-ltb, eq-eqb}
use Rattle.tree.specs.Tree.{Head, Forest, nil, node, alone, count, records, all_nodes, all_heads, Tree, one}
use Rattle.tree.specs.Below.{and_both, and_left, and_right, lt_or_le}
use Rattle.tree.specs.Record.{record_ok, included}
use Rattle.tree.specs.Symbol.{is_addition}
use Rattle.tree.specs.Kind as kind
use Rattle.tree.specs.Children.{child_count_ok, may_stand, children_stand, node_ok, formed, well_formed}
use Rattle.tree.specs.Fields.{head_at, children_at, subtree_at}
use Rattle.tree.specs.Refusal.{children_end, shape_at, decode}

abbrev pub Stands : List ℕ → ℕ → Forest → Type 0
Stands s i nil = Unit {0}
Stands s i (node h cs rest) =
    (head_at s i ≡ h)
    × (children_at s i ≡ count cs)
    × (subtree_at s i ≡ suc (records cs))
    × Stands s (i + 1) cs
    × Stands s (i + suc (records cs)) rest

-- A node's tests, taken apart.
pub record NodeOk (h : Head) (cs : Forest) : Type 0 where
  pub record_ok_lem : record_ok h ≡ true
  pub is_included_lem : included h ≡ true
  pub counted : child_count_ok h (count cs) ≡ true
  pub stand : children_stand h true cs ≡ true

pub node_parts : (h : Head) (cs : Forest) → node_ok h cs ≡ true → NodeOk h cs
unfolding node_ok
node_parts h cs w =
    let counted = child_count_ok h (count cs) in
    let stand = children_stand h true cs in
    let a = and_right (record_ok h) (included h && (counted && stand)) w in
    let b = and_right (included h) (counted && stand) a in
    record {
      record_ok_lem = and_left (record_ok h) (included h && (counted && stand)) w;
      is_included_lem = and_left (included h) (counted && stand) a;
      counted = and_left counted stand b;
      stand = and_right counted stand b;
    }

node_whole : {h : Head} {cs : Forest} → NodeOk h cs → node_ok h cs ≡ true
unfolding node_ok
node_whole o = and_both o.record_ok_lem (and_both o.is_included_lem (and_both o.counted o.stand))

-- Each node of a well-formed tree passes its tests.
pub formed_one : (t : Tree) → well_formed t ≡ true → formed (one t) ≡ true
unfolding well_formed formed
formed_one t well =
    let w = and_right (kind.is_expression t.head.kind) (node_ok t.head t.kids && formed t.kids) well in
    and_both (and_left (node_ok t.head t.kids) (formed t.kids) w) (and_both (and_right (node_ok t.head t.kids) (formed t.kids) w) refl)

-- An addition has two sides.
pub two_sides : (h : Head) (cs : Forest) → is_addition (alone h) ≡ true → node_ok h cs ≡ true → count cs ≡ 2
unfolding is_addition child_count_ok
two_sides h cs a w =
    let k = eqb-true h.kind kind.binary (and_left (eqb h.kind kind.binary) (eqb h.sub 2) a) in
    let c : eqb (count cs) 2 ≡ true = rw k at (node_parts h cs w).counted in
    eqb-true (count cs) 2 c

-- What is decoded from record p to record e, the k children of the node h or the last k of them.
pub record Decoded (s : List ℕ) (h : Head) (first : Bool) (k p e : ℕ) (f : Forest) : Type 0 where
  pub stands : Stands s p f
  pub ends : p + records f ≡ e
  pub counts : count f ≡ k
  pub stand : children_stand h first f ≡ true
  pub ok : formed f ≡ true

-- One step of the walk over children.
record Step (s : List ℕ) (h : Head) (first : Bool) (k p e : ℕ) : Type 0 where
  some : 1 ≤ subtree_at s p
  inside : p + subtree_at s p ≤ e
  may : may_stand h first (head_at s p).kind ≡ true
  next : children_end s h false k (p + subtree_at s p) e ≡ true

step : (s : List ℕ) (h : Head) (first : Bool) (k p e : ℕ) → children_end s h first (suc k) p e ≡ true → Step s h first k p e
unfolding children_end
step s h first k p e w =
    let some = leb 1 (subtree_at s p) in
    let inside = leb (p + subtree_at s p) e in
    let may = may_stand h first (head_at s p).kind in
    let next = children_end s h false k (p + subtree_at s p) e in
    let a = and_left (some && inside) (may && next) w in
    let b = and_right (some && inside) (may && next) w in
    record {
      some = leb-true 1 (subtree_at s p) (and_left some inside a);
      inside = leb-true (p + subtree_at s p) e (and_right some inside a);
      may = and_left may next b;
      next = and_right may next b;
    }

-- The same step the other way.
step_back : (s : List ℕ) (h : Head) (first : Bool) (k p e : ℕ) → Step s h first k p e → children_end s h first (suc k) p e ≡ true
unfolding children_end
step_back s h first k p e w =
    and_both (and_both (le-leb 1 (subtree_at s p) w.some) (le-leb (p + subtree_at s p) e w.inside)) (and_both w.may w.next)

-- The tests of refusals 5, 6 and 7 at record i.
pub record Tested (s : List ℕ) (n i : ℕ) : Type 0 where
  pub record_ok_lem : record_ok (head_at s i) ≡ true
  pub is_included_lem : included (head_at s i) ≡ true
  pub shape : shape_at s n i ≡ true

-- The test of a record's shape, taken apart.
record Shape (s : List ℕ) (n i : ℕ) : Type 0 where
  inside : i + subtree_at s i ≤ n
  counted : child_count_ok (head_at s i) (children_at s i) ≡ true
  children : children_end s (head_at s i) true (children_at s i) (i + 1) (i + subtree_at s i) ≡ true

shape_parts : (s : List ℕ) (n i : ℕ) → shape_at s n i ≡ true → Shape s n i
unfolding shape_at
shape_parts s n i w =
    let inside = leb (i + subtree_at s i) n in
    let counted = child_count_ok (head_at s i) (children_at s i) in
    let children = children_end s (head_at s i) true (children_at s i) (i + 1) (i + subtree_at s i) in
    let b = and_right inside (counted && children) w in
    record {
      inside = leb-true (i + subtree_at s i) n (and_left inside (counted && children) w);
      counted = and_left counted children b;
      children = and_right counted children b;
    }

shape_whole : (s : List ℕ) (n i : ℕ) → Shape s n i → shape_at s n i ≡ true
unfolding shape_at
shape_whole s n i w = and_both (le-leb (i + subtree_at s i) n w.inside) (and_both w.counted w.children)

node_decoded : (s : List ℕ) (n i : ℕ) → Tested s n i → (e : ℕ) (cs : Forest) → Decoded s (head_at s i) true (children_at s i) (i + 1) e cs
    → node_ok (head_at s i) cs ≡ true
node_decoded s n i z e cs c = node_whole (record {
  record_ok_lem = z.record_ok_lem;
  is_included_lem = z.is_included_lem;
  counted = rw c.counts (shape_parts s n i z.shape).counted;
  stand = c.stand;
})

module _ (s : List ℕ) (n : ℕ) (tested : (i : ℕ) → i < n → Tested s n i) where
  -- Where every record passes its tests, what is decoded stands there, and is well-formed.
  pub decoded : (fuel : ℕ) (h : Head) (first : Bool) (k p e : ℕ) → children_end s h first k p e ≡ true → e ≤ n → e ≤ p + fuel
      → Decoded s h first k p e (decode fuel s p e)
  unfolding decode children_end formed
  decoded zero h first zero p e w l r = record { stands = tt; ends = omega (arith, eqb-true p e w); counts = refl; stand = refl; ok = refl }
  decoded (suc fuel) h first zero p e w l r =
      rw (le-ltb p e (omega (arith, eqb-true p e w)))
      (record { stands = tt; ends = omega (arith, eqb-true p e w); counts = refl; stand = refl; ok = refl })
  decoded zero h first (suc k) p e w l r = let a = step s h first k p e w in absurd (omega (arith, a.some, a.inside))
  decoded (suc fuel) h first (suc k) p e w l r =
      let a = step s h first k p e w in
      let z = tested p (omega (arith, a.some, a.inside)) in
      let q = shape_parts s n p z.shape in
      let c = decoded fuel (head_at s p) true (children_at s p) (p + 1) (p + subtree_at s p) q.children q.inside (omega (arith, a.inside)) in
      let d = decoded fuel h false k (p + subtree_at s p) e a.next l (omega (arith, a.some)) in
      let m : subtree_at s p ≡ suc (records (decode fuel s (p + 1) (p + subtree_at s p))) = omega (arith, c.ends) in
      let o = node_decoded s n p z (p + subtree_at s p) (decode fuel s (p + 1) (p + subtree_at s p)) c in
      rw (lt-ltb p e (omega (arith, a.some, a.inside)))
      (record {
        stands = (refl, sym c.counts, m, c.stands, subst (λ (j : ℕ). Stands s j (decode fuel s (p + subtree_at s p) e)) (ap (p +◌) m) d.stands);
        ends = omega (arith, d.ends, m);
        counts = ap suc d.counts;
        stand = and_both a.may d.stand;
        ok = and_both o (and_both c.ok d.ok);
      })

  -- The same of the root's children, and of the root.
  pub decoded_root : subtree_at s 0 ≡ n → 1 ≤ n
      → Decoded s (head_at s 0) true (children_at s 0) 1 n (decode n s 1 n) × (node_ok (head_at s 0) (decode n s 1 n) ≡ true)
  decoded_root e l =
      let z = tested 0 (omega arith) in
      let x : 0 + subtree_at s 0 ≡ n = omega arith in
      let w : children_end s (head_at s 0) true (children_at s 0) 1 n ≡ true = rw x at (shape_parts s n 0 z.shape).children in
      let c = decoded n (head_at s 0) true (children_at s 0) 1 n w (omega arith) (omega arith) in
      (c, node_decoded s n 0 z n (decode n s 1 n) c)

module _ (s : List ℕ) where
  -- A list that stands is what is decoded from there.
  pub decode_stands : (fuel p e : ℕ) (f : Forest) → Stands s p f → records f ≤ fuel → e ≡ p + records f → decode fuel s p e ≡ f
  unfolding decode
  decode_stands zero p e nil d l q = refl
  decode_stands (suc fuel) p e nil d l q = rw (le-ltb p e (omega arith))
  decode_stands zero p e (node h cs rest) d l q = absurd (omega arith)
  decode_stands (suc fuel) p e (node h cs rest) d l q =
      let m : subtree_at s p ≡ suc (records cs) = d.2 in
      let a = decode_stands fuel (p + 1) (p + suc (records cs)) cs d.3 (omega arith) (omega arith) in
      let b = decode_stands fuel (p + suc (records cs)) e rest d.4 (omega arith) (omega arith) in
      rw (lt-ltb p e (omega arith), m, a, b) (ap (λ (x : Head). node x cs rest) d.0)

  -- A test of each of its heads, and of each of its records.
  pub heads_stand : (test : Head → Bool) (p : ℕ) (f : Forest) → Stands s p f → ((i : ℕ) → i < p + records f → test (head_at s i) ≡ true) → all_heads test f ≡ true
  unfolding all_nodes
  heads_stand test p nil d h = refl
  heads_stand test p (node k cs rest) d h =
      and_both (subst (λ (x : Head). test x ≡ true) d.0 (h p (omega arith)))
      (and_both (heads_stand test (p + 1) cs d.3 (λ i l. h i (omega arith))) (heads_stand test (p + suc (records cs)) rest d.4 (λ i l. h i (omega arith))))

  pub heads_at : (test : Head → Bool) (p : ℕ) (f : Forest) → Stands s p f → all_heads test f ≡ true → (i : ℕ) → p ≤ i → i < p + records f → test (head_at s i) ≡ true
  unfolding all_nodes
  heads_at test p nil d w i a b = absurd (omega arith)
  heads_at test p (node h cs rest) d w i a b =
      let under = and_right (test h) (all_heads test cs && all_heads test rest) w in
      ⊎_elim
      (λ (q : p ≡ i). rw (← q) (subst (λ (x : Head). test x ≡ true) (sym d.0) (and_left (test h) (all_heads test cs && all_heads test rest) w)))
      (λ (q : p < i). ⊎_elim
      (λ (c : i < p + suc (records cs)). heads_at test (p + 1) cs d.3 (and_left (all_heads test cs) (all_heads test rest) under) i (omega arith) (omega arith))
      (λ (c : p + suc (records cs) ≤ i). heads_at test (p + suc (records cs)) rest d.4 (and_right (all_heads test cs) (all_heads test rest) under) i c (omega arith))
      (lt_or_le i (p + suc (records cs))))
      (eq-or-lt_of_le a)

  -- Its nodes end where it does.
  children_end_lem : (h : Head) (first : Bool) (p e : ℕ) (f : Forest) → Stands s p f → children_stand h first f ≡ true → e ≡ p + records f
      → children_end s h first (count f) p e ≡ true
  unfolding children_end
  children_end_lem h first p e nil d w q = eq-eqb p e (omega arith)
  children_end_lem h first p e (node c cs rest) d w q =
      let m : subtree_at s p ≡ suc (records cs) = d.2 in
      let may = may_stand h first c.kind in
      step_back s h first (count rest) p e (record {
        some = omega arith;
        inside = omega arith;
        may = subst (λ (x : Head). may_stand h first x.kind ≡ true) (sym d.0) (and_left may (children_stand h false rest) w);
        next = rw m (children_end_lem h false (p + suc (records cs)) e rest d.4 (and_right may (children_stand h false rest) w) (omega arith));
      })

  -- Each of its records passes the tests of refusals 5 to 7, if it is well-formed.
  tested_root : (n p : ℕ) (h : Head) (cs rest : Forest) → Stands s p (node h cs rest) → node_ok h cs ≡ true → p + suc (records cs) ≤ n → Tested s n p
  tested_root n p h cs rest d w l =
      let o = node_parts h cs w in
      let m : subtree_at s p ≡ suc (records cs) = d.2 in
      record {
        record_ok_lem = subst (λ (x : Head). record_ok x ≡ true) (sym d.0) o.record_ok_lem;
        is_included_lem = subst (λ (x : Head). included x ≡ true) (sym d.0) o.is_included_lem;
        shape = shape_whole s n p (record {
          inside = omega (arith, m);
          counted = subst (λ (x : Head). child_count_ok x (children_at s p) ≡ true) (sym d.0) (rw d.1 o.counted);
          children =
              subst (λ (x : Head). children_end s x true (children_at s p) (p + 1) (p + subtree_at s p) ≡ true) (sym d.0)
              (rw d.1 (children_end_lem h true (p + 1) (p + subtree_at s p) cs d.3 o.stand (omega (arith, m))));
        });
      }

  pub tested_of : (n p : ℕ) (f : Forest) → Stands s p f → formed f ≡ true → p + records f ≤ n
      → (i : ℕ) → p ≤ i → i < p + records f → Tested s n i
  unfolding formed
  tested_of n p nil d w l i a b = absurd (omega arith)
  tested_of n p (node h cs rest) d w l i a b =
      let under = and_right (node_ok h cs) (formed cs && formed rest) w in
      ⊎_elim
      (λ (q : p ≡ i). rw (← q) (tested_root n p h cs rest d (and_left (node_ok h cs) (formed cs && formed rest) w) (omega arith)))
      (λ (q : p < i). ⊎_elim
      (λ (c : i < p + suc (records cs)). tested_of n (p + 1) cs d.3 (and_left (formed cs) (formed rest) under) (omega arith) i (omega arith) (omega arith))
      (λ (c : p + suc (records cs) ≤ i). tested_of n (p + suc (records cs)) rest d.4 (and_right (formed cs) (formed rest) under) (omega arith) i c (omega arith))
      (lt_or_le i (p + suc (records cs))))
      (eq-or-lt_of_le a)
