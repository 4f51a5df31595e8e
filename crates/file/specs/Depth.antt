-- The depth of trees that stand in a list of bytes, walked sibling by sibling.
use Rattle.std.specs.Prelude.{◌≡◌, refl, Bool, true, false, List, ℕ, suc, ◌+◌, ◌-◌, ◌<◌, ◌≤◌, max, eqb, leb}
use Rattle.std.proofs.Common.{sym, ◌∙◌, arith, le-leb, leb-true, leb-false}
use Rattle.std.proofs.lemmas.Bool.{lt-leb}
use Rattle.std.proofs.lemmas.Bool.Decides.{nat_tests}
use Rattle.tree.specs.Tree.{Forest, nil, node, records, levels}
use Rattle.tree.specs.Fields.{subtree_at}
use Rattle.tree.specs.Walk.{Holds, Held, first_of, held_some, held_within, held_after}

-- r says whether the list that stands there has `depth` levels at most.
pub record Low (s : List ℕ) (at size depth : ℕ) (r : Bool) : Type 0 where
  pub by : (f : Forest) → Holds s at size f → r ≡ leb (levels f) depth

-- Where the walk stands: what answers for the trees from record p to record e answers for all.
pub record Walked (s : List ℕ) (at size depth p e : ℕ) : Type 0 where
  pub inside : p ≤ e
  pub held : Held s p (e - p)
  pub whole : (r : Bool) → Low s p (e - p) depth r → Low s at size depth r

-- A list of trees has no more levels than records.
few_levels : (f : Forest) → levels f ≤ records f
few_levels nil = omega arith
few_levels (node h cs rest) = omega (arith, few_levels cs, few_levels rest)

module _ {s : List ℕ} {p size depth : ℕ} where
  low_few : size ≤ depth → Low s p size depth true
  low_few l = record { by = λ f d. sym (le-leb (levels f) depth (omega (arith, few_levels f, d.sized))) }

  pub low_none : depth ≡ 0 → Low s p size depth (eqb size 0)
  low_none z = record { by = go }
    where
      go : (f : Forest) → Holds s p size f → eqb size 0 ≡ leb (levels f) depth
      go nil d = rw (z, d.sized)
      go (node k cs rest) d = grind (arith, nat_tests, d.sized)

  module _ (l : 0 < size) (some : depth ≡ 0 → ⊥) (q : Bool) (a : Low s (p + 1) (subtree_at s p - 1) (depth - 1) q) where
    low_high : q ≡ false → Low s p size depth false
    low_high e = record { by = go }
      where
        go : (f : Forest) → Holds s p size f → false ≡ leb (levels f) depth
        go nil d = absurd (omega (arith, d.sized))
        go (node k cs rest) d =
            let b : depth - 1 < levels cs = leb-false (levels cs) (depth - 1) (sym (a.by cs (first_of k cs rest d).children) ∙ e) in
            sym (lt-leb (max (suc (levels cs)) (levels rest)) depth (omega arith))

    low_next : q ≡ true → (r : Bool) → Low s (p + subtree_at s p) (size - subtree_at s p) depth r → Low s p size depth r
    low_next e r n = record { by = go }
      where
        go : (f : Forest) → Holds s p size f → r ≡ leb (levels f) depth
        go nil d = absurd (omega (arith, d.sized))
        go (node k cs rest) d =
            let b : levels cs ≤ depth - 1 = leb-true (levels cs) (depth - 1) (sym (a.by cs (first_of k cs rest d).children) ∙ e) in
            n.by rest (first_of k cs rest d).after ∙ grind (arith, nat_tests)

-- The steps of the walk.
module _ {s : List ℕ} {at size depth p e : ℕ} (w : Walked s at size depth p e) where
  pub walk_done : e ≤ p → Low s at size depth true
  walk_done l = w.whole true (low_few (omega (arith, w.inside)))

  module _ (l : p < e) where
    module _ (some : depth ≡ 0 → ⊥) (z : ℕ) (ez : z ≡ subtree_at s p) (q : Bool) (a : Low s (p + 1) (z - 1) (depth - 1) q) where
      a' : Low s (p + 1) (subtree_at s p - 1) (depth - 1) q
      a' = rw ez at a

      pub walk_high : q ≡ false → Low s at size depth false
      walk_high e = w.whole false (low_high (omega arith) some q a' e)

      pub walk_on : q ≡ true → Walked s at size depth (p + z) e
      walk_on x =
          let h = held_after w.held (omega arith) in
          let i : subtree_at s p ≤ e - p = held_within w.held (omega arith) in
          let y : e - p - subtree_at s p ≡ e - (p + subtree_at s p) = omega arith in
          rw ez (record {
            inside = omega (arith, w.inside);
            held = rw y at h;
            whole = λ r n. w.whole r (low_next (omega arith) some q a' x r (rw (← y) at n));
          })

    -- A tree of so few records is passed over.
    pub walk_few : (z : ℕ) → z ≡ subtree_at s p → z ≤ depth → Walked s at size depth (p + z) e
    walk_few z ez few =
        let i : 1 ≤ subtree_at s p = held_some w.held (omega arith) in
        walk_on (λ y. omega arith) z ez true (low_few (omega arith)) refl
