-- The walk over children: k are left from record p on.
use Rattle.std.specs.Prelude.{◌≡◌, refl, Bool, true, false, ◌&&◌, List, ℕ, zero, suc, ◌+◌, ◌-◌, ◌<◌, ◌≤◌, eqb, leb}
use Rattle.std.proofs.Common.{arith}
use Rattle.std.proofs.lemmas.Bool.Decides.{nat_tests}
use Rattle.tree.specs.Tree.{Head}
use Rattle.tree.specs.Children.{may_stand}
use Rattle.tree.specs.Fields.{head_at, subtree_at}
use Rattle.tree.specs.Refusal.{children_end}

module _ (s : List ℕ) (h : Head) (first : Bool) (p e : ℕ) where
  pub end_done : (k : ℕ) → k ≤ 0 → children_end s h first k p e ≡ eqb p e
  unfolding children_end
  end_done zero l = refl
  end_done (suc k) l = absurd (omega arith)

  -- The next child is one that ends inside and may stand there, and the others are.
  end_some : (k : ℕ) → 0 < k → children_end s h first k p e
      ≡ ((leb 1 (subtree_at s p) && leb (p + subtree_at s p) e) && (may_stand h first (head_at s p).kind && children_end s h false (k - 1) (p + subtree_at s p) e))
  unfolding children_end
  end_some zero l = absurd (omega arith)
  end_some (suc k) l = let z : suc k - 1 ≡ k = omega arith in rw z

  module _ (k : ℕ) (l : 0 < k) where
    pub end_past : e ≤ p → children_end s h first k p e ≡ false
    end_past g = rw (end_some k l) (grind (arith, nat_tests))

    pub end_zero : subtree_at s p ≡ 0 → children_end s h first k p e ≡ false
    end_zero z = rw (end_some k l) (grind (arith, nat_tests))

    pub end_over : e < p + subtree_at s p → children_end s h first k p e ≡ false
    end_over g = rw (end_some k l) (grind (arith, nat_tests))

    pub end_stop : may_stand h first (head_at s p).kind ≡ false → children_end s h first k p e ≡ false
    end_stop m = rw (end_some k l) (grind (arith, nat_tests))

    pub end_on : 0 < subtree_at s p → p + subtree_at s p ≤ e → may_stand h first (head_at s p).kind ≡ true
        → children_end s h first k p e ≡ children_end s h false (k - 1) (p + subtree_at s p) e
    end_on z i m = rw (end_some k l) (grind (arith, nat_tests))
