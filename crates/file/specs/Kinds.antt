-- Tables and sets of kinds, as numbers.
use Rattle.std.specs.Prelude.{◌≡◌, refl, Bool, true, false, cond, ℕ, ◌*◌, ◌/◌, ◌%◌, ◌^◌, ◌<◌, ◌≤◌, min, eqb}
use Rattle.std.proofs.Common.{sym, ap, ◌∙◌, ⊎_elim, arith}
use borrow.Author.Tests.{eqb-true}
use Rattle.tree.specs.Below.{all_below, all_at, lt_or_le}

-- What a table has for a kind, in `width` bits; the last are those of all kinds from 31 on.
unfoldable pub bits_of : ℕ → ℕ → ℕ → ℕ
bits_of table width k = table / 2 ^ (width * min k 31) % 2 ^ width

-- A set is a table of one bit each.
unfoldable pub holds : ℕ → ℕ → Bool
holds kinds k = eqb (bits_of kinds 1 k) 1

-- Beyond 31 no kind is told apart.
abbrev pub Ends : {A : Type 0} → (ℕ → A) → Type 0
Ends f = (k : ℕ) → 31 < k → f k ≡ f 31

bits_end : (table width : ℕ) → Ends (bits_of table width)
unfolding bits_of
bits_end table width k l = let e : min k 31 ≡ 31 = omega arith in rw e

-- What ends so and is a table at every kind below 32, one test, computed over all of them, is that table.
pub table_is : (table width : ℕ) (f : ℕ → ℕ) → all_below (λ k. eqb (bits_of table width k) (f k)) 32 ≡ true → Ends f → (k : ℕ) → bits_of table width k ≡ f k
table_is table width f e ends k =
    ⊎_elim (λ (l : k < 32). below k l) (λ (l : 32 ≤ k). bits_end table width k (omega arith) ∙ below 31 (omega arith) ∙ sym (ends k (omega arith))) (lt_or_le k 32)
  where
    below : (k : ℕ) → k < 32 → bits_of table width k ≡ f k
    below k l = eqb-true (bits_of table width k) (f k) (all_at (λ k. eqb (bits_of table width k) (f k)) 32 e k l)

pub set_is : (kinds : ℕ) (p : ℕ → Bool) → all_below (λ k. eqb (bits_of kinds 1 k) (cond (p k) 1 0)) 32 ≡ true → Ends p → (k : ℕ) → holds kinds k ≡ p k
unfolding holds
set_is kinds p e ends k = rw (table_is kinds 1 (λ k. cond (p k) 1 0) e (λ k l. ap (λ (b : Bool). cond b 1 0) (ends k l)) k) (one (p k))
  where
    one : (b : Bool) → eqb (cond b 1 0) 1 ≡ b
    one true = refl
    one false = refl
