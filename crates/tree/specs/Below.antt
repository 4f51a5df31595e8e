-- A test at every number below a bound, and the laws of tests joined by "and".
use Rattle.std.specs.Prelude.{◌≡◌, refl, Bool, true, false, ◌&&◌, ◌⊎◌, ℕ, zero, suc, ◌+◌, ◌<◌, ◌≤◌, ltb}
use Rattle.std.proofs.Common.{sym, true≢false, inl, inr, ⊎_elim, eq-or-lt_of_le, add-one, arith, ltb-true, ltb-false}

unfoldable pub all_below : (ℕ → Bool) → ℕ → Bool
all_below p zero = true
all_below p (suc n) = all_below p n && p n

pub and_both : {a b : Bool} → a ≡ true → b ≡ true → (a && b) ≡ true
and_both e f = rw (e, f)

pub and_left : (a b : Bool) → (a && b) ≡ true → a ≡ true
and_left true b e = refl
and_left false b e = e

pub and_right : (a b : Bool) → (a && b) ≡ true → b ≡ true
and_right true b e = e
and_right false b e = absurd (true≢false (sym e))

pub and_fails : (a : Bool) {b : Bool} → b ≡ false → (a && b) ≡ false
and_fails true e = e
and_fails false e = refl

pub all_none : (p : ℕ → Bool) → all_below p 0 ≡ true
unfolding all_below
all_none p = refl

pub all_more : (p : ℕ → Bool) (i : ℕ) → all_below p i ≡ true → p i ≡ true → all_below p (i + 1) ≡ true
unfolding all_below
all_more p i a b = rw (add-one, a, b)

pub all_fails : (p : ℕ → Bool) (i n : ℕ) → p i ≡ false → i < n → all_below p n ≡ false
unfolding all_below
all_fails p i zero e l = absurd (omega arith)
all_fails p i (suc n) e l =
    ⊎_elim (λ (q : i ≡ n). rw (← q) (and_fails (all_below p i) e)) (λ (q : i < n). rw (all_fails p i n e q))
    (eq-or-lt_of_le (omega arith))

pub all_at : (p : ℕ → Bool) (n : ℕ) → all_below p n ≡ true → (i : ℕ) → i < n → p i ≡ true
unfolding all_below
all_at p zero e i l = absurd (omega arith)
all_at p (suc n) e i l =
    ⊎_elim (λ (q : i ≡ n). rw q (and_right (all_below p n) (p n) e)) (λ (q : i < n). all_at p n (and_left (all_below p n) (p n) e) i q)
    (eq-or-lt_of_le (omega arith))

pub all_of : (p : ℕ → Bool) (n : ℕ) → ((i : ℕ) → i < n → p i ≡ true) → all_below p n ≡ true
unfolding all_below
all_of p zero h = refl
all_of p (suc n) h = and_both (all_of p n (λ i l. h i (omega arith))) (h n (omega arith))

pub lt_or_le : (m n : ℕ) → (m < n) ⊎ (n ≤ m)
lt_or_le m n = go (ltb m n) refl
  where
    go : (b : Bool) → ltb m n ≡ b → (m < n) ⊎ (n ≤ m)
    go true e = inl (ltb-true m n e)
    go false e = inr (ltb-false m n e)
