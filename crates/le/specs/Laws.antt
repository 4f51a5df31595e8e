-- Laws of the fields: a read after a write, what a write leaves alone, fields of lists that agree.
use Rattle.std.specs.Prelude.{◌≡◌, ◌≢◌, ◌⊎◌, List, ℕ, ◌+◌, ◌/◌, ◌%◌, ◌<◌, ◌≤◌, length, get_or, set}
use Rattle.std.proofs.Common.{◌∙◌, inl, ⊎_elim, arith, length-set, get_or-set_same, get_or-set_other}
use Rattle.le.specs.Le.{u16_at, u32_at, set16, set32}

pub length_set16 : (s : List ℕ) (p v : ℕ) → length (set16 s p v) ≡ length s
unfolding set16
length_set16 s p v = simp length-set

pub get_d_set16_other : (s : List ℕ) (p v k : ℕ) → k ≢ p → k ≢ p + 1 → get_or (set16 s p v) k 0 ≡ get_or s k 0
unfolding set16
get_d_set16_other s p v k n m = rw (get_or-set_other, get_or-set_other)

pub u16_set16 : (s : List ℕ) (p v : ℕ) → p + 1 < length s → u16_at (set16 s p v) p ≡ v
unfolding set16 u16_at
u16_set16 s p v h =
    let i : p < length s = omega arith in
    let n : p ≢ p + 1 = omega arith in
    let j : p + 1 < length (set s p (v % 256)) = simp length-set h in
    rw (get_or-set_other, get_or-set_same, get_or-set_same) (omega arith)

-- two fields of two bytes are equal where the bytes are
pub u16_same : (s s' : List ℕ) (p q : ℕ) → get_or s' q 0 ≡ get_or s p 0 → get_or s' (q + 1) 0 ≡ get_or s (p + 1) 0 → u16_at s' q ≡ u16_at s p
unfolding u16_at
u16_same s s' p q a b = cc

pub u32_same : (s s' : List ℕ) (p q : ℕ) → u16_at s' q ≡ u16_at s p → u16_at s' (q + 2) ≡ u16_at s (p + 2) → u32_at s' q ≡ u32_at s p
unfolding u32_at
u32_same s s' p q a b = cc

pub get_d_set32_other : (s : List ℕ) (p v k : ℕ) → (k < p) ⊎ (p + 4 ≤ k) → get_or (set32 s p v) k 0 ≡ get_or s k 0
unfolding set32
get_d_set32_other s p v k o = ⊎_elim (λ (h : k < p). go (omega arith) (omega arith) (omega arith) (omega arith)) (λ (h : p + 4 ≤ k). go (omega arith) (omega arith) (omega arith) (omega arith)) o
  where
    go : k ≢ p → k ≢ p + 1 → k ≢ p + 2 → k ≢ p + 2 + 1 → get_or (set16 (set16 s p (v % 65536)) (p + 2) (v / 65536)) k 0 ≡ get_or s k 0
    go a b c d = get_d_set16_other (set16 s p (v % 65536)) (p + 2) (v / 65536) k c d ∙ get_d_set16_other s p (v % 65536) k a b

-- a field of two bytes beside a write
pub u16_set16_other : (s : List ℕ) (p v q : ℕ) → (q + 2 ≤ p) ⊎ (p + 2 ≤ q) → u16_at (set16 s p v) q ≡ u16_at s q
u16_set16_other s p v q o = ⊎_elim (λ (h : q + 2 ≤ p). go (omega arith) (omega arith) (omega arith) (omega arith)) (λ (h : p + 2 ≤ q). go (omega arith) (omega arith) (omega arith) (omega arith)) o
  where
    go : q ≢ p → q ≢ p + 1 → q + 1 ≢ p → q + 1 ≢ p + 1 → u16_at (set16 s p v) q ≡ u16_at s q
    go a b c d = u16_same s (set16 s p v) q q (get_d_set16_other s p v q a b) (get_d_set16_other s p v (q + 1) c d)

pub u32_set32 : (s : List ℕ) (p v : ℕ) → p + 3 < length s → u32_at (set32 s p v) p ≡ v
unfolding set32 u32_at
u32_set32 s p v h =
    let a : u16_at (set16 (set16 s p (v % 65536)) (p + 2) (v / 65536)) p ≡ v % 65536 =
    u16_set16_other (set16 s p (v % 65536)) (p + 2) (v / 65536) p (inl (omega arith)) ∙ u16_set16 s p (v % 65536) (omega arith) in
    let b : u16_at (set16 (set16 s p (v % 65536)) (p + 2) (v / 65536)) (p + 2) ≡ v / 65536 =
    u16_set16 (set16 s p (v % 65536)) (p + 2) (v / 65536) (rw length_set16 (omega arith)) in
    omega (arith, a, b)
