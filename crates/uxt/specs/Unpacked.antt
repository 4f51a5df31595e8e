-- A caller reads the answer back.
use Rattle.std.specs.Prelude.{◌≡◌, refl, Bool, true, false, cond, List, [], ◌∷◌, ℕ, zero, suc, ◌+◌, ◌*◌, ◌-◌, ◌/◌, ◌%◌, ◌<◌, ◌≤◌, ltb, length}
use Rattle.std.proofs.Common.{ap, arith}
use Rattle.stated.specs.Stated.{Stated}
use Rattle.derived.specs.Bytes.{any_over}
use Rattle.derived.specs.Answer as derived
use Rattle.tree.specs.Layout.{version_in}
use Rattle.tree.specs.Room.{start_le, header_before}
use Rattle.tree.specs.Encoding.{Bytes}
use Rattle.tree.proofs.Encoding.{length_file}
use Rattle.tree.specs.Fields.{settings_of, count_of}
use Rattle.tree.specs.Refusal.{reduce_limits, list_effects_limits, refusal, tree_of}
use Rattle.tree.specs.Tree.{Tree, forest, size, records}
use Rattle.tree.specs.File.{file_bytes}
use Rattle.tree.proofs.Accepted.{accepted}
use Rattle.rules.specs.Effects.{effects}
use Rattle.rules.proofs.Theorems.{few_effects}
use Rattle.readings.specs.Given.{settings_given}
use Rattle.effects.specs.Answer as listing
use Rattle.reducer.specs.Answer as reduction
use Rattle.reducer.specs.Run.{promises, unnumbered}
use Rattle.uxt.specs.Packed.{packed, plain}

-- The Derived question's answer is read back: 0 and 1 are no and yes, what is above them a number.
abbrev pub read_plain : ℕ → Stated derived.Case
read_plain zero = derived.yes_or_no false
read_plain (suc zero) = derived.yes_or_no true
read_plain (suc (suc n)) = derived.refused_by (suc (suc n))

pub plain_derived : (scopes ancestors : List ℕ) → read_plain (plain (derived.derived_question scopes ancestors)) ≡ derived.derived_question scopes ancestors
plain_derived scopes ancestors = go (any_over 7 scopes) (any_over 4 ancestors) (derived.derived_constructor_this_scope scopes ancestors)
  where
    go : (a b d : Bool) → read_plain (plain (cond a (derived.refused_by 11) (cond b (derived.refused_by 12) (derived.yes_or_no d)))) ≡ cond a (derived.refused_by 11) (cond b (derived.refused_by 12) (derived.yes_or_no d))
    go true b d = refl
    go false true d = refl
    go false false true = refl
    go false false false = refl

-- What stands above the low 32 bits and in them is read back.
number_back : (n v : ℕ) → v < 4294967296 → (n * 4294967296 + v) / 4294967296 ≡ n
number_back n v small = omega arith

value_back : (n v : ℕ) → v < 4294967296 → (n * 4294967296 + v) % 4294967296 ≡ v
value_back n v small = omega arith

-- A count is small: "count to 3,999", and a list has fewer than two effects for each record.
count_small : (places s : List ℕ) (room : ℕ) → Bytes s → listing.number s room ≡ 0 → length (listing.effect_list_given places s) < 4294967296
unfolding listing.number listing.effect_list_given
count_small places s room bytes none = go (refusal list_effects_limits s) (ltb room (2 * count_of s)) refl none
  where
    go : (k : ℕ) (short : Bool) → refusal list_effects_limits s ≡ k → listing.number_by k short ≡ 0 → length (effects (settings_given places (settings_of s)) (tree_of s)) < 4294967296
    go zero short e z = omega (arith, few_effects (settings_given places (settings_of s)) (tree_of s), (accepted list_effects_limits s bytes e).permitted.few)
    go (suc k) short e z = omega arith

-- List effects: a number, or with none the count.
abbrev pub read_listing : ℕ → ℕ → Stated listing.Case
read_listing zero v = listing.counts v
read_listing (suc n) v = listing.refused_by (suc n)

unfoldable pub unpacked_listing : ℕ → Stated listing.Case
unpacked_listing r = read_listing (r / 4294967296) (r % 4294967296)

-- So the answer of List effects is read back whole.
pub unpacked_listing_lem : (places s : List ℕ) (room : ℕ) → Bytes s → unpacked_listing (packed (listing.stated_of (listing.number s room) (listing.effect_list_given places s))) ≡ listing.stated_of (listing.number s room) (listing.effect_list_given places s)
unfolding unpacked_listing
unpacked_listing_lem places s room bytes = go (listing.number s room) (count_small places s room bytes)
  where
    go : (k : ℕ) → (k ≡ 0 → length (listing.effect_list_given places s) < 4294967296) → unpacked_listing (packed (listing.stated_of k (listing.effect_list_given places s))) ≡ listing.stated_of k (listing.effect_list_given places s)
    go zero small = rw (number_back 0 (length (listing.effect_list_given places s)) (small refl), value_back 0 (length (listing.effect_list_given places s)) (small refl))
    go (suc k) small = rw (number_back (suc k) 0 (omega arith))

-- Reduce: a number; with none, a removable tree where the length is 0, and else a kept one.
abbrev pub read_reduction : ℕ → ℕ → Stated reduction.Case
read_reduction zero zero = reduction.answered reduction.Case.removable 0
read_reduction zero (suc v) = reduction.answered reduction.Case.kept (suc v)
read_reduction (suc n) v = reduction.refused_by (suc n)

unfoldable pub unpacked_reduction : ℕ → Stated reduction.Case
unpacked_reduction r = read_reduction (r / 4294967296) (r % 4294967296)

-- A rewritten file has its header at least, and at most 3,999 records.
rewritten_small : (s : List ℕ) → reduction.Promised s → count_of s ≤ 2000 → (t : Tree) → reduction.left s ≡ t ∷ [] → (0 < length (file_bytes (version_in s) (settings_of s) t)) × (length (file_bytes (version_in s) (settings_of s) t) < 4294967296)
rewritten_small s p l t e =
    let few : size t ≤ 2 * count_of s - 1 = omega (arith, p.few, ap (λ (r : List Tree). records (forest r)) e) in
    omega (
      arith,
      length_file (version_in s) (settings_of s) t,
      header_before (version_in s) (size t),
      start_le (version_in s) (size t) (2 * count_of s - 1) few,
      reduction.most_enough (version_in s) (count_of s) l,
    )

-- So the answer of Reduce is read back whole.
pub unpacked_reduction_lem : (s : List ℕ) (room : ℕ) → Bytes s → unpacked_reduction (packed (reduction.stated_of (reduction.number s room) s)) ≡ reduction.stated_of (reduction.number s room) s
unfolding unpacked_reduction reduction.rewritten
unpacked_reduction_lem s room bytes = go (reduction.number s room) refl
  where
    kept_back : (v : ℕ) → 0 < v → v < 4294967296 → unpacked_reduction (packed (reduction.answered reduction.Case.kept v)) ≡ reduction.answered reduction.Case.kept v
    kept_back zero a b = absurd (omega arith)
    kept_back (suc v) a b = rw (number_back 0 (suc v) b, value_back 0 (suc v) b)

    left_back : reduction.Promised s → count_of s ≤ 2000 → (l : List Tree) → reduction.left s ≡ l → length (reduction.left s) ≤ 1
        → unpacked_reduction (packed (reduction.stated_of 0 s)) ≡ reduction.stated_of 0 s
    left_back p f [] e o = rw e
    left_back p f (t ∷ []) e o = let b = rewritten_small s p f t e in rw e (kept_back (length (file_bytes (version_in s) (settings_of s) t)) b.0 b.1)
    left_back p f (t ∷ u ∷ us) e o = absurd (omega (arith, o, ap length e))

    go : (k : ℕ) → reduction.number s room ≡ k → unpacked_reduction (packed (reduction.stated_of k s)) ≡ reduction.stated_of k s
    go zero e =
        let z = unnumbered s room e in
        let p = promises s bytes z in
        left_back p (omega (arith, (accepted reduce_limits s bytes z).permitted.few, (accepted reduce_limits s bytes z).sized)) (reduction.left s) refl p.at_most_one
    go (suc k) e = rw (number_back (suc k) 0 (omega arith))
