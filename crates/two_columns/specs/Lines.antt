-- The lines, and how many bytes they take.
use Rattle.std.specs.Prelude.{◌≡◌, refl, ℕ, zero, suc, ◌+◌, ◌-◌, ◌*◌, ◌/◌, ◌%◌, ◌^◌, ◌<◌, ◌≤◌, max, List, [], ◌∷◌, ◌++◌, length, drop, Option, None, Some, option_to_list, decimal}
use Rattle.std.specs.Option.{option_copied}
use Rattle.std.specs.Slice.{IsItemAt}
use Rattle.std.proofs.Common.{sym, ap, ◌∙◌, arith, drop_of_length-le, drop-cons, append_assoc, append-nil, Bor}
use Rattle.std.proofs.lemmas.Fmt.{length-decimal-le}
use Rattle.two_columns.specs.Columns.{column, cell, rest, line, lines, side_by_side}

pub place_few : (e : ℕ) → e < 2 ^ 64 → length (decimal (e / 512)) ≤ 17
place_few e l = length-decimal-le 17 (e / 512) (omega arith) (omega arith) (omega arith)

pub kind_few : (e : ℕ) → length (decimal (e / 2 % 256)) ≤ 3
kind_few e = length-decimal-le 3 (e / 2 % 256) (omega arith) (omega arith) (omega arith)

pub coercion_few : (e : ℕ) → length (decimal (e % 2)) ≤ 1
coercion_few e = length-decimal-le 1 (e % 2) (omega arith) (omega arith) (omega arith)

-- A number of 64 bits.
pub number_few : (n : ℕ) → n < 2 ^ 64 → length (decimal n) ≤ 20
number_few n l = length-decimal-le 20 n (omega arith) (omega arith) l

-- A cell, of what `get` has.
cell_at : (xs : List ℕ) (i : ℕ) (r : Option (Bor ℕ)) → IsItemAt xs i r → cell (option_to_list (option_copied r)) ≡ cell (drop i xs)
cell_at xs i None (_, _, _, past, _) = sym (ap cell (drop_of_length-le xs past))
cell_at xs i (Some x) (_, is, _, (within, _), _) = ap column is ∙ sym (ap cell (drop-cons xs i x.now within))

rest_drop : (xs : List ℕ) (i : ℕ) → rest (drop i xs) ≡ drop (suc i) xs
rest_drop [] zero = refl
rest_drop [] (suc i) = refl
rest_drop (x ∷ xs) zero = refl
rest_drop (x ∷ xs) (suc i) = rest_drop xs i

-- Behind the text before stand the lines up to line i: with those from there on it is all of them.
pub record Lined (before after old new : List ℕ) (i : ℕ) : Type 0 where
  pub joins : new ++ lines (max (length before) (length after) - i) (drop i before) (drop i after) ≡ old ++ side_by_side before after
  pub short : length new ≤ length old + 48 * i

module _ (before after : List ℕ) {old : List ℕ} where
  pub lined_none : Lined before after old old 0
  unfolding side_by_side
  lined_none =
      let e : max (length before) (length after) - 0 ≡ max (length before) (length after) = omega arith in
      record { joins = ap (λ (k : ℕ). old ++ lines k before after) e; short = omega arith }

  module _ {new : List ℕ} {i : ℕ} (l : Lined before after old new i) where
    pub lined_more : {newer : List ℕ} (b a : Option (Bor ℕ)) → i < max (length before) (length after) → IsItemAt before i b → IsItemAt after i a
        → newer ≡ new ++ line (option_to_list (option_copied b)) (option_to_list (option_copied a)) → length newer ≤ length new + 48 → Lined before after old newer (i + 1)
    unfolding line lines
    lined_more b a m is_b is_a e s =
        let one : max (length before) (length after) - i ≡ suc (max (length before) (length after) - suc i) = omega arith in
        let next : i + 1 ≡ suc i = omega arith in
        record {
          joins = rw (e, append_assoc, next, cell_at before i b is_b, cell_at after i a is_a) (rw (one, rest_drop before i, rest_drop after i) at l.joins);
          short = omega (arith, l.short, s);
        }

    pub lined_all : max (length before) (length after) ≤ i → new ≡ old ++ side_by_side before after
    unfolding lines
    lined_all m =
        let none : max (length before) (length after) - i ≡ 0 = omega arith in
        rw (none, append-nil) at l.joins
