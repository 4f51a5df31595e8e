-- What a C function returns: an answer in one number.
use Rattle.std.specs.Prelude.{◌≡◌, List, [], ◌∷◌, ℕ, ◌+◌, ◌*◌, length, get_or}
use Rattle.std.proofs.Common.{sym, ap, ◌∙◌, add-zero, zero-add}
use Rattle.stated.specs.Stated.{Stated}
use Rattle.derived.specs.Answer as derived
use Rattle.effects.specs.Answer.{number, effect_list_given, stated_of, entries_of}
use Rattle.reducer.specs.Answer as reduction

-- The refusal's number, 0 where there is none, stands above the 32 bits of the value, the count or the length.
abbrev pub packed : {Case : Type 0} → Stated Case → ℕ
packed s = s.number * 4294967296 + get_or s.values 0 0

-- The Derived question: 0 for no, 1 for yes, or the refusal's number.
abbrev pub plain_by : derived.Case → ℕ → ℕ
plain_by derived.Case.yes number = 1
plain_by derived.Case.no number = 0
plain_by derived.Case.refused number = number

abbrev pub plain : Stated derived.Case → ℕ
plain s = plain_by s.case s.number

-- Reduce: the answer, every lent byte, and what holds of an accepted file's answer.
pub record PackedReduction (s old new : List ℕ) (r : ℕ) : Type 0 where
  pub answer : r ≡ packed (reduction.stated_of (reduction.number s (length old)) s)
  pub bytes : new ≡ reduction.bytes_of (reduction.number s (length old)) s old
  pub promised : reduction.number s (length old) ≡ 0 → reduction.Promised s

-- List effects under the places that count as yes: the answer, and every lent entry.
pub record PackedListing (places s old new : List ℕ) (r : ℕ) : Type 0 where
  pub answer : r ≡ packed (stated_of (number s (length old)) (effect_list_given places s))
  pub entries : new ≡ entries_of (number s (length old)) (effect_list_given places s) old

-- A refusal, of which the value is 0, and an answer with a value.
module _ {Case : Type 0} where
  pub packed_refused : (c : Case) (n : ℕ) {s : Stated Case} → record { case = c; number = n; values = 0 ∷ [] } ≡ s → n * 4294967296 ≡ packed s
  packed_refused c n e = sym (add-zero (n * 4294967296)) ∙ ap packed e

  pub packed_answered : (c : Case) (v : ℕ) {s : Stated Case} → record { case = c; number = 0; values = v ∷ [] } ≡ s → v ≡ packed s
  packed_answered c v e = sym (zero-add v) ∙ ap packed e
