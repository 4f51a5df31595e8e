-- Each permitted set of fact bits is one less than a power of two, so a byte has no other bit exactly if it is at most that number.
use Rattle.std.specs.Prelude.{◌≡◌, refl, Bool, true, false, cond, not, ◌&&◌, ◌||◌, ℕ, ◌+◌, ◌/◌, ◌%◌, ◌^◌, ◌<◌, eqb, leb}
use Rattle.std.proofs.Common.{sym, arith}
use Rattle.std.proofs.lemmas.Bool.Decides.{nat_tests}
use Rattle.tree.specs.Tree.{Head}
use Rattle.tree.specs.Below.{all_below, all_at}
use Rattle.tree.specs.Record.{symbol_yes, allowed_facts, bits_within, pairs_ok, literal_ok, is_void_not_or_typeof, is_comparison, never_symbol_alone, symbol_ok, facts_ok}
use Rattle.tree.specs.Kind as kind

abbrev pub agree : Bool → Bool → Bool
agree a b = cond a b (not b)

pub agree_same : (a b : Bool) → agree a b ≡ true → a ≡ b
agree_same true b e = sym e
agree_same false true e = e
agree_same false false e = refl

-- A number of the pairs, a bit for each, is the rule if it is at every byte: one test, computed over all of them.
pub pairs_is : (table : ℕ) → all_below (λ f. agree (eqb (table / 2 ^ (f / 2 % 16) % 2) 1) (pairs_ok f)) 256 ≡ true → (f : ℕ) → f < 256
    → eqb (table / 2 ^ (f / 2 % 16) % 2) 1 ≡ pairs_ok f
pairs_is table e f l =
    agree_same (eqb (table / 2 ^ (f / 2 % 16) % 2) 1) (pairs_ok f) (all_at (λ f. agree (eqb (table / 2 ^ (f / 2 % 16) % 2) 1) (pairs_ok f)) 256 e f l)

-- The kinds among which those are that can never be a symbol.
abbrev pub never_kind : ℕ → ℕ
never_kind k = cond (eqb k kind.template || (eqb k kind.unary || eqb k kind.binary)) 1 0

-- At a set of bits for which the test over all bytes computes to true.
within_at : (m : ℕ) → all_below (λ f. agree (bits_within m f) (leb f m)) 256 ≡ true → (f : ℕ) → f < 256 → bits_within m f ≡ leb f m
within_at m e f l = agree_same (bits_within m f) (leb f m) (all_at (λ x. agree (bits_within m x) (leb x m)) 256 e f l)

by_cond : (P : ℕ → Type 0) (b : Bool) (x y : ℕ) → P x → P y → P (cond b x y)
by_cond P true x y p q = p
by_cond P false x y p q = q

pub within_leb : (k f : ℕ) → f < 256 → bits_within (allowed_facts k) f ≡ leb f (allowed_facts k)
unfolding allowed_facts bits_within all_below
within_leb k =
    by_cond Law (eqb k kind.elision || (eqb k kind.property || eqb k kind.element)) 0 (cond (eqb k kind.spread) 1 (cond (eqb k kind.call) 255 (cond (eqb k kind.new) 127 31))) (within_at 0 refl)
    (by_cond Law (eqb k kind.spread) 1 (cond (eqb k kind.call) 255 (cond (eqb k kind.new) 127 31)) (within_at 1 refl)
    (by_cond Law (eqb k kind.call) 255 (cond (eqb k kind.new) 127 31) (within_at 255 refl)
    (by_cond Law (eqb k kind.new) 127 31 (within_at 127 refl) (within_at 31 refl))))
  where
    Law : ℕ → Type 0
    Law m = (f : ℕ) → f < 256 → bits_within m f ≡ leb f m

-- A literal is permitted 31, which 18 is within, and is none of those that can never be a symbol. 3 is in no pair, so that of any other
-- kind a sum of 3 is 1, for a kind that may never be a symbol, and 2, for a recorded yes.
pub facts_as : (h : Head) → h.facts < 256
    → facts_ok h ≡ cond (eqb h.kind kind.literal) (eqb h.facts 18) (leb h.facts (allowed_facts h.kind) && (pairs_ok h.facts && not (eqb (never_kind h.kind + h.facts / 2 % 4) 3 && never_symbol_alone h)))
unfolding facts_ok allowed_facts literal_ok symbol_ok symbol_yes pairs_ok never_symbol_alone is_void_not_or_typeof is_comparison
facts_as h l = rw (within_leb h.kind h.facts l) (grind (arith, nat_tests))
