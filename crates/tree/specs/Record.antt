-- Refusals 5, 6 and 17: what a record may say by itself.
use Rattle.std.specs.Prelude.{Bool, cond, not, ◌&&◌, ◌||◌, ℕ, ◌/◌, ◌%◌, ◌^◌, eqb, leb}
use Rattle.tree.specs.Tree.{Place, Head}
use Rattle.tree.specs.Below.{all_below}
use Rattle.tree.specs.Kind as kind

-- Bit b of a number, as 0 or 1, and as a test.
abbrev pub bit : ℕ → ℕ → ℕ
bit b n = n / 2 ^ b % 2

abbrev pub bit_set : ℕ → ℕ → Bool
bit_set b n = eqb (bit b n) 1

-- "1–2 symbol and 3–4 string (0 unknown, 1 no, 2 yes)"
abbrev pub symbol_pair : ℕ → ℕ
symbol_pair facts = facts / 2 % 4

abbrev pub string_pair : ℕ → ℕ
string_pair facts = facts / 8 % 4

-- A recorded "yes": the node is said to be a symbol.
unfoldable pub symbol_yes : Head → Bool
symbol_yes h = eqb (symbol_pair h.facts) 2

-- "0 for 8, 11, 19; 1 for 9; 255 for 16; 127 for 17; else 31"; 02, N3: "its formula over the kind", the line of docs/FORMAT.md
unfoldable pub allowed_facts : ℕ → ℕ
allowed_facts k =
    cond (eqb k kind.elision || (eqb k kind.property || eqb k kind.element)) 0
    (cond (eqb k kind.spread) 1
    (cond (eqb k kind.call) 255
    (cond (eqb k kind.new) 127 31)))

-- Each bit of a facts byte is one of the permitted bits.
unfoldable pub bits_within : ℕ → ℕ → Bool
bits_within permitted facts = all_below (λ b. not (bit_set b facts) || bit_set b permitted) 8

-- "String yes needs symbol no; 3 is bad in either pair."
unfoldable pub pairs_ok : ℕ → Bool
pairs_ok facts =
    not (eqb (symbol_pair facts) 3)
    && (not (eqb (string_pair facts) 3) && (not (eqb (string_pair facts) 2) || eqb (symbol_pair facts) 1))

-- "A literal has exactly 18."
unfoldable pub literal_ok : Head → Bool
literal_ok h = not (eqb h.kind kind.literal) || eqb h.facts 18

-- "unary (sub 1 void, 2 not, 3 typeof, 4 other)"
unfoldable pub is_void_not_or_typeof : Head → Bool
is_void_not_or_typeof h = eqb h.kind kind.unary && leb h.sub 3

-- "binary (sub 1 comparison, one of the Rust's eight; ..)"
unfoldable pub is_comparison : Head → Bool
is_comparison h = eqb h.kind kind.binary && eqb h.sub 1

-- 02, N9, what can never be a symbol, by its record alone: "`!a`, `typeof a`, `void a`, a comparison, a template"
unfoldable pub never_symbol_alone : Head → Bool
never_symbol_alone h = is_void_not_or_typeof h || (is_comparison h || eqb h.kind kind.template)

-- "a recorded "yes" on one is refused as bad facts"
unfoldable pub symbol_ok : Head → Bool
symbol_ok h = not (symbol_yes h && never_symbol_alone h)

unfoldable pub facts_ok : Head → Bool
facts_ok h = bits_within (allowed_facts h.kind) h.facts && (pairs_ok h.facts && (literal_ok h && symbol_ok h))

-- "Element sub: bits 0–2 method 1, property 2, accessor 3, static block 4, index signature 5"
abbrev pub form : ℕ → ℕ
form sub = sub % 8

-- "Forms 4 and 5 have bits 3–6 clear; bit 7 only form 4; bit 6 only forms 2 and 3."
unfoldable pub element_sub_ok : ℕ → Bool
element_sub_ok sub =
    (leb 1 (form sub) && leb (form sub) 5)
    && ((leb (form sub) 3 || eqb (sub / 8 % 16) 0)
    && ((not (bit_set 7 sub) || eqb (form sub) 4) && (not (bit_set 6 sub) || (eqb (form sub) 2 || eqb (form sub) 3))))

-- "property (sub 0 value only; 1 key, value)", "unary (sub 1 void, 2 not, 3 typeof, 4 other)",
-- "binary (sub 1 comparison, one of the Rust's eight; 2 addition; 3 other)", "class (sub bit 0 decorated, 1 heritage first)";
-- 02, N1: "Kind 20, with sub 1 or 2", which 6 tells from sub 0; "Other subs are 0."
unfoldable pub sub_ok : Head → Bool
sub_ok h =
    cond (eqb h.kind kind.property) (leb h.sub 1)
    (cond (eqb h.kind kind.unary) (leb 1 h.sub && leb h.sub 4)
    (cond (eqb h.kind kind.binary) (leb 1 h.sub && leb h.sub 3)
    (cond (eqb h.kind kind.class) (leb h.sub 3)
    (cond (eqb h.kind kind.element) (element_sub_ok h.sub)
    (cond (eqb h.kind kind.logical) (leb h.sub 2) (eqb h.sub 0))))))

-- "5 kind, facts, sub or byte 3"
unfoldable pub record_ok : Head → Bool
record_ok h =
    (leb kind.literal h.kind && leb h.kind kind.assignment)
    && (facts_ok h && (sub_ok h && eqb h.reserved 0))

-- "6 kinds 20–22", of which 02, N1, takes conditionals, and logical nodes but for "sub 0 stays 6 in both"
unfoldable pub included : Head → Bool
included h = not (eqb h.kind kind.assignment || (eqb h.kind kind.logical && eqb h.sub 0))

-- "Kind 20 .. is read by the effect listing ..; the reducer still refuses it with 6". `logicals`: whether an operation takes such nodes.
unfoldable pub logical_taken : Bool → Head → Bool
logical_taken logicals h = logicals || not (eqb h.kind kind.logical)

abbrev pub taken : Bool → Head → Bool
taken logicals h = included h && logical_taken logicals h

-- 02, N6: "17 when an end lies before its start"
unfoldable pub end_ok : Place → Bool
end_ok p = leb p.start p.end
