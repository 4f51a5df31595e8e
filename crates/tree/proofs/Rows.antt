-- The order of the refusals where document 02 tests more behind 7: N9 5 again, and N6 17. Rows from the bytes of a file to its number.
use Rattle.std.specs.Prelude.{List, [], ◌∷◌, ◌++◌, map, ◌≡◌, refl, false, ℕ}
use Rattle.le.specs.Le.{u16_at, u32_at}
use Rattle.tree.specs.Tree as tree
use Rattle.tree.specs.Below as below
use Rattle.tree.specs.Record as rec
use Rattle.tree.specs.Symbol as symbol
use Rattle.tree.specs.Children as children
use Rattle.tree.specs.Layout as layout
use Rattle.tree.specs.Fields as fields
use Rattle.tree.specs.Refusal.{refusal}
use Rattle.tree.specs.Refusal as refusals

-- A record of a kind, with facts and sub, so many children and records under it, and the bytes behind its text.
abbrev of : ℕ → ℕ → ℕ → ℕ → ℕ → List ℕ → List ℕ
of kind facts sub count size place = (kind ∷ facts ∷ sub ∷ 0 ∷ count ∷ 0 ∷ size ∷ 0 ∷ 0 ∷ 0 ∷ 0 ∷ 0 ∷ []) ++ place

-- `"s" + x` in a version, with the addition's facts, and x of a kind: 2 an identifier, 8 an elision, which may not stand there, 22 an
-- assignment. Behind it the place of the addition and that of x.
abbrev file : ℕ → ℕ → ℕ → List ℕ → List ℕ → List ℕ
file version facts kind place last =
    (85 ∷ 88 ∷ 84 ∷ version ∷ 0 ∷ 0 ∷ 3 ∷ 0 ∷ []) ++ (of 15 facts 2 2 3 place ++ (of 1 18 0 0 1 place ++ of kind 0 0 0 1 last))

-- A place of version 1, and one of version 2 from 5 to an end.
abbrev at : ℕ → List ℕ
at start = start ∷ 0 ∷ 0 ∷ 0 ∷ []

abbrev to : ℕ → List ℕ
to end = at 5 ++ at end

abbrev sum : ℕ → ℕ → List ℕ
sum facts kind = file 1 facts kind (at 5) (at 5)

abbrev spanned : ℕ → ℕ → ℕ → ℕ → List ℕ
spanned facts kind end last = file 2 facts kind (to end) (to last)

record Row : Type 0 where
  depth : ℕ
  file : List ℕ
  number : ℕ

abbrev rows : List Row
rows =
    -- symbol yes, and nothing else: 5; unknown: taken
    record { depth = 64; file = sum 4 2; number = 5 } ∷
    record { depth = 64; file = sum 0 2; number = 0 } ∷
    -- symbol yes in a file that is also too deep, of a wrong shape, or of an excluded kind
    record { depth = 1; file = sum 4 2; number = 5 } ∷
    record { depth = 64; file = sum 4 8; number = 7 } ∷
    record { depth = 64; file = sum 4 22; number = 6 } ∷
    -- an end after its start, the same as it, and one before it, at the root and at the last record
    record { depth = 64; file = spanned 0 2 6 6; number = 0 } ∷
    record { depth = 64; file = spanned 0 2 5 5; number = 0 } ∷
    record { depth = 64; file = spanned 0 2 4 5; number = 17 } ∷
    record { depth = 64; file = spanned 0 2 5 4; number = 17 } ∷
    -- the last of these in a file that is also too deep, says symbol yes, is of a wrong shape, or of an excluded kind
    record { depth = 1; file = spanned 0 2 5 4; number = 17 } ∷
    record { depth = 64; file = spanned 4 2 5 4; number = 5 } ∷
    record { depth = 64; file = spanned 0 8 5 4; number = 7 } ∷
    record { depth = 64; file = spanned 0 22 5 4; number = 6 } ∷
    -- records of one version in a file of the other, and a version that there is not
    record { depth = 64; file = file 2 0 2 (at 5) (at 5); number = 4 } ∷
    record { depth = 64; file = file 1 0 2 (to 5) (to 5); number = 4 } ∷
    record { depth = 64; file = file 3 0 2 (to 5) (to 5); number = 2 } ∷ []

pub rows_hold : map (λ r. refusal (record { records = 2000; depth = r.depth; logicals = false }) r.file) rows ≡ map (λ r. r.number) rows
unfolding u16_at u32_at tree.all_nodes tree.recur tree.each below.all_below rec.symbol_yes rec.allowed_facts rec.bits_within rec.pairs_ok rec.literal_ok
    rec.is_void_not_or_typeof rec.is_comparison rec.never_symbol_alone rec.symbol_ok rec.facts_ok rec.element_sub_ok rec.sub_ok rec.record_ok rec.included
    rec.logical_taken symbol.is_addition symbol.string_fact symbol.is_string_rule symbol.is_string symbol.is_string_addition symbol.addition_agrees
    children.child_count_ok children.may_stand layout.version_in layout.width layout.span layout.start
    fields.place_in rec.end_ok refusals.mark_ok refusals.version_ok refusals.settings_ok refusals.count_ok refusals.records_ok refusals.all_taken refusals.children_end
    refusals.shape_at refusals.shape_ok refusals.decode refusals.tree_of refusals.additions_ok refusals.ends_ok refusals.depth_ok refusal
rows_hold = refl
