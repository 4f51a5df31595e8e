-- Rows, from the bytes of a file to the text: document 01's example, in both versions, a removable tree, a list that ends before the
-- other, a conditional, a called arrow, a refusal.
use Rattle.std.specs.Prelude.{◌≡◌, refl, List, [], ◌∷◌, map, ℕ, codes}
use Rattle.std.specs.Fmt.{digits}
use Rattle.le.specs.Le.{u16_at, u32_at}
use Rattle.tree.specs.Tree as tree
use Rattle.tree.specs.Below as below
use Rattle.tree.specs.Record as rec
use Rattle.tree.specs.Symbol as symbol
use Rattle.tree.specs.Children as children
use Rattle.tree.specs.Layout as layout
use Rattle.tree.specs.Fields as fields
use Rattle.tree.specs.File as file
use Rattle.tree.specs.Refusal as refusal
use Rattle.rules.specs.Settings as Settings
use Rattle.rules.specs.Handler as Handler
use Rattle.rules.specs.Facts as Facts
use Rattle.rules.specs.Made as Made
use Rattle.rules.specs.Class as Class
use Rattle.rules.specs.Reduce as Reduce
use Rattle.rules.specs.Effects as Effects
use Rattle.effects.specs.Answer as effects
use Rattle.reducer.specs.Answer as reducer
use Rattle.two_columns.specs.Columns.{column, line, lines, side_by_side, records_line, refused_line, table, columns}

-- `[1, a(), ...b]`, "array, call and spread flagged": the header, the array, 1, the call, a, the spread, b.
abbrev example : List ℕ
example =
    85 ∷ 88 ∷ 84 ∷ 1 ∷ 0 ∷ 0 ∷ 6 ∷ 0 ∷
    7 ∷ 1 ∷ 0 ∷ 0 ∷ 3 ∷ 0 ∷ 6 ∷ 0 ∷ 0 ∷ 0 ∷ 0 ∷ 0 ∷ 0 ∷ 0 ∷ 0 ∷ 0 ∷
    5 ∷ 10 ∷ 0 ∷ 0 ∷ 0 ∷ 0 ∷ 1 ∷ 0 ∷ 1 ∷ 0 ∷ 0 ∷ 0 ∷ 1 ∷ 0 ∷ 0 ∷ 0 ∷
    16 ∷ 1 ∷ 0 ∷ 0 ∷ 1 ∷ 0 ∷ 2 ∷ 0 ∷ 0 ∷ 0 ∷ 0 ∷ 0 ∷ 4 ∷ 0 ∷ 0 ∷ 0 ∷
    2 ∷ 0 ∷ 0 ∷ 0 ∷ 0 ∷ 0 ∷ 1 ∷ 0 ∷ 2 ∷ 0 ∷ 0 ∷ 0 ∷ 4 ∷ 0 ∷ 0 ∷ 0 ∷
    9 ∷ 1 ∷ 0 ∷ 0 ∷ 1 ∷ 0 ∷ 2 ∷ 0 ∷ 0 ∷ 0 ∷ 0 ∷ 0 ∷ 9 ∷ 0 ∷ 0 ∷ 0 ∷
    2 ∷ 0 ∷ 0 ∷ 0 ∷ 0 ∷ 0 ∷ 1 ∷ 0 ∷ 3 ∷ 0 ∷ 0 ∷ 0 ∷ 12 ∷ 0 ∷ 0 ∷ 0 ∷ []

-- The same in version 2.
abbrev spanned : List ℕ
spanned =
    85 ∷ 88 ∷ 84 ∷ 2 ∷ 0 ∷ 0 ∷ 6 ∷ 0 ∷
    7 ∷ 1 ∷ 0 ∷ 0 ∷ 3 ∷ 0 ∷ 6 ∷ 0 ∷ 0 ∷ 0 ∷ 0 ∷ 0 ∷ 0 ∷ 0 ∷ 0 ∷ 0 ∷ 14 ∷ 0 ∷ 0 ∷ 0 ∷
    5 ∷ 10 ∷ 0 ∷ 0 ∷ 0 ∷ 0 ∷ 1 ∷ 0 ∷ 1 ∷ 0 ∷ 0 ∷ 0 ∷ 1 ∷ 0 ∷ 0 ∷ 0 ∷ 2 ∷ 0 ∷ 0 ∷ 0 ∷
    16 ∷ 1 ∷ 0 ∷ 0 ∷ 1 ∷ 0 ∷ 2 ∷ 0 ∷ 0 ∷ 0 ∷ 0 ∷ 0 ∷ 4 ∷ 0 ∷ 0 ∷ 0 ∷ 7 ∷ 0 ∷ 0 ∷ 0 ∷
    2 ∷ 0 ∷ 0 ∷ 0 ∷ 0 ∷ 0 ∷ 1 ∷ 0 ∷ 2 ∷ 0 ∷ 0 ∷ 0 ∷ 4 ∷ 0 ∷ 0 ∷ 0 ∷ 5 ∷ 0 ∷ 0 ∷ 0 ∷
    9 ∷ 1 ∷ 0 ∷ 0 ∷ 1 ∷ 0 ∷ 2 ∷ 0 ∷ 0 ∷ 0 ∷ 0 ∷ 0 ∷ 9 ∷ 0 ∷ 0 ∷ 0 ∷ 13 ∷ 0 ∷ 0 ∷ 0 ∷
    2 ∷ 0 ∷ 0 ∷ 0 ∷ 0 ∷ 0 ∷ 1 ∷ 0 ∷ 3 ∷ 0 ∷ 0 ∷ 0 ∷ 12 ∷ 0 ∷ 0 ∷ 0 ∷ 13 ∷ 0 ∷ 0 ∷ 0 ∷ []

-- `[]`
abbrev removable : List ℕ
removable =
    85 ∷ 88 ∷ 84 ∷ 1 ∷ 0 ∷ 0 ∷ 1 ∷ 0 ∷
    7 ∷ 0 ∷ 0 ∷ 0 ∷ 0 ∷ 0 ∷ 1 ∷ 0 ∷ 0 ∷ 0 ∷ 0 ∷ 0 ∷ 0 ∷ 0 ∷ 0 ∷ 0 ∷ []

-- `-a()`, the call flagged and the minus not: its clear flag is read, and is wrong.
abbrev ended : List ℕ
ended =
    85 ∷ 88 ∷ 84 ∷ 1 ∷ 0 ∷ 0 ∷ 3 ∷ 0 ∷
    14 ∷ 0 ∷ 4 ∷ 0 ∷ 1 ∷ 0 ∷ 3 ∷ 0 ∷ 0 ∷ 0 ∷ 0 ∷ 0 ∷ 0 ∷ 0 ∷ 0 ∷ 0 ∷
    16 ∷ 1 ∷ 0 ∷ 0 ∷ 1 ∷ 0 ∷ 2 ∷ 0 ∷ 0 ∷ 0 ∷ 0 ∷ 0 ∷ 1 ∷ 0 ∷ 0 ∷ 0 ∷
    2 ∷ 0 ∷ 0 ∷ 0 ∷ 0 ∷ 0 ∷ 1 ∷ 0 ∷ 1 ∷ 0 ∷ 0 ∷ 0 ∷ 1 ∷ 0 ∷ 0 ∷ 0 ∷ []

-- `a() ? 1 : b()`, conditional and calls flagged, which becomes `a() || b()`: no place counts as yes.
abbrev conditional : List ℕ
conditional =
    85 ∷ 88 ∷ 84 ∷ 1 ∷ 0 ∷ 0 ∷ 6 ∷ 0 ∷
    21 ∷ 1 ∷ 0 ∷ 0 ∷ 3 ∷ 0 ∷ 6 ∷ 0 ∷ 0 ∷ 0 ∷ 0 ∷ 0 ∷ 0 ∷ 0 ∷ 0 ∷ 0 ∷
    16 ∷ 1 ∷ 0 ∷ 0 ∷ 1 ∷ 0 ∷ 2 ∷ 0 ∷ 0 ∷ 0 ∷ 0 ∷ 0 ∷ 0 ∷ 0 ∷ 0 ∷ 0 ∷
    2 ∷ 0 ∷ 0 ∷ 0 ∷ 0 ∷ 0 ∷ 1 ∷ 0 ∷ 1 ∷ 0 ∷ 0 ∷ 0 ∷ 0 ∷ 0 ∷ 0 ∷ 0 ∷
    5 ∷ 10 ∷ 0 ∷ 0 ∷ 0 ∷ 0 ∷ 1 ∷ 0 ∷ 0 ∷ 0 ∷ 0 ∷ 0 ∷ 6 ∷ 0 ∷ 0 ∷ 0 ∷
    16 ∷ 1 ∷ 0 ∷ 0 ∷ 1 ∷ 0 ∷ 2 ∷ 0 ∷ 0 ∷ 0 ∷ 0 ∷ 0 ∷ 10 ∷ 0 ∷ 0 ∷ 0 ∷
    2 ∷ 0 ∷ 0 ∷ 0 ∷ 0 ∷ 0 ∷ 1 ∷ 0 ∷ 2 ∷ 0 ∷ 0 ∷ 0 ∷ 10 ∷ 0 ∷ 0 ∷ 0 ∷ []

-- `/* @__PURE__ */ (() => {})(f())`, f() flagged, with annotations and tree-shake-only on: it stays.
abbrev called : List ℕ
called =
    85 ∷ 88 ∷ 84 ∷ 1 ∷ 0 ∷ 3 ∷ 4 ∷ 0 ∷
    16 ∷ 32 ∷ 0 ∷ 0 ∷ 2 ∷ 0 ∷ 4 ∷ 0 ∷ 0 ∷ 0 ∷ 0 ∷ 0 ∷ 16 ∷ 0 ∷ 0 ∷ 0 ∷
    4 ∷ 0 ∷ 0 ∷ 0 ∷ 0 ∷ 0 ∷ 1 ∷ 0 ∷ 0 ∷ 0 ∷ 0 ∷ 0 ∷ 17 ∷ 0 ∷ 0 ∷ 0 ∷
    16 ∷ 1 ∷ 0 ∷ 0 ∷ 1 ∷ 0 ∷ 2 ∷ 0 ∷ 0 ∷ 0 ∷ 0 ∷ 0 ∷ 27 ∷ 0 ∷ 0 ∷ 0 ∷
    2 ∷ 0 ∷ 0 ∷ 0 ∷ 0 ∷ 0 ∷ 1 ∷ 0 ∷ 1 ∷ 0 ∷ 0 ∷ 0 ∷ 27 ∷ 0 ∷ 0 ∷ 0 ∷ []

-- `a && b`, which Reduce does not take.
abbrev logical : List ℕ
logical =
    85 ∷ 88 ∷ 84 ∷ 1 ∷ 0 ∷ 0 ∷ 3 ∷ 0 ∷
    20 ∷ 0 ∷ 1 ∷ 0 ∷ 2 ∷ 0 ∷ 3 ∷ 0 ∷ 0 ∷ 0 ∷ 0 ∷ 0 ∷ 0 ∷ 0 ∷ 0 ∷ 0 ∷
    2 ∷ 0 ∷ 0 ∷ 0 ∷ 0 ∷ 0 ∷ 1 ∷ 0 ∷ 1 ∷ 0 ∷ 0 ∷ 0 ∷ 0 ∷ 0 ∷ 0 ∷ 0 ∷
    2 ∷ 0 ∷ 0 ∷ 0 ∷ 0 ∷ 0 ∷ 1 ∷ 0 ∷ 2 ∷ 0 ∷ 0 ∷ 0 ∷ 5 ∷ 0 ∷ 0 ∷ 0 ∷ []

record Row : Type 0 where
  file : List ℕ
  text : List ℕ

abbrev rows : List Row
rows =
    record { file = example; text = codes "before after\n4/16/0 4/16/0\n9/9/0 9/9/0\nrecords 6 5\n" } ∷
    record { file = spanned; text = codes "before after\n4/16/0 4/16/0\n9/9/0 9/9/0\nrecords 6 5\n" } ∷
    record { file = removable; text = codes "before after\nrecords 1 0\n" } ∷
    record { file = ended; text = codes "before after\n1/16/0 -\nrecords 3 0\n" } ∷
    record { file = conditional; text = codes "before after\n0/16/0 0/16/0\n10/16/0 10/16/0\nrecords 6 5\n" } ∷
    record { file = called; text = codes "before after\n27/16/0 27/16/0\nrecords 4 4\n" } ∷
    record { file = logical; text = codes "refused 6\n" } ∷ []

pub rows_hold : map (λ r. columns r.file) rows ≡ map (λ r. r.text) rows
unfolding columns table side_by_side lines line column records_line refused_line digits u16_at u32_at tree.recur tree.each below.all_below
    tree.all_nodes rec.symbol_yes rec.allowed_facts rec.bits_within rec.pairs_ok rec.literal_ok rec.is_void_not_or_typeof rec.is_comparison rec.never_symbol_alone
    rec.symbol_ok rec.facts_ok rec.element_sub_ok rec.sub_ok rec.record_ok rec.included rec.logical_taken symbol.addition_agrees
    children.child_count_ok children.may_stand layout.version_in layout.width layout.span layout.start fields.place_in rec.end_ok file.file_bytes file.preorder file.bytes
    refusal.mark_ok refusal.version_ok refusal.settings_ok refusal.count_ok refusal.records_ok refusal.all_taken refusal.children_end
    refusal.shape_at refusal.shape_ok refusal.decode refusal.tree_of refusal.additions_ok refusal.ends_ok refusal.depth_ok refusal.refusal
    Settings.annotations Settings.tree_shake_only Settings.counts_as_yes Handler.handler Handler.is_kind
    Facts.flagged Facts.possible_symbol Facts.annotated Facts.listed Facts.summary_free Facts.pure_new Facts.pure_call_by01
    Facts.preserved_iife Facts.pure_call Facts.has_side_effects_or_preserved_iife Facts.test_is_yes Made.flag_of Made.make_logical Made.with_children Class.has_static_value Class.nonempty_static_block Reduce.reduce_rule Reduce.reduce
    Effects.itself Effects.evaluate_rule Effects.evaluate Effects.effects
    effects.effect_list_given reducer.left reducer.rewritten reducer.answer_list_given
rows_hold = refl
