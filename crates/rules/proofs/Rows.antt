-- 01's rows A to L over the definitions: one table, one proof; and the example of the two-column program. In the table f() and g()
-- are flagged impure calls, and x is unflagged.
use Rattle.std.specs.Prelude.{List, [], ◌∷◌, map, ◌≡◌, refl, ℕ, ◌+◌, ◌*◌}
use Rattle.tree.specs.Tree.{Head, Tree, forest, size, records}
use Rattle.tree.specs.Tree as tree
use Rattle.tree.specs.Kind as kind
use Rattle.tree.specs.Record as rec
use Rattle.tree.specs.Symbol as symbol
use Rattle.rules.specs.Settings.{Settings}
use Rattle.rules.specs.Settings
use Rattle.rules.specs.Handler
use Rattle.rules.specs.Facts
use Rattle.rules.specs.Made
use Rattle.rules.specs.Addition
use Rattle.rules.specs.Class
use Rattle.rules.specs.Reduce.{reduce}
use Rattle.rules.specs.Reduce
use Rattle.rules.specs.Effects.{effects, effects_of}
use Rattle.rules.specs.Effects

abbrev settings : Settings
settings = record { byte = 0; yes = [] }

-- A node of a kind, with facts, sub, text and place, over its children. Its end is told by its start, so that a place whose ends are
-- those of two nodes is none of the table's.
abbrev node : ℕ → ℕ → ℕ → ℕ → ℕ → List Tree → Tree
node kind facts sub text place ts =
    let head : Head = record { kind = kind; facts = facts; sub = sub; reserved = 0; text = text; place = record { start = place; end = place + 100 } } in
    record { head = head; kids = forest ts }

-- An identifier that nothing is known of, and a call of one; a number; a spread of x.
abbrev identifier : ℕ → Tree
identifier place = node kind.identifier 0 0 7 place []

abbrev call : ℕ → ℕ → Tree
call facts place = node kind.call facts 0 0 place (identifier place ∷ [])

abbrev number : ℕ → Tree
number place = node kind.other_leaf 10 0 9 place []

abbrev spread : ℕ → ℕ → Tree
spread facts place = node kind.spread facts 0 0 place (identifier (place + 3) ∷ [])

-- A conditional at 1, with facts; `!x`.
abbrev choice : ℕ → Tree → Tree → Tree → Tree
choice facts q c a = node kind.conditional facts 0 0 1 (q ∷ c ∷ a ∷ [])

abbrev not : ℕ → Tree
not place = node kind.unary 0 2 0 place (identifier (place + 1) ∷ [])

-- `a + (b + "s")`
abbrev right : Tree
right = node kind.binary 0 2 0 2 (identifier 2 ∷ node kind.binary 0 2 0 6 (identifier 6 ∷ node kind.literal 18 0 8 10 [] ∷ []) ∷ [])

pub record Row : Type 0 where
  pub from : Tree
  pub to : List Tree

abbrev pub rows : List Row
rows =
    -- A `[]` removable
    record { from = node kind.array 0 0 0 1 []; to = [] }
    -- B `[f(), ...x]`, spread clear: `f()`
    ∷ record { from = node kind.array 1 0 0 1 (call 1 2 ∷ spread 0 7 ∷ []); to = call 1 2 ∷ [] }
    -- C `(f(), 1)`: a sequence of `f()` alone
    ∷ record { from = node kind.sequence 1 0 0 1 (call 1 2 ∷ number 7 ∷ []); to = node kind.sequence 1 0 0 1 (call 1 2 ∷ []) ∷ [] }
    -- D `typeof y`, y flagged: removable
    ∷ record { from = node kind.unary 0 3 0 1 (node kind.identifier 1 0 7 8 [] ∷ []); to = [] }
    -- E `{...x}`, spread flagged: unchanged
    ∷ record { from = node kind.object 1 0 0 1 (spread 1 2 ∷ []); to = node kind.object 1 0 0 1 (spread 1 2 ∷ []) ∷ [] }
    -- F `{...x, a: f()}`, spread clear: `({...x}), f()`
    ∷ record {
      from = node kind.object 1 0 0 1 (spread 0 2 ∷ node kind.property 0 0 0 8 (call 1 11 ∷ []) ∷ []);
      to = node kind.sequence 1 0 0 1 (node kind.object 0 0 0 8 (spread 0 2 ∷ []) ∷ call 1 11 ∷ []) ∷ [];
    }
    -- G template of only s, unknown, text 0: unchanged
    ∷ record { from = node kind.template 1 0 0 1 (identifier 3 ∷ []); to = node kind.template 1 0 0 1 (identifier 3 ∷ []) ∷ [] }
    -- H text not 0, s unknown, f() no symbol: template of s, then `f()`
    ∷ record {
      from = node kind.template 1 0 9 1 (identifier 3 ∷ call 3 7 ∷ []);
      to = node kind.sequence 1 0 0 1 (node kind.template 1 0 0 7 (identifier 3 ∷ []) ∷ call 3 7 ∷ []) ∷ [];
    }
    -- I `class {static p = 1}`: a sequence of 1
    ∷ record {
      from = node kind.class 0 0 0 1 (node kind.element 0 74 0 7 (number 18 ∷ []) ∷ []);
      to = node kind.sequence 0 0 0 1 (number 18 ∷ []) ∷ [];
    }
    -- J `f() < g()`: `f(), g()`
    ∷ record { from = node kind.binary 1 1 0 1 (call 1 1 ∷ call 1 7 ∷ []); to = node kind.sequence 1 0 0 1 (call 1 1 ∷ call 1 7 ∷ []) ∷ [] }
    -- K `"a" + f()`, flagged, symbol unknown: `"" + f()`
    ∷ record {
      from = node kind.binary 1 2 0 1 (node kind.literal 18 0 8 1 [] ∷ call 1 7 ∷ []);
      to = node kind.binary 1 2 0 1 (node kind.literal 18 0 0 1 [] ∷ call 1 7 ∷ []) ∷ [];
    }
    -- L `new x()`, unflagged, impure: kept
    ∷ record { from = node kind.new 0 0 0 1 (identifier 5 ∷ []); to = node kind.new 0 0 0 1 (identifier 5 ∷ []) ∷ [] }
    -- 02, N9, symbols unknown: of `${f() < x}${"a" + x + 1}` no child waits, so `f()`; of `a + (b + "s")` the right side is no string
    ∷ record {
      from = node kind.template 1 0 0 1 (node kind.binary 1 1 0 2 (call 1 2 ∷ identifier 8 ∷ []) ∷ node kind.binary 0 2 0 9 (node kind.binary 0 2 0 9 (node kind.literal 18 0 8 9 [] ∷ identifier 13 ∷ []) ∷ number 15 ∷ []) ∷ []);
      to = call 1 2 ∷ [];
    }
    ∷ record { from = node kind.template 1 0 0 1 (right ∷ []); to = node kind.template 1 0 0 1 (right ∷ []) ∷ [] }
    -- 02, N1: `!x ? f() : 1`: `!x && f()`, its test unreduced; `!x ? 1 : f()`: `!x || f()`
    ∷ record { from = choice 1 (not 2) (call 1 7) (number 13); to = node kind.logical 1 1 0 1 (not 2 ∷ call 1 7 ∷ []) ∷ [] }
    ∷ record { from = choice 1 (not 2) (number 7) (call 1 13); to = node kind.logical 1 2 0 1 (not 2 ∷ call 1 13 ∷ []) ∷ [] }
    -- `!f() ? 1 : 2`: `f()`; `!x ? 1 : 2`, and unflagged `f() ? f() : g()`: removable
    ∷ record { from = choice 1 (node kind.unary 1 2 0 1 (call 1 2 ∷ [])) (number 8) (number 12); to = call 1 2 ∷ [] }
    ∷ record { from = choice 1 (not 2) (number 7) (number 11); to = [] }
    ∷ record { from = choice 0 (call 1 1) (call 1 7) (call 1 13); to = [] }
    -- `!x ? (f(), 1) : !g()`: `!x ? (f()) : g()`, its test unreduced
    ∷ record {
      from = choice 31 (not 2) (node kind.sequence 1 0 0 7 (call 1 7 ∷ number 13 ∷ [])) (node kind.unary 1 2 0 17 (call 1 18 ∷ []));
      to = choice 31 (not 2) (node kind.sequence 1 0 0 7 (call 1 7 ∷ [])) (call 1 18) ∷ [];
    }
    ∷ []

pub rows_hold : map (λ r. reduce settings r.from) rows ≡ map (λ r. r.to) rows
unfolding reduce tree.recur tree.each Settings.annotations Settings.tree_shake_only Settings.derived Handler.handler
    Handler.is_kind symbol.is_addition symbol.string_fact symbol.is_string_rule symbol.is_string symbol.is_string_addition symbol.never_symbol
    rec.is_void_not_or_typeof rec.is_comparison rec.never_symbol_alone Facts.flagged Facts.possible_symbol
    Facts.annotated Facts.listed Facts.summary_free Facts.pure_new Facts.pure_call_by01 Facts.preserved_iife Facts.pure_call
    Facts.has_side_effects_or_preserved_iife Facts.of_identifier Facts.unchanged_template Facts.only_spreads Facts.flagged_child Made.flag_of Made.make_sequence
    Made.make_array Made.make_object Made.make_template Made.make_logical Made.empty_literal Made.with_children Made.join_sequence
    Addition.emptied_unless_flagged Addition.is_dropped_right Addition.fold_sides Addition.fold_rule
    Addition.fold_string_addition_chain Class.decorated_class Class.has_static_value Class.decorated_element Class.index_signature
    Class.nonempty_static_block Class.flagged_static_value Class.last_rule Class.last_expression_in_sequence Class.arrow_heritage
    Class.kept_class Class.extracted Reduce.reduce_rule
rows_hold = refl

-- `[1, a(), ...b]`, "array, call and spread flagged": `4/16/0` and `9/9/0` in both columns, "records 6 5".
abbrev example : Tree
example = node kind.array 1 0 0 0 (number 1 ∷ call 1 4 ∷ spread 1 9 ∷ [])

abbrev column : List ℕ
column = (4 * 512 + 16 * 2) ∷ (9 * 512 + 9 * 2) ∷ []

pub record Columns : Type 0 where
  pub before : effects settings example ≡ column
  pub after : effects_of settings (reduce settings example) ≡ column
  pub records_before : size example ≡ 6
  pub records_after : records (forest (reduce settings example)) ≡ 5

pub columns : Columns
unfolding reduce effects tree.recur tree.each Settings.annotations Settings.tree_shake_only Handler.handler Handler.is_kind
    Facts.flagged Facts.possible_symbol Facts.annotated Facts.listed Facts.summary_free Facts.pure_new Facts.pure_call_by01
    Facts.preserved_iife Facts.pure_call Facts.has_side_effects_or_preserved_iife Made.with_children Class.has_static_value Class.nonempty_static_block Reduce.reduce_rule
    Effects.itself Effects.evaluate_rule Effects.evaluate
columns = record { before = refl; after = refl; records_before = refl; records_after = refl }

-- 02, N1: `!x ? f() : g()`, x flagged at 3, under lists of the places that count as yes: the test's own place is the one that decides.
abbrev chosen : List ℕ → List ℕ
chosen places = effects (record { byte = 0; yes = places }) (choice 1 (node kind.unary 0 2 0 2 (node kind.identifier 1 0 7 3 [] ∷ [])) (call 1 7) (call 1 13))

abbrev chosen_rows : List (List ℕ)
chosen_rows = chosen [] ∷ chosen (2 ∷ []) ∷ chosen (3 ∷ 7 ∷ 13 ∷ 1 ∷ []) ∷ chosen (9 ∷ 2 ∷ 2 ∷ []) ∷ []

abbrev x : ℕ
x = 3 * 512 + 2 * 2

abbrev f : ℕ
f = 7 * 512 + 16 * 2

abbrev g : ℕ
g = 13 * 512 + 16 * 2

pub chosen_hold : chosen_rows ≡ (x ∷ g ∷ []) ∷ (x ∷ f ∷ []) ∷ (x ∷ g ∷ []) ∷ (x ∷ f ∷ []) ∷ []
unfolding effects tree.recur tree.each Settings.annotations Settings.tree_shake_only Settings.counts_as_yes Handler.handler Handler.is_kind
    Facts.flagged Facts.annotated Facts.listed Facts.summary_free Facts.pure_new Facts.pure_call_by01 Facts.preserved_iife
    Facts.pure_call Facts.test_is_yes
    Class.has_static_value Class.nonempty_static_block Effects.itself Effects.evaluate_rule Effects.evaluate
chosen_hold = refl

-- 02, N5: a call or `new` at 1, with facts, of a callee at 2, with `f()` at 20 as its argument; bit 5 of the facts annotated, 6 listed.
abbrev called : ℕ → ℕ → ℕ → Tree
called kind facts callee = node kind facts 0 0 1 (node callee 0 0 7 2 [] ∷ call 1 20 ∷ [])

-- Under settings (bit 0 annotations, 1 tree-shake-only): a node, what is left of it, and its effect list.
pub record CalledRow : Type 0 where
  pub byte : ℕ
  pub from : Tree
  pub to : List Tree
  pub list : List ℕ

abbrev argument : ℕ
argument = 20 * 512 + 16 * 2

abbrev called_itself : ℕ
called_itself = 1 * 512 + 16 * 2

-- It stays whole, and is an effect itself if flagged; or it is pure, and its argument is left.
abbrev stays : ℕ → Tree → List ℕ → CalledRow
stays byte t own = record { byte = byte; from = t; to = t ∷ []; list = argument ∷ own }

abbrev pure : ℕ → Tree → CalledRow
pure byte t = record { byte = byte; from = t; to = call 1 20 ∷ []; list = argument ∷ [] }

abbrev pub called_rows : List CalledRow
called_rows =
    -- annotated with annotations on: `(function () {})(f())`, unflagged, and `(() => {})(f())`, flagged
    stays 3 (called kind.call 32 kind.function) []
    ∷ stays 3 (called kind.call 33 kind.arrow) (called_itself ∷ [])
    -- listed, annotations on or off; annotated and listed
    ∷ stays 3 (called kind.call 64 kind.arrow) []
    ∷ stays 2 (called kind.call 65 kind.function) (called_itself ∷ [])
    ∷ stays 3 (called kind.call 96 kind.function) []
    -- annotated with annotations off: impure by 01's rule, and kept by it
    ∷ stays 2 (called kind.call 32 kind.arrow) []
    -- tree-shake-only off; the callee an identifier; a `new`
    ∷ pure 1 (called kind.call 97 kind.function)
    ∷ pure 3 (called kind.call 97 kind.identifier)
    ∷ pure 3 (called kind.new 97 kind.function)
    -- as the argument of a pure call
    ∷ record {
      byte = 3;
      from = node kind.call 32 0 0 0 (identifier 0 ∷ called kind.call 96 kind.arrow ∷ []);
      to = called kind.call 96 kind.arrow ∷ [];
      list = argument ∷ [];
    }
    ∷ []

abbrev under : ℕ → Settings
under byte = record { byte = byte; yes = [] }

pub called_left : map (λ r. reduce (under r.byte) r.from) called_rows ≡ map (λ r. r.to) called_rows
unfolding reduce tree.recur tree.each Settings.annotations Settings.tree_shake_only Handler.handler Handler.is_kind
    Facts.flagged Facts.annotated Facts.listed Facts.summary_free Facts.pure_new Facts.pure_call_by01 Facts.preserved_iife
    Facts.pure_call Facts.has_side_effects_or_preserved_iife Reduce.reduce_rule
called_left = refl

pub called_listed : map (λ r. effects (under r.byte) r.from) called_rows ≡ map (λ r. r.list) called_rows
unfolding effects tree.recur tree.each Settings.annotations Settings.tree_shake_only Handler.handler Handler.is_kind
    Facts.flagged Facts.annotated Facts.listed Facts.summary_free Facts.pure_new Facts.pure_call_by01 Facts.preserved_iife
    Facts.pure_call Class.has_static_value Class.nonempty_static_block Effects.itself Effects.evaluate_rule Effects.evaluate
called_listed = refl
