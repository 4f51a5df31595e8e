-- The laws of the named predicates, and of the nodes that rules make. Where the definition of a predicate changes, its laws here are
-- proved anew; the other proofs rest on these laws, and on the predicates' names.
use Rattle.std.specs.Prelude.{Bool, true, false, not, ◌&&◌, ◌||◌, List, [], ◌∷◌, ◌≡◌, refl, ℕ, eqb, take}
use Rattle.std.proofs.Common.{true≢false, sym, ap, ap₂, eqb-true}
use Rattle.std.proofs.lemmas.Bool.{not-true}
use Rattle.tree.specs.Below.{and_left, and_right}
use Rattle.tree.specs.Tree.{Place, Head, Tree, trees, trees_forest, recur, each, All}
use Rattle.tree.specs.Heads.{as_kind}
use Rattle.tree.specs.Record.{symbol_pair, symbol_yes, never_symbol_alone}
use Rattle.tree.specs.Symbol.{is_addition, string_fact, is_string_rule, is_string, is_string_addition, never_symbol, addition_agrees}
use Rattle.tree.specs.Kind as kind
use Rattle.rules.specs.Lists.{any, every}
use Rattle.rules.specs.Settings.{Settings}
use Rattle.rules.specs.Handler.{Handler, handler, is_kind, is_literal, is_identifier, is_spread, is_sequence, is_arrow, is_function, first_is}
use Rattle.rules.specs.Facts.{flagged, clear, possible_symbol, preserved_iife, has_side_effects_or_preserved_iife, unchanged_template, only_spreads, flagged_child, test_is_yes}
use Rattle.rules.specs.Made.{make_array, make_object, make_template, empty_literal, with_children}
use Rattle.rules.specs.Addition.{is_dropped_right}
use Rattle.rules.specs.Class.{elements, static_value, decorated_class, decorated_element, index_signature, nonempty_static_block, flagged_static_value, arrow_heritage, kept_class}
use Rattle.rules.specs.Effects.{class_is_effect}
use Rattle.rules.proofs.Lists.{or_false_l, none_all}

-- A node of a kind is taken by that kind's handler.
handled_at : (h : Head) (k u : ℕ) → h.kind ≡ k → h.sub ≡ u → handler h ≡ handler (as_kind h k u)
handled_at h k u p q = ap₂ (λ k u. handler (as_kind h k u)) p q

pub handled : (t : Tree) (k : ℕ) → is_kind k t ≡ true → handler t.head ≡ handler (as_kind t.head k t.head.sub)
unfolding is_kind
handled t k e = handled_at t.head k t.head.sub (eqb-true t.head.kind k e) refl

pub literal_handled : (t : Tree) → is_literal t ≡ true → handler t.head ≡ Handler.leaf
unfolding handler
literal_handled t e = handled t kind.literal e

pub spread_handled : (t : Tree) → is_spread t ≡ true → handler t.head ≡ Handler.spread
unfolding handler
spread_handled t e = handled t kind.spread e

pub sequence_handled : (t : Tree) → is_sequence t ≡ true → handler t.head ≡ Handler.sequence
unfolding handler
sequence_handled t e = handled t kind.sequence e

pub call_handled : (t : Tree) → is_kind kind.call t ≡ true → handler t.head ≡ Handler.call
unfolding handler
call_handled t e = handled t kind.call e

pub addition_handled : (t : Tree) → is_addition t ≡ true → handler t.head ≡ Handler.addition
unfolding handler is_addition is_kind
addition_handled t e =
    handled_at t.head kind.binary 2 (eqb-true t.head.kind kind.binary (and_left (eqb t.head.kind kind.binary) (eqb t.head.sub 2) e))
    (eqb-true t.head.sub 2 (and_right (eqb t.head.kind kind.binary) (eqb t.head.sub 2) e))

pub addition_no_literal : (t : Tree) → is_addition t ≡ true → is_literal t ≡ false
unfolding is_addition is_kind
addition_no_literal t e =
    rw (eqb-true t.head.kind kind.binary (and_left (eqb t.head.kind kind.binary) (eqb t.head.sub 2) e))

pub array_handled : (p : Place) (ts : List Tree) → handler (make_array p ts).head ≡ Handler.array
unfolding handler make_array
array_handled p ts = refl

-- "A literal has exactly 18": its flag is clear.
pub eighteen_clear : (t : Tree) → t.head.facts ≡ 18 → flagged t ≡ false
unfolding flagged
eighteen_clear t e = rw e

-- The empty literal: unflagged, and a string.
pub empty_clear : (p : Place) → flagged (empty_literal p) ≡ false
unfolding flagged empty_literal
empty_clear p = refl

pub empty_string_fact : (p : Place) → string_fact (empty_literal p) ≡ true
unfolding string_fact empty_literal
empty_string_fact p = refl

pub empty_handled : (p : Place) → handler (empty_literal p).head ≡ Handler.leaf
unfolding handler empty_literal
empty_handled p = refl

pub empty_string : (p : Place) → is_string (empty_literal p) ≡ true
unfolding is_string is_string_rule recur each empty_literal is_addition string_fact
empty_string p = refl

-- What is read of the head alone.
pub same_flag : (t : Tree) (ts : List Tree) → flagged (with_children t ts) ≡ flagged t
unfolding flagged with_children
same_flag t ts = refl

pub same_literal : (t : Tree) (ts : List Tree) → is_literal (with_children t ts) ≡ is_literal t
unfolding is_kind with_children
same_literal t ts = refl

-- A node with the same record, that is a string exactly if the other is: a side that is left as it was, but for the fold under it.
same_never : (f t : Tree) → f.head ≡ t.head → is_string f ≡ is_string t → never_symbol f ≡ never_symbol t
unfolding never_symbol is_string_addition is_addition
same_never f t e w = ap₂ (λ (h : Head) (string : Bool). never_symbol_alone h || ((eqb h.kind kind.binary && eqb h.sub 2) && string)) e w

pub same_symbol : (f t : Tree) → f.head ≡ t.head → is_string f ≡ is_string t → possible_symbol f ≡ possible_symbol t
unfolding possible_symbol
same_symbol f t e w = ap₂ (λ (never : Bool) (h : Head). not (never || eqb (symbol_pair h.facts) 1)) (same_never f t e w) e

-- A node over other children, an addition of which is a string exactly if it was one.
pub same_agrees : (t : Tree) (ts : List Tree) → (is_addition t ≡ true → is_string (with_children t ts) ≡ is_string t) → addition_agrees (with_children t ts) ≡ addition_agrees t
unfolding addition_agrees is_string_addition is_addition with_children
same_agrees t ts h = ap (λ b. not (symbol_yes t.head && b)) (go (is_addition t) refl)
  where
    go : (b : Bool) → is_addition t ≡ b → (b && is_string (with_children t ts)) ≡ (b && is_string t)
    go true e = h e
    go false e = refl

-- No symbol is recorded.
pub unrecorded_agrees : (t : Tree) → not (symbol_yes t.head) ≡ true → addition_agrees t ≡ true
unfolding addition_agrees
unrecorded_agrees t e = rw (not-true (symbol_yes t.head) e)

pub dropped_no_symbol : (r : Tree) → is_dropped_right r ≡ true → possible_symbol r ≡ false
unfolding is_dropped_right
dropped_no_symbol r e = not-true (possible_symbol r) (and_left (not (possible_symbol r)) (clear r) e)

pub dropped_clear : (r : Tree) → is_dropped_right r ≡ true → flagged r ≡ false
unfolding is_dropped_right
dropped_clear r e = not-true (flagged r) (and_right (not (possible_symbol r)) (clear r) e)

-- A call that goes is unflagged.
pub gone_call_clear : (s : Settings) (t : Tree) → has_side_effects_or_preserved_iife s t ≡ false → flagged t ≡ false
unfolding has_side_effects_or_preserved_iife
gone_call_clear s t e = or_false_l (flagged t) (preserved_iife s t) e

-- A callee that is a function or arrow is no identifier.
pub function_no_identifier : (t : Tree) → first_is is_function t ≡ true → first_is is_identifier t ≡ false
unfolding is_kind
function_no_identifier t e = of_first (trees t.kids) e
  where
    of_two_lem : (function arrow identifier : Bool) → (function ≡ true → identifier ≡ false) → (arrow ≡ true → identifier ≡ false)
        → ((function || arrow) || false) ≡ true → (identifier || false) ≡ false
    of_two_lem true arrow identifier p q h = rw (p refl)
    of_two_lem false true identifier p q h = rw (q refl)
    of_two_lem false false identifier p q h = absurd (true≢false (sym h))

    of_first : (ts : List Tree) → any is_function (take 1 ts) ≡ true → any is_identifier (take 1 ts) ≡ false
    of_first [] h = refl
    of_first (c ∷ cs) h =
        of_two_lem (is_kind kind.function c) (is_arrow c) (is_identifier c)
        (λ k. rw (eqb-true c.head.kind kind.function k)) (λ k. rw (eqb-true c.head.kind kind.arrow k)) h

-- An object of spreads alone that goes has no flagged one.
pub flagged_child_lem : (t : Tree) → flagged_child t ≡ false → All (λ c. flagged c ≡ false) (trees t.kids)
unfolding flagged_child
flagged_child_lem t e = none_all flagged (trees t.kids) e

-- A test that stays a node's first child.
pub same_test : (s : Settings) (t u q : Tree) (xs ys : List Tree) → trees t.kids ≡ q ∷ xs → trees u.kids ≡ q ∷ ys → test_is_yes s t ≡ test_is_yes s u
unfolding test_is_yes
same_test s t u q xs ys e f = rw (e, f)

-- What waited is left unchanged as a made template or object.
pub made_template_unchanged : (p : Place) (x : Tree) (xs : List Tree) → every possible_symbol (x ∷ xs) ≡ true → unchanged_template (make_template p (x ∷ xs)) ≡ true
unfolding unchanged_template make_template
made_template_unchanged p x xs e =
    rw (trees_forest xs, and_left (possible_symbol x) (every possible_symbol xs) e, and_right (possible_symbol x) (every possible_symbol xs) e)

pub made_object_only_spreads : (p : Place) (ts : List Tree) → every is_spread ts ≡ true → only_spreads (make_object p ts) ≡ true
unfolding only_spreads make_object
made_object_only_spreads p ts e = rw (trees_forest ts, e)

-- A class that is not kept.
pub record NotKept (t : Tree) : Type 0 where
  pub no_effect : class_is_effect t ≡ false
  pub no_block : any nonempty_static_block (elements t) ≡ false
  pub no_value : any flagged_static_value (elements t) ≡ false

pub no_flagged_value : (e : Tree) → flagged_static_value e ≡ false → any flagged (static_value e) ≡ false
unfolding flagged_static_value
no_flagged_value e h = h

none_of_six : (a b c d e f : Bool) → (a || (b || (c || (d || (e || f))))) ≡ false → ((a || (b || f)) ≡ false) × (d ≡ false) × (e ≡ false)
none_of_six true b c d e f h = absurd (true≢false h)
none_of_six false true c d e f h = absurd (true≢false h)
none_of_six false false true d e f h = absurd (true≢false h)
none_of_six false false false true e f h = absurd (true≢false h)
none_of_six false false false false true f h = absurd (true≢false h)
none_of_six false false false false false f h = (h, refl, refl)

pub not_kept : (t : Tree) → kept_class t ≡ false → NotKept t
unfolding kept_class class_is_effect
not_kept t h =
    let es = elements t in
    let n = none_of_six (decorated_class t) (any decorated_element es) (any index_signature es) (any nonempty_static_block es) (any flagged_static_value es) (arrow_heritage t) h in
    record { no_effect = n.0; no_block = n.1; no_value = n.2 }
