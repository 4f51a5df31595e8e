-- Which outcome a handler chooses.
use Rattle.std.specs.Prelude.{Bool, cond, eqb}
use Rattle.tree.specs.Tree.{Tree}
use Rattle.rules.specs.Settings.{Settings, derived}
use Rattle.rules.specs.Handler.{Handler, handler}
use Rattle.rules.specs.Facts.{flagged, of_identifier, pure_new, pure_call, has_side_effects_or_preserved_iife, unchanged_template, only_spreads, flagged_child}
use Rattle.rules.specs.Class.{kept_class}
use Rattle.handlers.specs.declared.outcome.Outcome.{Outcome}
use Rattle.handlers.specs.declared.outcome.Outcome.TheVariants.{Removable, Unchanged, Unwrapped, Rewritten, Arguments, Addition, Class, Conditional}
use Rattle.handlers.specs.declared.outcome.Rewrite.TheVariants.{Sequence, Array, Template, Object, Comparison}

-- Removable exactly if the test fails, else unchanged.
abbrev pub stays_if : Bool → Outcome
stays_if b = cond b Unchanged Removable

-- "Typeof of an identifier reference is removable, flagged or not; other typeof becomes its reduced argument."
abbrev pub of_typeof : Tree → Outcome
of_typeof t = cond (of_identifier t) Removable Unwrapped

-- "unflagged: removable. Else `fold_string_addition_chain`"
abbrev pub of_addition : Tree → Outcome
of_addition t = cond (flagged t) Addition Removable

-- "A pure one loses its callee"; "An impure call is removable exactly if unflagged, and not if tree-shake-only is on and the callee
-- is a function or arrow."
abbrev pub of_call : Settings → Tree → Outcome
of_call s t = cond (pure_call s t) Arguments (stays_if (has_side_effects_or_preserved_iife s t))

-- "An impure new always stays."
abbrev pub of_new : Settings → Tree → Outcome
of_new s t = cond (pure_new s t) Arguments Unchanged

-- "All possibly symbols and text 0: unchanged."
abbrev pub of_template : Tree → Outcome
of_template t = cond (unchanged_template t) Unchanged (Rewritten Template)

-- "Only spreads: removable exactly if none is flagged, else unchanged."
abbrev pub of_object : Tree → Outcome
of_object t = cond (only_spreads t) (stays_if (flagged_child t)) (Rewritten Object)

-- "kept if decorated, .. Else extracted"
abbrev pub of_class : Tree → Outcome
of_class t = cond (kept_class t) Unchanged Class

-- 02, N1: "Unflagged is removable. Else both arms are reduced"
abbrev pub of_conditional : Tree → Outcome
of_conditional t = cond (flagged t) Conditional Removable

abbrev pub chosen : Handler → Settings → Tree → Outcome
chosen Handler.leaf s t = stays_if (flagged t)
chosen Handler.this s t = stays_if (derived s)
chosen Handler.void_or_not s t = Unwrapped
chosen Handler.typeof s t = of_typeof t
chosen Handler.other_unary s t = stays_if (flagged t)
chosen Handler.sequence s t = Rewritten Sequence
chosen Handler.array s t = Rewritten Array
chosen Handler.template s t = of_template t
chosen Handler.object s t = of_object t
chosen Handler.comparison s t = Rewritten Comparison
chosen Handler.addition s t = of_addition t
chosen Handler.other_binary s t = stays_if (flagged t)
chosen Handler.call s t = of_call s t
chosen Handler.new s t = of_new s t
chosen Handler.class s t = of_class t
chosen Handler.conditional s t = of_conditional t
chosen Handler.logical_and s t = Unchanged
chosen Handler.logical_or s t = Unchanged
chosen Handler.elision s t = Removable
chosen Handler.spread s t = stays_if (flagged t)
chosen Handler.property s t = Unwrapped
chosen Handler.element s t = Unchanged
chosen Handler.left_out s t = Unchanged

-- "unary (sub 1 void, 2 not, 3 typeof, 4 other)"
abbrev pub of_unary : Tree → Outcome
of_unary t =
    cond (eqb t.head.sub 1) Unwrapped
    (cond (eqb t.head.sub 2) Unwrapped
    (cond (eqb t.head.sub 3) (of_typeof t) (stays_if (flagged t))))

-- "binary (sub 1 comparison, one of the Rust's eight; 2 addition; 3 other)"
abbrev pub of_binary : Tree → Outcome
of_binary t = cond (eqb t.head.sub 1) (Rewritten Comparison) (cond (eqb t.head.sub 2) (of_addition t) (stays_if (flagged t)))

-- What a node's own handler chooses for it.
unfoldable pub choice : Settings → Tree → Outcome
choice s t = chosen (handler t.head) s t
