-- A node of each kind: what its handler chooses, and what that counts on.
use Rattle.std.specs.Prelude.{◌≡◌, refl, Bool, true, false, cond, ◌||◌, ◌≤◌, eqb, leb, None, is_some}
use Rattle.std.proofs.Common.{sym, ap, ◌∙◌, eqb-true, leb-true, ne_eqb, true≢false, arith}
use Rattle.std.proofs.lemmas.Option.{none-some}
use Rattle.std.proofs.lemmas.Bool.{false_from_ne_true}
use borrow.Author.Tests.{le-leb}
use Rattle.tree.specs.Below.{and_both, and_left, and_right}
use Rattle.tree.specs.Tree.{Tree, count}
use Rattle.tree.specs.Kind as kind
use Rattle.tree.specs.Children.{child_count_ok, node_ok}
use Rattle.tree.specs.Children as children
use Rattle.tree.specs.Stands.{node_parts}
use Rattle.rules.specs.Settings.{Settings, derived}
use Rattle.rules.specs.Handler.{Handler, handler, unary_handler, binary_handler, logical_handler}
use Rattle.rules.specs.Facts.{flagged}
use Rattle.fields.specs.Kind.{kind_of, kind_back, known, number_of}
use Rattle.fields.specs.declared.kind.Kind.{Kind}
use Rattle.fields.specs.declared.kind.Kind.TheVariants as kinds
use Rattle.handlers.specs.declared.outcome.Outcome.TheVariants.{Removable, Unchanged, Unwrapped, Rewritten}
use Rattle.handlers.specs.declared.outcome.Rewrite.TheVariants.{Array, Comparison, Sequence}
use Rattle.handlers.specs.Outcome.{HandledAs}
use Rattle.handlers.specs.Choice.{stays_if, chosen, choice, of_typeof, of_addition, of_unary, of_binary, of_call, of_new, of_template, of_object, of_class, of_conditional}
use Rattle.handlers.specs.Table.{Counted, handled}

module _ (t : Tree) (ok : child_count_ok t.head (count t.kids) ≡ true) where
  either : (b : Bool) (h g : Handler) → (b ≡ true → Counted h t) → (b ≡ false → Counted g t) → Counted (cond b h g) t
  either true h g x y = x refl
  either false h g x y = y refl

  unary : Counted (unary_handler t.head.sub) t
  unary = either (eqb t.head.sub 1 || eqb t.head.sub 2) _ _ (λ _. tt) (λ _. either (eqb t.head.sub 3) _ _ (λ _. tt) (λ _. tt))

  binary : t.head.kind ≡ kind.binary → Counted (binary_handler t.head.sub) t
  unfolding child_count_ok
  binary e =
      let two : eqb (count t.kids) 2 ≡ true = rw e at ok in
      either (eqb t.head.sub 1) _ _ (λ _. tt)
      (λ _. either (eqb t.head.sub 2) _ _ (λ a. (e, eqb-true t.head.sub 2 a, eqb-true (count t.kids) 2 two)) (λ _. tt))

  class : t.head.kind ≡ kind.class → Counted Handler.class t
  unfolding child_count_ok
  class e = let all : leb (children.heritage t.head) (count t.kids) ≡ true = rw e at ok in (e, leb-true (children.heritage t.head) (count t.kids) all)

  conditional : t.head.kind ≡ kind.conditional → Counted Handler.conditional t
  unfolding child_count_ok
  conditional e = let three : eqb (count t.kids) 3 ≡ true = rw e at ok in (e, eqb-true (count t.kids) 3 three)

  -- What its handler counts on is so.
  counted : Counted (handler t.head) t
  unfolding handler child_count_ok
  counted =
      let k = t.head.kind in
      either (kind.is_leaf k) _ _ (λ _. tt)
      (λ _. either (eqb k kind.this) _ _ (λ _. tt)
      (λ _. either (eqb k kind.array) _ _ (λ _. tt)
      (λ _. either (eqb k kind.elision) _ _ (λ _. tt)
      (λ _. either (eqb k kind.spread) _ _ (λ _. tt)
      (λ _. either (eqb k kind.object) _ _ (λ _. tt)
      (λ _. either (eqb k kind.property) _ _ (λ _. tt)
      (λ _. either (eqb k kind.template) _ _ (λ _. tt)
      (λ _. either (eqb k kind.sequence) _ _ (λ _. tt)
      (λ _. either (eqb k kind.unary) _ _ (λ _. unary)
      (λ _. either (eqb k kind.binary) _ _ (λ e. binary (eqb-true k kind.binary e))
      (λ _. either (eqb k kind.call) _ _ (λ e. let some : leb 1 (count t.kids) ≡ true = rw (eqb-true k kind.call e) at ok in leb-true 1 (count t.kids) some)
      (λ _. either (eqb k kind.new) _ _ (λ e. let some : leb 1 (count t.kids) ≡ true = rw (eqb-true k kind.new e) at ok in leb-true 1 (count t.kids) some)
      (λ _. either (eqb k kind.class) _ _ (λ e. class (eqb-true k kind.class e))
      (λ _. either (eqb k kind.element) _ _ (λ _. tt)
      (λ _. either (eqb k kind.logical) _ _ (λ _. either (eqb t.head.sub 1) _ _ (λ _. tt) (λ _. tt))
      (λ _. either (eqb k kind.conditional) _ _ (λ e. conditional (eqb-true k kind.conditional e)) (λ _. tt)))))))))))))))))

-- Its choice is what becomes of a node that passes its tests.
pub choice_handled : (s : Settings) (t : Tree) → node_ok t.head t.kids ≡ true → HandledAs s t (choice s t)
unfolding choice
choice_handled s t ok = handled s t (handler t.head) refl (counted t (node_parts t.head t.kids ok).counted)

-- The choice by a node's kind.
module _ (s : Settings) (t : Tree) where
  by_handler : (h : Handler) → handler t.head ≡ h → choice s t ≡ chosen h s t
  unfolding choice
  by_handler h e = ap (λ (g : Handler). chosen g s t) e

  pub at_leaf : 1 ≤ t.head.kind → t.head.kind ≤ 5 → choice s t ≡ stays_if (flagged t)
  unfolding handler
  at_leaf a b = by_handler Handler.leaf (rw (le-leb 1 t.head.kind a, le-leb t.head.kind 5 b))

  pub at_this : t.head.kind ≡ kind.this → choice s t ≡ stays_if (derived s)
  unfolding handler
  at_this e = by_handler Handler.this (rw e)

  pub at_array : t.head.kind ≡ kind.array → choice s t ≡ Rewritten Array
  unfolding handler
  at_array e = by_handler Handler.array (rw e)

  pub at_elision : t.head.kind ≡ kind.elision → choice s t ≡ Removable
  unfolding handler
  at_elision e = by_handler Handler.elision (rw e)

  pub at_spread : t.head.kind ≡ kind.spread → choice s t ≡ stays_if (flagged t)
  unfolding handler
  at_spread e = by_handler Handler.spread (rw e)

  pub at_object : t.head.kind ≡ kind.object → choice s t ≡ of_object t
  unfolding handler
  at_object e = by_handler Handler.object (rw e)

  pub at_property : t.head.kind ≡ kind.property → choice s t ≡ Unwrapped
  unfolding handler
  at_property e = by_handler Handler.property (rw e)

  pub at_template : t.head.kind ≡ kind.template → choice s t ≡ of_template t
  unfolding handler
  at_template e = by_handler Handler.template (rw e)

  pub at_sequence : t.head.kind ≡ kind.sequence → choice s t ≡ Rewritten Sequence
  unfolding handler
  at_sequence e = by_handler Handler.sequence (rw e)

  pub at_unary : t.head.kind ≡ kind.unary → choice s t ≡ of_unary t
  unfolding handler
  at_unary e = by_handler (unary_handler t.head.sub) (rw e) ∙ go (eqb t.head.sub 1) (eqb t.head.sub 2) (eqb t.head.sub 3)
    where
      go : (x y z : Bool) → chosen (cond (x || y) Handler.void_or_not (cond z Handler.typeof Handler.other_unary)) s t
          ≡ cond x Unwrapped (cond y Unwrapped (cond z (of_typeof t) (stays_if (flagged t))))
      go true y z = refl
      go false true z = refl
      go false false true = refl
      go false false false = refl

  pub at_binary : t.head.kind ≡ kind.binary → choice s t ≡ of_binary t
  unfolding handler
  at_binary e = by_handler (binary_handler t.head.sub) (rw e) ∙ go (eqb t.head.sub 1) (eqb t.head.sub 2)
    where
      go : (x y : Bool) → chosen (cond x Handler.comparison (cond y Handler.addition Handler.other_binary)) s t
          ≡ cond x (Rewritten Comparison) (cond y (of_addition t) (stays_if (flagged t)))
      go true y = refl
      go false true = refl
      go false false = refl

  pub at_call : t.head.kind ≡ kind.call → choice s t ≡ of_call s t
  unfolding handler
  at_call e = by_handler Handler.call (rw e)

  pub at_new : t.head.kind ≡ kind.new → choice s t ≡ of_new s t
  unfolding handler
  at_new e = by_handler Handler.new (rw e)

  pub at_class : t.head.kind ≡ kind.class → choice s t ≡ of_class t
  unfolding handler
  at_class e = by_handler Handler.class (rw e)

  pub at_element : t.head.kind ≡ kind.element → choice s t ≡ Unchanged
  unfolding handler
  at_element e = by_handler Handler.element (rw e)

  pub at_logical : t.head.kind ≡ kind.logical → choice s t ≡ Unchanged
  unfolding handler
  at_logical e = by_handler (logical_handler t.head.sub) (rw e) ∙ go (eqb t.head.sub 1)
    where
      go : (x : Bool) → chosen (cond x Handler.logical_and Handler.logical_or) s t ≡ Unchanged
      go true = refl
      go false = refl

  pub at_conditional : t.head.kind ≡ kind.conditional → choice s t ≡ of_conditional t
  unfolding handler
  at_conditional e = by_handler Handler.conditional (rw e)

  pub at_assignment : t.head.kind ≡ kind.assignment → choice s t ≡ Unchanged
  unfolding handler
  at_assignment e = by_handler Handler.left_out (rw e)

  pub at_no_kind : kind_of t.head.kind ≡ None → choice s t ≡ Unchanged
  unfolding handler
  at_no_kind e = by_handler Handler.left_out (rw (
    no_leaf,
    none kinds.This,
    none kinds.Array,
    none kinds.Elision,
    none kinds.Spread,
    none kinds.Object,
    none kinds.Property,
    none kinds.Template,
    none kinds.Sequence,
    none kinds.Unary,
    none kinds.Binary,
    none kinds.Call,
    none kinds.New,
    none kinds.Class,
    none kinds.Element,
    none kinds.Logical,
    none kinds.Conditional,
  ))
    where
      none : (k : Kind) → eqb t.head.kind (number_of k) ≡ false
      none k = ne_eqb t.head.kind (number_of k) (λ x. none-some k (sym e ∙ ap kind_of x ∙ kind_back k))

      no_leaf : kind.is_leaf t.head.kind ≡ false
      no_leaf = false_from_ne_true (kind.is_leaf t.head.kind) (λ x.
          let a = leb-true 1 t.head.kind (and_left (leb 1 t.head.kind) (leb t.head.kind 5) x) in
          let b = leb-true t.head.kind 5 (and_right (leb 1 t.head.kind) (leb t.head.kind 5) x) in
          true≢false (sym (and_both (le-leb 1 t.head.kind a) (le-leb t.head.kind 22 (omega arith))) ∙ sym (known t.head.kind) ∙ ap is_some e))

pub ruleset choices = (
  at_leaf,
  at_this,
  at_array,
  at_elision,
  at_spread,
  at_object,
  at_property,
  at_template,
  at_sequence,
  at_unary,
  at_binary,
  at_call,
  at_new,
  at_class,
  at_element,
  at_logical,
  at_conditional,
  at_assignment,
  at_no_kind,
)
