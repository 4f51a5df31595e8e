use Rattle.std.specs.Prelude.{◌≡◌, refl, true, List, [], ◌∷◌, map, Option, None, Some, IfSome, option_map, ℕ, ◌+◌}
use Rattle.std.specs.Iterator.{Drains, Yields}
use Rattle.std.specs.List.{last_or}
use Rattle.std.proofs.Common.{sym, ap, subst, ◌∙◌, arith}
use Rattle.std.proofs.lemmas.Iterator.{YieldsList, items_from_drains}
use Rattle.tree.specs.Tree.{size}
use Rattle.readings.specs.Yields.{StepsTree, steps_yield}
use Rattle.rules.specs.Handler.{is_sequence}
use Rattle.readings.specs.Sequence.{last_found, last_missing, last_empty, last_or_itself, last_own, last_sequence}
use Rattle.readings.specs.View.{tree}
use Rattle.readings.specs.declared.node.Node.{Node}
use Rattle.readings.specs.declared.node.Trees.{Trees}
use Rattle.readings.proofs.node.Node.+last_expression_in_sequence.Goals as goal

-- The last of what an iterator yields.
last_from_yields_List : {S A B : Type 0} {steps : S → Option A → S → Type 0} {v : A → B} {s : S} {all : List B} (r : Option A)
    → ((xs : List A) × Drains steps s xs × (r ≡ last_or None xs)) → YieldsList steps v s all → option_map v r ≡ last_or None all
last_from_yields_List {A} {B} {v} r h y =
    ap (option_map v) h.2
    ∙ go None h.0
    ∙ ap (last_or None) (items_from_drains h.0 (h.1.1.0, h.1.1.1, λ _. (h.1.0, h.1.1.2)) y)
  where
    go : (o : Option A) (xs : List A) → option_map v (last_or o xs) ≡ last_or (option_map v o) (map v xs)
    go o [] = refl
    go o (x ∷ xs) = go (Some x) xs

-- A node of the same bytes that ends at e.
abbrev EndsAt : List ℕ → ℕ → Node → Type 0
EndsAt s e n = (n.record.src.now ≡ s) × (n.record.at + size (tree n) ≡ e)

-- The last that a walk gave ends where the walk then stands.
last_ends : (xs : List Node) (o : Option Node) (w t : Trees) (s : List ℕ) (e : ℕ) → w.src.now ≡ s → w.end ≡ e → IfSome o (EndsAt s w.at) → Yields StepsTree w xs t
    → IfSome (last_or o xs) (EndsAt s t.at) × (t.end ≡ e)
last_ends [] o w t s e es ee h y = (subst (λ (u : Trees). IfSome o (EndsAt s u.at)) y h, ap (λ (u : Trees). u.end) (sym y) ∙ ee)
last_ends (x ∷ xs) o w t s e es ee h y =
    let p = y.1.3 in
    last_ends xs (Some x) y.0 t s e (y.1.1 ∙ es) (p.0 ∙ ee) (y.1.2 ∙ es, omega (arith, p.1.0, p.1.1)) y.2

last_at_end : (w : Trees) (s : List ℕ) (e : ℕ) (n : Node) → w.src.now ≡ s → w.end ≡ e → (xs : List Node) × Drains StepsTree w xs × (Some n ≡ last_or None xs) → EndsAt s e n
last_at_end w s e n es ee h =
    let l = last_ends h.0 None w h.1.1.0 s e es ee tt h.1.1.1 in
    let x : EndsAt s h.1.1.0.at n = subst (λ (o : Option Node). IfSome o (EndsAt s h.1.1.0.at)) (sym h.2) l.0 in
    (x.0, x.1 ∙ h.1.1.2.3.1 ∙ l.1)

pub returns-then-not-is_kind-clause-last : goal.returns-then-not-is_kind-clause-last
returns-then-not-is_kind-clause-last t c = sym (last_own (tree c.args.self) (sym c.is_kind.ensures ∙ c.if-not-is_kind.true))

pub last_expression_in_sequence-requires : goal.last_expression_in_sequence-requires
last_expression_in_sequence-requires t c =
    let found = last_found (tree c.args.self) (tree c.in-Some.last) (last_from_yields_List _ c.in-Some.ensures.ran (steps_yield _ c.children.ensures.trees)) in
    (omega (arith, found.1, c.decreases), tt)

pub returns-in-Some-clause-last : goal.returns-in-Some-clause-last
returns-in-Some-clause-last t c =
    let found = last_found (tree c.args.self) (tree c.in-Some.last) (last_from_yields_List _ c.in-Some.ensures.ran (steps_yield _ c.children.ensures.trees)) in
    let sequence : is_sequence (tree c.args.self) ≡ true = sym c.is_kind.ensures ∙ c.if-not-is_kind.false in
    c.last_expression_in_sequence.ensures.last ∙ sym (last_sequence (tree c.args.self) sequence ∙ ap last_or_itself found.0)

pub returns-in-Some-clause-source : goal.returns-in-Some-clause-source
returns-in-Some-clause-source t c =
    c.last_expression_in_sequence.ensures.source ∙ (last_at_end _ _ _ _ c.children.ensures.source c.children.ensures.ends c.in-Some.ensures.ran).0

pub returns-in-Some-clause-ends : goal.returns-in-Some-clause-ends
returns-in-Some-clause-ends t c =
    c.last_expression_in_sequence.ensures.ends ∙ (last_at_end _ _ _ _ c.children.ensures.source c.children.ensures.ends c.in-Some.ensures.ran).1

pub returns-in-None-clause-last : goal.returns-in-None-clause-last
returns-in-None-clause-last t c =
    let missing = last_missing (tree c.args.self) (last_from_yields_List _ c.in-None.ensures.ran (steps_yield _ c.children.ensures.trees)) in
    sym (last_empty (tree c.args.self) missing)
