-- What an accepted node's children are, by its handler. Acceptance goes by the kind's number, so this is the one place where a proof
-- does too: by cases of a kind from 1 to 21.
use Rattle.std.specs.Prelude.{Bool, cond, ◌&&◌, ◌||◌, [], ◌∷◌, ◌≡◌, leb, take, drop}
use Rattle.std.proofs.Math.Bool.{true, false, and-true}
use Rattle.std.proofs.Common.{⊎_elim, sym, ◌∙◌, ap, ap₂, subst, eq-or-lt_of_le, arith, leb-true, eqb-true}
use Rattle.std.proofs.Math.Path.{refl}
use Prim.Native.Nat.{ℕ, zero, suc, ◌+◌, ◌≤◌, ◌<◌}
use Rattle.std.proofs.Math.Dec.{eqb}
use Rattle.std.proofs.lemmas.Bool.{eqb-false, not-true}
use Rattle.tree.specs.Tree.{Head, Forest, nil, node, Tree, trees, count}
use Rattle.tree.specs.Heads.{as_kind}
use Rattle.tree.specs.Kind as kind
use Rattle.tree.specs.Below.{and_both, and_left, and_right}
use Rattle.tree.specs.Record.{record_ok, facts_ok, sub_ok, included}
use Rattle.tree.specs.Children.{heritage, element_children, child_count_ok, may_stand, children_stand, node_ok}
use Rattle.rules.specs.Lists.{every}
use Rattle.rules.specs.Handler.{Handler, unary_handler, binary_handler, logical_handler, handler}
use Rattle.rules.proofs.Lists.{by_cond, or_false_l}

abbrev pub is_expr : Tree → Bool
is_expr t = kind.is_expression t.head.kind

-- "An array takes expressions, spreads, elisions; arguments are expressions or spreads; an object has only spreads and properties"
abbrev pub is_array_part : Tree → Bool
is_array_part c = is_expr c || (eqb c.head.kind kind.spread || eqb c.head.kind kind.elision)

abbrev pub is_argument : Tree → Bool
is_argument c = is_expr c || eqb c.head.kind kind.spread

abbrev pub is_object_part : Tree → Bool
is_object_part c = eqb c.head.kind kind.spread || eqb c.head.kind kind.property

abbrev pub is_element : Tree → Bool
is_element c = eqb c.head.kind kind.element

-- The children that a node of a handler has.
abbrev pub exactly : ℕ → Forest → Bool
exactly n f = eqb (count f) n && every is_expr (trees f)

abbrev pub after_first : (Tree → Bool) → Forest → Bool
after_first p f = leb 1 (count f) && (every is_expr (take 1 (trees f)) && every p (drop 1 (trees f)))

abbrev pub after_heritage : Head → Forest → Bool
after_heritage h f = leb (heritage h) (count f) && (every is_expr (take (heritage h) (trees f)) && every is_element (drop (heritage h) (trees f)))

abbrev pub kids_by : Handler → Head → Forest → Bool
kids_by Handler.leaf h f = exactly 0 f
kids_by Handler.this h f = exactly 0 f
kids_by Handler.void_or_not h f = exactly 1 f
kids_by Handler.typeof h f = exactly 1 f
kids_by Handler.other_unary h f = exactly 1 f
kids_by Handler.sequence h f = every is_expr (trees f)
kids_by Handler.array h f = every is_array_part (trees f)
kids_by Handler.template h f = every is_expr (trees f)
kids_by Handler.object h f = every is_object_part (trees f)
kids_by Handler.comparison h f = exactly 2 f
kids_by Handler.addition h f = exactly 2 f
kids_by Handler.other_binary h f = exactly 2 f
kids_by Handler.call h f = after_first is_argument f
kids_by Handler.new h f = after_first is_argument f
kids_by Handler.class h f = after_heritage h f
kids_by Handler.conditional h f = exactly 3 f
kids_by Handler.logical_and h f = exactly 2 f
kids_by Handler.logical_or h f = exactly 2 f
kids_by Handler.elision h f = exactly 0 f
kids_by Handler.spread h f = exactly 1 f
kids_by Handler.property h f = exactly (1 + h.sub) f
kids_by Handler.element h f = exactly (element_children h.sub) f
kids_by Handler.left_out h f = true

-- The children of a conditional.
pub record Three (f : Forest) : Type 0 where
  pub test : Tree
  pub consequent : Tree
  pub alternate : Tree
  pub are : trees f ≡ test ∷ consequent ∷ alternate ∷ []

pub three : (f : Forest) → exactly 3 f ≡ true → Three f
three f ok = go f (eqb-true (count f) 3 (and_left (eqb (count f) 3) (every is_expr (trees f)) ok))
  where
    go : (f : Forest) → count f ≡ 3 → Three f
    go nil e = absurd (omega (arith, e))
    go (node h cs nil) e = absurd (omega (arith, e))
    go (node h cs (node i ds nil)) e = absurd (omega (arith, e))
    go (node h cs (node i ds (node j es nil))) e =
        record { test = record { head = h; kids = cs }; consequent = record { head = i; kids = ds }; alternate = record { head = j; kids = es }; are = refl }
    go (node h cs (node i ds (node j es (node k fs rest)))) e = absurd (omega (arith, e))

-- Which handlers take an expression.
abbrev pub expr_by : Handler → Bool
expr_by Handler.leaf = true
expr_by Handler.this = true
expr_by Handler.void_or_not = true
expr_by Handler.typeof = true
expr_by Handler.other_unary = true
expr_by Handler.sequence = true
expr_by Handler.array = true
expr_by Handler.template = true
expr_by Handler.object = true
expr_by Handler.comparison = true
expr_by Handler.addition = true
expr_by Handler.other_binary = true
expr_by Handler.call = true
expr_by Handler.new = true
expr_by Handler.class = true
expr_by Handler.conditional = true
expr_by Handler.logical_and = true
expr_by Handler.logical_or = true
expr_by Handler.elision = false
expr_by Handler.spread = false
expr_by Handler.property = false
expr_by Handler.element = false
expr_by Handler.left_out = true

-- P at n and at the m - 1 numbers after it.
abbrev Each : (ℕ → Type 0) → ℕ → ℕ → Type 0
Each P n zero = Unit {0}
Each P n (suc m) = P n × Each P (suc n) m

each_at : (P : ℕ → Type 0) (n m : ℕ) → Each P n m → (k : ℕ) → n ≤ k → k < n + m → P k
each_at P n zero ps k l u = absurd (omega arith)
each_at P n (suc m) ps k l u =
    ⊎_elim (λ (e : n ≡ k). subst P e ps.0) (λ (g : n < k). each_at P (suc n) m ps.1 k g (omega arith)) (eq-or-lt_of_le l)

-- A head of another kind.
abbrev of_kind : Head → ℕ → Head
of_kind h k = as_kind h k h.sub

record Kinds (k : ℕ) : Type 0 where
  low : 1 ≤ k
  high : k < 22

-- "kind" of refusal 5, and refusal 6: 1 to 22, and not 22.
kinds : (h : Head) → record_ok h ≡ true → included h ≡ true → Kinds h.kind
unfolding record_ok included
kinds h r i =
    let k = h.kind in
    let a = and_left (leb kind.literal k && leb k kind.assignment) (facts_ok h && (sub_ok h && eqb h.reserved 0)) r in
    let low = leb-true kind.literal k (and_left (leb kind.literal k) (leb k kind.assignment) a) in
    let high = leb-true k kind.assignment (and_right (leb kind.literal k) (leb k kind.assignment) a) in
    let n = eqb-false k kind.assignment (or_false_l (eqb k kind.assignment) (eqb k kind.logical && eqb h.sub 0) (not-true _ i)) in
    record { low = low; high = omega (arith, high, n) }

-- What holds of a head at each kind holds of every accepted head.
by_kind : (P : Head → Type 0) (h : Head) → record_ok h ≡ true → included h ≡ true → Each (λ k. P (of_kind h k)) 1 21 → P h
by_kind P h r i ps = let k = kinds h r i in each_at (λ k. P (of_kind h k)) 1 21 ps h.kind k.low k.high

infixr 10 ◌and◌
◌and◌ : {A B : Type 0} → A → B → A × B
a and b = (a, b)

by_unary : (P : Handler → Type 0) → P Handler.void_or_not → P Handler.typeof → P Handler.other_unary → (sub : ℕ) → P (unary_handler sub)
by_unary P v t o sub =
    by_cond P (eqb sub 1 || eqb sub 2) Handler.void_or_not (cond (eqb sub 3) Handler.typeof Handler.other_unary) (λ _. v)
    (λ _. by_cond P (eqb sub 3) Handler.typeof Handler.other_unary (λ _. t) (λ _. o))

by_binary : (P : Handler → Type 0) → P Handler.comparison → P Handler.addition → P Handler.other_binary → (sub : ℕ) → P (binary_handler sub)
by_binary P c a o sub =
    by_cond P (eqb sub 1) Handler.comparison (cond (eqb sub 2) Handler.addition Handler.other_binary) (λ _. c)
    (λ _. by_cond P (eqb sub 2) Handler.addition Handler.other_binary (λ _. a) (λ _. o))

by_logical : (P : Handler → Type 0) → P Handler.logical_and → P Handler.logical_or → (sub : ℕ) → P (logical_handler sub)
by_logical P a o sub = by_cond P (eqb sub 1) Handler.logical_and Handler.logical_or (λ _. a) (λ _. o)

pub expr_by_lem : (h : Head) → record_ok h ≡ true → included h ≡ true → expr_by (handler h) ≡ kind.is_expression h.kind
unfolding handler
expr_by_lem h r i =
    by_kind (λ h. expr_by (handler h) ≡ kind.is_expression h.kind) h r i
    (refl and refl and refl and refl and refl and refl and refl and refl and refl and refl and refl and refl and refl
    and by_unary (λ k. expr_by k ≡ true) refl refl refl h.sub
    and by_binary (λ k. expr_by k ≡ true) refl refl refl h.sub
    and refl and refl and refl and refl
    and by_logical (λ k. expr_by k ≡ true) refl refl h.sub
    and refl and tt)

-- Every child by one rule, or the first by a rule of its own.
stand_all : (h : Head) (p : ℕ → Bool) → ((k : ℕ) → may_stand h true k ≡ p k) → ((k : ℕ) → may_stand h false k ≡ p k)
    → (b : Bool) (f : Forest) → children_stand h b f ≡ every (λ c. p c.head.kind) (trees f)
stand_all h p t u b nil = refl
stand_all h p t u true (node c cs rest) = ap₂ (◌&&◌) (t c.kind) (stand_all h p t u false rest)
stand_all h p t u false (node c cs rest) = ap₂ (◌&&◌) (u c.kind) (stand_all h p t u false rest)

stand_first : (h : Head) (p : ℕ → Bool) → ((k : ℕ) → may_stand h true k ≡ kind.is_expression k) → ((k : ℕ) → may_stand h false k ≡ p k)
    → (f : Forest) → children_stand h true f ≡ (every is_expr (take 1 (trees f)) && every (λ c. p c.head.kind) (drop 1 (trees f)))
stand_first h p t u nil = refl
stand_first h p t u (node c cs rest) =
    ap₂ (◌&&◌) (t c.kind ∙ sym (and-true (kind.is_expression c.kind))) (later rest)
  where
    later : (f : Forest) → children_stand h false f ≡ every (λ c. p c.head.kind) (trees f)
    later nil = refl
    later (node c cs rest) = ap₂ (◌&&◌) (u c.kind) (later rest)

-- A node's children as acceptance tests them, and by its handler.
abbrev SameKids : Forest → Head → Type 0
SameKids f h = (child_count_ok h (count f) && children_stand h true f) ≡ kids_by (handler h) h f

module _ (h : Head) (f : Forest) where
  -- A count's test, and one rule for every child.
  uniform : (k : ℕ) (counted : Bool) (p : ℕ → Bool) → ((c : ℕ) → may_stand (of_kind h k) true c ≡ p c) → ((c : ℕ) → may_stand (of_kind h k) false c ≡ p c)
      → (counted && children_stand (of_kind h k) true f) ≡ (counted && every (λ c. p c.head.kind) (trees f))
  uniform k counted p t u = ap (counted &&◌) (stand_all (of_kind h k) p t u true f)

  of_call_lem : (k : ℕ) → ((c : ℕ) → may_stand (of_kind h k) true c ≡ kind.is_expression c) → ((c : ℕ) → may_stand (of_kind h k) false c ≡ (kind.is_expression c || eqb c kind.spread))
      → (leb 1 (count f) && children_stand (of_kind h k) true f) ≡ after_first is_argument f
  of_call_lem k t u = ap (leb 1 (count f) &&◌) (stand_first (of_kind h k) (λ c. kind.is_expression c || eqb c kind.spread) t u f)

  of_class_lem : (n : ℕ) → heritage h ≡ n → n < 2 → (leb (heritage h) (count f) && children_stand (of_kind h kind.class) true f) ≡ after_heritage h f
  unfolding may_stand
  of_class_lem zero e l = rw e (ap (leb 0 (count f) &&◌) (stand_all (of_kind h kind.class) (λ c. eqb c kind.element) (λ c. rw e) (λ c. refl) true f))
  of_class_lem (suc zero) e l = rw e (ap (leb 1 (count f) &&◌) (stand_first (of_kind h kind.class) (λ c. eqb c kind.element) (λ c. rw e) (λ c. refl) f))
  of_class_lem (suc (suc n)) e l = absurd (omega arith)

  kids_by_lem : record_ok h ≡ true → included h ≡ true → SameKids f h
  unfolding handler child_count_ok may_stand
  kids_by_lem r i =
      by_kind (SameKids f) h r i
      (none 1 (λ _. refl) (λ _. refl) and none 2 (λ _. refl) (λ _. refl) and none 3 (λ _. refl) (λ _. refl) and none 4 (λ _. refl) (λ _. refl) and none 5 (λ _. refl) (λ _. refl)
      and none kind.this (λ _. refl) (λ _. refl)
      and uniform kind.array true (λ c. kind.is_expression c || (eqb c kind.spread || eqb c kind.elision)) (λ _. refl) (λ _. refl)
      and none kind.elision (λ _. refl) (λ _. refl)
      and uniform kind.spread (eqb (count f) 1) kind.is_expression (λ _. refl) (λ _. refl)
      and uniform kind.object true (λ c. eqb c kind.spread || eqb c kind.property) (λ _. refl) (λ _. refl)
      and uniform kind.property (eqb (count f) (1 + h.sub)) kind.is_expression (λ _. refl) (λ _. refl)
      and uniform kind.template true kind.is_expression (λ _. refl) (λ _. refl)
      and uniform kind.sequence true kind.is_expression (λ _. refl) (λ _. refl)
      and by_unary (λ k. (eqb (count f) 1 && children_stand (of_kind h kind.unary) true f) ≡ kids_by k (of_kind h kind.unary) f) unary unary unary h.sub
      and by_binary (λ k. (eqb (count f) 2 && children_stand (of_kind h kind.binary) true f) ≡ kids_by k (of_kind h kind.binary) f) binary binary binary h.sub
      and of_call_lem kind.call (λ _. refl) (λ _. refl)
      and of_call_lem kind.new (λ _. refl) (λ _. refl)
      and of_class_lem (heritage h) refl (omega arith)
      and uniform kind.element (eqb (count f) (element_children h.sub)) kind.is_expression (λ _. refl) (λ _. refl)
      and by_logical (λ k. (eqb (count f) 2 && children_stand (of_kind h kind.logical) true f) ≡ kids_by k (of_kind h kind.logical) f) logical logical h.sub
      and uniform kind.conditional (eqb (count f) 3) kind.is_expression (λ _. refl) (λ _. refl)
      and tt)
    where
      none : (k : ℕ) → ((c : ℕ) → may_stand (of_kind h k) true c ≡ kind.is_expression c) → ((c : ℕ) → may_stand (of_kind h k) false c ≡ kind.is_expression c)
          → (eqb (count f) 0 && children_stand (of_kind h k) true f) ≡ exactly 0 f
      none k t u = uniform k (eqb (count f) 0) kind.is_expression t u

      unary : (eqb (count f) 1 && children_stand (of_kind h kind.unary) true f) ≡ exactly 1 f
      unary = uniform kind.unary (eqb (count f) 1) kind.is_expression (λ _. refl) (λ _. refl)

      logical : (eqb (count f) 2 && children_stand (of_kind h kind.logical) true f) ≡ exactly 2 f
      logical = uniform kind.logical (eqb (count f) 2) kind.is_expression (λ _. refl) (λ _. refl)

      binary : (eqb (count f) 2 && children_stand (of_kind h kind.binary) true f) ≡ exactly 2 f
      binary = uniform kind.binary (eqb (count f) 2) kind.is_expression (λ _. refl) (λ _. refl)

-- A node as refusals 5 to 7 leave it.
abbrev pub NodeGood : Tree → Type 0
NodeGood t = node_ok t.head t.kids ≡ true

pub record HeadGood (h : Head) : Type 0 where
  pub recorded : record_ok h ≡ true
  pub is_included : included h ≡ true

pub good_head : (t : Tree) → NodeGood t → HeadGood t.head
unfolding node_ok
good_head t g =
    let h = t.head in
    let kids = child_count_ok h (count t.kids) && children_stand h true t.kids in
    record {
      recorded = and_left (record_ok h) (included h && kids) g;
      is_included = and_left (included h) kids (and_right (record_ok h) (included h && kids) g);
    }

pub good_kids : (t : Tree) (k : Handler) → handler t.head ≡ k → NodeGood t → kids_by k t.head t.kids ≡ true
unfolding node_ok
good_kids t k e g =
    let h = t.head in
    let kids = child_count_ok h (count t.kids) && children_stand h true t.kids in
    let o = good_head t g in
    sym (kids_by_lem h t.kids o.recorded o.is_included ∙ ap (λ k. kids_by k h t.kids) e)
    ∙ and_right (included h) kids (and_right (record_ok h) (included h && kids) g)

pub good_node : (h : Head) (k : Handler) (f : Forest) → HeadGood h → handler h ≡ k → kids_by k h f ≡ true → node_ok h f ≡ true
unfolding node_ok
good_node h k f o e ok =
    and_both o.recorded (and_both o.is_included (kids_by_lem h f o.recorded o.is_included ∙ ap (λ k. kids_by k h f) e ∙ ok))
