-- The arms of a conditional, of which one is left at least, behind its test: what the node becomes.
use Rattle.std.specs.Prelude.{◌≡◌, refl, List, [], ◌∷◌, ◌++◌, ℕ, ◌+◌, ◌<◌, ◌≤◌}
use Rattle.std.proofs.Common.{sym, ap, subst, ◌∙◌, arith}
use Rattle.tree.specs.Tree.{Place, Head, Tree}
use Rattle.tree.specs.Layout.{version_in}
use Rattle.tree.specs.Room.{records_in}
use Rattle.fields.specs.Record.{head}
use Rattle.fields.specs.declared.record.Record.{Record}
use Rattle.rules.specs.Made.{and_sub, or_sub, make_logical, with_children}
use Rattle.rules.specs.Conditional.{test}
use Rattle.rules.specs.Reduce.{stays_with, join_arms}
use Rattle.output.specs.Trees.{Spans, Wrote, wrote_as, spans_append}
use Rattle.rewrite.specs.Made.{GivenMade, Makes}
use Rattle.rewrite.specs.Becomes.{GivenList, Becomes, list_made}

-- A conditional's record, and behind the free record pos of out, whose records are as wide, its test and what is left of its
-- arms.
pub record GivenArms (u : Record) (out : List ℕ) (pos arms middle end : ℕ) : Type 0 where
  pub same : version_in out ≡ version_in u.src.now
  pub tests : List Tree
  pub consequents : List Tree
  pub alternates : List Tree
  pub test_spans : Spans out (pos + 1) arms tests
  pub consequent_spans : Spans out arms middle consequents
  pub alternate_spans : Spans out middle end alternates
  pub some : arms < end
  pub inside : end ≤ records_in out
  pub small : end < pos + 65536

-- Whatever conditional t has the record's head, and whatever is left of its arms: what 02 joins of them was written from record pos to
-- record r. (What is left of its test, qs, is for where no arm is left.)
pub record JoinsArms (u : Record) (old new : List ℕ) (pos arms middle end r : ℕ) : Type 0 where
  pub by : (t : Tree) → head u ≡ t.head → Spans old (pos + 1) arms (test t) → (qs cs bs : List Tree) → Spans old arms middle cs → Spans old middle end bs
      → Wrote old new pos r (join_arms t qs cs bs)

module _ {u : Record} {out : List ℕ} {pos arms middle end : ℕ} (g : GivenArms u out pos arms middle end) where
  pub arms_list : GivenList u out pos end
  arms_list = record {
    same = g.same;
    list = g.tests ++ (g.consequents ++ g.alternates);
    spans = spans_append g.tests (g.consequents ++ g.alternates) g.test_spans (spans_append g.consequents g.alternates g.consequent_spans g.alternate_spans);
    inside = g.inside;
    small = g.small;
  }

  pub arms_made : GivenMade out pos end
  arms_made = list_made arms_list

module _ {u : Record} {old new : List ℕ} {pos arms middle end : ℕ} {place : Place} (ep : place ≡ (head u).place) where
  pub consequent_gone : middle ≡ arms → arms < end → Makes (make_logical or_sub) old new pos end place → JoinsArms u old new pos arms middle end end
  consequent_gone e l m = record { by = λ t h q qs cs bs x y. go t (ep ∙ ap (λ (k : Head). k.place) h) q qs cs bs x y }
    where
      go : (t : Tree) → place ≡ t.head.place → Spans old (pos + 1) arms (test t) → (qs cs bs : List Tree) → Spans old arms middle cs → Spans old middle end bs
          → Wrote old new pos end (join_arms t qs cs bs)
      go t p q qs [] [] x y = absurd (omega (arith, e, l, y.ends))
      go t p q qs [] (b ∷ bs) x y =
          wrote_as (m.by (test t ++ (b ∷ bs)) (spans_append (test t) (b ∷ bs) q (subst (λ (i : ℕ). Spans old i end (b ∷ bs)) e y)))
          (ap (λ (z : Place). make_logical or_sub z (test t ++ (b ∷ bs)) ∷ []) p)
      go t p q qs (c ∷ cs) bs x y = absurd (omega (arith, e, x.ends))

  pub alternate_gone : (middle ≡ arms → ⊥) → end ≡ middle → Makes (make_logical and_sub) old new pos end place → JoinsArms u old new pos arms middle end end
  alternate_gone n e m = record { by = λ t h q qs cs bs x y. go t (ep ∙ ap (λ (k : Head). k.place) h) q qs cs bs x y }
    where
      go : (t : Tree) → place ≡ t.head.place → Spans old (pos + 1) arms (test t) → (qs cs bs : List Tree) → Spans old arms middle cs → Spans old middle end bs
          → Wrote old new pos end (join_arms t qs cs bs)
      go t p q qs [] bs x y = absurd (n (omega (arith, x.ends)))
      go t p q qs (c ∷ cs) [] x y =
          wrote_as (m.by (test t ++ (c ∷ cs)) (spans_append (test t) (c ∷ cs) q (subst (λ (i : ℕ). Spans old arms i (c ∷ cs)) (sym e) x)))
          (ap (λ (z : Place). make_logical and_sub z (test t ++ (c ∷ cs)) ∷ []) p)
      go t p q qs (c ∷ cs) (b ∷ bs) x y = absurd (omega (arith, e, y.ends))

-- The conditional over its test and both arms.
stays_over : (t : Tree) (xs : List Tree) (y : Tree) (ys : List Tree) → stays_with t (xs ++ (y ∷ ys)) ≡ with_children t (xs ++ (y ∷ ys)) ∷ []
stays_over t [] y ys = refl
stays_over t (x ∷ xs) y ys = refl

pub both_stay : {u : Record} {old new : List ℕ} {pos arms middle end r : ℕ} → (middle ≡ arms → ⊥) → (end ≡ middle → ⊥) → Becomes stays_with u old new pos end r
    → JoinsArms u old new pos arms middle end r
both_stay {u} {old} {new} {pos} {arms} {middle} {end} {r} n k w = record { by = go }
  where
    go : (t : Tree) → head u ≡ t.head → Spans old (pos + 1) arms (test t) → (qs cs bs : List Tree) → Spans old arms middle cs → Spans old middle end bs
        → Wrote old new pos r (join_arms t qs cs bs)
    go t h q qs [] bs x y = absurd (n (omega (arith, x.ends)))
    go t h q qs (c ∷ cs) [] x y = absurd (k (omega (arith, y.ends)))
    go t h q qs (c ∷ cs) (b ∷ bs) x y =
        wrote_as (w.by t h (test t ++ ((c ∷ cs) ++ (b ∷ bs))) (spans_append (test t) ((c ∷ cs) ++ (b ∷ bs)) q (spans_append (c ∷ cs) (b ∷ bs) x y)))
        (stays_over t (test t) c (cs ++ (b ∷ bs)))
