-- Additions: a chain taken apart once, for every proof about its fold; and the fold keeps the chain's effects.
use Rattle.std.specs.Prelude.{Bool, not, ◌&&◌, ◌||◌, ◌≡◌}
use Rattle.std.proofs.Math.Bool.{true, false, cond}
use Rattle.std.proofs.Common.{true≢false, ◌∙◌, ap₂}
use mathlib.Core.List.{List, [], ◌∷◌, ◌++◌, map, append_assoc, append-nil}
use Rattle.std.proofs.Math.Path.{refl, sym}
use Rattle.tree.specs.Tree.{Tree, trees, recur_is, recur_made, paired, All, ind, of_two}
use Rattle.tree.specs.Symbol.{is_addition, string_fact, is_string_rule, is_string, Sides, is_string_sides}
use Rattle.rules.specs.Lists.{keep_if}
use Rattle.rules.specs.Settings.{Settings}
use Rattle.rules.specs.Handler.{Handler, is_literal}
use Rattle.rules.specs.Facts.{flagged, clear}
use Rattle.rules.specs.Made.{place_of, empty_literal, with_children}
use Rattle.rules.specs.Addition.{emptied_unless_flagged, is_dropped_right, fold_sides, fold_rule, fold_string_addition_chain}
use Rattle.rules.specs.Effects.{effects, itself, coercion_number, coercion, addition_effect}
use Rattle.rules.specs.Reads.{side_reads, fold_reads_rule, fold_reads, NoEffects}
use Rattle.rules.proofs.Lists.{by_cond, all_append}
use Rattle.rules.proofs.Facts.{addition_handled, addition_no_literal, empty_string_fact, empty_string, same_flag, same_literal, same_symbol, dropped_no_symbol}
use Rattle.rules.proofs.Effects.{own, stays_own, effects_empty}

-- Any other node, of which a fold reads and changes nothing.
pub record NoSides (t : Tree) : Type 0 where
  pub folds : fold_string_addition_chain t ≡ t
  pub reads : fold_reads t ≡ []

-- What holds of a node that is no addition, and of an addition if it holds of its left side, holds of every tree.
module _ (P : Tree → Type 0) (other : (t : Tree) → NoSides t → P t) (sum : (t l r : Tree) → Sides t l r → P l → P t) where
  by_chain_step : (t : Tree) → All P (trees t.kids) → P t
  unfolding fold_string_addition_chain fold_rule fold_reads fold_reads_rule
  by_chain_step t hs = go (is_addition t) refl (trees t.kids) refl hs
    where
      folds : (b : Bool) (ts : List Tree) → is_addition t ≡ b → trees t.kids ≡ ts
          → fold_string_addition_chain t ≡ cond b (of_two (λ l r. fold_sides t l.result r.tree) t (map (paired fold_rule) ts)) t
      folds b ts e k = recur_is fold_rule t ∙ rw (e, k)

      reads : (b : Bool) (ts : List Tree) → is_addition t ≡ b → trees t.kids ≡ ts
          → fold_reads t ≡ cond b (of_two (λ l r. l.result ++ side_reads (fold_string_addition_chain l.tree) r.tree) [] (map (paired fold_reads_rule) ts)) []
      reads b ts e k = recur_is fold_reads_rule t ∙ rw (e, k)

      go : (b : Bool) → is_addition t ≡ b → (ts : List Tree) → trees t.kids ≡ ts → All P ts → P t
      go false e ts k hs = other t (record { folds = folds false ts e k; reads = reads false ts e k })
      go true e [] k hs = other t (record { folds = folds true [] e k; reads = reads true [] e k })
      go true e (l ∷ []) k hs = other t (record { folds = folds true (l ∷ []) e k; reads = reads true (l ∷ []) e k })
      go true e (l ∷ r ∷ []) k hs = sum t l r (record { addition = e; kids = k }) hs.0
      go true e (l ∷ r ∷ x ∷ xs) k hs = other t (record { folds = folds true (l ∷ r ∷ x ∷ xs) e k; reads = reads true (l ∷ r ∷ x ∷ xs) e k })

  pub by_chain : (t : Tree) → P t
  by_chain = ind P by_chain_step

pub fold_sides_lem : (t l r : Tree) → Sides t l r → fold_string_addition_chain t ≡ fold_sides t (fold_string_addition_chain l) r
unfolding fold_string_addition_chain fold_rule
fold_sides_lem t l r S = recur_is fold_rule t ∙ rw (S.addition, S.kids)

pub fold_reads_sides : (t l r : Tree) → Sides t l r → fold_reads t ≡ fold_reads l ++ side_reads (fold_string_addition_chain l) r
unfolding fold_reads fold_reads_rule
fold_reads_sides t l r S = recur_is fold_reads_rule t ∙ rw (S.addition, S.kids)

pub is_string_stays : (t x y : Tree) → is_addition t ≡ true → is_string (with_children t (x ∷ y ∷ [])) ≡ (is_string x || string_fact y)
unfolding is_string is_string_rule with_children is_addition
is_string_stays t x y e = recur_made is_string_rule t.head (x ∷ y ∷ []) ∙ rw e

pub emptied_string : (x : Tree) → is_string x ≡ true → is_string (emptied_unless_flagged x) ≡ true
unfolding emptied_unless_flagged
emptied_string x e = by_cond (λ y. is_string y ≡ true) (flagged x) x (empty_literal (place_of x)) (λ _. e) (λ _. empty_string (place_of x))

pub emptied_string_fact : (x : Tree) → string_fact x ≡ true → string_fact (emptied_unless_flagged x) ≡ true
unfolding emptied_unless_flagged
emptied_string_fact x e = by_cond (λ y. string_fact y ≡ true) (flagged x) x (empty_literal (place_of x)) (λ _. e) (λ _. empty_string_fact (place_of x))

-- "folding keeps whether a side is a string": f is the left side l folded.
module _ (t l r f : Tree) (S : Sides t l r) (w : is_string f ≡ is_string l) where
  pub string_left : is_string f ≡ true → is_string (with_children t (emptied_unless_flagged f ∷ r ∷ [])) ≡ is_string t
  string_left e = is_string_stays t (emptied_unless_flagged f) r S.addition ∙ rw (emptied_string f e) (sym (is_string_sides t l r S ∙ rw (sym w ∙ e)))

  pub string_right : is_string (with_children t (f ∷ cond (string_fact r) (emptied_unless_flagged r) r ∷ [])) ≡ is_string t
  string_right =
      is_string_stays t f (cond (string_fact r) (emptied_unless_flagged r) r) S.addition ∙ ap₂ (◌||◌) w (right (string_fact r) refl) ∙ sym (is_string_sides t l r S)
    where
      right : (b : Bool) → string_fact r ≡ b → string_fact (cond b (emptied_unless_flagged r) r) ≡ string_fact r
      right true e = emptied_string_fact r e ∙ sym e
      right false e = refl

  fold_sides_string : is_string (fold_sides t f r) ≡ is_string t
  unfolding fold_sides
  fold_sides_string =
      by_cond (λ x. is_string x ≡ is_string t) (is_string f)
      (cond (is_dropped_right r) (emptied_unless_flagged f) (with_children t (emptied_unless_flagged f ∷ r ∷ []))) (with_children t (f ∷ cond (string_fact r) (emptied_unless_flagged r) r ∷ []))
      (λ e. by_cond (λ x. is_string x ≡ is_string t) (is_dropped_right r) (emptied_unless_flagged f) (with_children t (emptied_unless_flagged f ∷ r ∷ []))
      (λ _. emptied_string f e ∙ sym (is_string_sides t l r S ∙ rw (sym w ∙ e))) (λ _. string_left e))
      (λ _. string_right)

pub fold_string : (t : Tree) → is_string (fold_string_addition_chain t) ≡ is_string t
fold_string = by_chain (λ t. is_string (fold_string_addition_chain t) ≡ is_string t) (λ t n. rw n.folds)
    (λ t l r S h. rw (fold_sides_lem t l r S) (fold_sides_string t l r (fold_string_addition_chain l) S h))

same_coercion : (f t : Tree) → f.head ≡ t.head → is_string f ≡ is_string t → coercion f ≡ coercion t
unfolding coercion coercion_number itself
same_coercion f t e w = rw (same_symbol f t e w, e)

no_coercion : (r : Tree) → is_dropped_right r ≡ true → coercion r ≡ []
unfolding coercion
no_coercion r e = rw (dropped_no_symbol r e)

stays_head : (t : Tree) (ts : List Tree) → (with_children t ts).head ≡ t.head
unfolding with_children
stays_head t ts = refl

same_addition_effect : (t l r : Tree) → addition_effect (with_children t (l ∷ r ∷ [])) l r ≡ addition_effect t l r
unfolding addition_effect itself with_children
same_addition_effect t l r = rw (same_flag t (l ∷ r ∷ []))

stays_no_literal : (t : Tree) (ts : List Tree) → is_addition t ≡ true → is_literal (with_children t ts) ≡ true → ⊥
stays_no_literal t ts e l = true≢false (sym l ∙ same_literal t ts ∙ addition_no_literal t e)

module _ (s : Settings) where
  sides_in_order : (t l r : Tree) → (effects s l ++ (effects s r ++ [])) ++ addition_effect t l r ≡ effects s l ++ (effects s r ++ addition_effect t l r)
  sides_in_order t l r = rw (append-nil (effects s r), append_assoc (effects s l) (effects s r) (addition_effect t l r))

  pub effects_sides : (t l r : Tree) → Sides t l r → effects s t ≡ effects s l ++ (effects s r ++ addition_effect t l r)
  unfolding effects
  effects_sides t l r S = own s t Handler.addition (addition_handled t S.addition) ∙ rw S.kids (sides_in_order t l r)

  effects_stays : (t l r : Tree) → is_addition t ≡ true
      → effects s (with_children t (l ∷ r ∷ [])) ≡ effects s l ++ (effects s r ++ addition_effect t l r)
  unfolding effects
  effects_stays t l r e =
      stays_own s t Handler.addition (addition_handled t e) (l ∷ r ∷ []) ∙ rw (same_addition_effect t l r) (sides_in_order t l r)

  -- A fold f of t: the same effects, and the same head where it is no string; and a literal of no effect.
  pub record Folds (t f : Tree) : Type 0 where
    pub same : effects s f ≡ effects s t
    pub front : is_string t ≡ false → f.head ≡ t.head
    pub literal : is_literal f ≡ true → effects s f ≡ []

  emptied_same : (x : Tree) → NoEffects s (keep_if (clear x) x) → effects s (emptied_unless_flagged x) ≡ effects s x
  unfolding emptied_unless_flagged
  emptied_same x = go (flagged x)
    where
      go : (b : Bool) → NoEffects s (keep_if (not b) x) → effects s (cond b x (empty_literal (place_of x))) ≡ effects s x
      go true h = refl
      go false h = effects_empty s (place_of x) ∙ sym h.0

  emptied_literal : (x : Tree) → (is_literal x ≡ true → effects s x ≡ []) → is_literal (emptied_unless_flagged x) ≡ true → effects s (emptied_unless_flagged x) ≡ []
  unfolding emptied_unless_flagged
  emptied_literal x h =
      by_cond (λ y. is_literal y ≡ true → effects s y ≡ []) (flagged x) x (empty_literal (place_of x)) (λ _. h) (λ _ _. effects_empty s (place_of x))

  -- One addition, its left side folded already.
  module _ (t l r f : Tree) (S : Sides t l r) (w : is_string f ≡ is_string l) (F : Folds l f) where
    on_string : is_string f ≡ true → NoEffects s (keep_if (clear f) f ++ keep_if (is_dropped_right r) r)
        → Folds t (cond (is_dropped_right r) (emptied_unless_flagged f) (with_children t (emptied_unless_flagged f ∷ r ∷ [])))
    unfolding addition_effect
    on_string e h =
        let (h₀, h₁) = all_append (λ n. effects s n ≡ []) (keep_if (clear f) f) (keep_if (is_dropped_right r) r) h in
        go (is_dropped_right r) refl h₀ h₁
      where
        left : is_string l ≡ true
        left = sym w ∙ e

        string : is_string t ≡ true
        string = is_string_sides t l r S ∙ rw left

        order : effects s t ≡ effects s l ++ (effects s r ++ coercion r)
        order = effects_sides t l r S ∙ rw left

        go : (b : Bool) → is_dropped_right r ≡ b → NoEffects s (keep_if (clear f) f) → NoEffects s (keep_if b r)
            → Folds t (cond b (emptied_unless_flagged f) (with_children t (emptied_unless_flagged f ∷ r ∷ [])))
        go true d h₀ h₁ = record {
          same = emptied_same f h₀ ∙ F.same ∙ sym (order ∙ rw (h₁.0, no_coercion r d) (append-nil (effects s l)));
          front = λ n. absurd (true≢false (sym string ∙ n));
          literal = emptied_literal f F.literal;
        }
        go false d h₀ h₁ = record {
          same = effects_stays t (emptied_unless_flagged f) r S.addition ∙ rw (emptied_string f e, emptied_same f h₀, F.same) (sym order);
          front = λ _. stays_head t (emptied_unless_flagged f ∷ r ∷ []);
          literal = λ w. absurd (stays_no_literal t (emptied_unless_flagged f ∷ r ∷ []) S.addition w);
        }

    on_other : is_string f ≡ false → NoEffects s (keep_if (string_fact r && clear r) r)
        → Folds t (with_children t (f ∷ cond (string_fact r) (emptied_unless_flagged r) r ∷ []))
    unfolding addition_effect
    on_other e = go (string_fact r) refl
      where
        left : is_string l ≡ false
        left = sym w ∙ e

        go : (b : Bool) → string_fact r ≡ b → NoEffects s (keep_if (b && clear r) r) → Folds t (with_children t (f ∷ cond b (emptied_unless_flagged r) r ∷ []))
        go true v h = record {
          same = effects_stays t f (emptied_unless_flagged r) S.addition
              ∙ rw (e, emptied_string_fact r v, emptied_same r h, F.same, same_coercion f l (F.front left) w) (sym (effects_sides t l r S ∙ rw (left, v)));
          front = λ _. stays_head t (f ∷ emptied_unless_flagged r ∷ []);
          literal = λ x. absurd (stays_no_literal t (f ∷ emptied_unless_flagged r ∷ []) S.addition x);
        }
        go false v h = record {
          same = effects_stays t f r S.addition ∙ rw (e, v, F.same) (sym (effects_sides t l r S ∙ rw (left, v)));
          front = λ _. stays_head t (f ∷ r ∷ []);
          literal = λ x. absurd (stays_no_literal t (f ∷ r ∷ []) S.addition x);
        }

    pub fold_step : NoEffects s (side_reads f r) → Folds t (fold_sides t f r)
    unfolding side_reads fold_sides
    fold_step = go (is_string f) refl
      where
        go : (b : Bool) → is_string f ≡ b
            → NoEffects s (cond b (keep_if (clear f) f ++ keep_if (is_dropped_right r) r) (keep_if (string_fact r && clear r) r))
            → Folds t (cond b (cond (is_dropped_right r) (emptied_unless_flagged f) (with_children t (emptied_unless_flagged f ∷ r ∷ []))) (with_children t (f ∷ cond (string_fact r) (emptied_unless_flagged r) r ∷ [])))
        go true e h = on_string e h
        go false e h = on_other e h
