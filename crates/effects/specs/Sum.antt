-- An addition's sides, and what follows both, as the listing finds them.
use Rattle.std.specs.Prelude.{◌≡◌, refl, Bool, true, false, [], ◌∷◌, ℕ, Option, None, Some, IsSome, option_map, unwrap_or}
use Rattle.std.proofs.Common.{sym, ap, ◌∙◌, arith}
use Rattle.std.proofs.lemmas.Option.{none-some}
use Rattle.tree.specs.Tree.{Forest, nil, node, Tree, count, trees}
use Rattle.tree.specs.Stands.{two_sides}
use Rattle.tree.specs.Symbol.{Sides, is_addition, is_string, is_string_sides, string_fact}
use Rattle.rules.specs.Lists.{keep_if}
use Rattle.rules.specs.Facts.{flagged}
use Rattle.rules.specs.Effects.{coercion, coercion_number, itself_if, addition_effect}
use Rattle.readings.specs.declared.node.Node.{Node}
use Rattle.readings.specs.Sides.{first_two}
use Rattle.readings.specs.Symbol.{possible_symbol_if, possible_told}
use Rattle.readings.specs.View.{tree}
use Rattle.effects.specs.Listing.{Listable, node_ok_of}

-- The coercion of a node that is a string, or is none.
pub coerced : (t : Tree) {string b : Bool} → string ≡ is_string t → b ≡ possible_symbol_if string t.head → keep_if b (coercion_number t) ≡ coercion t
unfolding coercion
coerced t es e = ap (λ (x : Bool). keep_if x (coercion_number t)) (possible_told t refl es e)

-- An addition has two children, its sides.
module _ {depth : ℕ} {t : Tree} (l : Listable depth t) (a : is_addition t ≡ true) where
  two : count t.kids ≡ 2
  unfolding is_addition
  two = two_sides t.head t.kids a (node_ok_of l)

  module _ (o : Option (Node × Node)) (e : option_map (λ p. (tree p.0, tree p.1)) o ≡ first_two (trees t.kids)) where
    pub has_two : IsSome o
    has_two = go o t.kids two e
      where
        go : (o : Option (Node × Node)) (f : Forest) → count f ≡ 2 → option_map (λ p. (tree p.0, tree p.1)) o ≡ first_two (trees f) → IsSome o
        go (Some p) f c e = refl
        go None nil c e = absurd (omega (arith, c))
        go None (node h cs nil) c e = absurd (omega (arith, c))
        go None (node h cs (node g xs rest)) c e = absurd (none-some _ e)

    pub sides_are : (p : Node × Node) → o ≡ Some p → Sides t (tree p.0) (tree p.1)
    sides_are p x = record { addition = a; kids = go t.kids two (rw x at e) }
      where
        go : (f : Forest) → count f ≡ 2 → Some (tree p.0, tree p.1) ≡ first_two (trees f) → trees f ≡ tree p.0 ∷ tree p.1 ∷ []
        go nil c e = absurd (omega (arith, c))
        go (node h cs nil) c e = absurd (omega (arith, c))
        go (node h cs (node g xs nil)) c e = sym (ap (λ (o : Option (Tree × Tree)). (unwrap_or o (tree p.0, tree p.1)).0 ∷ (unwrap_or o (tree p.0, tree p.1)).1 ∷ []) e)
        go (node h cs (node g xs (node k ys rest))) c e = absurd (omega (arith, c))

-- What follows both sides, and whether the addition is a string, where `first` tells whether the left side is one, and `fact` what the
-- right side's fact is.
module _ {t l r : Tree} (S : Sides t l r) {first : Bool} (f : first ≡ is_string l) where
  module _ (x : first ≡ true) where
    pub right_coerced : addition_effect t l r ≡ coercion r
    unfolding addition_effect
    right_coerced = rw (← f, x) refl

    pub string_left : true ≡ is_string t
    string_left = sym (is_string_sides t l r S ∙ rw (← f, x) refl)

  module _ (x : first ≡ false) {fact : Bool} (g : fact ≡ string_fact r) where
    pub left_coerced : fact ≡ true → addition_effect t l r ≡ coercion l
    unfolding addition_effect
    left_coerced y = rw (← f, x, ← g, y) refl

    pub itself_listed : fact ≡ false → addition_effect t l r ≡ itself_if (flagged t) t
    unfolding addition_effect
    itself_listed y = rw (← f, x, ← g, y) refl

    pub string_right : {b : Bool} → fact ≡ b → b ≡ is_string t
    string_right y = sym (is_string_sides t l r S ∙ rw (← f, x, ← g, y) refl)
