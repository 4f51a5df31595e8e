-- One entry of the list.
use Rattle.std.specs.Prelude.{◌≡◌, refl, Bool, true, false, List, [], ◌∷◌, ◌⊎◌, ℕ, ◌+◌, get_or, set}
use Rattle.std.proofs.Common.{sym, ap, ◌∙◌, inl, inr, arith, get_or-set_other, set-set}
use Rattle.std.proofs.lemmas.List.{set-get_or}
use Rattle.tree.specs.Tree.{Tree, alone}
use Rattle.tree.specs.Fields.{head_at}
use Rattle.rules.specs.Lists.{keep_if}
use Rattle.rules.specs.Effects.{itself, coercion_number}
use Rattle.readings.specs.At.{tree_at}
use Rattle.stated.specs.Wrote.{Wrote}
use Rattle.effects.specs.declared.entry.Effect.{Effect}
use Rattle.effects.specs.declared.entry.Effect.TheVariants.{Itself, Coercion}

abbrev pub effect_of : Effect → Tree → ℕ
effect_of Itself t = itself t
effect_of Coercion t = coercion_number t

-- An entry says of the tree that stands at a record what it says of the record alone.
module _ (s : List ℕ) (i : ℕ) where
  pub own_itself : itself (alone (head_at s i)) ≡ itself (tree_at s i)
  unfolding itself tree_at
  own_itself = refl

  pub own_coercion : coercion_number (alone (head_at s i)) ≡ coercion_number (tree_at s i)
  unfolding itself coercion_number tree_at
  own_coercion = refl

pub ruleset own = (own_itself, own_coercion)

-- The entry where the list goes on gets back what it held: the next one, which has not changed, or the one that was written.
module _ (old : List ℕ) (pos e : ℕ) where
  wrote_next : Wrote old (set (set old pos e) (pos + 1) (get_or old (pos + 1) 0)) pos (pos + 1) (e ∷ [])
  wrote_next =
      let h : get_or (set old pos e) (pos + 1) 0 ≡ get_or old (pos + 1) 0 = get_or-set_other old pos (pos + 1) e 0 (λ x. omega arith) in
      record { ends = omega arith; entries = ap (set (set old pos e) (pos + 1)) (sym h) ∙ set-get_or (set old pos e) (pos + 1) 0 }

  wrote_held : Wrote old (set (set old pos e) pos (get_or old pos 0)) pos pos []
  wrote_held = record { ends = omega arith; entries = set-set old pos e (get_or old pos 0) ∙ set-get_or old pos 0 }

  pub wrote_if : (when : Bool) (next : ℕ) → ((when ≡ true) × (next ≡ pos + 1)) ⊎ ((when ≡ false) × (next ≡ pos))
      → Wrote old (set (set old pos e) next (get_or old next 0)) pos next (keep_if when e)
  wrote_if when next (inl (x, n)) = rw (x, n) wrote_next
  wrote_if when next (inr (x, n)) = rw (x, n) wrote_held
