-- A class that is kept, by its elements one by one.
use Rattle.std.specs.Prelude.{◌≡◌, ◌||◌}
use Rattle.std.proofs.Math.Path.{refl, ap}
use Rattle.std.proofs.Common.{◌∙◌}
use Rattle.std.proofs.Math.Bool.{Bool, true, false, or_assoc}
use mathlib.Core.List.{List, [], ◌∷◌}
use Rattle.tree.specs.Tree.{Tree}
use Rattle.rules.specs.Lists.{any}
use Rattle.rules.specs.Class.{elements, decorated_class, decorated_element, index_signature, nonempty_static_block, flagged_static_value, arrow_heritage, kept_class}

-- An element that keeps its class: "any element decorated, an index signature, a nonempty static block, a flagged static value".
unfoldable pub keeps_class : Tree → Bool
keeps_class e = decorated_element e || (index_signature e || (nonempty_static_block e || flagged_static_value e))

module _ {A : Type 0} where
  pub any_or : (p q : A → Bool) (xs : List A) → any (λ x. p x || q x) xs ≡ (any p xs || any q xs)
  any_or p q [] = refl
  any_or p q (x ∷ xs) = ap (λ (b : Bool). (p x || q x) || b) (any_or p q xs) ∙ swap (p x) (q x) (any p xs) (any q xs)
    where
      swap : (a b c d : Bool) → ((a || b) || (c || d)) ≡ ((a || c) || (b || d))
      swap true b c d = refl
      swap false true true d = refl
      swap false true false d = refl
      swap false false c d = refl

-- A class by its elements one by one.
pub kept_by_elements : (t : Tree) → kept_class t ≡ (decorated_class t || (any keeps_class (elements t) || arrow_heritage t))
unfolding kept_class keeps_class
kept_by_elements t =
    let es = elements t in
    rw (
      any_or decorated_element (λ e. index_signature e || (nonempty_static_block e || flagged_static_value e)) es,
      any_or index_signature (λ e. nonempty_static_block e || flagged_static_value e) es,
      any_or nonempty_static_block flagged_static_value es,
      or_assoc (any decorated_element es) (any index_signature es || (any nonempty_static_block es || any flagged_static_value es)) (arrow_heritage t),
      or_assoc (any index_signature es) (any nonempty_static_block es || any flagged_static_value es) (arrow_heritage t),
      or_assoc (any nonempty_static_block es) (any flagged_static_value es) (arrow_heritage t),
    )
