-- The list functions that the rules are written with.
use Rattle.std.specs.Prelude.{Bool, true, false, cond, ◌&&◌, ◌||◌, List, [], ◌∷◌, ◌++◌}

module _ {A : Type 0} where
  abbrev pub is_empty : List A → Bool
  is_empty [] = true
  is_empty (x ∷ xs) = false

  abbrev pub any : (A → Bool) → List A → Bool
  any p [] = false
  any p (x ∷ xs) = p x || any p xs

  abbrev pub every : (A → Bool) → List A → Bool
  every p [] = true
  every p (x ∷ xs) = p x && every p xs

  -- x where the test passes, else nothing.
  abbrev pub keep_if : Bool → A → List A
  keep_if b x = cond b (x ∷ []) []

  -- What f gives for each, one after the other.
  abbrev pub concat_map : {B : Type 0} → (A → List B) → List A → List B
  concat_map f [] = []
  concat_map f (x ∷ xs) = f x ++ concat_map f xs

  abbrev pub filter : (A → Bool) → List A → List A
  filter p xs = concat_map (λ x. keep_if (p x) x) xs
