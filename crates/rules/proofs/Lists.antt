-- Laws of tests and lists.
use Rattle.std.specs.Prelude.{Bool, true, false, cond, ◌||◌, List, [], ◌∷◌, ◌++◌, map, ◌≡◌, refl, ℕ, zero, suc, take, drop}
use Rattle.std.proofs.Common.{true≢false, append_assoc, sym, ◌∙◌, ap, ap₂}
use Rattle.tree.specs.Tree.{All}
use Rattle.tree.specs.Below.{and_both, and_left, and_right}
use Rattle.rules.specs.Lists.{any, every, keep_if, concat_map}

-- A test's two cases, with the test's value as a fact.
pub by_cond : {A : Type 0} (P : A → Type 0) (b : Bool) (x y : A) → (b ≡ true → P x) → (b ≡ false → P y) → P (cond b x y)
by_cond P true x y f g = f refl
by_cond P false x y f g = g refl

pub or_false_l : (a b : Bool) → (a || b) ≡ false → a ≡ false
or_false_l true b e = e
or_false_l false b e = refl

or_false_r : (a b : Bool) → (a || b) ≡ false → b ≡ false
or_false_r true b e = absurd (true≢false e)
or_false_r false b e = e

pub or_true_l : (a b : Bool) → a ≡ true → (a || b) ≡ true
or_true_l a b e = rw e

pub or_true_r : (a b : Bool) → b ≡ true → (a || b) ≡ true
or_true_r true b e = refl
or_true_r false b e = e

pub or_rest : (a b : Bool) → (a || b) ≡ true → b ≡ false → a ≡ true
or_rest true b e n = refl
or_rest false b e n = absurd (true≢false (sym e ∙ n))

-- What holds of each member of a list.
module _ {A : Type 0} (P : A → Type 0) where
  pub all_append : (xs ys : List A) → All P (xs ++ ys) → All P xs × All P ys
  all_append [] ys h = (tt, h)
  all_append (x ∷ xs) ys h = ((h.0, (all_append xs ys h.1).0), (all_append xs ys h.1).1)

  pub all_join : (xs ys : List A) → All P xs → All P ys → All P (xs ++ ys)
  all_join [] ys p q = q
  all_join (x ∷ xs) ys p q = (p.0, all_join xs ys p.1 q)

  pub all_take : (n : ℕ) (xs : List A) → All P xs → All P (take n xs)
  all_take zero xs h = tt
  all_take (suc n) [] h = tt
  all_take (suc n) (x ∷ xs) h = (h.0, all_take n xs h.1)

  pub all_drop : (n : ℕ) (xs : List A) → All P xs → All P (drop n xs)
  all_drop zero xs h = h
  all_drop (suc n) [] h = tt
  all_drop (suc n) (x ∷ xs) h = all_drop n xs h.1

  pub all_keep : (b : Bool) (x : A) → (b ≡ true → P x) → All P (keep_if b x)
  all_keep true x h = (h refl, tt)
  all_keep false x h = tt

  pub kept_all : (b : Bool) (x : A) → All P (keep_if b x) → b ≡ true → P x
  kept_all true x h e = h.0
  kept_all false x h e = absurd (true≢false (sym e))

  pub all_concat_map : {B : Type 0} (f : B → List A) (xs : List B) → All P (concat_map f xs) → All (λ x. All P (f x)) xs
  all_concat_map f [] h = tt
  all_concat_map f (x ∷ xs) h = ((all_append (f x) (concat_map f xs) h).0, all_concat_map f xs (all_append (f x) (concat_map f xs) h).1)

  pub concat_map_all : {B : Type 0} (f : B → List A) (xs : List B) → All (λ x. All P (f x)) xs → All P (concat_map f xs)
  concat_map_all f [] h = tt
  concat_map_all f (x ∷ xs) h = all_join (f x) (concat_map f xs) h.0 (concat_map_all f xs h.1)

module _ {A : Type 0} where
  pub always : {P : A → Type 0} → ((x : A) → P x) → (xs : List A) → All P xs
  always f [] = tt
  always f (x ∷ xs) = (f x, always f xs)

  pub all_map : {P Q : A → Type 0} → ((x : A) → P x → Q x) → (xs : List A) → All P xs → All Q xs
  all_map f [] h = tt
  all_map f (x ∷ xs) h = (f x h.0, all_map f xs h.1)

  pub all_zip : {P Q R : A → Type 0} → ((x : A) → P x → Q x → R x) → (xs : List A) → All P xs → All Q xs → All R xs
  all_zip f [] h k = tt
  all_zip f (x ∷ xs) h k = (f x h.0 k.0, all_zip f xs h.1 k.1)

  -- A test that each member passes, and one that none does.
  pub every_all : (p : A → Bool) (xs : List A) → every p xs ≡ true → All (λ x. p x ≡ true) xs
  every_all p [] e = tt
  every_all p (x ∷ xs) e = (and_left (p x) (every p xs) e, every_all p xs (and_right (p x) (every p xs) e))

  pub all_every : (p : A → Bool) (xs : List A) → All (λ x. p x ≡ true) xs → every p xs ≡ true
  all_every p [] h = refl
  all_every p (x ∷ xs) h = and_both h.0 (all_every p xs h.1)

  pub none_all : (p : A → Bool) (xs : List A) → any p xs ≡ false → All (λ x. p x ≡ false) xs
  none_all p [] e = tt
  none_all p (x ∷ xs) e = (or_false_l (p x) (any p xs) e, none_all p xs (or_false_r (p x) (any p xs) e))

  module _ {B : Type 0} where
    pub take_map : (f : A → B) (n : ℕ) (xs : List A) → take n (map f xs) ≡ map f (take n xs)
    take_map f zero xs = refl
    take_map f (suc n) [] = refl
    take_map f (suc n) (x ∷ xs) = ap (f x ∷◌) (take_map f n xs)

    pub drop_map : (f : A → B) (n : ℕ) (xs : List A) → drop n (map f xs) ≡ map f (drop n xs)
    drop_map f zero xs = refl
    drop_map f (suc n) [] = refl
    drop_map f (suc n) (x ∷ xs) = drop_map f n xs

    pub concat_map_append : (f : A → List B) (xs ys : List A) → concat_map f (xs ++ ys) ≡ concat_map f xs ++ concat_map f ys
    concat_map_append f [] ys = refl
    concat_map_append f (x ∷ xs) ys = rw (concat_map_append f xs ys) (sym (append_assoc (f x) (concat_map f xs) (concat_map f ys)))

    pub concat_map_same : (f g : A → List B) (xs : List A) → All (λ x. f x ≡ g x) xs → concat_map f xs ≡ concat_map g xs
    concat_map_same f g [] h = refl
    concat_map_same f g (x ∷ xs) h = ap₂ (◌++◌) h.0 (concat_map_same f g xs h.1)

    pub concat_map_none : (f : A → List B) (xs : List A) → All (λ x. f x ≡ []) xs → concat_map f xs ≡ []
    concat_map_none f [] h = refl
    concat_map_none f (x ∷ xs) h = ap₂ (◌++◌) h.0 (concat_map_none f xs h.1)

module _ {A B C : Type 0} where
  pub concat_map_map : (f : B → List C) (g : A → B) (xs : List A) → concat_map f (map g xs) ≡ concat_map (λ x. f (g x)) xs
  concat_map_map f g [] = refl
  concat_map_map f g (x ∷ xs) = ap (f (g x) ++◌) (concat_map_map f g xs)

  pub concat_map_concat_map : (f : B → List C) (g : A → List B) (xs : List A) → concat_map f (concat_map g xs) ≡ concat_map (λ x. concat_map f (g x)) xs
  concat_map_concat_map f g [] = refl
  concat_map_concat_map f g (x ∷ xs) = concat_map_append f (g x) (concat_map g xs) ∙ ap (concat_map f (g x) ++◌) (concat_map_concat_map f g xs)
