-- The number of a refusal, and the refusal of a number.
use Rattle.std.specs.Prelude.{◌≡◌, refl, [], ◌∷◌, ℕ, slice_index_or}
use Rattle.refusal.specs.declared.Refusal.{Refusal}
use Rattle.refusal.specs.declared.Refusal.TheVariants.{Mark, Version, Settings, Count, Record, Kind, Shape, Depth, Output, Entries, Scope, Ancestor, End}

abbrev pub number_of : Refusal → ℕ
number_of Mark = 1
number_of Version = 2
number_of Settings = 3
number_of Count = 4
number_of Record = 5
number_of Kind = 6
number_of Shape = 7
number_of Depth = 8
number_of Output = 9
number_of Entries = 10
number_of Scope = 11
number_of Ancestor = 12
number_of End = 17

-- The refusal that has a number; one of them where none has.
pub refusal_of : ℕ → Refusal
refusal_of n = slice_index_or (End ∷ Mark ∷ Version ∷ Settings ∷ Count ∷ Record ∷ Kind ∷ Shape ∷ Depth ∷ Output ∷ Entries ∷ Scope ∷ Ancestor ∷ []) n End

-- So no two have one number.
pub refusal_back : (r : Refusal) → refusal_of (number_of r) ≡ r
unfolding refusal_of
refusal_back Mark = refl
refusal_back Version = refl
refusal_back Settings = refl
refusal_back Count = refl
refusal_back Record = refl
refusal_back Kind = refl
refusal_back Shape = refl
refusal_back Depth = refl
refusal_back Output = refl
refusal_back Entries = refl
refusal_back Scope = refl
refusal_back Ancestor = refl
refusal_back End = refl
