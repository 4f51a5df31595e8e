-- What the check answers: document 01's number and values for every case.
use Rattle.std.specs.Prelude.{◌≡◌, refl, List, [], ◌∷◌, ℕ, zero, suc, length, get_or, Result, Ok, Err}
use Rattle.std.proofs.Common.{sym, ap, arith}
use Rattle.stated.specs.Stated.{Stated, injective_by}
use Rattle.refusal.specs.declared.Refusal.{Refusal}
use Rattle.refusal.specs.Number.{number_of, refusal_of, refusal_back}
use Rattle.tree.specs.Fields.{settings_of, count_of}
use Rattle.tree.specs.Refusal as tree
use Rattle.tree.specs.Refusal.{refusal}
use Rattle.file.specs.declared.Limits.{Limits}
use Rattle.file.specs.declared.Accepted.{Accepted}

pub data Case : Type 0 where
  refused accepted : Case

-- A refusal states its number; an accepted file its settings and record count.
abbrev pub refused_by : ℕ → Stated Case
refused_by n = record { case = Case.refused; number = n; values = [] }

abbrev pub accepted_with : ℕ → ℕ → Stated Case
accepted_with settings count = record { case = Case.accepted; number = 0; values = settings ∷ count ∷ [] }

abbrev pub stated : Result Accepted Refusal → Stated Case
stated (Ok a) = accepted_with a.settings a.count
stated (Err r) = refused_by (number_of r)

-- The limits that the check is handed.
abbrev pub limits_of : Limits → tree.Limits
limits_of l = record { records = l.records; depth = l.depth; logicals = l.logicals }

-- What is stated of a file that is refused with a number, or with none.
abbrev pub stated_of : ℕ → List ℕ → Stated Case
stated_of zero s = accepted_with (settings_of s) (count_of s)
stated_of (suc k) s = refused_by (suc k)

-- What the check states of a file: the refusal's number, or the values of a file that none applies to.
unfoldable pub checked : tree.Limits → List ℕ → Stated Case
checked limits s = stated_of (refusal limits s) s

-- An answer is determined by what it states, since it can be read back.
checked_of : Stated Case → Result Accepted Refusal
checked_of s = from s.case s.number s.values
  where
    from : Case → ℕ → List ℕ → Result Accepted Refusal
    from Case.refused n vs = Err (refusal_of n)
    from Case.accepted n vs = Ok (record { settings = get_or vs 0 0; count = get_or vs 1 0 })

pub stated_injective : (a b : Result Accepted Refusal) → stated a ≡ stated b → a ≡ b
unfolding checked_of
stated_injective = injective_by stated checked_of read
  where
    read : (a : Result Accepted Refusal) → checked_of (stated a) ≡ a
    read (Ok a) = refl
    read (Err r) = ap Err (refusal_back r)

-- The number that is stated is the refusal's; 0 where none applies.
pub checked_number : (limits : tree.Limits) (s : List ℕ) → (checked limits s).number ≡ refusal limits s
unfolding checked
checked_number limits s = go (refusal limits s)
  where
    go : (k : ℕ) → (stated_of k s).number ≡ k
    go zero = refl
    go (suc k) = refl

-- What the check's answer says of the refusal.
pub checked_refused : (limits : tree.Limits) (s : List ℕ) (n : ℕ) → refused_by n ≡ checked limits s → (refusal limits s ≡ n) × (n ≡ 0 → ⊥)
unfolding checked
checked_refused limits s n e = go (refusal limits s) e
  where
    go : (m : ℕ) → refused_by n ≡ stated_of m s → (m ≡ n) × (n ≡ 0 → ⊥)
    go zero e = let z : ◌≡◌ {A = List ℕ} [] (settings_of s ∷ count_of s ∷ []) = ap (λ x. x.values) e in absurd (omega (arith, ap length z))
    go (suc m) e = let y : n ≡ suc m = ap (λ x. x.number) e in (sym y, λ z. omega arith)

pub checked_accepted : (limits : tree.Limits) (s : List ℕ) (settings n : ℕ) → accepted_with settings n ≡ checked limits s
    → (refusal limits s ≡ 0) × (settings ≡ settings_of s) × (n ≡ count_of s)
unfolding checked
checked_accepted limits s settings n e = go (refusal limits s) e
  where
    go : (m : ℕ) → accepted_with settings n ≡ stated_of m s → (m ≡ 0) × (settings ≡ settings_of s) × (n ≡ count_of s)
    go zero e =
        let z : settings ∷ n ∷ [] ≡ settings_of s ∷ count_of s ∷ [] = ap (λ x. x.values) e in
        (refl, ap (λ l. get_or l 0 0) z, ap (λ l. get_or l 1 0) z)
    go (suc m) e = let z : ◌≡◌ {A = ℕ} 0 (suc m) = ap (λ x. x.number) e in absurd (omega arith)
