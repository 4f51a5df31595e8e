-- What List effects answers: document 01's number and values for every case, and every lent entry.
use Rattle.std.specs.Prelude.{◌≡◌, refl, Bool, cond, List, [], ◌∷◌, ◌++◌, ℕ, zero, suc, ◌*◌, ◌≤◌, ltb, length, get_or, drop, Result, Ok, Err}
use Rattle.std.proofs.Common.{sym, ap, ◌∙◌, arith, length-append}
use Rattle.stated.specs.Stated.{Stated, injective_by}
use Rattle.refusal.specs.declared.Refusal.{Refusal}
use Rattle.refusal.specs.Number.{number_of, refusal_of, refusal_back}
use Rattle.tree.specs.Fields.{settings_of, count_of}
use Rattle.tree.specs.Refusal.{list_effects_limits, refusal, tree_of}
use Rattle.rules.specs.Effects.{effects}
use Rattle.readings.specs.Given.{settings_given}

pub data Case : Type 0 where
  refused count : Case

-- "refused: number, count 0"
abbrev pub refused_by : ℕ → Stated Case
refused_by n = record { case = Case.refused; number = n; values = 0 ∷ [] }

-- "Returns the count"
abbrev pub counts : ℕ → Stated Case
counts n = record { case = Case.count; number = 0; values = n ∷ [] }

abbrev pub stated : Result ℕ Refusal → Stated Case
stated (Ok n) = counts n
stated (Err r) = refused_by (number_of r)

-- "1–8 likewise, but count to 3,999 and depth to 65; 10 under 2 × N entries lent"
abbrev pub number_by : ℕ → Bool → ℕ
number_by zero short = cond short 10 0
number_by (suc k) short = suc k

unfoldable pub number : List ℕ → ℕ → ℕ
number s room = number_by (refusal list_effects_limits s) (ltb room (2 * count_of s))

-- "a tree's is its root's", "under the file's settings"; 02, N1: "the listing is lent the places that count as yes, any list"
unfoldable pub effect_list_given : List ℕ → List ℕ → List ℕ
effect_list_given places s = effects (settings_given places (settings_of s)) (tree_of s)

-- "programs lend none"
abbrev pub effect_list : List ℕ → List ℕ
effect_list s = effect_list_given [] s

-- "Returns the count, later entries untouched; refused: number, count 0, entries untouched."
abbrev pub stated_of : ℕ → List ℕ → Stated Case
stated_of zero l = counts (length l)
stated_of (suc k) l = refused_by (suc k)

abbrev pub entries_of : ℕ → List ℕ → List ℕ → List ℕ
entries_of zero l old = l ++ drop (length l) old
entries_of (suc k) l old = old

pub record AnswersGiven (places s old new : List ℕ) (r : Result ℕ Refusal) : Type 0 where
  pub answer : stated r ≡ stated_of (number s (length old)) (effect_list_given places s)
  pub entries : new ≡ entries_of (number s (length old)) (effect_list_given places s) old

-- Without such places it is the instance of the empty list.
abbrev pub Answers : List ℕ → List ℕ → List ℕ → Result ℕ Refusal → Type 0
Answers s old new r = AnswersGiven [] s old new r

-- An answer is determined by what it states, since it can be read back.
listed_of : Stated Case → Result ℕ Refusal
listed_of s = from s.case s.number s.values
  where
    from : Case → ℕ → List ℕ → Result ℕ Refusal
    from Case.refused n vs = Err (refusal_of n)
    from Case.count n vs = Ok (get_or vs 0 0)

pub stated_injective : (a b : Result ℕ Refusal) → stated a ≡ stated b → a ≡ b
unfolding listed_of
stated_injective = injective_by stated listed_of read
  where
    read : (a : Result ℕ Refusal) → listed_of (stated a) ≡ a
    read (Ok n) = refl
    read (Err r) = ap Err (refusal_back r)

-- The effects that are counted stand in the entries.
pub count_within_lem : {places s old new : List ℕ} {r : Result ℕ Refusal} {n : ℕ} → AnswersGiven places s old new r → r ≡ Ok n → n ≤ length new
count_within_lem {places} {s} {old} {new} {r} {n} a is_count = rw a.entries (go (number s (length old)) (effect_list_given places s) (ap stated (sym is_count) ∙ a.answer))
  where
    go : (k : ℕ) (l : List ℕ) → counts n ≡ stated_of k l → n ≤ length (entries_of k l old)
    go zero l e =
        let counted : n ≡ length l = ap (λ (x : Stated Case). get_or x.values 0 0) e in
        omega (arith, length-append l (drop (length l) old))
    go (suc k) l e = let z : ◌≡◌ {A = ℕ} 0 (suc k) = ap (λ (x : Stated Case). x.number) e in absurd (omega arith)
