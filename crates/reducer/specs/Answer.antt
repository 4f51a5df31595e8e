-- What Reduce answers: document 01's number and values for every case, every lent byte, and what holds of an accepted file's answer.
use Rattle.std.specs.Prelude.{◌≡◌, refl, Bool, cond, List, [], ◌∷◌, ◌++◌, ℕ, zero, suc, ◌*◌, ◌-◌, ◌≤◌, ltb, length, get_or, drop, Option, Some, None, Result, Ok, Err}
use Rattle.std.proofs.Common.{sym, ap, ◌∙◌, arith, length-append}
use Rattle.stated.specs.Stated.{Stated, injective_by}
use Rattle.refusal.specs.declared.Refusal.{Refusal}
use Rattle.refusal.specs.Number.{number_of, refusal_of, refusal_back}
use Rattle.tree.specs.Tree.{Tree, forest, records, levels, depth}
use Rattle.tree.specs.Layout.{Version, v1, v2, version_in, width, span, start}
use Rattle.tree.specs.Fields.{settings_of, count_of}
use Rattle.tree.specs.File.{file_bytes}
use Rattle.tree.specs.Refusal.{reduce_limits, list_effects_limits, refusal, tree_of}
use Rattle.rules.specs.Reduce.{reduce}
use Rattle.rules.specs.Reads.{Premise}
use Rattle.readings.specs.Given.{settings_given, settings_with}
use Rattle.effects.specs.Answer.{effect_list_given}

pub data Case : Type 0 where
  refused removable kept : Case

-- "Refused: number, length 0", "Removable: length 0", "Kept: length"
abbrev pub refused_by : ℕ → Stated Case
refused_by n = record { case = Case.refused; number = n; values = 0 ∷ [] }

abbrev pub answered : Case → ℕ → Stated Case
answered case length = record { case = case; number = 0; values = length ∷ [] }

abbrev pub stated : Result (Option ℕ) Refusal → Stated Case
stated (Ok None) = answered Case.removable 0
stated (Ok (Some n)) = answered Case.kept n
stated (Err r) = refused_by (number_of r)

-- "9 output under 8 + 16 × (2 × N − 1) bytes": the length of a file of 2 × N − 1 records; 02, N6: "Each length formula uses 20 for 16 in
-- version 2."
abbrev pub least_output : Version → ℕ → ℕ
least_output v n = start v (2 * n - 1)

-- The refusals of the file, then 9.
abbrev pub number_by : ℕ → Bool → ℕ
number_by zero short = cond short 9 0
number_by (suc k) short = suc k

unfoldable pub number : List ℕ → ℕ → ℕ
number s room = number_by (refusal reduce_limits s) (ltb room (least_output (version_in s) (count_of s)))

-- What is left of the file's tree under the file's settings.
unfoldable pub left : List ℕ → List Tree
left s = reduce (settings_with (settings_of s)) (tree_of s)

-- "Removable: length 0", "Kept: length; .. header settings copied"; 02, N6: "Version 1 is still read and answers version 1."
abbrev pub file_of : Version → ℕ → List Tree → List ℕ
file_of v settings [] = []
file_of v settings (t ∷ ts) = file_bytes v settings t

unfoldable pub rewritten : List ℕ → List ℕ
rewritten s = file_of (version_in s) (settings_of s) (left s)

-- "removable, or one rewritten tree with its length": that there is at most one is promised below.
abbrev pub case_of : List Tree → Case
case_of [] = Case.removable
case_of (t ∷ ts) = Case.kept

abbrev pub stated_of : ℕ → List ℕ → Stated Case
stated_of zero s = answered (case_of (left s)) (length (rewritten s))
stated_of (suc k) s = refused_by (suc k)

-- "Refused: .. output untouched. Removable: .. untouched. Kept: .. later bytes untouched"
abbrev pub bytes_of : ℕ → List ℕ → List ℕ → List ℕ
bytes_of zero s old = rewritten s ++ drop (length (rewritten s)) old
bytes_of (suc k) s old = old

-- The effect list of the answer under the places that count as yes: what List effects lists of a kept file, and none where nothing is
-- kept.
abbrev list_of : List ℕ → List Tree → List ℕ → List ℕ
list_of places [] file = []
list_of places (t ∷ ts) file = effect_list_given places file

unfoldable pub answer_list_given : List ℕ → List ℕ → List ℕ
answer_list_given places s = list_of places (left s) (rewritten s)

abbrev pub answer_list : List ℕ → List ℕ
answer_list s = answer_list_given [] s

-- A kept file: List effects accepts it, and it holds the tree that is left, in the same version and under the same settings.
pub record KeptFile (s : List ℕ) (t : Tree) : Type 0 where
  pub is_listed : refusal list_effects_limits (rewritten s) ≡ 0
  pub tree_is : tree_of (rewritten s) ≡ t
  pub version_is : version_in (rewritten s) ≡ version_in s
  pub settings_is : settings_of (rewritten s) ≡ settings_of s

-- What holds of the answer to an accepted file.
pub record Promised (s : List ℕ) : Type 0 where
  -- Demand 3: "the same effects, each as often and in the same order. [...] A tree answered removable has an empty list. [...] The one
  -- premise: each node whose clear effect flag is read, in the cases that 01 names, has an empty effect list." 02, N1: "For every such list
  -- the effects must be equal, the premise being read under the same list".
  pub same_effects : (places : List ℕ) → Premise (settings_given places (settings_of s)) (tree_of s) → answer_list_given places s ≡ effect_list_given places s
  -- "premise or not, there is no result of more than 2 × N − 1 records from N"
  pub few : records (forest (left s)) ≤ 2 * count_of s - 1
  -- "Result depth is at most one more."
  pub low : levels (forest (left s)) ≤ suc (depth (tree_of s))
  pub at_most_one : length (left s) ≤ 1
  pub kept_file : (t : Tree) → left s ≡ t ∷ [] → KeptFile s t

pub record Answers (s old new : List ℕ) (r : Result (Option ℕ) Refusal) : Type 0 where
  pub answer : stated r ≡ stated_of (number s (length old)) s
  pub bytes : new ≡ bytes_of (number s (length old)) s old
  pub promised : number s (length old) ≡ 0 → Promised s

-- An answer is determined by what it states, since it can be read back.
reduced_of : Stated Case → Result (Option ℕ) Refusal
reduced_of s = from s.case s.number s.values
  where
    from : Case → ℕ → List ℕ → Result (Option ℕ) Refusal
    from Case.refused n vs = Err (refusal_of n)
    from Case.removable n vs = Ok None
    from Case.kept n vs = Ok (Some (get_or vs 0 0))

pub stated_injective : (a b : Result (Option ℕ) Refusal) → stated a ≡ stated b → a ≡ b
unfolding reduced_of
stated_injective = injective_by stated reduced_of read
  where
    read : (a : Result (Option ℕ) Refusal) → reduced_of (stated a) ≡ a
    read (Ok None) = refl
    read (Ok (Some n)) = refl
    read (Err r) = ap Err (refusal_back r)

-- The file that is kept stands in the lent bytes.
pub kept_within : {s old new : List ℕ} {r : Result (Option ℕ) Refusal} {n : ℕ} → Answers s old new r → r ≡ Ok (Some n) → n ≤ length new
kept_within {s} {old} {new} {r} {n} a is-kept = rw a.bytes (go (number s (length old)) (ap stated (sym is-kept) ∙ a.answer))
  where
    go : (k : ℕ) → answered Case.kept n ≡ stated_of k s → n ≤ length (bytes_of k s old)
    go zero e =
        let counted : n ≡ length (rewritten s) = ap (λ (x : Stated Case). get_or x.values 0 0) e in
        omega (arith, length-append (rewritten s) (drop (length (rewritten s)) old))
    go (suc k) e = let z : ◌≡◌ {A = ℕ} 0 (suc k) = ap (λ (x : Stated Case). x.number) e in absurd (omega arith)

-- The output that any answer fits: a file of 3,999 records of version 2, which 2,000 may become.
abbrev pub most_output : ℕ
most_output = 79988

pub most_enough : (v : Version) (n : ℕ) → n ≤ 2000 → least_output v n ≤ most_output
unfolding start span width
most_enough v1 n l = omega arith
most_enough v2 n l = omega arith
