-- What an operation answers, as document 01 says it: "a definition gives this paper's number and values for every case of the enum".
-- Each answer's enum has a function `stated` to this, and a type Case of names for its cases.
use Rattle.std.specs.Prelude.{◌≡◌, List, ℕ}
use Rattle.std.proofs.Common.{sym, ap, ◌∙◌}

-- Which case it is, the refusal's number, 0 where there is none, and the values. The case is named because number and values alone do
-- not tell it: of a removable tree and of a kept one 01 states a length, and nothing else.
pub record Stated (Case : Type 0) : Type 0 where
  pub case : Case
  pub number : ℕ
  pub values : List ℕ

-- A left inverse makes a function injective: an answer that can be read back is determined by what is stated of it.
pub injective_by : {A B : Type 0} (f : A → B) (g : B → A) → ((a : A) → g (f a) ≡ a) → (a b : A) → f a ≡ f b → a ≡ b
injective_by f g inverse a b e = sym (inverse a) ∙ ap g e ∙ inverse b
