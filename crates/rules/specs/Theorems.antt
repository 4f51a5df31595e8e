-- What is shown of reducing and listing, over all trees, facts and settings. A theorem assumes what it names, and no more.
use Rattle.std.specs.Prelude.{Bool, true, cond, ◌&&◌, ◌||◌, List, [], ◌∷◌, ◌++◌, ℕ, suc, ◌*◌, ◌-◌}
use Rattle.tree.specs.Tree.{Tree}
use Rattle.tree.specs.Refusal.{Limits}
use Rattle.rules.specs.Settings.{Settings, annotations, tree_shake_only}
use Rattle.rules.specs.Handler.{is_function, first_is}
use Rattle.rules.specs.Facts.{annotated, listed}

-- What happens of a list of effects where `throws past e` says whether e throws after `past`: each effect up to the first that
-- throws, with that one.
abbrev pub happens : (List ℕ → ℕ → Bool) → List ℕ → List ℕ → List ℕ
happens throws past [] = []
happens throws past (e ∷ es) = e ∷ cond (throws past e) [] (happens throws (past ++ (e ∷ [])) es)

-- What the limits of a tree make those of its answer.
abbrev pub kept_limits : Limits → Limits
kept_limits limits = record { records = 2 * limits.records - 1; depth = suc limits.depth; logicals = true }

-- 02, N5: "the calls with tree-shake-only on, a callee of kind 3 or 4, and either annotated with annotations on or listed"
abbrev pub called_function : Settings → Tree → Bool
called_function s t = tree_shake_only s && (first_is is_function t && ((annotations s && annotated t) || listed s t))
