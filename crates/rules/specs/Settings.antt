-- What a reduction or a listing is told besides the tree.
use Rattle.std.specs.Prelude.{Bool, List, ℕ, eqb}
use Rattle.tree.specs.Tree.{Place}
use Rattle.tree.specs.Record.{bit_set}
use Rattle.rules.specs.Lists.{any}

pub record Settings : Type 0 where
  -- "5 settings (bit 0 annotations, 1 tree-shake-only, 2 derived)"
  pub byte : ℕ
  -- 02, N1: "the listing is lent the places that count as yes, any list"; reducing reads none of them.
  pub yes : List ℕ

-- The same settings with other places that count as yes.
abbrev pub given : List ℕ → Settings → Settings
given places s = record { byte = s.byte; yes = places }

unfoldable pub annotations : Settings → Bool
annotations s = bit_set 0 s.byte

unfoldable pub tree_shake_only : Settings → Bool
tree_shake_only s = bit_set 1 s.byte

unfoldable pub derived : Settings → Bool
derived s = bit_set 2 s.byte

-- "other test places being no"
unfoldable pub counts_as_yes : Settings → Place → Bool
counts_as_yes s p = any (eqb p.start) s.yes
