-- The fields of a list of bytes, read as a tree file's: of the header, and of record i.
use Rattle.std.specs.Prelude.{List, ℕ, ◌+◌, get_or}
use Rattle.le.specs.Le.{u16_at, u32_at}
use Rattle.tree.specs.Tree.{Place, Head, Tree, alone}
use Rattle.tree.specs.Offset as offset
use Rattle.tree.specs.Layout.{Version, v1, v2, version_in, start_in}

-- "3–4 version 1"
abbrev pub version_of : List ℕ → ℕ
version_of s = u16_at s 3

-- "5 settings"
abbrev pub settings_of : List ℕ → ℕ
settings_of s = get_or s 5 0

-- "6–7 record count N"
abbrev pub count_of : List ℕ → ℕ
count_of s = u16_at s 6

-- A place as records of a version say it. In version 1 they say no end, and it is taken to be the start.
unfoldable pub place_in : Version → Place → Place
place_in v1 p = record { start = p.start; end = p.start }
place_in v2 p = p

-- The place of a record of a version that starts at byte p.
abbrev pub place_from : Version → List ℕ → ℕ → Place
place_from v s p = place_in v (record { start = u32_at s (p + offset.place); end = u32_at s (p + offset.end) })

-- "byte 0 kind, 1 facts, 2 sub, 3 zero, .., 8–11 text, 12–15 place"; 02, N6: "the last four the end"
abbrev pub head_at : List ℕ → ℕ → Head
head_at s i = record {
  kind = get_or s (start_in s i + offset.kind) 0;
  facts = get_or s (start_in s i + offset.facts) 0;
  sub = get_or s (start_in s i + offset.sub) 0;
  reserved = get_or s (start_in s i + offset.reserved) 0;
  text = u32_at s (start_in s i + offset.text);
  place = place_from (version_in s) s (start_in s i);
}

abbrev pub node_at : List ℕ → ℕ → Tree
node_at s i = alone (head_at s i)

-- "4–5 children"
abbrev pub children_at : List ℕ → ℕ → ℕ
children_at s i = u16_at s (start_in s i + offset.children)

-- "6–7 records in the subtree with itself"
abbrev pub subtree_at : List ℕ → ℕ → ℕ
subtree_at s i = u16_at s (start_in s i + offset.subtree)
