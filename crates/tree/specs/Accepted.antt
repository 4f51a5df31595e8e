-- What is accepted, both ways: an accepted file is the bytes of its tree, which is permitted, and the bytes of each permitted tree are
-- an accepted file of that tree. So of the encoding a reader has to believe only `File`: `Fields` and `decode` agree with it. What is
-- well-formed (`Record`, `Children`) and the numbers and their order (`Refusal`) are 01's rules themselves.
use Rattle.std.specs.Prelude.{◌≡◌, Bool, true, ℕ, ◌<◌, ◌≤◌, length}
use mathlib.Core.List.{List}
use Rattle.tree.specs.Tree.{Tree, one, all_heads, size, depth}
use Rattle.tree.specs.Record.{logical_taken, end_ok}
use Rattle.tree.specs.Symbol.{additions_agree}
use Rattle.tree.specs.Children.{well_formed}
use Rattle.tree.specs.File.{file_bytes, all_encodable}
use Rattle.tree.specs.Fields.{settings_of, count_of}
use Rattle.tree.specs.Layout.{Version, version_in, start_in}
use Rattle.tree.specs.Refusal.{Limits, mark_ok, version_ok, settings_ok, count_ok, records_ok, all_taken, shape_ok, tree_of, additions_ok, ends_ok, depth_ok, refusal}
use Rattle.tree.specs.Stands.{Stands}
use Rattle.tree.specs.Encoding.{Bytes}

-- No refusal: each test holds.
pub record Passed (limits : Limits) (s : List ℕ) : Type 0 where
  pub mark : mark_ok s ≡ true
  pub version : version_ok s ≡ true
  pub settings : settings_ok s ≡ true
  pub counted : count_ok limits.records s ≡ true
  pub recorded : records_ok s ≡ true
  pub is_taken : all_taken limits.logicals s ≡ true
  pub shape : shape_ok s ≡ true
  pub additions : additions_ok s ≡ true
  pub ends : ends_ok s ≡ true
  pub low : depth_ok limits.depth s ≡ true

-- The tests of the count, taken apart.
pub record Counted (max_records : ℕ) (s : List ℕ) : Type 0 where
  pub some : 1 ≤ count_of s
  pub few : count_of s ≤ max_records
  pub long : length s ≡ start_in s (count_of s)

-- The tree of a file that passes the tests of refusals 5 to 7.
pub record Rooted (logicals : Bool) (s : List ℕ) : Type 0 where
  pub stands : Stands s 0 (one (tree_of s))
  pub sized : size (tree_of s) ≡ count_of s
  pub well : well_formed (tree_of s) ≡ true
  pub is_taken : all_heads (logical_taken logicals) (one (tree_of s)) ≡ true

-- A tree that a file of a version may hold, with settings and within limits: it is well-formed (refusals 5 to 7), with logical nodes only
-- where they are taken (6), no addition with a string part is said to be a symbol (5 again), no end lies before its start (17), its
-- fields fit their bytes, and it has at most so many records (4) and levels (8).
pub record Permitted (limits : Limits) (v : Version) (settings : ℕ) (t : Tree) : Type 0 where
  pub settings_ok_lem : settings < 8
  pub well : well_formed t ≡ true
  pub is_taken : all_heads (logical_taken limits.logicals) (one t) ≡ true
  pub agrees : additions_agree (one t) ≡ true
  pub ends : all_heads (λ h. end_ok h.place) (one t) ≡ true
  pub fits : all_encodable v (one t) ≡ true
  pub few : size t ≤ limits.records
  pub low : depth t ≤ limits.depth

-- An accepted file, and its tree.
pub record Accepted (limits : Limits) (s : List ℕ) : Type 0 where
  pub is_file : s ≡ file_bytes (version_in s) (settings_of s) (tree_of s)
  pub permitted : Permitted limits (version_in s) (settings_of s) (tree_of s)
  pub sized : size (tree_of s) ≡ count_of s
  pub stands : Stands s 0 (one (tree_of s))

-- The file of a tree: its bytes are bytes, it is accepted, and it holds that tree and those settings in that version.
pub record FileOf (limits : Limits) (v : Version) (settings : ℕ) (t : Tree) : Type 0 where
  pub is_bytes : Bytes (file_bytes v settings t)
  pub accepted : refusal limits (file_bytes v settings t) ≡ 0
  pub version_is : version_in (file_bytes v settings t) ≡ v
  pub settings_is : settings_of (file_bytes v settings t) ≡ settings
  pub tree_is : tree_of (file_bytes v settings t) ≡ t
