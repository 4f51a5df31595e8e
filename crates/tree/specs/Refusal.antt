-- Refusals 1 to 8 and 17 of a list of bytes, in 01's order: each number is tested over all records before the next. 02, N9, tests 5
-- again after 7, and N6 tests 17 behind it.
use Rattle.std.specs.Prelude.{Bool, true, false, cond, ◌&&◌, ◌||◌, List, ℕ, zero, suc, ◌+◌, eqb, leb, ltb, length, get_or}
use Rattle.tree.specs.Tree.{Head, Forest, nil, node, Tree, one, depth}
use Rattle.tree.specs.Below.{all_below}
use Rattle.tree.specs.Record.{record_ok, taken, end_ok}
use Rattle.tree.specs.Symbol.{additions_agree}
use Rattle.tree.specs.Children.{child_count_ok, may_stand}
use Rattle.tree.specs.Layout.{Version, v1, v2, start_in}
use Rattle.tree.specs.Fields.{version_of, settings_of, count_of, head_at, children_at, subtree_at}
use Rattle.tree.specs.Kind as kind

-- How many records and levels an operation takes, and whether it takes logical nodes.
pub record Limits : Type 0 where
  pub records : ℕ
  pub depth : ℕ
  pub logicals : Bool

-- Reduce: "4 count not 1–2,000", "8 depth over 64 (root 1)"; of kind 20 "the reducer still refuses it with 6"
abbrev pub reduce_limits : Limits
reduce_limits = record { records = 2000; depth = 64; logicals = false }

-- List effects: "1–8 likewise, but count to 3,999 and depth to 65"; kind 20 "is read by the effect listing"
abbrev pub list_effects_limits : Limits
list_effects_limits = record { records = 3999; depth = 65; logicals = true }

-- 02, N6: "The two-column and batch programs take 1,500 records of version 2 and refuse more as a wrong count; the library stays at 2,000."
abbrev pub program_limits : Version → Limits
program_limits v1 = reduce_limits
program_limits v2 = record { records = 1500; depth = 64; logicals = false }

-- "1 under 8 bytes or mark wrong"
unfoldable pub mark_ok : List ℕ → Bool
mark_ok s = leb 8 (length s) && (eqb (get_or s 0 0) 85 && (eqb (get_or s 1 0) 88 && eqb (get_or s 2 0) 84))

-- "2 version": 1, and with 02, N6, 2
unfoldable pub version_ok : List ℕ → Bool
version_ok s = eqb (version_of s) 1 || eqb (version_of s) 2

-- "3 setting bits 3–7": a byte is under 8 exactly if none of these is set, since bit 3 counts 8
unfoldable pub settings_ok : List ℕ → Bool
settings_ok s = ltb (settings_of s) 8

-- "4 count not 1–2,000, or length not 8 + 16 × N", which is where record N would start; 2,000 is Reduce's limit. 02, N6: "Each length
-- formula uses 20 for 16 in version 2."
unfoldable pub count_ok : ℕ → List ℕ → Bool
count_ok max_records s = (leb 1 (count_of s) && leb (count_of s) max_records) && eqb (length s) (start_in s (count_of s))

-- "5 kind, facts, sub or byte 3"
unfoldable pub records_ok : List ℕ → Bool
records_ok s = all_below (λ i. record_ok (head_at s i)) (count_of s)

-- "6 kinds 20–22", by what the operation takes
unfoldable pub all_taken : Bool → List ℕ → Bool
all_taken logicals s = all_below (λ i. taken logicals (head_at s i)) (count_of s)

-- From record p on, k children of the node h, one behind the other by their subtree sizes, end exactly at record e, and each may
-- stand there. `first`: whether the child at p is the first one.
unfoldable pub children_end : List ℕ → Head → Bool → ℕ → ℕ → ℕ → Bool
children_end s h first zero p e = eqb p e
children_end s h first (suc k) p e =
    (leb 1 (subtree_at s p) && leb (p + subtree_at s p) e)
    && (may_stand h first (head_at s p).kind && children_end s h false k (p + subtree_at s p) e)

-- Record i of n: its child count is one that its kind has, and its children end where its subtree does.
unfoldable pub shape_at : List ℕ → ℕ → ℕ → Bool
shape_at s n i =
    leb (i + subtree_at s i) n
    && (child_count_ok (head_at s i) (children_at s i)
    && children_end s (head_at s i) true (children_at s i) (i + 1) (i + subtree_at s i))

-- "7 child counts, subtree sizes (the root's is N), or a kind where it may not stand"; "the root, is an expression"
unfoldable pub shape_ok : List ℕ → Bool
shape_ok s =
    (eqb (subtree_at s 0) (count_of s) && kind.is_expression (head_at s 0).kind) && all_below (shape_at s (count_of s)) (count_of s)

-- The trees that stand from record p to record e, each by its subtree size; `fuel` bounds the records read.
unfoldable pub decode : ℕ → List ℕ → ℕ → ℕ → Forest
decode zero s p e = nil
decode (suc fuel) s p e =
    cond (ltb p e)
    (node (head_at s p) (decode fuel s (p + 1) (p + subtree_at s p)) (decode fuel s (p + subtree_at s p) e)) nil

-- The tree of a file: record 0 is its root.
unfoldable pub tree_of : List ℕ → Tree
tree_of s = record { head = head_at s 0; kids = decode (count_of s) s 1 (count_of s) }

-- 5 again: 02, N9: "a recorded "yes" on one is refused as bad facts, for the addition just after the tree's shape is tested"
unfoldable pub additions_ok : List ℕ → Bool
additions_ok s = additions_agree (one (tree_of s))

-- 02, N6: "17 when an end lies before its start, tested after the tree's shape and before its depth"
unfoldable pub ends_ok : List ℕ → Bool
ends_ok s = all_below (λ i. end_ok (head_at s i).place) (count_of s)

-- "8 depth over 64 (root 1)"; 64 is Reduce's limit
unfoldable pub depth_ok : ℕ → List ℕ → Bool
depth_ok max_depth s = leb (depth (tree_of s)) max_depth

abbrev pub unless : Bool → ℕ → ℕ → ℕ
unless ok number next = cond ok next number

-- The number with which a file is refused; 0 where it is accepted.
unfoldable pub refusal : Limits → List ℕ → ℕ
refusal limits s =
    unless (mark_ok s) 1
    (unless (version_ok s) 2
    (unless (settings_ok s) 3
    (unless (count_ok limits.records s) 4
    (unless (records_ok s) 5
    (unless (all_taken limits.logicals s) 6
    (unless (shape_ok s) 7
    (unless (additions_ok s) 5
    (unless (ends_ok s) 17
    (unless (depth_ok limits.depth s) 8 0)))))))))
