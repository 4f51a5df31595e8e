-- The records that bytes have room for, and the laws of where records stand. What is said of records elsewhere goes by these names and
-- laws and counts in records, which is linear whatever the width of a record is.
use Rattle.std.specs.Prelude.{◌≡◌, refl, List, ℕ, ◌+◌, ◌*◌, ◌-◌, ◌/◌, ◌<◌, ◌≤◌, min, eqb, length, get_or}
use Rattle.std.proofs.Common.{ap, arith}
use Rattle.tree.specs.Tree.{Place}
use Rattle.tree.specs.Offset as offset
use Rattle.tree.specs.Layout.{Version, v1, v2, version_by, version_in, header_bytes, width, span, start, start_in}
use Rattle.tree.specs.Fields.{place_in, head_at}

-- The records of a version that so many bytes have room for, behind the header.
unfoldable pub whole : Version → ℕ → ℕ
whole v1 bytes = (bytes - header_bytes) / 16
whole v2 bytes = (bytes - header_bytes) / 20

-- The same, said to be no more than the bytes: a record's number then fits where the length does, whatever `whole` is.
abbrev pub records_of : Version → ℕ → ℕ
records_of v bytes = min bytes (whole v bytes)

-- The records that a list of bytes has room for.
abbrev pub records_in : List ℕ → ℕ
records_in s = records_of (version_in s) (length s)

-- The version is in the header, so that what keeps that keeps it.
pub version_same : (a b : List ℕ) → get_or b 3 0 ≡ get_or a 3 0 → version_in b ≡ version_in a
unfolding version_in
version_same a b e = ap (λ (x : ℕ). version_by (eqb x 2)) e

-- The same version and length make the same room.
pub room_same : (a b : List ℕ) → version_in b ≡ version_in a → length b ≡ length a → records_in b ≡ records_in a
room_same a b e l = rw (e, l)

-- A place that a record says is one that its version can say.
pub place_twice : (v : Version) (p : Place) → place_in v (place_in v p) ≡ place_in v p
unfolding place_in
place_twice v1 p = refl
place_twice v2 p = refl

pub place_said : (s t : List ℕ) (i : ℕ) → version_in t ≡ version_in s → {p : Place} → p ≡ (head_at s i).place → place_in (version_in t) p ≡ (head_at s i).place
place_said s t i e {p} q = rw (e, q) (place_twice (version_in s) _)

-- The fields of a record are within it.
pub fields_within : (v : Version) → offset.end ≤ width v
unfolding width
fields_within v1 = omega arith
fields_within v2 = omega arith

pub span_none : (v : Version) → span v 0 ≡ 0
unfolding span width
span_none v1 = omega arith
span_none v2 = omega arith

pub span_one : (v : Version) → span v 1 ≡ width v
unfolding span width
span_one v1 = omega arith
span_one v2 = omega arith

pub start_first : (v : Version) → start v 0 ≡ header_bytes
unfolding start span width
start_first v1 = omega arith
start_first v2 = omega arith

pub start_span : (v : Version) (n : ℕ) → start v n ≡ start v 0 + span v n
unfolding start span width
start_span v1 n = omega arith
start_span v2 n = omega arith

-- The length of a file whose count has two bytes is a number of 64 bits.
pub start_small : (v : Version) (n : ℕ) → n < 65536 → start v n < 18446744073709551616
unfolding start span width
start_small v1 n l = omega arith
start_small v2 n l = omega arith

-- The bytes of n records of a width that is told.
pub span_by : {w : ℕ} (v : Version) (n : ℕ) → w ≡ width v → w * n ≡ span v n
unfolding span
span_by v n e = ap (λ (w : ℕ). w * n) e

pub span_plus : (v : Version) (i n : ℕ) → span v (i + n) ≡ span v i + span v n
unfolding span width
span_plus v1 i n = omega arith
span_plus v2 i n = omega arith

pub start_plus : (v : Version) (i n : ℕ) → start v (i + n) ≡ start v i + span v n
unfolding start span width
start_plus v1 i n = omega arith
start_plus v2 i n = omega arith

pub span_le : (v : Version) (i n : ℕ) → i ≤ n → span v i ≤ span v n
unfolding span width
span_le v1 i n l = omega arith
span_le v2 i n l = omega arith

pub start_le : (v : Version) (i n : ℕ) → i ≤ n → start v i ≤ start v n
unfolding start span width
start_le v1 i n l = omega arith
start_le v2 i n l = omega arith

-- Different records do not overlap.
pub start_apart : (v : Version) (i n : ℕ) → i < n → start v i + width v ≤ start v n
unfolding start span width
start_apart v1 i n l = omega arith
start_apart v2 i n l = omega arith

-- The next record's start.
pub start_next : (v : Version) (i : ℕ) → start v (i + 1) ≡ start v i + width v
unfolding start span width
start_next v1 i = omega arith
start_next v2 i = omega arith

-- The header is before each record.
pub header_before : (v : Version) (i : ℕ) → header_bytes ≤ start v i
header_before v i = omega (arith, start_first v, start_le v 0 i (omega arith))

-- What has room in so many bytes.
pub has_room : (v : Version) (bytes n : ℕ) → start v n ≤ bytes → n ≤ records_of v bytes
unfolding start span width whole
has_room v1 bytes n l = omega arith
has_room v2 bytes n l = omega arith

pub record_inside : (v : Version) (bytes i : ℕ) → i + 1 ≤ records_of v bytes → start v i + width v ≤ bytes
unfolding start span width whole
record_inside v1 bytes i l = omega arith
record_inside v2 bytes i l = omega arith

pub span_inside : (v : Version) (bytes i n : ℕ) → i + n ≤ records_of v bytes → 1 ≤ n → start v i + span v n ≤ bytes
unfolding start span width whole
span_inside v1 bytes i n l h = omega arith
span_inside v2 bytes i n l h = omega arith

pub header_inside : (s : List ℕ) (i : ℕ) → i + 1 ≤ records_in s → header_bytes ≤ length s
header_inside s i l = omega (arith, record_inside (version_in s) (length s) i l, header_before (version_in s) i)

-- "the last four the end"
pub end_inside : (s : List ℕ) (i : ℕ) → i + 1 ≤ records_in s → version_in s ≡ v2 → start_in s i + offset.end + 4 ≤ length s
unfolding width
end_inside s i l e = omega (arith, record_inside (version_in s) (length s) i l, ap width e)
