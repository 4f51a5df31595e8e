-- Where records stand in a tree file, by its version.
use Rattle.std.specs.Prelude.{Bool, true, false, List, ℕ, ◌+◌, ◌*◌, eqb, get_or}

-- "3–4 version 1"; 02, N6: "Version 2 records have 20 bytes, the last four the end", "Version 1 is still read and answers version 1."
pub data Version : Type 0 where
  v1 v2 : Version

-- The version of a list of bytes. Byte 3 tells it: byte 4 is 0 in both.
abbrev pub version_by : Bool → Version
version_by false = v1
version_by true = v2

unfoldable pub version_in : List ℕ → Version
version_in s = version_by (eqb (get_or s 3 0) 2)

-- The bytes before the records: "6–7 record count N. Then N records"
abbrev pub header_bytes : ℕ
header_bytes = 8

-- "records of 16 bytes", "Version 2 records have 20 bytes"
unfoldable pub width : Version → ℕ
width v1 = 16
width v2 = 20

-- The bytes of n records.
unfoldable pub span : Version → ℕ → ℕ
span v n = width v * n

-- Where record i starts. A file of i records ends there. "Each length formula uses 20 for 16 in version 2."
unfoldable pub start : Version → ℕ → ℕ
start v i = header_bytes + span v i

abbrev pub start_in : List ℕ → ℕ → ℕ
start_in s i = start (version_in s) i
