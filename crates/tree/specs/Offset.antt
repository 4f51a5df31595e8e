-- Where each field of a record starts, counted from the record's first byte: "byte 0 kind, 1 facts, 2 sub, 3 zero, 4–5 children, 6–7
-- records in the subtree with itself, 8–11 text, 12–15 place"; 02, N6: in version 2 "the last four the end".
use Rattle.std.specs.Prelude.{ℕ}

abbrev pub kind : ℕ
kind = 0

abbrev pub facts : ℕ
facts = 1

abbrev pub sub : ℕ
sub = 2

abbrev pub reserved : ℕ
reserved = 3

abbrev pub children : ℕ
children = 4

abbrev pub subtree : ℕ
subtree = 6

abbrev pub text : ℕ
text = 8

abbrev pub place : ℕ
place = 12

-- In version 1 this is the byte behind the last field.
abbrev pub end : ℕ
end = 16
