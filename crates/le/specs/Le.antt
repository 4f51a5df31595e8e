-- Little-endian fields of a list of bytes.
use Rattle.std.specs.Prelude.{List, ℕ, ◌+◌, ◌*◌, ◌/◌, ◌%◌, get_or, set}

-- the number of two bytes from p on
unfoldable pub u16_at : List ℕ → ℕ → ℕ
u16_at s p = get_or s p 0 + 256 * get_or s (p + 1) 0

-- the number of four bytes from p on
unfoldable pub u32_at : List ℕ → ℕ → ℕ
u32_at s p = u16_at s p + 65536 * u16_at s (p + 2)

-- the two bytes from p on replaced by those of v
unfoldable pub set16 : List ℕ → ℕ → ℕ → List ℕ
set16 s p v = set (set s p (v % 256)) (p + 1) (v / 256)

-- the four bytes from p on replaced by those of v
unfoldable pub set32 : List ℕ → ℕ → ℕ → List ℕ
set32 s p v = set16 (set16 s p (v % 65536)) (p + 2) (v / 65536)
