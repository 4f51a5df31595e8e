-- Heads by their kind and sub, for proofs that go by these alone.
use Rattle.std.specs.Prelude.{ℕ}
use Rattle.tree.specs.Tree.{Head}

-- A head that says nothing else.
abbrev pub bare : ℕ → ℕ → Head
bare k u = record { kind = k; facts = 0; sub = u; reserved = 0; text = 0; place = record { start = 0; end = 0 } }

-- A head that says all else as h does.
abbrev pub as_kind : Head → ℕ → ℕ → Head
as_kind h k u = record { kind = k; facts = h.facts; sub = u; reserved = h.reserved; text = h.text; place = h.place }
