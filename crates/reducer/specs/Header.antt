-- The header of a rewritten file: all but its record count before the records, and the count behind them.
use Rattle.std.specs.Prelude.{◌≡◌, ◌≢◌, List, ℕ, ◌+◌, ◌<◌, ◌≤◌, length, get_or}
use Rattle.std.proofs.Common.{◌∙◌, arith}
use Rattle.le.specs.Le.{u16_at, set16}
use Rattle.le.specs.Laws.{u16_set16, get_d_set16_other}
use Rattle.tree.specs.Layout.{version_in, header_bytes}
use Rattle.tree.specs.Room.{version_same, header_before}
use Rattle.output.specs.Records.{Before, Behind}

-- The first six bytes are those of s.
pub record Begun (s new : List ℕ) : Type 0 where
  pub same : (k : ℕ) → k < 6 → get_or new k 0 ≡ get_or s k 0

-- The next two say n, and all else is as it was.
pub record Counted (old new : List ℕ) (n : ℕ) : Type 0 where
  pub same : (k : ℕ) → k < 6 → get_or new k 0 ≡ get_or old k 0
  pub counts : u16_at new 6 ≡ n
  pub above : Behind old new 0

pub begun_version : {s new : List ℕ} → Begun s new → version_in new ≡ version_in s
begun_version {s} {new} b = version_same s new (b.same 3 (omega arith))

-- What is written behind the header keeps it.
pub begun_kept : {s old new : List ℕ} {n : ℕ} → Begun s old → Before old new n → Begun s new
begun_kept {s} {old} {new} {n} b a = record { same = λ k h. a.bytes.same k (omega (arith, header_before (version_in old) n)) ∙ b.same k h }

pub counted : {old new : List ℕ} {n : ℕ} → new ≡ set16 old 6 n → header_bytes ≤ length old → Counted old new n
counted {old} {new} {n} e l = record {
  same = λ k h. other k (omega arith) (omega arith);
  counts = rw e (u16_set16 old 6 n (omega arith));
  above = record {
    bytes = record { same = λ k h. other k (omega (arith, header_before (version_in old) 0)) (omega (arith, header_before (version_in old) 0)) };
    same = version_same old new (other 3 (omega arith) (omega arith));
  };
}
  where
    other : (k : ℕ) → k ≢ 6 → k ≢ 6 + 1 → get_or new k 0 ≡ get_or old k 0
    other k a b = rw (e, get_d_set16_other old 6 n k a b)
