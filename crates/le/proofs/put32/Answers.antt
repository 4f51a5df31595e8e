use Rattle.std.specs.Prelude.{◌≡◌, refl, ◌+◌, ◌/◌, ◌%◌}
use Rattle.std.proofs.Common.{arith}
use Rattle.le.specs.Le.{set16, set32}
use Rattle.le.proofs.put32.Goals as goal

pub returns : goal.returns
unfolding set16 set32
returns c =
    let first : c.args.v % 65536 % 256 ≡ c.args.v % 256 = omega arith in
    let second : c.args.v % 65536 / 256 ≡ c.args.v / 256 % 256 = omega arith in
    let fourth : c.args.v / 65536 / 256 ≡ c.args.v / 16777216 % 256 = omega (arith, c.ranges.v.fits) in
    let last : c.args.p + 2 + 1 ≡ c.args.p + 3 = omega arith in
    rw (c.to_le_bytes.ensures, first, second, fourth, last) refl
