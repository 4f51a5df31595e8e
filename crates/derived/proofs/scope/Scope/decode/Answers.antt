-- The masks of the code and the division of the definitions read the same bits of each byte.
use Rattle.std.proofs.Common.{refl, bit_and, not, eqb}
use Rattle.std.proofs.lemmas.Bool.{agree_below_at}
use Rattle.derived.specs.Scopes.{is_block, is_arrow, is_constructor}
use Rattle.derived.proofs.scope.Scope.decode.Goals as goal

pub returns : goal.returns
returns c =
    rw (
      agree_below_at (λ n. not (eqb (bit_and n 1) 0)) is_block 256 c.args.byte refl c.ranges.byte.fits,
      agree_below_at (λ n. not (eqb (bit_and n 2) 0)) is_arrow 256 c.args.byte refl c.ranges.byte.fits,
      agree_below_at (λ n. not (eqb (bit_and n 4) 0)) is_constructor 256 c.args.byte refl c.ranges.byte.fits,
    ) refl
