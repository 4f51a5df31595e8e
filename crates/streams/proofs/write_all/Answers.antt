use Rattle.std.proofs.Common.{◌≡◌, ◌+◌, ◌≤◌, ◌++◌, arith, length, take, drop, sym, ap, ◌∙◌, subst, length-drop}
use Rattle.std.proofs.lemmas.List.{take_rest, drop-drop}
use Rattle.std.specs.Io.KnownBytes.{Appends}
use Rattle.std.proofs.KnownBytes.{Appends-trans}
use lib.Seq.{take-add}
use Rattle.streams.proofs.write_all.Goals as goal

pub loop-rest-preserved : goal.loop-rest-preserved
loop-rest-preserved g c =
    let bytes = c.args.bytes.now in
    let more = c.in-Ok.n in
    let (n, within, stands, before) = c.loop-rest.invariant in
    let fits : n + more ≤ length bytes = omega (arith, ap length stands, length-drop n bytes, c.in-Ok.ensures.bound) in
    let written : take n bytes ++ take more c.loop-rest.rest.now ≡ take (n + more) bytes = ap (λ l. take n bytes ++ take more l) stands ∙ sym (take-add n more bytes) in
    (n + more, fits, take_rest c.loop-rest.rest.now more ∙ ap (drop more) stands ∙ drop-drop more n bytes, subst (Appends _ _) written (Appends-trans _ _ _ _ _ before c.in-Ok.ensures.bytes))
