use Rattle.std.proofs.Common.{◌≡◌, ℕ, ◌+◌, ◌-◌, ◌≤◌, List, ◌++◌, rules, length, take, sym, ap, ◌∙◌, subst, length-take-le}
use Rattle.std.specs.Io.KnownBytes.{Consumes}
use Rattle.std.proofs.KnownBytes.{Consumes-trans}
use borrow.Rule.Slice.PartMut.{put_mid, post_of}
use Rattle.std.proofs.Math.Seq.{take-append-add, take-append-le}
use Rattle.streams.proofs.read_full.Goals as goal

-- behind the front that stays stands what is put there
take-put_mid : (a n : ℕ) (xs ys : List ℕ) → a ≤ length xs → n ≤ length ys → take (a + n) (put_mid a (length xs - a) xs ys) ≡ take a xs ++ take n ys
take-put_mid a n xs ys within fits =
    let after = post_of a (length xs - a) xs in
    ap (λ (k : ℕ). take (k + n) (take a xs ++ (ys ++ after))) (sym (length-take-le a xs within))
    ∙ take-append-add (take a xs) (ys ++ after) n
    ∙ ap (λ (l : List ℕ). take a xs ++ l) (take-append-le n ys after fits)

pub loop-done-preserved : goal.loop-done-preserved
loop-done-preserved g c =
    let (_, within, before) = c.loop-done.invariant in
    let bound = c.in-Ok.ensures.bound.0 in
    let joined = Consumes-trans _ _ _ _ _ before c.in-Ok.ensures.bytes.0 in
    let placed = take-put_mid c.loop-done.done c.in-Ok.n c.loop-done.buf c.read.new.buf within bound in
    (search rules, search rules, subst (Consumes _ _) (sym placed) joined)
