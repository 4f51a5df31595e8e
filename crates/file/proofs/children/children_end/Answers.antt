use Rattle.std.proofs.Common.{◌≡◌, ◌+◌, ◌-◌, refl, sym, ◌∙◌, arith, true, false}
use Rattle.file.specs.Steps.{end_done, end_past, end_zero, end_over, end_stop, end_on}
use Rattle.file.specs.Parents.{permits_others, permits_first, asked}
use Rattle.file.proofs.children.children_end.Goals as goal
use Rattle.file.proofs.children.children_end.Goals.{then-size-eq0-via-then-size-eq0, then-size-eq0-via-else-size-eq0+then-end-at-2, then-size-eq0-via-else-size-eq0+else-end-at-2+then-not-has}

pub loop-init : goal.loop-init
loop-init c =
    let o = permits_others _ c.kinds_under-kinds.ensures in
    record {
      others = o;
      walking = record {
        first = true;
        permits = permits_first _ _ c.first_under-taken.ensures o;
        same = let z : c.children-n.result - 0 ≡ c.children-n.result = omega arith in rw (z, c.children-n.ensures.0) refl;
      };
    }

pub returns-then-end-at : goal.returns-then-end-at
returns-then-end-at c = rw (← c.children-n.ensures.0) (sym (c.loop.invariant.walking.same ∙ end_past _ _ _ _ _ _ (omega arith) c.if-end-at.true))

pub returns-then-size-eq0 : goal.returns-then-size-eq0
returns-then-size-eq0 c =
    let k = c.loop.invariant.walking in
    rw (← c.children-n.ensures.0)
    (sym (k.same
    ∙ elim c.then-size-eq0.branch [
      | then-size-eq0-via-then-size-eq0 w ↦ end_zero _ _ _ _ _ _ (omega arith) (omega (arith, c.subtree-size.ensures.0))
      | then-size-eq0-via-else-size-eq0+then-end-at-2 w ↦ end_over _ _ _ _ _ _ (omega arith) (omega (arith, c.subtree-size.ensures.0))
      | then-size-eq0-via-else-size-eq0+else-end-at-2+then-not-has w ↦ end_stop _ _ _ _ _ _ (omega arith) (asked k w.kind.ensures w.has.ensures ∙ w.if-not-has.true)
    ]))

pub loop-preserved : goal.loop-preserved
loop-preserved c =
    let k = c.loop.invariant.walking in
    record {
      others = c.loop.invariant.others;
      walking = record {
        first = false;
        permits = c.loop.invariant.others;
        same =
            let z : c.children-n.result - (c.loop.counter + 1) ≡ c.children-n.result - c.loop.counter - 1 = omega arith in
            rw (z, c.subtree-size.ensures.0)
            (k.same
            ∙ end_on _ _ _ _ _ _ (omega arith) (omega (arith, c.subtree-size.ensures.0)) (omega (arith, c.subtree-size.ensures.0))
            (asked k c.kind.ensures c.has.ensures ∙ c.if-not-has.false));
      };
    }

pub returns : goal.returns
returns c = rw (← c.children-n.ensures.0) (sym (c.loop.invariant.walking.same ∙ end_done _ _ _ _ _ _ (omega arith)))
