use Rattle.std.specs.Prelude.{◌≡◌, refl, length}
use Rattle.std.proofs.Common.{ap, sym, arith, ◌∙◌}
use Rattle.readings.specs.View.{left, tree}
use Rattle.readings.specs.Yields.{at_end, count_trees, none_behind, some_stepped, stepped}
use Rattle.readings.proofs.node.Node.three_children.Goals as goal

pub unwrap-first-requires : goal.unwrap-first-requires
unwrap-first-requires c =
    let n : length (left c.children-children.result) ≡ 3 = ap length c.children-children.ensures.trees ∙ count_trees (tree c.args.self).kids ∙ c.requires in
    some_stepped c.children-children.result c.next.new.self c.next.result c.next.ensures.steps n

pub unwrap-second-requires : goal.unwrap-second-requires
unwrap-second-requires c =
    let n : length (left c.children-children.result) ≡ 3 = ap length c.children-children.ensures.trees ∙ count_trees (tree c.args.self).kids ∙ c.requires in
    let a = stepped c.children-children.result c.next.new.self c.next.result c.unwrap-first.result c.unwrap-first.ensures c.next.ensures.steps in
    let m : length (left c.next.new.self) ≡ 2 = omega (arith, n, ap length a.0) in
    some_stepped c.next.new.self c.next-2.new.self c.next-2.result c.next-2.ensures.steps m

pub unwrap-third-requires : goal.unwrap-third-requires
unwrap-third-requires c =
    let n : length (left c.children-children.result) ≡ 3 = ap length c.children-children.ensures.trees ∙ count_trees (tree c.args.self).kids ∙ c.requires in
    let a = stepped c.children-children.result c.next.new.self c.next.result c.unwrap-first.result c.unwrap-first.ensures c.next.ensures.steps in
    let b = stepped c.next.new.self c.next-2.new.self c.next-2.result c.unwrap-second.result c.unwrap-second.ensures c.next-2.ensures.steps in
    let m : length (left c.next-2.new.self) ≡ 1 = omega (arith, n, ap length a.0, ap length b.0) in
    some_stepped c.next-2.new.self c.next-3.new.self c.next-3.result c.next-3.ensures.steps m

pub returns-clause-kids : goal.returns-clause-kids
returns-clause-kids c =
    let n : length (left c.children-children.result) ≡ 3 = ap length c.children-children.ensures.trees ∙ count_trees (tree c.args.self).kids ∙ c.requires in
    let a = stepped c.children-children.result c.next.new.self c.next.result c.unwrap-first.result c.unwrap-first.ensures c.next.ensures.steps in
    let b = stepped c.next.new.self c.next-2.new.self c.next-2.result c.unwrap-second.result c.unwrap-second.ensures c.next-2.ensures.steps in
    let d = stepped c.next-2.new.self c.next-3.new.self c.next-3.result c.unwrap-third.result c.unwrap-third.ensures c.next-3.ensures.steps in
    let e = none_behind (left c.next-3.new.self) (omega (arith, n, ap length a.0, ap length b.0, ap length d.0)) in
    sym c.children-children.ensures.trees ∙ rw (a.0, b.0, d.0, e) refl

pub returns-clause-ends : goal.returns-clause-ends
returns-clause-ends c =
    let n : length (left c.children-children.result) ≡ 3 = ap length c.children-children.ensures.trees ∙ count_trees (tree c.args.self).kids ∙ c.requires in
    let a = stepped c.children-children.result c.next.new.self c.next.result c.unwrap-first.result c.unwrap-first.ensures c.next.ensures.steps in
    let b = stepped c.next.new.self c.next-2.new.self c.next-2.result c.unwrap-second.result c.unwrap-second.ensures c.next-2.ensures.steps in
    let d = stepped c.next-2.new.self c.next-3.new.self c.next-3.result c.unwrap-third.result c.unwrap-third.ensures c.next-3.ensures.steps in
    let e = none_behind (left c.next-3.new.self) (omega (arith, n, ap length a.0, ap length b.0, ap length d.0)) in
    let f = at_end c.next-3.new.self e in
    let p = a.3 in
    let q = b.3 in
    let r = d.3 in
    let whole = c.children-children.ensures.ends in (
      omega (arith, p.1.0, p.1.1, q.1.0),
      omega (arith, q.1.0, q.1.1, r.1.0),
      omega (arith, p.0, q.0, r.0, r.1.0, r.1.1, f, whole),
    )
