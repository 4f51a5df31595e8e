use Rattle.std.proofs.Common.{ℕ, ◌+◌, ◌*◌, ◌++◌}
use Rattle.rules.specs.Effects.{coercion, effects, evaluate}
use Rattle.readings.specs.Given.{given}
use Rattle.readings.specs.View.{left}
use Rattle.effects.specs.Walking.{Walking, weight}
use Rattle.effects.proofs.listing.Listing.+listing.Given as goal

-- Fewer levels remain, or as many, and the function called is the lower one.
abbrev by : ℕ → ℕ → ℕ
by depth order = depth * 8 + order

abbrev pub decreases-list_addition : goal.decreases-list_addition
decreases-list_addition l = by l.depth 0

abbrev pub decreases-list_arm : goal.decreases-list_arm
decreases-list_arm l = by l.depth 4

abbrev pub decreases-list_class : goal.decreases-list_class
decreases-list_class l = by l.depth 0

abbrev pub decreases-list_static : goal.decreases-list_static
decreases-list_static l = by l.depth 0

abbrev pub decreases-list_expr : goal.decreases-list_expr
decreases-list_expr l = by l.depth 1

abbrev pub decreases-list_children : goal.decreases-list_children
decreases-list_children l = by l.depth 2

abbrev pub decreases-list_any : goal.decreases-list_any
decreases-list_any l = by l.depth 3

abbrev pub decreases-list_side : goal.decreases-list_side
decreases-list_side l = by l.depth 3

abbrev pub decreases-list_coerced : goal.decreases-list_coerced
decreases-list_coerced l = by l.depth 4

abbrev pub decreases-list_keys : goal.decreases-list_keys
decreases-list_keys l = by l.depth 0

abbrev pub decreases-list_statics : goal.decreases-list_statics
decreases-list_statics l = by l.depth 1

abbrev pub invariant-list_children-loop-node : goal.invariant-list_children-loop-node
invariant-list_children-loop-node l = Walking (effects (given l.fn.self.settings)) l.depth (left l.list) l.fn.self (left l.walk) l.self

abbrev pub decreases-list_children-loop-node : goal.decreases-list_children-loop-node
decreases-list_children-loop-node l = weight (left l.walk)

abbrev pub invariant-list_coerced-loop-node : goal.invariant-list_coerced-loop-node
invariant-list_coerced-loop-node l =
    Walking (λ c. effects (given l.fn.self.settings) c ++ coercion c) l.depth (left l.list) l.fn.self (left l.node-iterator) l.self

abbrev pub invariant-list_keys-loop-element : goal.invariant-list_keys-loop-element
invariant-list_keys-loop-element l =
    Walking (λ e. (evaluate (given l.fn.self.settings) e).key) l.depth (left l.elements) l.fn.self (left l.element-iterator) l.self

abbrev pub invariant-list_statics-loop-element : goal.invariant-list_statics-loop-element
invariant-list_statics-loop-element l =
    Walking (λ e. (evaluate (given l.fn.self.settings) e).static) l.depth (left l.elements) l.fn.self (left l.element-iterator) l.self
