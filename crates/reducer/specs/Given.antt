-- What the reducers are given and what they leave.
use Rattle.std.specs.Prelude.{◌≡◌, refl, List, ℕ, ◌+◌, ◌*◌, ◌-◌, ◌<◌, ◌≤◌, length}
use Rattle.std.proofs.Common.{◌∙◌}
use Rattle.tree.specs.Tree.{Tree, All, forest, records, size}
use Rattle.tree.specs.Layout.{version_in}
use Rattle.tree.specs.Room.{records_in}
use Rattle.readings.specs.Given.{given}
use Rattle.readings.specs.View.{left, tree}
use Rattle.readings.specs.declared.node.Node.{Node}
use Rattle.readings.specs.declared.node.Trees.{Trees}
use Rattle.effects.specs.Listing.{Listable}
use Rattle.output.specs.Trees.{Wrote}
use Rattle.rewrite.specs.declared.waiting.Waiting.{Waiting}
use Rattle.rewrite.specs.Waiting.{Waits}
use Rattle.reducer.specs.declared.expression.Reduction.{Reduction}
use Rattle.reducer.specs.declared.walk.Part.{Part}
use Rattle.reducer.specs.Walked.{step, walked}
use Rattle.reducer.specs.Settled.{Stepped}

-- The settings stay, and the buffer, which is as long as it was.
pub record Stays (old new : Reduction) : Type 0 where
  pub settings : given new.settings ≡ given old.settings
  pub same_out : new.out.ghost_name ≡ old.out.ghost_name
  pub long : length new.out.now ≡ length old.out.now

-- A tree, and out, whose records are as wide, has room for 2 × size − 1 records from record pos on.
pub record GivenTree (u : Node) (depth : ℕ) (out : List ℕ) (pos : ℕ) : Type 0 where
  pub listable : Listable depth (tree u)
  pub same : version_in out ≡ version_in u.record.src.now
  pub fits : pos + 2 * size (tree u) ≤ records_in out + 1
  pub small : 2 * size (tree u) < 65536

-- The trees ts are what was written, from record pos to record next.
pub record Reduced (old new : Reduction) (pos next : ℕ) (ts : List Tree) : Type 0 where
  pub wrote : Wrote old.out.now new.out.now pos next ts
  pub stays : Stays old new

-- A child, behind trees that wait; there is room for 2 × size records.
pub record GivenChild (u : Node) (depth : ℕ) (out : List ℕ) (at : Waiting) : Type 0 where
  pub listable : Listable depth (tree u)
  pub same : version_in out ≡ version_in u.record.src.now
  pub wait : List Tree
  pub waits : Waits out at wait
  pub fits : at.next + 2 * size (tree u) ≤ records_in out
  pub small : at.next + 2 * size (tree u) < at.slot + 65536

-- Whatever waited, the step over the child t was made.
pub record ReducedChild (t : Tree) (part : Part) (old new : Reduction) (at at' : Waiting) : Type 0 where
  pub by : (w : List Tree) → Waits old.out.now at w → Stepped old.out.now new.out.now at.slot at' (step part (given old.settings) w t)
  pub few : at'.next ≤ at.next + 2 * size t
  pub stays : Stays old new

-- A list of children, with room for 2 × size records.
pub record GivenChildren (w : Trees) (depth : ℕ) (out : List ℕ) (pos : ℕ) : Type 0 where
  pub listable : All (Listable depth) (left w)
  pub same : version_in out ≡ version_in w.src.now
  pub fits : pos + 2 * (w.end - w.at) ≤ records_in out
  pub small : 2 * (w.end - w.at) < 65536

-- Whatever waited, the walk over the list was made.
pub record ReducedChildren (ts : List Tree) (part : Part) (old new : Reduction) (at at' : Waiting) : Type 0 where
  pub by : (w : List Tree) → Waits old.out.now at w → Stepped old.out.now new.out.now at.slot at' (walked part (given old.settings) w ts)
  pub few : at'.next ≤ at.next + 2 * records (forest ts)
  pub stays : Stays old new

pub stays_all : (s : Reduction) → Stays s s
stays_all s = record { settings = refl; same_out = refl; long = refl }

-- Something was written into the buffer.
pub stays_written : (s : Reduction) {out : List ℕ} → length out ≡ length s.out.now → Stays s (record s { out = record s.out { now = out } })
stays_written s e = record { settings = refl; same_out = refl; long = e }

pub stays_both : {s t u : Reduction} → Stays s t → Stays t u → Stays s u
stays_both x y = record { settings = y.settings ∙ x.settings; same_out = y.same_out ∙ x.same_out; long = y.long ∙ x.long }
