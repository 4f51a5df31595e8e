-- A made node over the trees that stand behind its record.
use Rattle.std.specs.Int.{from_bool}
use Rattle.std.specs.Prelude.{◌≡◌, refl, Bool, true, false, List, [], ◌∷◌, ℕ, ◌+◌, ◌-◌, ◌<◌, ◌≤◌, length}
use Rattle.std.proofs.Common.{ap, ◌∙◌, arith}
use Rattle.std.proofs.Math.Bool.{cond}
use Rattle.tree.specs.Tree.{Place, Tree, forest, records}
use Rattle.tree.specs.Room.{records_in}
use Rattle.rules.specs.Facts.{flagged}
use Rattle.rules.specs.Made.{made, made_head, flag_of, make_template}
use Rattle.tree.specs.Kind as kind
use Rattle.output.specs.Records.{Behind, Recorded, before_all}
use Rattle.output.specs.Trees.{Spans, Wrote, recorded_node}
use Rattle.output.specs.Lists.{Counts, AnyOf}

-- Some list stands behind record pos, to record end, and there is room for the record.
pub record GivenMade (out : List ℕ) (pos end : ℕ) : Type 0 where
  pub list : List Tree
  pub spans : Spans out (pos + 1) end list
  pub inside : end ≤ records_in out
  pub small : end < pos + 65536

-- Record pos was made over whatever list stands behind it; all behind that record is as it was.
pub record MadeOver (old new : List ℕ) (pos end kind sub facts : ℕ) (place : Place) : Type 0 where
  pub by : (ts : List Tree) → Spans old (pos + 1) end ts → Wrote old new pos end (made kind sub facts place ts ∷ [])
  pub above : Behind old new (pos + 1)

-- "flag set if a child's is"
abbrev pub make_flagged : ℕ → ℕ → Place → List Tree → Tree
make_flagged kind sub place ts = made kind sub (flag_of ts) place ts

-- The same of a rule's made node.
pub record Makes (make : Place → List Tree → Tree) (old new : List ℕ) (pos end : ℕ) (place : Place) : Type 0 where
  pub by : (ts : List Tree) → Spans old (pos + 1) end ts → Wrote old new pos end (make place ts ∷ [])
  pub above : Behind old new (pos + 1)

pub record FlagOf (s : List ℕ) (p e r : ℕ) : Type 0 where
  pub by : (ts : List Tree) → Spans s p e ts → r ≡ flag_of ts

pub flag_told : {s : List ℕ} {p e r : ℕ} {b : Bool} → AnyOf s p e flagged b → r ≡ from_bool b → FlagOf s p e r
unfolding flag_of
flag_told {b = b} a x = record { by = λ ts d. x ∙ by_bool b ∙ ap (λ (y : Bool). cond y 1 0) (a.by ts d) }
  where
    by_bool : (b : Bool) → from_bool b ≡ cond b 1 0
    by_bool true = refl
    by_bool false = refl

module _ {out : List ℕ} {pos end : ℕ} (g : GivenMade out pos end) where
  count_few : (ts : List Tree) → length ts ≤ records (forest ts)
  count_few [] = omega arith
  count_few (t ∷ ts) = omega (arith, count_few ts)

  pub made_few : {n : ℕ} → Counts out (pos + 1) end n → n < 65536
  made_few c = omega (arith, c.by g.list g.spans, count_few g.list, g.spans.ends, g.small)

pub made_over : {old new : List ℕ} {pos end kind sub facts : ℕ} {place : Place} {n z : ℕ} → Counts old (pos + 1) end n → z ≡ end - pos → Recorded old new pos (made_head kind sub facts place) n z → MadeOver old new pos end kind sub facts place
made_over {old} {new} {pos} c ez r = record {
  by = λ ts d. recorded_node ts (before_all old pos) d r (c.by ts d) (omega (arith, d.ends));
  above = r.above;
}

pub makes_template : {old new : List ℕ} {pos end : ℕ} {place : Place} → MadeOver old new pos end kind.template 0 1 place → Makes make_template old new pos end place
unfolding make_template
makes_template m = record { by = m.by; above = m.above }
