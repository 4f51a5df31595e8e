-- What the functions of the listing are given and what they list.
use Rattle.std.specs.Prelude.{◌≡◌, refl, Bool, true, cond, ◌&&◌, List, [], ◌++◌, ℕ, ◌+◌, ◌-◌, ◌<◌, ◌≤◌, length}
use Rattle.std.proofs.Common.{ap, subst, ◌∙◌, arith, length-append}
use Rattle.std.proofs.Math.Seq.{length-sets}
use Rattle.tree.specs.Tree.{Forest, nil, node, Tree, All, one, trees, levels}
use Rattle.tree.specs.Tree as tree
use Rattle.tree.specs.Below.{and_both, and_left, and_right}
use Rattle.tree.specs.Children.{node_ok, formed}
use Rattle.rules.specs.Settings.{Settings}
use Rattle.rules.specs.Conditional.{test_of, consequent_of, alternate_of}
use Rattle.rules.specs.Effects.{effects_of}
use Rattle.readings.specs.Given.{given}
use Rattle.stated.specs.Wrote.{Wrote, wrote_none, wrote_both}
use Rattle.effects.specs.declared.listing.Listing.{Listing}

-- There is room for l, and for one entry more.
abbrev pub HasRoom : Listing → List ℕ → Type 0
HasRoom s l = s.count + length l < length s.entries.now

-- l is written behind what was written, in the same entries; the settings stay.
pub record Listed (old new : Listing) (l : List ℕ) : Type 0 where
  pub wrote : Wrote old.entries.now new.entries.now old.count new.count l
  pub same_entries : new.entries.ghost_name ≡ old.entries.ghost_name
  pub settings : given new.settings ≡ given old.settings

-- A well-formed tree of `depth` levels at most.
pub record Listable (depth : ℕ) (t : Tree) : Type 0 where
  pub ok : formed (one t) ≡ true
  pub low : tree.depth t ≤ depth

-- Of the children of a conditional: the test, and then the arm that runs.
abbrev pub tested : Bool → Settings → List Tree → List ℕ
tested when s ts = effects_of s (test_of ts) ++ effects_of s (cond when (consequent_of ts) (alternate_of ts))

-- What is so of a tree's children, and of the trees of a list.
all_listable : (depth : ℕ) (f : Forest) → formed f ≡ true → levels f ≤ depth → All (Listable depth) (trees f)
unfolding formed
all_listable depth nil w l = tt
all_listable depth (node h cs rest) w l =
    let a = and_right (node_ok h cs) (formed cs && formed rest) w in (
      record { ok = and_both (and_left (node_ok h cs) (formed cs && formed rest) w) (and_both (and_left (formed cs) (formed rest) a) refl); low = omega (arith, l) },
      all_listable depth rest (and_right (formed cs) (formed rest) a) (omega (arith, l)),
    )

module _ {depth : ℕ} {t : Tree} (l : Listable depth t) where
  pub some_level : 1 ≤ depth
  some_level = omega (arith, l.low)

  under : formed t.kids ≡ true
  unfolding formed
  under = and_left (formed t.kids) true (and_right (node_ok t.head t.kids) (formed t.kids && true) l.ok)

  pub node_ok_of : node_ok t.head t.kids ≡ true
  unfolding formed
  node_ok_of = and_left (node_ok t.head t.kids) (formed t.kids && true) l.ok

  pub listable_kids : All (Listable (depth - 1)) (trees t.kids)
  listable_kids = all_listable (depth - 1) t.kids under (omega (arith, l.low))

  pub listable_under : All (Listable depth) (trees t.kids)
  listable_under = all_listable depth t.kids under (omega (arith, l.low))

-- What is listed in parts is written where each ends, and there is room for each.
pub listed_none : (s : Listing) → Listed s s []
listed_none s = record { wrote = wrote_none _ _; same_entries = refl; settings = refl }

pub listed_both : {s t u : Listing} {a b : List ℕ} → Listed s t a → Listed t u b → Listed s u (a ++ b)
listed_both x y = record { wrote = wrote_both x.wrote y.wrote; same_entries = y.same_entries ∙ x.same_entries; settings = y.settings ∙ x.settings }

pub listed_as : {s t : Listing} {a b : List ℕ} → Listed s t a → a ≡ b → Listed s t b
listed_as {s} {t} x e = subst (λ (l : List ℕ). Listed s t l) e x

pub room_first : (a b : List ℕ) (count room : ℕ) → count + length (a ++ b) < room → count + length a < room
room_first a b count room f = omega (arith, f, length-append a b)

pub room_after : {s t : Listing} {a : List ℕ} (b : List ℕ) → Listed s t a → HasRoom s (a ++ b) → HasRoom t b
room_after {s} {t} {a} b x f =
    omega (arith, f, x.wrote.ends, length-append a b, ap length x.wrote.entries, length-sets s.entries.now s.count a)

-- Where a and b are listed, what follows both.
module _ {s t u : Listing} {a b : List ℕ} (x : Listed s t a) (y : Listed t u b) where
  pub room_after_both : (l : List ℕ) → HasRoom s (a ++ (b ++ l)) → HasRoom u l
  room_after_both l f = room_after l y (room_after (b ++ l) x f)

  pub listed_after_both : {v : Listing} {l : List ℕ} → Listed u v l → Listed s v (a ++ (b ++ l))
  listed_after_both z = listed_both x (listed_both y z)

-- By these a list that is written in parts is written as a whole.
pub ruleset steps = (listed_none, listed_both, listed_as, room_first, room_after)
