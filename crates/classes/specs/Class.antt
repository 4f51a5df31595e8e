-- What a class gives up, and the room that it takes.
use Rattle.std.specs.Prelude.{◌≡◌, refl, Bool, true, false, List, [], ◌∷◌, ◌++◌, cond, Option, None, Some, IfSome, ℕ, suc, ◌+◌, ◌-◌, ◌<◌, ◌≤◌, drop, option_map, option_to_list, take}
use Rattle.std.specs.Option.{MatchOption}
use Rattle.std.proofs.Common.{ap, sym, ◌∙◌, append-nil, arith}
use Rattle.std.proofs.lemmas.List.{take-append-drop}
use Rattle.tree.specs.Tree.{Tree, trees, forest, records, size, forest_trees}
use Rattle.tree.specs.Layout.{version_in}
use Rattle.tree.specs.Record.{bit}
use Rattle.tree.specs.Room.{records_in}
use Rattle.rules.specs.Class.{computed_key, elements, extracted, heritage, extracted_of_element, has_static_value, value_of}
use Rattle.rules.specs.Facts.{flagged}
use Rattle.rules.specs.Lists.{concat_map, filter, keep_if}
use Rattle.readings.specs.View.{left, tree}
use Rattle.readings.specs.declared.node.Node.{Node}
use Rattle.readings.specs.declared.node.Trees.{Trees}
use Rattle.output.specs.Given.{GivenTrees, trees_size}
use Rattle.output.specs.Trees.{Wrote, records_append, wrote_as, wrote_both}
use Rattle.rewrite.specs.Becomes.{GivenList}

-- The records that a node takes, or none.
abbrev pub size_of : Option Node → ℕ
size_of o = records (forest (option_to_list (option_map tree o)))

-- A node, or none, and room for it.
pub record GivenAtMostOne (o : Option Node) (out : List ℕ) (pos : ℕ) : Type 0 where
  pub same : MatchOption o (Unit {0}) (λ n. version_in out ≡ version_in n.record.src.now)
  pub fits : pos + size_of o ≤ records_in out

-- Room for a class, and a record before what it gives up.
pub record GivenClass (n : Node) (out : List ℕ) (pos : ℕ) : Type 0 where
  pub same : version_in out ≡ version_in n.record.src.now
  pub fits : pos + size (tree n) ≤ records_in out
  pub small : size (tree n) < 65536

-- A list's first m and the others take the records of the list.
pub records_split : (m : ℕ) (l : List Tree) → records (forest (take m l)) + records (forest (drop m l)) ≡ records (forest l)
records_split m l = sym (records_append (take m l) (drop m l)) ∙ ap (λ (x : List Tree). records (forest x)) (take-append-drop m l)

-- What is kept of a list takes no more records than it.
kept_small : (b : Bool) (x : Tree) (k n : ℕ) (l : List Tree) → records (forest l) ≡ k → k ≤ n → records (forest (keep_if b x ++ l)) ≤ suc (records x.kids + n)
kept_small true x k n l e q = omega arith
kept_small false x k n l e q = omega arith

pub filter_small : (p : Tree → Bool) (l : List Tree) → records (forest (filter p l)) ≤ records (forest l)
filter_small p [] = omega arith
filter_small p (x ∷ xs) = kept_small (p x) x (records (forest (filter p xs))) (records (forest xs)) (filter p xs) refl (filter_small p xs)

-- What an element gives up takes no more records than it.
pub extracted_small : (e : Tree) → records (forest (extracted_of_element e)) ≤ size e
extracted_small e = go (has_static_value e)
  where
    xs : List Tree
    xs = trees e.kids

    go : (b : Bool) → records (forest (filter flagged (computed_key e) ++ cond b (value_of e xs) [])) ≤ size e
    go true = omega (arith, records_append (filter flagged (computed_key e)) (value_of e xs), filter_small flagged (computed_key e), records_split (bit 4 e.head.sub) xs, ap records (forest_trees e.kids))
    go false = omega (arith, records_append (filter flagged (computed_key e)) [], filter_small flagged (computed_key e), records_split (bit 4 e.head.sub) xs, ap records (forest_trees e.kids))

pub all_extracted_small : (l : List Tree) → records (forest (concat_map extracted_of_element l)) ≤ records (forest l)
all_extracted_small [] = omega arith
all_extracted_small (x ∷ xs) =
    omega (arith, extracted_small x, all_extracted_small xs, records_append (extracted_of_element x) (concat_map extracted_of_element xs))

-- A node's first m children, none or one, and the others.
pub record Parts (u : Node) (m : ℕ) (o : Option Node) (w : Trees) : Type 0 where
  pub first : option_to_list (option_map tree o) ≡ take m (trees (tree u).kids)
  pub others : left w ≡ drop m (trees (tree u).kids)
  pub source : (w.src.now ≡ u.record.src.now) × IfSome o (λ n. n.record.src.now ≡ u.record.src.now)

module _ {u : Node} {m : ℕ} {o : Option Node} {w : Trees} (k : Parts u m o w) where
  pub parts_size : size_of o + (w.end - w.at) + 1 ≡ size (tree u)
  parts_size =
      let a : size_of o ≡ records (forest (take m (trees (tree u).kids))) = ap (λ (l : List Tree). records (forest l)) k.first in
      let b : w.end - w.at ≡ records (forest (drop m (trees (tree u).kids))) = sym (trees_size w) ∙ ap (λ (l : List Tree). records (forest l)) k.others in
      let c : records (forest (trees (tree u).kids)) ≡ records (tree u).kids = ap records (forest_trees (tree u).kids) in
      omega (arith, a, b, c, records_split m (trees (tree u).kids))

  module _ {out : List ℕ} {pos : ℕ} (same : version_in out ≡ version_in u.record.src.now) where
    pub first_given : pos + size_of o ≤ records_in out → GivenAtMostOne o out pos
    first_given l = record { same = go o k.source.1; fits = l }
      where
        go : (q : Option Node) → IfSome q (λ n. n.record.src.now ≡ u.record.src.now) → MatchOption q (Unit {0}) (λ n. version_in out ≡ version_in n.record.src.now)
        go None e = tt
        go (Some n) e = same ∙ ap version_in (sym e)

    pub others_given : {mid : List ℕ} {next : ℕ} {l : List Tree} → Wrote out mid pos next l → next + (w.end - w.at) ≤ records_in out → GivenTrees w mid next
    others_given c l = record { same = c.frame.same ∙ same ∙ ap version_in (sym k.source.0); fits = omega (arith, c.frame.room) }

-- Where what is copied of the first ends.
pub first_ends : (o : Option Node) {old new : List ℕ} {pos next : ℕ} → Wrote old new pos next (filter flagged (option_to_list (option_map tree o))) → next ≤ pos + size_of o
first_ends o c = omega (arith, c.spans.ends, filter_small flagged (option_to_list (option_map tree o)))

-- By its key and whether it has a static value, what an element gives up.
module _ (e : Tree) where
  pub with_value : has_static_value e ≡ true → filter flagged (computed_key e) ++ value_of e (trees e.kids) ≡ extracted_of_element e
  with_value x = sym (rw x refl)

  pub without_value : has_static_value e ≡ false → filter flagged (computed_key e) ≡ extracted_of_element e
  without_value x = sym (rw x (append-nil (filter flagged (computed_key e))))

-- A class by its heritage and its elements: what it gives up, written behind its free record.
module _ {u : Node} {m : ℕ} {o : Option Node} {w : Trees} (k : Parts u m o w) {old mid new : List ℕ} {pos first next : ℕ} (g : GivenClass u old pos)
    (heritage_is : option_to_list (option_map tree o) ≡ heritage (tree u)) (elements_are : left w ≡ elements (tree u))
    (a : Wrote old mid (pos + 1) first (filter flagged (option_to_list (option_map tree o)))) (b : Wrote mid new first next (concat_map extracted_of_element (left w))) where
  pub gives_up : Wrote old new (pos + 1) next (extracted (tree u))
  unfolding extracted
  gives_up = wrote_as (wrote_both _ _ a b) (rw (heritage_is, elements_are) refl)

  pub list_given : GivenList u.record new pos next
  list_given =
      let few : next + 1 ≤ pos + 1 + size (tree u) =
      omega (arith, a.spans.ends, b.spans.ends, filter_small flagged (option_to_list (option_map tree o)), all_extracted_small (left w), trees_size w, parts_size k) in
      record {
        same = gives_up.frame.same ∙ g.same;
        list = extracted (tree u);
        spans = gives_up.spans;
        inside = omega (arith, few, g.fits, gives_up.frame.room);
        small = omega (arith, few, g.small);
      }
