-- What a record says of its node by itself is so of the tree that stands there.
use Rattle.std.specs.Prelude.{◌≡◌, refl, List, ℕ}
use Rattle.tree.specs.Tree.{alone}
use Rattle.tree.specs.Fields.{head_at}
use Rattle.tree.specs.Symbol.{is_addition, string_fact}
use Rattle.rules.specs.Class.{decorated_class, decorated_element, has_static_value, index_signature, nonempty_static_block}
use Rattle.rules.specs.Facts.{annotated, flagged, listed, pure_new, summary_free}
use Rattle.rules.specs.Settings.{Settings}
use Rattle.readings.specs.At.{tree_at}

module _ (s : List ℕ) (i : ℕ) where
  pub own_flagged : flagged (alone (head_at s i)) ≡ flagged (tree_at s i)
  unfolding flagged tree_at
  own_flagged = refl

  pub own_pure_new : (g : Settings) → pure_new g (alone (head_at s i)) ≡ pure_new g (tree_at s i)
  unfolding annotated listed pure_new tree_at
  own_pure_new g = refl

  pub own_summary_free : summary_free (alone (head_at s i)) ≡ summary_free (tree_at s i)
  unfolding summary_free tree_at
  own_summary_free = refl

  pub own_string_fact : string_fact (alone (head_at s i)) ≡ string_fact (tree_at s i)
  unfolding string_fact tree_at
  own_string_fact = refl

  pub own_addition : is_addition (alone (head_at s i)) ≡ is_addition (tree_at s i)
  unfolding is_addition tree_at
  own_addition = refl

  pub own_decorated_class : decorated_class (alone (head_at s i)) ≡ decorated_class (tree_at s i)
  unfolding decorated_class tree_at
  own_decorated_class = refl

  pub own_static_value : has_static_value (alone (head_at s i)) ≡ has_static_value (tree_at s i)
  unfolding has_static_value tree_at
  own_static_value = refl

  pub own_static_block : nonempty_static_block (alone (head_at s i)) ≡ nonempty_static_block (tree_at s i)
  unfolding nonempty_static_block tree_at
  own_static_block = refl

  pub own_decorated_element : decorated_element (alone (head_at s i)) ≡ decorated_element (tree_at s i)
  unfolding decorated_element tree_at
  own_decorated_element = refl

  pub own_index_signature : index_signature (alone (head_at s i)) ≡ index_signature (tree_at s i)
  unfolding index_signature tree_at
  own_index_signature = refl

pub ruleset own = (
  own_flagged,
  own_pure_new,
  own_summary_free,
  own_string_fact,
  own_addition,
  own_decorated_class,
  own_static_value,
  own_static_block,
  own_decorated_element,
  own_index_signature,
)
