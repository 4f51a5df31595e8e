-- What is shown of reducing and listing, over all trees, facts and settings. A theorem assumes what it names, and no more.
use Rattle.std.specs.Prelude.{Bool, true, false, not, ◌&&◌, ◌||◌, List, [], ◌∷◌, ◌++◌, map, ◌≡◌, ℕ, suc, ◌*◌, ◌-◌, ◌≤◌, ◌<◌, eqb, length}
use Rattle.std.proofs.Common.{sym, ◌∙◌, ap, le_trans, arith}
use Rattle.tree.specs.Tree.{Place, Tree, trees, forest, one, records, levels, size, depth, all_heads, All}
use Rattle.tree.specs.Layout.{Version}
use Rattle.tree.specs.Kind as kind
use Rattle.tree.specs.Record.{symbol_pair, end_ok}
use Rattle.tree.specs.Symbol.{never_symbol, additions_agree}
use Rattle.tree.specs.Children.{well_formed}
use Rattle.tree.specs.File.{all_encodable}
use Rattle.tree.specs.Refusal.{Limits, reduce_limits, list_effects_limits}
use Rattle.tree.specs.Accepted.{Permitted}
use Rattle.tree.proofs.Accepted.{logicals_taken}
use Rattle.rules.specs.Settings.{Settings, given, annotations, tree_shake_only}
use Rattle.rules.specs.Handler.{handler, is_kind, is_identifier, is_function, first_is}
use Rattle.rules.specs.Facts.{flagged, possible_symbol, annotated, listed, summary_free, pure_new, pure_call_by01, preserved_iife, pure_call}
use Rattle.rules.specs.Reduce.{reduce}
use Rattle.rules.specs.Effects.{effects, effects_of, itself_if}
use Rattle.rules.specs.Reads.{reads, Premise}
use Rattle.rules.specs.ReadsBy.{reads_by}
use Rattle.rules.proofs.Demand.{demand_3}
use Rattle.rules.proofs.Accepted.{accepted}
use Rattle.rules.proofs.Effects.{whole}
use Rattle.rules.proofs.Facts.{function_no_identifier}
use Rattle.rules.proofs.Called as called
use Rattle.rules.proofs.Given.{reduce_given}
use Rattle.rules.proofs.Scale.{by_records, by_levels}
use Rattle.rules.proofs.Bounds.{bounded}
use Rattle.rules.proofs.Counts as counts
use Rattle.rules.proofs.Kept as kept
use Rattle.rules.proofs.Single as single
use Rattle.rules.specs.Results.{read_in}
use Rattle.rules.proofs.Unfold.{reads_is}
use Rattle.rules.proofs.ReadFlags as proved
use Rattle.rules.specs.Theorems.{happens, kept_limits, called_function}

module _ (s : Settings) (t : Tree) where
  -- Demand 3: of an accepted tree, if each clear flag that is read is true, what is kept has the tree's effects, in length and at
  -- every entry; and a removable tree has none.
  module _ (well_formed_lem : well_formed t ≡ true) (premise : Premise s t) where
    pub same_effects : effects_of s (reduce s t) ≡ effects s t
    same_effects = demand_3 s t (accepted t well_formed_lem).0 premise

    pub kept_same_effects : (u : Tree) → reduce s t ≡ u ∷ [] → effects s u ≡ effects s t
    kept_same_effects u e = sym (whole s u) ∙ ap (effects_of s) (sym e) ∙ same_effects

    pub removable_no_effects : reduce s t ≡ [] → effects s t ≡ []
    removable_no_effects e = sym (ap (effects_of s) (sym e) ∙ same_effects)

    -- Whichever effect is the first that throws, the effects before it are the same in both.
    pub same_until_throw : (throws : List ℕ → ℕ → Bool) → happens throws [] (effects_of s (reduce s t)) ≡ happens throws [] (effects s t)
    same_until_throw throws = ap (happens throws []) same_effects

  -- 02, N1: "For every such list the effects must be equal, the premise being read under the same list"; the list changes nothing of what
  -- is kept.
  module _ (places : List ℕ) where
    pub yes_unread : reduce (given places s) t ≡ reduce s t
    yes_unread = reduce_given places s t

    pub same_effects_given : well_formed t ≡ true → Premise (given places s) t → effects_of (given places s) (reduce s t) ≡ effects (given places s) t
    same_effects_given well_formed_lem premise =
        sym (ap (effects_of (given places s)) yes_unread) ∙ demand_3 (given places s) t (accepted t well_formed_lem).0 premise

  -- Premise or not, accepted or not: at most 2 × N − 1 records, and "Result depth is at most one more".
  pub at_most_twice : records (forest (reduce s t)) ≤ 2 * size t - 1
  at_most_twice = le_trans (bounded by_records s t) (omega arith)

  pub one_deeper : levels (forest (reduce s t)) ≤ suc (depth t)
  one_deeper = bounded by_levels s t

  module _ (well_formed_lem : well_formed t ≡ true) where
    -- At most one tree is kept of an accepted tree.
    pub at_most_one : length (reduce s t) ≤ 1
    at_most_one = single.at_most_one s t (accepted t well_formed_lem)

    -- What is kept is well-formed; its fields fit their bytes if the tree's do; 02, N9, no addition with a string part records "yes"
    -- if none of the tree's does; and, N6, each place passes what all places of the tree pass.
    pub kept_well_formed : All (λ u. well_formed u ≡ true) (reduce s t)
    kept_well_formed = kept.kept_well_formed s t well_formed_lem

    pub kept_encodable : (v : Version) → all_encodable v (one t) ≡ true → all_encodable v (forest (reduce s t)) ≡ true
    kept_encodable v = kept.kept_encodable v s t well_formed_lem

    pub kept_agrees : additions_agree (one t) ≡ true → additions_agree (forest (reduce s t)) ≡ true
    kept_agrees = kept.kept_agrees s t well_formed_lem

    pub kept_places : (q : Place → Bool) → all_heads (λ h. q h.place) (one t) ≡ true → all_heads (λ h. q h.place) (forest (reduce s t)) ≡ true
    kept_places q = kept.kept_places q s t well_formed_lem

  -- The kept answer of a permitted tree is permitted within limits of 2 × N − 1 records and one level more, "header settings copied",
  -- in the same version.
  pub kept_permitted : (limits : Limits) (v : Version) → Permitted limits v s.byte t → (u : Tree) → reduce s t ≡ u ∷ []
      → Permitted (kept_limits limits) v s.byte u
  kept_permitted limits v p u e =
      let records-le = rw e at at_most_twice in
      let levels-le = rw e at one_deeper in
      record {
        settings_ok_lem = p.settings_ok_lem;
        well = (rw e at (kept_well_formed p.well)).0;
        is_taken = logicals_taken (one u);
        agrees = rw e at (kept_agrees p.well p.agrees);
        ends = rw e at (kept_places p.well end_ok p.ends);
        fits = rw e at (kept_encodable p.well v p.fits);
        few = omega (arith, records-le, p.few);
        low = omega (arith, levels-le, p.low);
      }

  -- So List effects accepts what Reduce keeps: 2,000 records and 64 levels become 3,999 and 65.
  pub kept_within : (v : Version) → Permitted reduce_limits v s.byte t → (u : Tree) → reduce s t ≡ u ∷ [] → Permitted list_effects_limits v s.byte u
  kept_within = kept_permitted reduce_limits

  -- 02, N9: "Reducing and listing now read "no" for these six, recorded or not", and every other node as it is recorded.
  pub never_possible : never_symbol t ≡ true → possible_symbol t ≡ false
  unfolding possible_symbol
  never_possible e = rw e

  pub as_recorded : never_symbol t ≡ false → possible_symbol t ≡ not (eqb (symbol_pair t.head.facts) 1)
  unfolding possible_symbol
  as_recorded e = rw e

  -- 02, N5: "Exactly" these calls are no longer pure: a call is pure if it is so by 01's rule and is none of them.
  pub pure_exactly : pure_call s t ≡ (pure_call_by01 s t && not (called_function s t))
  unfolding pure_call pure_call_by01 preserved_iife pure_new
  pure_exactly =
      called.before_purity (tree_shake_only s) (first_is is_function t) ((annotations s && annotated t) || listed s t) (first_is is_identifier t && summary_free t)
      (λ e. rw (function_no_identifier t e))

  -- Every call of a function or arrow under tree-shake-only, these among them,
  module _ (call : is_kind kind.call t ≡ true) (preserved : preserved_iife s t ≡ true) where
    -- "now stay[s] whole",
    pub called_whole : reduce s t ≡ t ∷ []
    called_whole = called.whole s t call preserved

    -- "and count[s] as impure in the effect list": callee, arguments, then itself if flagged;
    pub called_listed : effects s t ≡ effects_of s (trees t.kids) ++ itself_if (flagged t) t
    called_listed = called.listed s t call preserved

    -- and no clear flag is read at it or under it.
    pub called_unread : reads s t ≡ []
    called_unread = called.unread s t call preserved

  -- "10 under 2 × N entries lent": a list is always shorter.
  pub few_effects : length (effects s t) < 2 * size t
  few_effects = counts.few s t

  -- The premise is no wider than 01's: at each handler exactly these flags are read,
  pub reads_exactly : reads s t ≡ reads_by (handler t.head) s t (map (read_in s) (trees t.kids))
  reads_exactly = reads_is s t

  -- and each that is read is clear.
  pub reads_clear : All (λ n. flagged n ≡ false) (reads s t)
  reads_clear = proved.reads_clear s t
