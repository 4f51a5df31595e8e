-- The test of ends: in version 1 there is none to fail, and in version 2 each is compared.
use Rattle.std.specs.Prelude.{◌≡◌, true, false, List, ℕ, ◌<◌}
use Rattle.std.proofs.Common.{le_refl, le-leb}
use Rattle.std.proofs.lemmas.Bool.{lt-leb}
use Rattle.tree.specs.Tree.{Place}
use Rattle.tree.specs.Below.{all_below, all_of}
use Rattle.tree.specs.Layout.{Version, v1, version_in}
use Rattle.tree.specs.Fields.{place_in, head_at}
use Rattle.tree.specs.Record.{end_ok}

start_only : (p : Place) → end_ok (place_in v1 p) ≡ true
unfolding end_ok place_in
start_only p = le-leb p.start p.start (le_refl p.start)

said_good : (v : Version) → v ≡ v1 → (p : Place) → end_ok (place_in v p) ≡ true
said_good v e p = rw e (start_only p)

pub ends_none : (s : List ℕ) → version_in s ≡ v1 → (n : ℕ) → all_below (λ i. end_ok (head_at s i).place) n ≡ true
ends_none s e n = all_of (λ i. end_ok (head_at s i).place) n (λ i l. said_good (version_in s) e _)

pub end_bad : {p q : Place} → p ≡ q → p.end < p.start → end_ok q ≡ false
unfolding end_ok
end_bad {p} e l = rw (← e) (lt-leb p.start p.end l)
