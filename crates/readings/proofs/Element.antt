-- The key of a class element.
use Rattle.std.specs.Prelude.{◌≡◌, refl, Bool, true, false, ◌+◌, ◌<◌, ◌≤◌, eqb}
use Rattle.std.proofs.Common.{arith, eqb-true}
use Rattle.std.proofs.lemmas.Bool.Decides.{nat_tests}
use Rattle.tree.specs.Tree.{Head, Forest, count}
use Rattle.tree.specs.Children.{child_count_ok, node_ok}
use Rattle.tree.specs.Stands.{NodeOk, node_parts}
use Rattle.tree.specs.Record.{bit, sub_ok, record_ok}
use Rattle.tree.specs.Kind as kind

-- The sub of any other kind has no bit 4.
sub_small : (h : Head) → sub_ok h ≡ true → eqb h.kind kind.element ≡ false → h.sub < 16
unfolding sub_ok
sub_small h w n = grind (arith, nat_tests)

-- An element whose bit 4 says that it has a key has a child.
pub key_count : (h : Head) (cs : Forest) → node_ok h cs ≡ true → bit 4 h.sub ≤ count cs
unfolding child_count_ok record_ok
key_count h cs w = go (eqb h.kind kind.element) refl
  where
    o : NodeOk h cs
    o = node_parts h cs w

    go : (b : Bool) → eqb h.kind kind.element ≡ b → bit 4 h.sub ≤ count cs
    go true e =
        let c : eqb (count cs) (bit 4 h.sub + bit 6 h.sub) ≡ true = rw (eqb-true h.kind kind.element e) at o.counted in
        omega (arith, eqb-true (count cs) (bit 4 h.sub + bit 6 h.sub) c)
    go false e =
        let s : sub_ok h ≡ true = grind (arith, nat_tests, o.record_ok_lem) in
        omega (arith, sub_small h s e)
