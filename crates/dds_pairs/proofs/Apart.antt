use Rattle.std.proofs.Common.{◌≡◌, ℕ, true, false, Option, Some, None, refl, ap, subst}
use Rattle.std.proofs.lemmas.Bool.{both_ways}
use Rattle.std.specs.FinMap.{get}
use Rattle.std.specs.Prelude.{is_some}
use Rattle.dds_base.specs.Name.{covers, overlaps}
use Rattle.dds_base.specs.Op.{the_key}
use Rattle.dds_base.specs.declared.leaf.Leaf.{Leaf}
use Rattle.dds_brick_rows.specs.Refusal.{is_join}
use Rattle.dds_core.proofs.Lists.{all-is}
use Rattle.dds_law_own.proofs.Changes.{Own, own}
use Rattle.dds_law_own.proofs.Keeps.{NodeOk}
use Rattle.dds_law_own.proofs.Parted.{IsBoth, OrderParted}
use Rattle.dds_net.proofs.Nodes.{brick-node}
use Rattle.dds_orders.proofs.Covered.{Covering, Covers, false-of}
use Rattle.dds_orders.proofs.Standing.{Standing}
use Rattle.dds_orders.proofs.Stood.{NodeStands, run-stood}
use Rattle.dds_parents.proofs.Served.{covered-by, share-key}
use Rattle.dds_states.specs.Leaf.{leaf_for}
use Rattle.dds_states.specs.declared.brick_state.OpenOrder.{OpenOrder}
use Rattle.dds_trie.specs.Trie.{LeafMap}
use Rattle.dds_world.specs.Places.{reached}
use Rattle.dds_pairs.specs.Apart.{JoinsStandApart}

-- Nothing of a brick lies under the name of its open join.

parted-from : (m : LeafMap) (q : Option OpenOrder) (o : OpenOrder) → q ≡ Some o → OrderParted m q → OrderParted m (Some o)
parted-from m None o e h = cc
parted-from m (Some x) o e h = let is : x ≡ o = cc in subst (λ (y : OpenOrder). OrderParted m (Some y)) is h

pub leaf-apart : (me : ℕ) (x : Own) (o : OpenOrder) → IsBoth me x → x.order ≡ Some o → is_join o.task ≡ true
    → (n : _) → is_some (get x.leaves n) ≡ true → overlaps n o.name ≡ false
leaf-apart me x o h e join n there =
    false-of (overlaps n o.name) (λ over. both_ways (is_join o.task) (parted-from x.leaves x.order o e h.1.order n there over).0 join)

found : (q : Option Leaf) → is_some q ≡ true → (leaf : Leaf) × (q ≡ Some leaf)
found None h = cc
found (Some leaf) h = (leaf, refl)

-- so nothing that its leaves cover does
pub covered-apart : (me : ℕ) (x : Own) (o : OpenOrder) (key : ℕ) → IsBoth me x → x.order ≡ Some o → is_join o.task ≡ true
    → is_some (leaf_for x.leaves key) ≡ true → covers o.name key ≡ false
covered-apart me x o key h e join over =
    false-of (covers o.name key) (λ under.
    let leaf = found (leaf_for x.leaves key) over in
    let at = covered-by x.leaves key leaf.0 leaf.1 in
    both_ways (overlaps at.name o.name) (leaf-apart me x o h e join at.name (ap is_some at.there)) (share-key at.name o.name key at.over under))

pub joins-apart : JoinsStandApart
joins-apart o journal brick s q h run there e join =
    let w = reached o journal in
    let g = run-stood o journal h run in
    let both : IsBoth brick (own s) = subst (NodeOk brick) (brick-node w brick s there) (g.own brick) in
    let stands : Standing (own s) × Covering (own s) = subst (NodeStands brick) (brick-node w brick s there) (g.stands brick) in
    record {
      leaves = λ name leaf k. leaf-apart brick (own s) q both e join name (ap is_some k);
      pending = λ at p k. covered-apart brick (own s) q (the_key p.op) both e join (all-is (Covers s.leaves) s.locks.pending at p stands.1 k);
    }
