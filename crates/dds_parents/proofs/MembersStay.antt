use Rattle.std.proofs.Common.{◌≡◌, ℕ, ◌||◌, true, List, Some, refl, sym, ap, ◌∙◌, subst}
use Rattle.std.specs.FinMap.{get}
use Rattle.std.specs.Prelude.{is_some}
use Rattle.dds_base.specs.BrickList.{has}
use Rattle.dds_base.specs.NodeSet.{has_node}
use Rattle.dds_base.specs.declared.leaf.Leaf.{Leaf}
use Rattle.dds_base.specs.declared.number.NodeNo.{NodeNo}
use Rattle.dds_brick_rows.specs.Refusal.{is_join}
use Rattle.dds_brick_rows.specs.Take as take
use Rattle.dds_cluster.specs.Trace.{is_run}
use Rattle.dds_cluster.specs.declared.step.Step.{Step}
use Rattle.dds_groups.specs.Leaves.{successor}
use Rattle.dds_groups.specs.Take.{is_better_rival}
use Rattle.dds_law_own.proofs.Changes.{own, served}
use Rattle.dds_law_own.proofs.Keeps.{NodeOk}
use Rattle.dds_law_own.proofs.Lists.{Each}
use Rattle.dds_law_own.proofs.Owned.{IsOrderly, made_name, orderly}
use Rattle.dds_law_own.proofs.Parted.{IsBoth}
use Rattle.dds_maps.specs.Own.{own_leaf}
use Rattle.dds_net.proofs.Nodes.{brick-node}
use Rattle.dds_orders.proofs.Asks.{orders-ask}
use Rattle.dds_orders.proofs.Standing.{keyed, order-is}
use Rattle.dds_script.specs.Opening.{IsOpening, OpeningOf}
use Rattle.dds_states.specs.Leaf.{leaf_for}
use Rattle.dds_states.specs.declared.brick_state.BrickState.{BrickState}
use Rattle.dds_states.specs.declared.brick_state.OpenOrder.{OpenOrder}
use Rattle.dds_states.specs.declared.brick_state.OrderPhase.TheVariants.{Installing}
use Rattle.dds_states.specs.declared.brick_state.Task.{Task}
use Rattle.dds_states.specs.declared.brick_state.Task.TheVariants.{Join, Split}
use Rattle.dds_world.specs.Groups as world
use Rattle.dds_world.specs.Groups.{HasLeaf, ListsTheLive}
use Rattle.dds_world.specs.Groups.HasLeaf.{in_brick}
use Rattle.dds_world.specs.Places.{IsLive, reached}
use Rattle.dds_parents.proofs.Makes.{served-leafing}
use Rattle.dds_parents.proofs.Parents.{run-listed}
use Rattle.dds_parents.proofs.Served.{Became, after-join, after-replaced, after-split, changed, covered-by, stayed}
use Rattle.dds_parents.proofs.Splits.{split-leaves}
use Rattle.dds_parents.proofs.Taken.{taken-list}
use Rattle.dds_parents.specs.Served.{ServedLeavesList}

-- Of the laws of taken leaves, of whom orders have asked and of a split's leaf: no live member is lost where a leaf stands in the place of
-- another one.

module _ (o : OpeningOf) (journal : List Step) (brick : NodeNo) (s : BrickState) (h : IsOpening o) (run : is_run o journal ≡ true)
    (live : IsLive (reached o journal) brick s) where
  both : IsBoth brick (own s)
  both =
      subst (NodeOk brick) (brick-node (reached o journal) brick s live.there) ((run-listed o journal h run).asked.own brick)

  names : (n : _) (l : Leaf) → get s.leaves n ≡ Some l → l.name ≡ n
  names n l e = keyed brick (own s) l both.0 n e

  became-lists : (mine leaf old new : Leaf) → Became mine leaf old new → (old ≡ mine → ListsTheLive (reached o journal) old.list leaf.list)
      → ListsTheLive (reached o journal) old.list new.list
  became-lists mine leaf old new (stayed e) f other t k lives = ap (λ (l : Leaf). has l.list other) e ∙ k
  became-lists mine leaf old new (changed e same) f other t k lives = sym (ap (λ (l : Leaf). has l.list other) same) ∙ f e other t k lives

  replaced-lists : (mine leaf : Leaf) (key : ℕ) (old new : Leaf) → HasLeaf (reached o journal) leaf → own_leaf s.leaves leaf.name ≡ Some mine
      → (is_some (successor mine leaf) || is_better_rival (has_node s.known) mine leaf) ≡ true → leaf_for s.leaves key ≡ Some old
      → leaf_for (take.replaced s.leaves mine leaf) key ≡ Some new → ListsTheLive (reached o journal) old.list new.list
  replaced-lists mine leaf key old new also there comes first after =
      let before = covered-by s.leaves key old first in
      let here : HasLeaf (reached o journal) old =
      in_brick (reached o journal) old (record { brick = brick; state = s; name = before.name; there = live.there; is = before.there }) in
      became-lists mine leaf old new
      (after-replaced s.leaves both.1.leaves names key old new before mine leaf there (covered-by (take.replaced s.leaves mine leaf) key new after))
      (λ e. taken-list o journal brick s old leaf h run live here also
      (subst (λ (l : Leaf). (is_some (successor l leaf) || is_better_rival (has_node s.known) l leaf) ≡ true) (sym e) comes))

  its-name : (q : OpenOrder) (made : Leaf) → s.order ≡ Some q → q.phase ≡ Installing made → made.name ≡ made_name q.name q.task
  its-name q made there phase =
      let it : IsOrderly brick q = orderly brick s.order q there both.0.order in
      (subst (λ i. Each (λ (l : Leaf). (l.name ≡ made_name q.name q.task) × (has l.list brick ≡ true)) (world.made_leaf i)) phase it.made).0

  served-as : (q : OpenOrder) (made : Leaf) (key : ℕ) (old new : Leaf) (t : Task) → q.task ≡ t → s.order ≡ Some q → q.phase ≡ Installing made
      → leaf_for s.leaves key ≡ Some old → leaf_for (served s.leaves q made t) key ≡ Some new → ListsTheLive (reached o journal) old.list new.list
  served-as q made key old new (Join via) task there phase first after =
      let same : new ≡ old =
      after-join s.leaves both.1.leaves names key old new (covered-by s.leaves key old first) q made via
      (its-name q made there phase ∙ ap (made_name q.name) task) (ap is_join task) (order-is s.leaves s.order q there both.1.order)
      (covered-by (served s.leaves q made (Join via)) key new after) in
      λ other t k lives. ap (λ (l : Leaf). has l.list other) same ∙ k
  served-as q made key old new Split task there phase first after =
      let split = split-leaves o journal brick s q h run live.there there task in
      became-lists split.leaf made old new
      (after-split s.leaves both.1.leaves names key old new (covered-by s.leaves key old first) q split.leaf made
      (its-name q made there phase ∙ ap (made_name q.name) task) split.there (covered-by (served s.leaves q made Split) key new after))
      (λ e. subst (λ (l : Leaf). ListsTheLive (reached o journal) l.list made.list) (sym e)
      ((orders-ask o journal brick s q split.leaf h run live there split.fixed).made made phase))

pub served-list : ServedLeavesList
served-list o journal brick s h run live =
    record {
      replaced = λ mine leaf key old new also there comes first after.
          replaced-lists o journal brick s h run live mine leaf key old new also there comes first after;
      served = λ q made key old new there phase first after.
          served-as o journal brick s h run live q made key old new q.task refl there phase first
          (sym (ap (λ x. leaf_for x.leaves key) (served-leafing s q made q.task)) ∙ after);
    }
