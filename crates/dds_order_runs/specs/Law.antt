-- What orders and their members have of each other.
use Rattle.std.specs.Prelude.{ℕ, ◌≡◌, ◌≤◌, ◌⊎◌, true, false, List, Some, None}
use Rattle.dds_base.specs.BrickList.{has}
use Rattle.dds_base.specs.Name.{Name}
use Rattle.dds_base.specs.declared.leaf.Leaf.{Leaf}
use Rattle.dds_base.specs.declared.number.NodeNo.{NodeNo}
use Rattle.dds_brick_rows.specs.Refusal.{is_join}
use Rattle.dds_cluster.specs.Trace.{is_run}
use Rattle.dds_cluster.specs.declared.step.Step.{Step}
use Rattle.dds_listed.specs.Law.{MembersAnswer}
use Rattle.dds_locks.specs.Leases.{is_given}
use Rattle.dds_net.specs.Net.{net, sizes_of}
use Rattle.dds_order_talk.specs.Seen.{New, OrdersTalk, Own}
use Rattle.dds_script.specs.Opening.{IsOpening, OpeningOf}
use Rattle.dds_states.specs.declared.brick_state.BrickState.{BrickState}
use Rattle.dds_states.specs.declared.brick_state.OpenOrder.{OpenOrder}
use Rattle.dds_states.specs.declared.brick_state.OrderPhase.{OrderPhase}
use Rattle.dds_states.specs.declared.brick_state.OrderPhase.TheVariants.{Copying, Installing, Leasing}
use Rattle.dds_trie.specs.Trie.{LeafMap}
use Rattle.dds_world.specs.Groups.{HasLeaf}
use Rattle.dds_world.specs.Places.{IsLive, reached, world_at}

-- at each place of each run of each opening: each two bricks talk about orders by the table of conversations
abbrev pub OrdersAlwaysTalk : Type 0
OrdersAlwaysTalk =
    (o : OpeningOf) (journal : List Step) → IsOpening o → is_run o journal ≡ true → (at : ℕ) → OrdersTalk (net (sizes_of o) (world_at o journal at))

-- in each world of each run of each opening: wherever a leaf stands that isn't one of the opening's stale leaves, the live bricks of its list
-- answer for it
abbrev pub MembersAlwaysAnswer : Type 0
MembersAlwaysAnswer = (o : OpeningOf) (journal : List Step) → IsOpening o → is_run o journal ≡ true → MembersAnswer (reached o journal)

-- so where such a leaf has the name of a live brick's open join that has no leaf yet, it doesn't list the brick
abbrev pub JoinersStayUnlisted : Type 0
JoinersStayUnlisted =
    (o : OpeningOf) (journal : List Step) (brick : NodeNo) (s : BrickState) (join : OpenOrder) (leaf : Leaf) → IsOpening o → is_run o journal ≡ true
    → IsLive (reached o journal) brick s → s.order ≡ Some join → is_join join.task ≡ true → join.leaf ≡ None → HasLeaf (reached o journal) leaf
    → 1 ≤ leaf.epoch → leaf.name ≡ join.name → has leaf.list brick ≡ false

-- what a member has of the order's name, by the order's phase: the order's leaf; and while the order installs, that or what was made
abbrev pub HasOf : LeafMap → Name → Leaf → OrderPhase → Type 0
HasOf m x leaf Leasing = Own m x leaf
HasOf m x leaf (Copying source) = Own m x leaf
HasOf m x leaf (Installing made) = Own m x leaf ⊎ New m x made

-- the member has given the lease of the order's name to the brick, and has the leaf; it has what was made, where it isn't waited for
pub record Holds (brick member : NodeNo) (o : OpenOrder) (leaf : Leaf) (t : BrickState) : Type 0 where
  pub lease : is_given t.locks.leases o.name brick ≡ true
  pub own : HasOf t.leaves o.name leaf o.phase
  pub made : (made : Leaf) → o.phase ≡ Installing made → has o.waiting member ≡ false → New t.leaves o.name made

-- of each live brick's open order that has its leaf, and each live member that granted it
abbrev pub GrantedMembersHold : Type 0
GrantedMembersHold =
    (o : OpeningOf) (journal : List Step) (brick member : NodeNo) (s t : BrickState) (open_order : OpenOrder) (leaf : Leaf) → IsOpening o
    → is_run o journal ≡ true → IsLive (reached o journal) brick s → IsLive (reached o journal) member t → s.order ≡ Some open_order
    → open_order.leaf ≡ Some leaf → has open_order.granted member ≡ true → Holds brick member open_order leaf t
