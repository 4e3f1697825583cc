-- A brick that joins a group isn't in the list of a leaf that it will ask for.
use Rattle.std.specs.Prelude.{◌≡◌, ◌≤◌, true, false, List, Some, None}
use Rattle.dds_base.specs.BrickList.{has}
use Rattle.dds_base.specs.declared.leaf.Leaf.{Leaf}
use Rattle.dds_base.specs.declared.number.NodeNo.{NodeNo}
use Rattle.dds_brick_rows.specs.Refusal.{is_join}
use Rattle.dds_cluster.specs.Trace.{is_run}
use Rattle.dds_cluster.specs.World.{World}
use Rattle.dds_cluster.specs.declared.step.Step.{Step}
use Rattle.dds_script.specs.Opening.{IsOpening, OpeningOf}
use Rattle.dds_states.specs.declared.brick_state.BrickState.{BrickState}
use Rattle.dds_states.specs.declared.brick_state.OpenOrder.{OpenOrder}
use Rattle.dds_world.specs.Groups.{HasLeaf}
use Rattle.dds_world.specs.Places.{reached, IsLive}
use Rattle.dds_listed.specs.Answers.{Answers}

-- wherever a leaf stands that isn't one of the opening's stale leaves, the live bricks of its list answer for it
abbrev pub MembersAnswer : World → Type 0
MembersAnswer w =
    (leaf : Leaf) (brick : NodeNo) (s : BrickState) → HasLeaf w leaf → 1 ≤ leaf.epoch → IsLive w brick s → has leaf.list brick ≡ true → Answers s leaf

-- of each world of each run of each opening, if in that world live members answer for leaves: wherever a leaf stands that isn't a stale one of
-- the opening, and has the name of a live brick's open join that has no leaf yet, it doesn't list the brick
abbrev pub JoinsAreUnlisted : Type 0
JoinsAreUnlisted =
    (o : OpeningOf) (journal : List Step) (brick : NodeNo) (s : BrickState) (join : OpenOrder) (leaf : Leaf) → IsOpening o → is_run o journal ≡ true
    → MembersAnswer (reached o journal) → IsLive (reached o journal) brick s → s.order ≡ Some join → is_join join.task ≡ true → join.leaf ≡ None
    → HasLeaf (reached o journal) leaf → 1 ≤ leaf.epoch → leaf.name ≡ join.name → has leaf.list brick ≡ false
