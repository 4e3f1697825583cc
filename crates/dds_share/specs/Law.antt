-- Bricks that serve a key list each other.
use Rattle.std.specs.Prelude.{ℕ, ◌≡◌, true, List}
use Rattle.dds_base.specs.BrickList.{has}
use Rattle.dds_base.specs.declared.leaf.Leaf.{Leaf}
use Rattle.dds_base.specs.declared.number.NodeNo.{NodeNo}
use Rattle.dds_cluster.specs.Trace.{is_run}
use Rattle.dds_cluster.specs.declared.step.Step.{Step}
use Rattle.dds_net.specs.Net.{net, sizes_of}
use Rattle.dds_order_talk.specs.Seen.{OrdersTalk}
use Rattle.dds_script.specs.Opening.{IsOpening, OpeningOf}
use Rattle.dds_states.specs.declared.brick_state.BrickState.{BrickState}
use Rattle.dds_world.specs.Places.{reached, Serves, world_at}

-- of each run of each opening, at whose places orders and their members talk as the table of conversations says: where two live bricks
-- have leaves over one key, each one's leaf lists the other brick. It is the part `share` of `ServersShareAGroup`
abbrev pub ServersListEachOther : Type 0
ServersListEachOther =
    (o : OpeningOf) (journal : List Step) (a b : NodeNo) (key : ℕ) (s t : BrickState) (leaf other : Leaf) → IsOpening o → is_run o journal ≡ true
    → ((at : ℕ) → OrdersTalk (net (sizes_of o) (world_at o journal at))) → Serves (reached o journal) a key s leaf
    → Serves (reached o journal) b key t other → has leaf.list b ≡ true
