-- The room under a brick's leaves.
use Rattle.std.specs.Prelude.{ℕ, ◌≡◌, ◌+◌, ◌≤◌, true, List, Some, count_by}
use Rattle.std.specs.FinMap.{get}
use Rattle.dds_base.specs.Name.{Name}
use Rattle.dds_base.specs.declared.leaf.Leaf.{Leaf}
use Rattle.dds_base.specs.declared.number.NodeNo.{NodeNo}
use Rattle.dds_brick_rows.specs.Refusal.{is_new_under, pairs_under}
use Rattle.dds_brick_rows.specs.declared.refusal.TheConstants.{PAIRS}
use Rattle.dds_cluster.specs.Trace.{is_run}
use Rattle.dds_cluster.specs.declared.step.Step.{Step}
use Rattle.dds_script.specs.Opening.{IsOpening, OpeningOf}
use Rattle.dds_states.specs.declared.brick_state.BrickState.{BrickState}
use Rattle.dds_world.specs.Places.{IsLive, reached}

-- the pairs under a name and those that pending puts will add there
abbrev pub taken_under : BrickState → Name → ℕ
taken_under s name = pairs_under s.pairs name + count_by (λ p. is_new_under s.pairs name p) s.locks.pending

-- are at most the limit under each own leaf
abbrev pub HasRoom : BrickState → Type 0
HasRoom s = (name : Name) (leaf : Leaf) → get s.leaves name ≡ Some leaf → taken_under s leaf.name ≤ PAIRS

-- of each live brick in each world of each run of each opening
abbrev pub LeavesHaveRoom : Type 0
LeavesHaveRoom =
    (o : OpeningOf) (journal : List Step) (brick : NodeNo) (s : BrickState) → IsOpening o → is_run o journal ≡ true → IsLive (reached o journal) brick s
    → HasRoom s
