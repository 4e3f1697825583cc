-- Nothing changes under the name of a bound join.
use Rattle.std.specs.Prelude.{ℕ, ◌≡◌, ◌++◌, false, true, List, ◌∷◌, is_some}
use Rattle.dds_base.specs.Name.{covers}
use Rattle.dds_cluster.specs.Trace.{is_run, run_of}
use Rattle.dds_cluster.specs.declared.step.Step.{Step}
use Rattle.dds_locks.specs.Leases.{is_given}
use Rattle.dds_locks.specs.Pending.{any_under}
use Rattle.dds_net.proofs.Journals.{Grown, net_of}
use Rattle.dds_net.specs.Net.{Net, a_brick}
use Rattle.dds_script.specs.Opening.{IsOpening, OpeningOf}
use Rattle.dds_share.proofs.Together.{Bound}
use Rattle.dds_states.specs.Leaf.{leaf_for}
use Rattle.dds_states.specs.declared.brick_state.BrickState.{BrickState}
use Rattle.dds_states.specs.declared.brick_state.OpenOrder.{OpenOrder}
use Rattle.dds_values.specs.Held.{TalkAlong}
use Rattle.dds_values.specs.Values.{bound_in}
use Rattle.dds_world.specs.Values.{JoinIsFrozen}

-- each live brick that serves a key under the name of a bound join has given it the lease, and has no key there pending
abbrev pub ServersHaveLeased : Net → Type 0
ServersHaveLeased n =
    (k b : ℕ) (s t : BrickState) (o : OpenOrder) (key : ℕ) → Bound n k s o → n.node b ≡ a_brick t → t.stopped ≡ false
    → is_some (leaf_for t.leaves key) ≡ true → covers o.name key ≡ true
    → (is_given t.locks.leases o.name k ≡ true) × (any_under t.locks.pending o.name ≡ false)

-- and no step behind which a join is bound changes what the points left under its name
pub record JoinsAreFrozen (o : OpeningOf) (journal : List Step) : Type 0 where
  pub leased : ServersHaveLeased (net_of o journal)
  pub still :
      (was more : List Step) (x : Step) (k : ℕ) (s : BrickState) (join : OpenOrder) (key : ℕ) → was ++ x ∷ more ≡ journal
      → Bound (net_of o (Grown was x)) k s join → covers join.name key ≡ true
      → bound_in (run_of o (Grown was x)).made key ≡ bound_in (run_of o was).made key

-- of each run of each opening at whose places orders and their members talk as the table of conversations says
abbrev pub BoundJoinsAreFrozen : Type 0
BoundJoinsAreFrozen =
    (o : OpeningOf) (journal : List Step) → IsOpening o → is_run o journal ≡ true → TalkAlong o journal → JoinsAreFrozen o journal

-- and so is each join that installs, or copies from a source that lives or from which a part of what it copies was ever on its way, also where
-- the source stopped and the part was lost with it
abbrev pub JoinsCopyFrozen : Type 0
JoinsCopyFrozen = (o : OpeningOf) (journal : List Step) → IsOpening o → is_run o journal ≡ true → TalkAlong o journal → JoinIsFrozen o journal
