use Rattle.std.proofs.Common.{◌≡◌, ℕ, Option, Some, None, is_some, sym, ap, ◌∙◌}
use Rattle.std.specs.FinMap.{get}
use Rattle.dds_base.specs.Number.{Txn}
use Rattle.dds_cluster.specs.Trace.{run_of}
use Rattle.dds_cluster.specs.declared.trace.Trace.{Trace}
use Rattle.dds_history.specs.Map.{Map}
use Rattle.dds_states.specs.declared.brick_state.BrickState.{BrickState}
use Rattle.dds_values.proofs.Histories.{history-leaves}
use Rattle.dds_values.specs.Values.{before, bound_in}
use Rattle.dds_world.specs.Values.{IsHeld, pending_on}
use Rattle.dds_copies.proofs.Runs.{values-held}
use Rattle.dds_copies.specs.Runs.{ServersHold}

-- What a brick holds is what the history left: that leaves out reads, and they change nothing.

held-as : (t : Trace) (s : BrickState) (key : ℕ) (holder : Option Txn) → get s.pairs key ≡ bound_in (before t.made holder) key → IsHeld t s key holder
held-as t s key None h = h ∙ ap (λ (m : Map). get m key) (sym (history-leaves t))
held-as t s key (Some txn) h = h

pub servers-hold : ServersHold
servers-hold o journal h run talk =
    let v = values-held o journal h run talk in
    record {
      held = λ brick key s leaf serves.
          held-as (run_of o journal) s key (pending_on s key)
          ((v.bricks brick s serves.live.there serves.live.live).held key (ap is_some serves.covers));
      reads = v.legal;
    }
