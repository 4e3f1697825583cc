-- Why what an order asks for is refused: a lease by a member, a split by the brick itself.
use Rattle.std.specs.Prelude.{Option, None, Some, is_some}
use Rattle.dds_base.specs.Name.{Name}
use Rattle.dds_letters.specs.declared.refusal.Refusal.{Refusal}
use Rattle.dds_letters.specs.declared.refusal.Refusal.TheVariants as refusal
use Rattle.dds_letters.specs.declared.refusal.Wanted.{Wanted}
use Rattle.dds_letters.specs.declared.refusal.Wanted.TheVariants as wanted
use Rattle.dds_locks.specs.Leases.{leased}
use Rattle.dds_locks.specs.Pending.{any_under}
use Rattle.dds_brick_rows.specs.Refusal.{lease_refusal}
use Rattle.dds_brick_rows.specs.Take.{take as take_leaf}
use Rattle.dds_states.specs.Turn.{first_some, when}
use Rattle.dds_states.specs.declared.brick_state.BrickState.{BrickState}

-- a lease that is asked for: a leaf that comes with the request is taken first
abbrev pub lease_denial : BrickState → Wanted → Option Refusal
lease_denial s (wanted.Name name) = lease_refusal s name None
lease_denial s (wanted.Leaf leaf) = lease_refusal (take_leaf s leaf) leaf.name (Some leaf.stamp)

-- a split of a leaf of this name: a lease or a locked key stands in its way
abbrev pub split_refusal : BrickState → Name → Option Refusal
split_refusal s name =
    first_some (when (is_some (leased s.locks.leases name)) refusal.Lease) (when (any_under s.locks.pending name) refusal.Lock)
