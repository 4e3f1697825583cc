-- Why a brick refuses a get, an update or a lease.
use Rattle.std.specs.Prelude.{ℕ, Bool, true, false, not, ◌==◌, ◌+◌, ◌&&◌, List, Option, Some, None, is_some, count_by, if◌then◌else◌}
use Rattle.std.specs.List.{list_any}
use Rattle.std.specs.FinMap.{get, keys, contains_key}
use Rattle.dds_base.specs.Name.{Name, covers, overlaps, same_name}
use Rattle.dds_base.specs.Number.{StampOf}
use Rattle.dds_base.specs.Op.{the_key}
use Rattle.dds_base.specs.declared.leaf.Leaf.{Leaf}
use Rattle.dds_base.specs.declared.op.Op.{Op}
use Rattle.dds_base.specs.declared.op.Op.TheVariants as op
use Rattle.dds_base.specs.declared.pending.Pending.{Pending}
use Rattle.dds_groups.specs.Leaves.{same_stamp}
use Rattle.dds_history.specs.Map.{Map}
use Rattle.dds_letters.specs.declared.refusal.Denial.{Denial}
use Rattle.dds_letters.specs.declared.refusal.Denial.TheVariants as denial
use Rattle.dds_letters.specs.declared.refusal.Refusal.{Refusal}
use Rattle.dds_letters.specs.declared.refusal.Refusal.TheVariants as refusal
use Rattle.dds_locks.specs.Leases.{leased, lease_covers}
use Rattle.dds_locks.specs.Pending.{holder, any_under}
use Rattle.dds_brick_rows.specs.declared.refusal.TheConstants.{PAIRS}
use Rattle.dds_states.specs.Leaf.{leaf_for}
use Rattle.dds_states.specs.Turn.{first_some, when}
use Rattle.dds_states.specs.declared.brick_state.BrickState.{BrickState}
use Rattle.dds_states.specs.declared.brick_state.OpenOrder.{OpenOrder}
use Rattle.dds_states.specs.declared.brick_state.Task.{Task}
use Rattle.dds_states.specs.declared.brick_state.Task.TheVariants as task

abbrev pub is_join : Task → Bool
is_join (task.Join via) = true
is_join task.Split = false

-- the key is under the name of an open join
abbrev pub joins_key : Option OpenOrder → ℕ → Bool
joins_key None key = false
joins_key (Some o) key = is_join o.task && covers o.name key

-- the name of an open join overlaps the name
abbrev pub joins_over : Option OpenOrder → Name → Bool
joins_over None name = false
joins_over (Some o) name = is_join o.task && overlaps o.name name

-- the leaf that was used isn't the one that covers the key here
abbrev pub stale_against : Option Leaf → Name → StampOf → Option Refusal
stale_against None name stamp = Some (refusal.Stale None)
stale_against (Some leaf) name stamp =
    if same_name leaf.name name && same_stamp leaf.stamp stamp then None else Some (refusal.Stale (Some leaf))

-- a pending transaction has the key locked
abbrev pub is_locked : BrickState → ℕ → Bool
is_locked s key = is_some (holder s.locks.pending key)

-- a get is refused by the first of these that holds: an open join is on its key; its leaf isn't the one that covers the
-- key here; the key is locked
abbrev pub get_refusal : BrickState → ℕ → Name → StampOf → Option Refusal
get_refusal s key name stamp =
    first_some (when (joins_key s.order key) refusal.Lease)
    (first_some (stale_against (leaf_for s.leaves key) name stamp) (when (is_locked s key) refusal.Lock))

-- an update is refused by the first of these that holds: an open join is on its key; its leaf isn't the one that covers
-- the key here; a lease covers the key; the key is locked
abbrev pub update_refusal : BrickState → ℕ → Name → StampOf → Option Refusal
update_refusal s key name stamp =
    first_some (when (joins_key s.order key) refusal.Lease)
    (first_some (stale_against (leaf_for s.leaves key) name stamp)
    (first_some (when (lease_covers s.locks.leases key) refusal.Lease) (when (is_locked s key) refusal.Lock)))

-- how many pairs lie under a name
abbrev pub pairs_under : Map → Name → ℕ
pairs_under pairs name = count_by (λ key. covers name key) (keys pairs)

abbrev pub is_put : Op → Bool
is_put (op.Get key) = false
is_put (op.Put key value) = true
is_put (op.Remove key) = false
is_put (op.Swap key expected value) = false

-- a pending put will bind a key under the name that isn't there
abbrev pub is_new_under : Map → Name → Pending → Bool
is_new_under pairs name p = is_put p.op && (covers name (the_key p.op) && not (contains_key pairs (the_key p.op)))

-- the pairs under a leaf's name and those that its pending puts will add are the limit together
abbrev pub is_full : BrickState → Leaf → Bool
is_full s leaf =
    pairs_under s.pairs leaf.name + count_by (λ p. is_new_under s.pairs leaf.name p) s.locks.pending == PAIRS

abbrev pub is_full_at : BrickState → Option Leaf → Bool
is_full_at s None = false
is_full_at s (Some leaf) = is_full s leaf

-- a put of a key that isn't there finds its partition full; a swap never does
abbrev pub has_no_room : BrickState → Op → Bool
has_no_room s o = is_put o && (not (contains_key s.pairs (the_key o)) && is_full_at s (leaf_for s.leaves (the_key o)))

abbrev pub as_denial : Option Refusal → Option Denial
as_denial None = None
as_denial (Some r) = Some (denial.Refused r)

-- why a brick votes no, if it does
abbrev pub update_denial : BrickState → Op → Name → StampOf → Option Denial
update_denial s o name stamp =
    first_some (as_denial (update_refusal s (the_key o) name stamp)) (when (has_no_room s o) denial.Full)

-- the own leaf of a name, and of a stamp where one is asked
abbrev pub is_stamped : Option StampOf → Leaf → Bool
is_stamped None leaf = true
is_stamped (Some stamp) leaf = same_stamp leaf.stamp stamp

abbrev pub is_found : Option StampOf → Option Leaf → Bool
is_found stamp None = false
is_found stamp (Some leaf) = is_stamped stamp leaf

-- a lease of a name, or of a leaf of that name with this stamp, is refused by the first of these that holds: an open
-- join overlaps the name; the brick has no such leaf; a lease overlaps it; a key under it is locked
abbrev pub lease_refusal : BrickState → Name → Option StampOf → Option Refusal
lease_refusal s name stamp =
    first_some (when (joins_over s.order name) refusal.Lease)
    (first_some (when (not (is_found stamp (get s.leaves name))) (refusal.Stale (leaf_for s.leaves name.bits)))
    (first_some (when (is_some (leased s.locks.leases name)) refusal.Lease) (when (any_under s.locks.pending name) refusal.Lock)))
