-- The five parts of a notice at a brick, in their order: a node has stopped.
use Rattle.std.specs.Prelude.{ℕ, Bool, true, false, not, ◌==◌, ◌&&◌, ◌||◌, List, [], ◌∷◌, ◌++◌, Option, Some, None, is_none, map, if◌then◌else◌}
use Rattle.dds_base.specs.NodeSet.{has_node, with_node}
use Rattle.dds_base.specs.BrickList.{has}
use Rattle.dds_base.specs.Number.{Txn}
use Rattle.dds_base.specs.declared.leaf.Leaf.{Leaf}
use Rattle.dds_base.specs.declared.number.NodeNo.{NodeNo}
use Rattle.dds_base.specs.declared.op.OrderReply.TheVariants as answered
use Rattle.dds_base.specs.declared.pending.Pending.{Pending}
use Rattle.dds_letters.specs.declared.letter.Letter.TheVariants as letter
use Rattle.dds_locks.specs.Leases.{released_all}
use Rattle.dds_states.specs.Turn.{BrickTurn, still, sends, and_then, without, unknown}
use Rattle.dds_order_rows.specs.OwnOrder.{ends, leases_on, copies, installs_on, going_on, with_order}
use Rattle.dds_brick_rows.specs.Resolution.{before, help_row, query_row, is_resolved, resolve, all_hear}
use Rattle.dds_brick_rows.specs.declared.resolution.News.TheVariants as news
use Rattle.dds_states.specs.declared.brick_state.BrickState.{BrickState}
use Rattle.dds_states.specs.declared.brick_state.Deferred.{Deferred}
use Rattle.dds_states.specs.declared.brick_state.OpenOrder.{OpenOrder}
use Rattle.dds_states.specs.declared.brick_state.OrderPhase.{OrderPhase}
use Rattle.dds_states.specs.declared.brick_state.OrderPhase.TheVariants.{Leasing, Copying, Installing}
use Rattle.dds_states.specs.declared.brick_state.Question.{Question}
use Rattle.dds_states.specs.declared.brick_state.Question.TheVariants.{Help, Query}
use Rattle.dds_states.specs.declared.brick_state.Task.{Task}
use Rattle.dds_states.specs.declared.brick_state.Task.TheVariants as task

-- the node is known to have stopped, and its leases are dropped
abbrev pub learns : BrickState → NodeNo → BrickState
learns s y =
    record s { known = with_node s.known y; locks = record s.locks { leases = released_all s.locks.leases y } }

-- a join that has no leaf yet has lost the one member that it knows
abbrev pub is_lost : OpenOrder → NodeNo → Task → Bool
is_lost o y (task.Join via) = is_none o.leaf && via == y
is_lost o y task.Split = false

-- a notice of the node concerns the open order: it is the one way in, or waited for, or copied from
abbrev pub concerns_in : OpenOrder → NodeNo → OrderPhase → Bool
concerns_in o y Leasing = is_lost o y o.task || has o.waiting y
concerns_in o y (Copying source) = source == y
concerns_in o y (Installing made) = has o.waiting y

abbrev pub concerns : NodeNo → OpenOrder → Bool
concerns y o = concerns_in o y o.phase

abbrev pub concerns_some : NodeNo → Option OpenOrder → Bool
concerns_some y None = false
concerns_some y (Some o) = concerns y o

abbrev pub copies_again : BrickState → OpenOrder → Option Leaf → BrickTurn
copies_again s o None = still (going_on s o)
copies_again s o (Some leaf) = copies s o leaf

abbrev pub order_goes : BrickState → OpenOrder → NodeNo → OrderPhase → BrickTurn
order_goes s o y Leasing =
    if is_lost o y o.task then ends s o answered.NoSource else leases_on s (record o { waiting = without o.waiting y })
order_goes s o y (Copying source) = copies_again s o o.leaf
order_goes s o y (Installing made) = installs_on s (record o { waiting = without o.waiting y }) made

-- the open order goes on without the node: a join that lost its only way in ends, another one doesn't wait for it, and
-- one that copies from it begins copying again
abbrev pub order_part : BrickState → NodeNo → BrickTurn
order_part s y =
    if concerns_some y s.order then with_order s (λ t o. order_goes t o y o.phase) s.order else still s

-- each resolving goes on without the node
abbrev pub resolving_part : BrickState → NodeNo → BrickTurn
resolving_part s y = all_hear s y news.Stopped

abbrev pub asked_again : BrickState → Deferred → Question → BrickTurn
asked_again s d Help = help_row s d.from d.txn d.list
asked_again s d Query = query_row s d.from d.txn d.list

abbrev pub asked_all_again : BrickState → List Deferred → BrickTurn
asked_all_again s [] = still s
asked_all_again s (d ∷ ds) = and_then (asked_again s d d.question) (λ t. asked_all_again t ds)

-- each deferred letter is handled, in the order in which they came: one that isn't ready is deferred again, in the same
-- order, so that this does what handling the ready ones alone would do
abbrev pub deferred_part : BrickState → BrickTurn
deferred_part s = asked_all_again (record s { deferred = [] }) s.deferred

abbrev pub helped_by : BrickState → NodeNo → Txn → List ℕ → List ℕ → BrickTurn
helped_by s y txn list [] = still s
helped_by s y txn list (f ∷ fs) =
    if f == s.number then resolve s txn list
    else (if y == txn.library || has (before list f) y then sends s ((f, letter.Help txn list) ∷ []) else still s)

-- one pending transaction: where its library is known to have stopped and it isn't being resolved here, the first
-- member that isn't known resolves it, or is told to where the notice made it the first
abbrev pub pending_goes : BrickState → NodeNo → Txn → List ℕ → BrickTurn
pending_goes s y txn list =
    if has_node s.known txn.library && not (is_resolved s txn) then helped_by s y txn list (unknown list s.known) else still s

-- pending transactions with their members
abbrev pub numbered : List Pending → List (Txn × List ℕ)
numbered ps = map (λ p. (p.txn, p.list)) ps

abbrev pub pendings_go : BrickState → NodeNo → List (Txn × List ℕ) → BrickTurn
pendings_go s y [] = still s
pendings_go s y (p ∷ ps) = and_then (pending_goes s y p.0 p.1) (λ t. pendings_go t y ps)

abbrev pub pending_part : BrickState → NodeNo → BrickTurn
pending_part s y = pendings_go s y (numbered s.locks.pending)

-- Notice: the node is known, then the order, the resolvings, the deferred letters and the pending transactions go on
abbrev pub notice_row : BrickState → NodeNo → BrickTurn
notice_row s y =
    and_then (and_then (and_then (order_part (learns s y) y) (λ t. resolving_part t y)) deferred_part) (λ t. pending_part t y)
