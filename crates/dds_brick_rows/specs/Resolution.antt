-- How bricks resolve a transaction whose library stopped. The one resolver is the first member of its list that hasn't
-- stopped: it commits where a live member has committed or all live members are prepared, and aborts where one never
-- prepared or has aborted.
use Rattle.std.specs.Prelude.{ℕ, Bool, true, false, not, ◌==◌, ◌&&◌, ◌||◌, List, [], ◌∷◌, ◌++◌, Option, Some, None, if◌then◌else◌}
use Rattle.std.specs.List.{list_any, list_all}
use Rattle.dds_base.specs.NodeSet.{has_node}
use Rattle.dds_base.specs.BrickList.{has}
use Rattle.dds_base.specs.Number.{Txn, same_txn}
use Rattle.dds_base.specs.declared.node_set.NodeSet.{NodeSet}
use Rattle.dds_base.specs.declared.number.NodeNo.{NodeNo}
use Rattle.dds_base.specs.declared.pending.Pending.{Pending}
use Rattle.dds_base.specs.declared.pending.TxnStatus.{TxnStatus}
use Rattle.dds_base.specs.declared.pending.TxnStatus.TheVariants as txn_status
use Rattle.dds_letters.specs.declared.letter.Letter.TheVariants as letter
use Rattle.dds_locks.specs.Pending.{first_of}
use Rattle.dds_locks.specs.Status.{status}
use Rattle.dds_states.specs.Turn.{BrickTurn, still, sends, and_then, to_each, without, is_none_left, unknown_others}
use Rattle.dds_brick_rows.specs.Calls.{dropped, applied, aborted}
use Rattle.dds_brick_rows.specs.declared.resolution.News.{News}
use Rattle.dds_brick_rows.specs.declared.resolution.News.TheVariants as news
use Rattle.dds_states.specs.declared.brick_state.BrickState.{BrickState}
use Rattle.dds_states.specs.declared.brick_state.Deferred.{Deferred}
use Rattle.dds_states.specs.declared.brick_state.Question.{Question}
use Rattle.dds_states.specs.declared.brick_state.Question.TheVariants.{Help, Query}
use Rattle.dds_states.specs.declared.brick_state.Resolving.{Resolving}

-- the members before one, all of them where it isn't one
abbrev pub before : List ℕ → ℕ → List ℕ
before [] member = []
before (n ∷ ns) member = if n == member then [] else n ∷ before ns member

-- a transaction is ready for a member: its library and all members before that one are known to have stopped
abbrev pub is_ready : NodeSet → Txn → List ℕ → ℕ → Bool
is_ready known txn list member = has_node known txn.library && list_all (λ n. has_node known n) (before list member)

abbrev pub is_commit : TxnStatus → Bool
is_commit txn_status.NotPrepared = false
is_commit txn_status.Prepared = false
is_commit txn_status.Committed = true
is_commit txn_status.Aborted = false

abbrev pub is_no : TxnStatus → Bool
is_no txn_status.NotPrepared = true
is_no txn_status.Prepared = false
is_no txn_status.Committed = false
is_no txn_status.Aborted = true

-- a resolving that has heard a status more
abbrev pub heard : Resolving → TxnStatus → Resolving
heard r st = record r { saw_commit = r.saw_commit || is_commit st; saw_no = r.saw_no || is_no st }

-- a resolving that doesn't wait for a node any more
abbrev pub unwaited : Resolving → ℕ → Resolving
unwaited r node = record r { waiting = without r.waiting node }

abbrev pub settled : BrickState → Bool → Option Pending → BrickTurn
settled s commit None = still s
settled s true (Some p) = applied s p
settled s false (Some p) = still (aborted s (Some p))

-- Outcome: applies or aborts the transaction where it is pending
abbrev pub outcome_row : BrickState → Txn → Bool → BrickTurn
outcome_row s txn commit = settled (dropped s txn) commit (first_of s.locks.pending txn)

-- the outcome of a resolving that has heard all
abbrev pub verdict : Resolving → Bool
verdict r = r.saw_commit || not r.saw_no

-- decides: does what Outcome does, and tells the other members
abbrev pub decides : BrickState → Resolving → BrickTurn
decides s r =
    and_then (outcome_row s r.txn (verdict r)) (λ t. sends t (to_each (unknown_others r.list t.number t.known) (letter.Outcome r.txn (verdict r))))

-- goes on with a resolving that isn't in the state's list: decides where no member is waited for, and keeps it else
abbrev pub resolves_on : BrickState → Resolving → BrickTurn
resolves_on s r =
    if is_none_left r.waiting then decides s r else still (record s { resolving = s.resolving ++ r ∷ [] })

-- starts resolving: asks every other member how far it is
abbrev pub started : BrickState → Txn → List ℕ → Resolving
started s txn list =
    heard (record { txn = txn; list = list; waiting = unknown_others list s.number s.known; saw_commit = false; saw_no = false }) (status s.locks txn)

abbrev pub resolve : BrickState → Txn → List ℕ → BrickTurn
resolve s txn list =
    and_then (sends s (to_each (unknown_others list s.number s.known) (letter.Query txn list))) (λ t. resolves_on t (started s txn list))

-- the resolving is of this transaction
abbrev pub is_of : Txn → Resolving → Bool
is_of txn r = same_txn r.txn txn

abbrev pub is_resolved : BrickState → Txn → Bool
is_resolved s txn = list_any (is_of txn) s.resolving

abbrev pub defers : BrickState → NodeNo → Question → Txn → List ℕ → BrickTurn
defers s from question txn list =
    still (record s { deferred = s.deferred ++ record { from = from; question = question; txn = txn; list = list } ∷ [] })

-- Help: resolves the transaction, unless that is being done here; or defers it while this brick can't be the resolver
abbrev pub help_row : BrickState → NodeNo → Txn → List ℕ → BrickTurn
help_row s from txn list =
    if is_ready s.known txn list s.number then (if is_resolved s txn then still s else resolve s txn list)
    else defers s from Help txn list

-- Query: tells the status; or defers it while the sender can't be the resolver
abbrev pub query_row : BrickState → NodeNo → Txn → List ℕ → BrickTurn
query_row s from txn list =
    if is_ready s.known txn list from then sends s ((from, letter.Status txn (status s.locks txn)) ∷ [])
    else defers s from Query txn list

-- a resolving waits for what a member tells
abbrev pub is_awaited : Resolving → NodeNo → News → Bool
is_awaited r from news.Stopped = has r.waiting from
is_awaited r from (news.Told txn st) = is_of txn r && has r.waiting from

-- a resolving that has heard it, and waits for that member no more
abbrev pub with_news : Resolving → NodeNo → News → Resolving
with_news r from news.Stopped = unwaited r from
with_news r from (news.Told txn st) = unwaited (heard r st) from

-- one resolving, which isn't in the state's list, goes on by what a member tells
abbrev pub resolving_goes : BrickState → NodeNo → News → Resolving → BrickTurn
resolving_goes s from news r =
    if is_awaited r from news then resolves_on s (with_news r from news) else still (record s { resolving = s.resolving ++ r ∷ [] })

abbrev pub resolvings_go : BrickState → NodeNo → News → List Resolving → BrickTurn
resolvings_go s from news [] = still s
resolvings_go s from news (r ∷ rs) = and_then (resolving_goes s from news r) (λ t. resolvings_go t from news rs)

-- each resolving that waits for what a member tells goes on, in the order of starting; those that go on waiting keep
-- their places
abbrev pub all_hear : BrickState → NodeNo → News → BrickTurn
all_hear s from news = resolvings_go (record s { resolving = [] }) from news s.resolving

-- Status: a member that is waited for tells how far it is
abbrev pub status_row : BrickState → NodeNo → Txn → TxnStatus → BrickTurn
status_row s from txn st = all_hear s from (news.Told txn st)
