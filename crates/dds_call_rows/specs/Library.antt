-- What a library does for one call: how an attempt begins, how a newer map is looked for, and what each letter does.
use Rattle.std.specs.Prelude.{ℕ, Bool, true, false, not, ◌==◌, ◌+◌, ◌%◌, ◌&&◌, List, [], ◌∷◌, ◌++◌, Option, Some, None, length, filter, map, min, slice_index}
use Rattle.std.specs.Prelude.{if◌then◌else◌}
use Rattle.std.specs.List.{list_all}
use Rattle.dds_base.specs.Name.{Name, same_name}
use Rattle.dds_base.specs.BrickList.{has}
use Rattle.dds_base.specs.NodeSet.{has_node}
use Rattle.dds_base.specs.Number.{Txn}
use Rattle.dds_base.specs.Op.{the_key}
use Rattle.dds_base.specs.declared.leaf.Leaf.{Leaf}
use Rattle.dds_base.specs.declared.node_set.NodeSet.{NodeSet}
use Rattle.dds_base.specs.declared.number.NodeNo.{NodeNo}
use Rattle.dds_base.specs.declared.op.Met.{Met}
use Rattle.dds_base.specs.declared.op.Met.TheVariants as met
use Rattle.dds_base.specs.declared.op.Op.{Op}
use Rattle.dds_base.specs.declared.op.Op.TheVariants as op
use Rattle.dds_base.specs.declared.op.Reply.{Reply}
use Rattle.dds_base.specs.declared.op.Reply.TheVariants as reply
use Rattle.dds_groups.specs.Leaves.{newer, same_stamp}
use Rattle.dds_history.specs.Map.{reply_with}
use Rattle.dds_letters.specs.declared.letter.Letter.{Letter}
use Rattle.dds_letters.specs.declared.letter.Letter.TheVariants as letter
use Rattle.dds_letters.specs.declared.refusal.Answer.{Answer}
use Rattle.dds_letters.specs.declared.refusal.Answer.TheVariants as answer
use Rattle.dds_letters.specs.declared.refusal.Ballot.{Ballot}
use Rattle.dds_letters.specs.declared.refusal.Ballot.TheVariants as ballot
use Rattle.dds_letters.specs.declared.refusal.Denial.{Denial}
use Rattle.dds_letters.specs.declared.refusal.Denial.TheVariants as denial
use Rattle.dds_letters.specs.declared.refusal.Refusal.{Refusal}
use Rattle.dds_letters.specs.declared.refusal.Refusal.TheVariants as refusal
use Rattle.dds_trie.specs.Trie.{LeafMap, put}
use Rattle.dds_states.specs.Turn.{to_each, without, is_none_left, unknown, numbers_from}
use Rattle.dds_states.specs.Leaf.{leaf_for}
use Rattle.dds_states.specs.declared.library_state.TheConstants.{RETRIES}
use Rattle.dds_states.specs.declared.library_state.Desk.{Desk}
use Rattle.dds_states.specs.declared.library_state.OpenCall.{OpenCall}
use Rattle.dds_states.specs.declared.library_state.Phase.{Phase}
use Rattle.dds_states.specs.declared.library_state.Phase.TheVariants.{Getting, Preparing, Committing, Aborting, Asking}
use Rattle.dds_states.specs.declared.library_state.Request.{Request}
use Rattle.dds_states.specs.declared.library_state.TxnNumbers.{TxnNumbers}
use Rattle.dds_states.specs.declared.library_state.Went.{Went}

-- what happens to one call: the desk after it, and what it gives
pub record CallTurn : Type 0 where
  pub desk : Desk
  pub went : Went

-- the call is answered
abbrev pub replies : Desk → Reply → CallTurn
replies d r = record { desk = d; went = record { letters = []; call = None; reply = Some r } }

-- the call stays open
abbrev pub stays : Desk → List (NodeNo × Letter) → OpenCall → CallTurn
stays d ls c = record { desk = d; went = record { letters = ls; call = Some c; reply = None } }

-- a turn with letters before its own
abbrev pub behind : List (NodeNo × Letter) → CallTurn → CallTurn
behind ls t = record t { went = record t.went { letters = ls ++ t.went.letters } }

-- the next attempt
abbrev pub next_txn : Desk → Txn
next_txn d = record { library = d.numbers.library; number = d.numbers.next }

-- the desk after an attempt took its number
abbrev pub counted : Desk → Desk
counted d = record d { numbers = record d.numbers { next = d.numbers.next + 1 } }

-- the least number of all open attempts, the next one's included
abbrev pub below : Desk → ℕ
below d = min d.numbers.next d.numbers.below

-- the bricks that aren't known to have stopped, by number
abbrev pub live_bricks : Desk → List NodeNo
live_bricks d = unknown (numbers_from d.numbers.bricks 0) d.known

-- a call that has looked for a newer map once more
abbrev pub retried : Request → Request
retried r = record r { retries = r.retries + 1 }

abbrev pub asks : Desk → Request → Met → List NodeNo → CallTurn
asks d r m [] = replies (counted d) (reply.Again m)
asks d r m (n ∷ ns) =
    stays (counted d) (to_each (n ∷ ns) (letter.MapAsk (next_txn d) r.caller r.call (the_key r.op)))
    (record { request = retried r; txn = next_txn d; phase = Asking (n ∷ ns) None m })

-- asks every brick for its leaf of the key; after three looks the call is answered Again
abbrev pub ask : Desk → Request → Met → CallTurn
ask d r m = if r.retries == RETRIES then replies d (reply.Again m) else asks d r m (live_bricks d)

-- the letter and the phase by which an attempt begins: a get asks one live member, an update asks all to prepare
abbrev pub got_from : List NodeNo → Request → NodeNo
got_from members r = slice_index members (r.caller % length members)

abbrev pub update_begins : Desk → Request → Leaf → List NodeNo → CallTurn
update_begins d r leaf members =
    stays (counted d) (to_each members (letter.Prepare (next_txn d) r.caller r.call (below d) leaf.name leaf.stamp members r.op))
    (record { request = r; txn = next_txn d; phase = Preparing leaf members members })

abbrev pub get_begins : Desk → Request → Leaf → NodeNo → ℕ → CallTurn
get_begins d r leaf brick key =
    stays (counted d) ((brick, letter.Get (next_txn d) r.caller r.call key leaf.name leaf.stamp) ∷ [])
    (record { request = r; txn = next_txn d; phase = Getting leaf brick })

abbrev pub attempt_begins : Desk → Request → Leaf → List NodeNo → Op → CallTurn
attempt_begins d r leaf members (op.Get key) = get_begins d r leaf (got_from members r) key
attempt_begins d r leaf members (op.Put key value) = update_begins d r leaf members
attempt_begins d r leaf members (op.Remove key) = update_begins d r leaf members
attempt_begins d r leaf members (op.Swap key expected value) = update_begins d r leaf members

abbrev pub begins_with : Desk → Request → Leaf → List NodeNo → CallTurn
begins_with d r leaf [] = ask d r (met.Stopped (slice_index leaf.list 0))
begins_with d r leaf (m ∷ ms) = attempt_begins d r leaf (m ∷ ms) r.op

-- a map has a leaf for each key, so that None isn't met
abbrev pub begins_at : Desk → Request → Option Leaf → CallTurn
begins_at d r None = record { desk = d; went = record { letters = []; call = None; reply = None } }
begins_at d r (Some leaf) = begins_with d r leaf (unknown leaf.list d.known)

-- begins an attempt at the live members of the map's leaf for the key; where there are none, asks for a newer map
abbrev pub begin : Desk → Request → CallTurn
begin d r = begins_at d r (leaf_for d.map (the_key r.op))

-- the desk whose map has adopted a leaf
abbrev pub adopts : Desk → Leaf → Desk
adopts d leaf = record d { map = put d.map leaf }

-- all bricks have told: the newest leaf is adopted and an attempt begins, or the call is answered Again
abbrev pub told_all : Desk → Request → Option Leaf → Met → CallTurn
told_all d r None m = replies d (reply.Again m)
told_all d r (Some leaf) m = begin (adopts d leaf) r

abbrev pub same_leaf : Leaf → Leaf → Bool
same_leaf a b = same_name a.name b.name && same_stamp a.stamp b.stamp

-- a brick's own leaf is another than the one that was used: mine is told to the brick where it is newer, once a call;
-- else theirs is adopted, where it isn't the same
abbrev pub repairs : Desk → Request → NodeNo → Leaf → Option Leaf → CallTurn
repairs d r from theirs None = begin (adopts d theirs) r
repairs d r from theirs (Some mine) =
    if newer mine theirs && not r.pushed then behind ((from, letter.Push mine) ∷ []) (begin d (record r { pushed = true }))
    else (if same_leaf mine theirs then begin d r else begin (adopts d theirs) r)

abbrev pub differs : Desk → Request → NodeNo → Leaf → CallTurn
differs d r from theirs =
    if r.retries == RETRIES then replies d (reply.Again (met.Stale from))
    else repairs d (retried r) from theirs (leaf_for d.map (the_key r.op))

abbrev pub stale : Desk → Request → NodeNo → Option Leaf → CallTurn
stale d r from None = ask d r (met.Stale from)
stale d r from (Some theirs) = differs d r from theirs

-- a call that a brick refused: answered Again at a lease or a lock, and tried again with a repaired map
abbrev pub refused : Desk → Request → NodeNo → Refusal → CallTurn
refused d r from refusal.Lease = replies d (reply.Again (met.Lease from))
refused d r from refusal.Lock = replies d (reply.Again (met.Lock from))
refused d r from (refusal.Stale leaf) = stale d r from leaf

abbrev pub denied : Desk → Request → NodeNo → Denial → CallTurn
denied d r from (denial.Refused why) = refused d r from why
denied d r from denial.Full = replies d (reply.Full from)

abbrev pub got_with : Desk → OpenCall → NodeNo → Answer → CallTurn
got_with d c from answer.Absent = replies d reply.Absent
got_with d c from (answer.Value value) = replies d (reply.Value value)
got_with d c from (answer.Refused why) = refused d c.request from why

-- Got, while getting: the answer is the reply
abbrev pub got_in : Desk → OpenCall → NodeNo → Answer → Phase → CallTurn
got_in d c from a (Getting leaf brick) = got_with d c from a
got_in d c from a phase = stays d [] c

-- all members have voted yes: the update is decided, and the live ones are told to commit
abbrev pub commits : Desk → OpenCall → Leaf → List NodeNo → CallTurn
commits d c leaf list =
    stays d (to_each (unknown list d.known) (letter.Commit c.txn)) (record c { phase = Committing leaf list (unknown list d.known) None })

abbrev pub prepared_on : Desk → OpenCall → Leaf → List NodeNo → List NodeNo → CallTurn
prepared_on d c leaf list waiting =
    if is_none_left waiting then commits d c leaf list else stays d [] (record c { phase = Preparing leaf list waiting })

-- a member voted no: the live ones are told to abort
abbrev pub aborts : Desk → OpenCall → List NodeNo → NodeNo → Denial → CallTurn
aborts d c list from why =
    stays d (to_each (unknown list d.known) (letter.Abort c.txn)) (record c { phase = Aborting (unknown list d.known) why from })

abbrev pub vote_counted : Desk → OpenCall → Leaf → List NodeNo → List NodeNo → NodeNo → Ballot → CallTurn
vote_counted d c leaf list waiting from ballot.Yes = prepared_on d c leaf list (without waiting from)
vote_counted d c leaf list waiting from (ballot.No why) = aborts d c list from why

-- Vote, while preparing, of a member that is waited for
abbrev pub vote_in : Desk → OpenCall → NodeNo → Ballot → Phase → CallTurn
vote_in d c from vote (Preparing leaf list waiting) =
    if has waiting from then vote_counted d c leaf list waiting from vote else stays d [] c
vote_in d c from vote phase = stays d [] c

-- the flag that was kept, or else this one
abbrev pub first_flag : Option Bool → Bool → Bool
first_flag None was = was
first_flag (Some first) was = first

abbrev pub applied_on : Desk → OpenCall → Leaf → List NodeNo → List NodeNo → Bool → CallTurn
applied_on d c leaf list waiting was =
    if is_none_left waiting then replies d (reply_with c.request.op was) else stays d [] (record c { phase = Committing leaf list waiting (Some was) })

-- Applied, while committing: the first flag is kept, and is the reply when all have applied
abbrev pub applied_in : Desk → OpenCall → NodeNo → Bool → Phase → CallTurn
applied_in d c from flag (Committing leaf list waiting was) =
    applied_on d c leaf list (without waiting from) (first_flag was flag)
applied_in d c from flag phase = stays d [] c

abbrev pub aborted_on : Desk → OpenCall → List NodeNo → Denial → NodeNo → CallTurn
aborted_on d c waiting why brick =
    if is_none_left waiting then denied d c.request brick why else stays d [] (record c { phase = Aborting waiting why brick })

-- Aborted, while aborting: when all have aborted the call is refused
abbrev pub aborted_in : Desk → OpenCall → NodeNo → Phase → CallTurn
aborted_in d c from (Aborting waiting why brick) = aborted_on d c (without waiting from) why brick
aborted_in d c from phase = stays d [] c

-- the newer of two leaves that were told
abbrev pub newer_of : Leaf → Option Leaf → Option Leaf
newer_of told None = Some told
newer_of told (Some kept) = if newer told kept then Some told else Some kept

abbrev pub newest_of : Option Leaf → Option Leaf → Option Leaf
newest_of None kept = kept
newest_of (Some told) kept = newer_of told kept

abbrev pub told_on : Desk → OpenCall → List NodeNo → Option Leaf → Met → CallTurn
told_on d c waiting newest m =
    if is_none_left waiting then told_all d c.request newest m else stays d [] (record c { phase = Asking waiting newest m })

-- MapTell, while asking: the newest leaf is kept
abbrev pub told_in : Desk → OpenCall → NodeNo → Option Leaf → Phase → CallTurn
told_in d c from leaf (Asking waiting newest m) = told_on d c (without waiting from) (newest_of leaf newest) m
told_in d c from leaf phase = stays d [] c

abbrev pub prepared_without : Desk → OpenCall → NodeNo → Leaf → List NodeNo → List NodeNo → CallTurn
prepared_without d c y leaf list waiting =
    if list_all (λ n. has_node d.known n) list then ask d c.request (met.Stopped y) else prepared_on d c leaf list waiting

abbrev pub lost_or_applied : Desk → OpenCall → Leaf → Option Bool → CallTurn
lost_or_applied d c leaf None = replies d (reply.Lost leaf.name)
lost_or_applied d c leaf (Some was) = replies d (reply_with c.request.op was)

abbrev pub committed_without : Desk → OpenCall → Leaf → List NodeNo → List NodeNo → Option Bool → CallTurn
committed_without d c leaf list waiting was =
    if is_none_left waiting then lost_or_applied d c leaf was else stays d [] (record c { phase = Committing leaf list waiting was })

-- the call waits for the node: it was asked, or its letter is due
abbrev pub call_concerns : Phase → NodeNo → Bool
call_concerns (Getting leaf brick) y = brick == y
call_concerns (Preparing leaf list waiting) y = has waiting y
call_concerns (Committing leaf list waiting was) y = has waiting y
call_concerns (Aborting waiting why brick) y = has waiting y
call_concerns (Asking waiting newest m) y = has waiting y

-- the call goes on without the node
abbrev pub goes_without : Desk → OpenCall → NodeNo → Phase → CallTurn
goes_without d c y (Getting leaf brick) = begin d c.request
goes_without d c y (Preparing leaf list waiting) = prepared_without d c y leaf list (without waiting y)
goes_without d c y (Committing leaf list waiting was) = committed_without d c leaf list (without waiting y) was
goes_without d c y (Aborting waiting why brick) = aborted_on d c (without waiting y) why brick
goes_without d c y (Asking waiting newest m) = told_on d c (without waiting y) newest m

-- a notice at one call: where it waits for the node, it goes on without it
abbrev pub notice_in : Desk → OpenCall → NodeNo → CallTurn
notice_in d c y = if call_concerns c.phase y then goes_without d c y c.phase else stays d [] c
