-- Why a call was answered Again, Full or Lost, over the run in which it was.
use Rattle.std.specs.Prelude.{ℕ, ◌≡◌, ◌<◌, ◌⊎◌, ◌==◌, ◌&&◌, ◌||◌, Bool, true, false, List, Option, Some, None, is_some, slice_get}
use Rattle.std.specs.List.{list_all}
use Rattle.dds_base.specs.BrickList.{has}
use Rattle.dds_base.specs.Name.{Name}
use Rattle.dds_base.specs.NodeSet.{has_node, with_node}
use Rattle.dds_base.specs.Number.{Txn, StampOf, same_txn}
use Rattle.dds_base.specs.Op.{the_key}
use Rattle.dds_base.specs.declared.leaf.Leaf.{Leaf}
use Rattle.dds_base.specs.declared.number.NodeNo.{NodeNo}
use Rattle.dds_base.specs.declared.op.Met.{Met}
use Rattle.dds_base.specs.declared.op.Met.TheVariants as met
use Rattle.dds_base.specs.declared.op.Op.{Op}
use Rattle.dds_base.specs.declared.op.Reply.{Reply}
use Rattle.dds_base.specs.declared.op.Reply.TheVariants as reply
use Rattle.dds_brick_rows.specs.Refusal.{get_refusal, update_refusal, joins_key, stale_against, has_no_room}
use Rattle.dds_cluster.specs.World.{World, brick_at, library_at, link}
use Rattle.dds_cluster.specs.declared.step.Message.{Message}
use Rattle.dds_cluster.specs.declared.step.Step.{Step}
use Rattle.dds_cluster.specs.declared.step.Step.TheVariants as step
use Rattle.dds_cluster.specs.declared.trace.Asked.{Asked}
use Rattle.dds_cluster.specs.declared.trace.Told.{Told}
use Rattle.dds_letters.specs.declared.letter.Letter.{Letter}
use Rattle.dds_letters.specs.declared.letter.Letter.TheVariants as letter
use Rattle.dds_letters.specs.declared.refusal.Refusal.{Refusal}
use Rattle.dds_letters.specs.declared.refusal.Refusal.TheVariants as refusal
use Rattle.dds_locks.specs.Leases.{lease_covers}
use Rattle.dds_locks.specs.Pending.{holder}
use Rattle.dds_script.specs.Opening.{OpeningOf}
use Rattle.dds_states.specs.Leaf.{leaf_for}
use Rattle.dds_states.specs.declared.brick_state.BrickState.{BrickState}
use Rattle.dds_states.specs.declared.library_state.LibraryState.{LibraryState}
use Rattle.dds_states.specs.declared.library_state.OpenCall.{OpenCall}
use Rattle.dds_states.specs.declared.library_state.Phase.TheVariants as phase
use Rattle.dds_world.specs.Places.{world_at, Handles}
use Rattle.dds_world.specs.Treated.{IsWithinCall, Treats, list_of_call, map_list, open_as}

-- what a Get or Prepare asks for, and why the brick refuses it, if it does
pub record AskedOf : Type 0 where
  pub txn : Txn
  pub key : ℕ
  pub name : Name
  pub stamp : StampOf
  pub is_update : Bool
  pub refusal : Option Refusal

abbrev pub if_of_call : Bool → AskedOf → Option AskedOf
if_of_call true asked = Some asked
if_of_call false asked = None

-- of a letter of this call, where it is a Get or Prepare
abbrev pub asked_of : BrickState → Asked → Letter → Option AskedOf
asked_of s a (letter.Get txn caller call key name stamp) =
    if_of_call (caller == a.caller && call.0 == a.call.0)
    (record { txn = txn; key = key; name = name; stamp = stamp; is_update = false; refusal = get_refusal s key name stamp })
asked_of s a (letter.Prepare txn caller call below name stamp list op) =
    if_of_call (caller == a.caller && call.0 == a.call.0)
    (record {
      txn = txn;
      key = the_key op;
      name = name;
      stamp = stamp;
      is_update = true;
      refusal = update_refusal s (the_key op) name stamp;
    })
asked_of s a (letter.Commit txn) = None
asked_of s a (letter.Abort txn) = None
asked_of s a (letter.Push leaf) = None
asked_of s a (letter.MapAsk txn caller call key) = None
asked_of s a (letter.Got txn answer) = None
asked_of s a (letter.Vote txn vote) = None
asked_of s a (letter.Applied txn was) = None
asked_of s a (letter.Aborted txn) = None
asked_of s a (letter.MapTell txn leaf) = None
asked_of s a (letter.Help txn list) = None
asked_of s a (letter.Query txn list) = None
asked_of s a (letter.Status txn status) = None
asked_of s a (letter.Outcome txn commit) = None
asked_of s a (letter.Lease number what) = None
asked_of s a (letter.Granted number leaf) = None
asked_of s a (letter.LeaseRefused number why) = None
asked_of s a (letter.Release number name) = None
asked_of s a (letter.CopyAsk number name after) = None
asked_of s a (letter.CopyPart number last pairs) = None
asked_of s a (letter.Install number leaf) = None
asked_of s a (letter.Installed number name) = None
asked_of s a letter.Notice = None

-- a brick takes a Get or Prepare of the call within it
pub record IsAskedAt (o : OpeningOf) (journal : List Step) (a : Asked) (told : Told) (brick : NodeNo) (s : BrickState) (asked : AskedOf)
    : Type 0 where
  pub at : ℕ
  pub within : IsWithinCall a told at
  pub sent : Letter
  pub handles : Handles o journal at brick sent s
  pub is : asked_of s a sent ≡ Some asked

-- the brick refused for a lease: a join is open on the key, or a lease covers the key of an update
pub record MetLease (o : OpeningOf) (journal : List Step) (a : Asked) (told : Told) (brick : NodeNo) : Type 0 where
  pub state : BrickState
  pub asked : AskedOf
  pub there : IsAskedAt o journal a told brick state asked
  pub refused : asked.refusal ≡ Some refusal.Lease
  pub met :
      (joins_key state.order asked.key ≡ true)
      ⊎ ((asked.is_update ≡ true) × (lease_covers state.locks.leases asked.key ≡ true))

-- the brick refused for a lock: another transaction on the key is pending
pub record MetLock (o : OpeningOf) (journal : List Step) (a : Asked) (told : Told) (brick : NodeNo) : Type 0 where
  pub state : BrickState
  pub asked : AskedOf
  pub other : Txn
  pub there : IsAskedAt o journal a told brick state asked
  pub refused : asked.refusal ≡ Some refusal.Lock
  pub holds : holder state.locks.pending asked.key ≡ Some other
  pub differs : same_txn other asked.txn ≡ false

-- the brick refused for a stale map: no leaf of it covers the key, or the one that does has another name or stamp
pub record MetStale (o : OpeningOf) (journal : List Step) (a : Asked) (told : Told) (brick : NodeNo) : Type 0 where
  pub state : BrickState
  pub asked : AskedOf
  pub leaf : Option Leaf
  pub there : IsAskedAt o journal a told brick state asked
  pub refused : asked.refusal ≡ Some (refusal.Stale leaf)
  pub met : is_some (stale_against (leaf_for state.leaves asked.key) asked.name asked.stamp) ≡ true

-- the node stopped before the place
pub record StopsBefore (journal : List Step) (at : ℕ) (node : NodeNo) : Type 0 where
  pub when : ℕ
  pub before : when < at
  pub step : slice_get journal when ≡ Some (step.Stop node)

-- a brick that stopped is in the list of the call's attempt, or in that of the leaf that its library's map has for the
-- key: before a step that treats the call, directly after the part that treats it, or after the step
pub record MetStopped (o : OpeningOf) (journal : List Step) (a : Asked) (told : Told) (brick : NodeNo) : Type 0 where
  pub before : LibraryState
  pub within : LibraryState
  pub after : LibraryState
  pub treats : Treats o journal a told before within after
  pub listed :
      (has (list_of_call (open_as before a)) brick
      || (has (map_list before (the_key a.op)) brick
      || (has (map_list within (the_key a.op)) brick || has (map_list after (the_key a.op)) brick)))
      ≡ true
  pub stops : StopsBefore journal told.place brick

-- a call answered Again met what its answer says. README.md says of which runs that is proved.
abbrev pub MetBy : OpeningOf → List Step → Asked → Told → Met → Type 0
MetBy o journal a told (met.Lease brick) = MetLease o journal a told brick
MetBy o journal a told (met.Lock brick) = MetLock o journal a told brick
MetBy o journal a told (met.Stale brick) = MetStale o journal a told brick
MetBy o journal a told (met.Stopped brick) = MetStopped o journal a told brick

-- a put of a key that isn't there finds the pairs of the brick's leaf for the key, with the pending puts of keys under it
-- that aren't there, at the limit
pub record FullAt (w : World) (brick : NodeNo) (o : Op) : Type 0 where
  pub state : BrickState
  pub there : brick_at w brick ≡ Some state
  pub full : has_no_room state o ≡ true

-- a call answered Full: its partition was full at the brick when that took a Prepare of the call
pub record FullBy (o : OpeningOf) (journal : List Step) (a : Asked) (told : Told) (brick : NodeNo) : Type 0 where
  pub state : BrickState
  pub asked : AskedOf
  pub there : IsAskedAt o journal a told brick state asked
  pub update : asked.is_update ≡ true
  pub full : FullAt (world_at o journal there.at) brick a.op

-- all of the nodes are known, where this one is too
abbrev pub all_known : LibraryState → NodeNo → List NodeNo → Bool
all_known s node list = list_all (λ n. has_node (with_node s.known node) n) list

-- a call answered Lost: its library took the notice of the last member that it waited for, knew every member of the
-- update's list as stopped, and no member had told that it applied it
pub record LostAt (o : OpeningOf) (journal : List Step) (a : Asked) (told : Told) (name : Name) : Type 0 where
  pub node : NodeNo
  pub stopped : NodeNo
  pub message : Message
  pub before : LibraryState
  pub call : OpenCall
  pub leaf : Leaf
  pub list : List NodeNo
  pub waiting : List NodeNo
  pub step : slice_get journal told.place ≡ Some (step.Handle node stopped)
  pub first : slice_get (link (world_at o journal told.place) stopped node) 0 ≡ Some message
  pub notice : message.letter ≡ letter.Notice
  pub is_before : library_at (world_at o journal told.place) node ≡ Some before
  pub is_open : open_as before a ≡ Some call
  pub committing : call.phase ≡ phase.Committing leaf list waiting None
  pub known : all_known before stopped list ≡ true
  pub named : leaf.name ≡ name

-- why a call was answered so; a result needs no cause
abbrev pub CausedBy : OpeningOf → List Step → Asked → Told → Reply → Type 0
CausedBy o journal a told (reply.Value value) = Unit {0}
CausedBy o journal a told reply.Absent = Unit {0}
CausedBy o journal a told (reply.Done was) = Unit {0}
CausedBy o journal a told (reply.Swapped done) = Unit {0}
CausedBy o journal a told (reply.Again m) = MetBy o journal a told m
CausedBy o journal a told (reply.Full brick) = FullBy o journal a told brick
CausedBy o journal a told (reply.Lost name) = LostAt o journal a told name
