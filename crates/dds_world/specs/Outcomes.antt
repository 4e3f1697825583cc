-- Every transaction has one outcome, which reaches all its members; and of a call's attempts the last alone is applied or pending. Proved of
-- every run.
use Rattle.std.specs.Prelude.{ℕ, ◌≡◌, ◌≤◌, ◌⊎◌, Bool, true, false, List, Option, Some, is_some, slice_get}
use Rattle.std.specs.FinMap.{get}
use Rattle.dds_base.specs.BrickList.{has}
use Rattle.dds_base.specs.Number.{Txn}
use Rattle.dds_base.specs.Op.{is_get}
use Rattle.dds_base.specs.declared.leaf.Leaf.{Leaf}
use Rattle.dds_base.specs.declared.number.CallNo.{CallNo}
use Rattle.dds_base.specs.declared.number.NodeNo.{NodeNo}
use Rattle.dds_base.specs.declared.pending.Pending.{Pending}
use Rattle.dds_base.specs.declared.pending.TxnStatus.{TxnStatus}
use Rattle.dds_brick_rows.specs.Resolution.{is_ready}
use Rattle.dds_cluster.specs.Trace.{run_of}
use Rattle.dds_cluster.specs.World.{brick_at, library_at}
use Rattle.dds_cluster.specs.declared.step.Step.{Step}
use Rattle.dds_cluster.specs.declared.trace.Made.{Made}
use Rattle.dds_letters.specs.declared.letter.Letter.TheVariants as letter
use Rattle.dds_locks.specs.Pending.{first_of}
use Rattle.dds_script.specs.Opening.{OpeningOf}
use Rattle.dds_states.specs.declared.brick_state.BrickState.{BrickState}
use Rattle.dds_states.specs.declared.library_state.LibraryState.{LibraryState}
use Rattle.dds_states.specs.declared.library_state.OpenCall.{OpenCall}
use Rattle.dds_states.specs.declared.library_state.Phase.TheVariants as phase
use Rattle.dds_world.specs.Places.{reached, world_at, IsLive, Travels}

-- at some place of the run the brick had noted this outcome of the transaction
pub record Noted (o : OpeningOf) (journal : List Step) (brick : NodeNo) (txn : Txn) (commit : Bool) : Type 0 where
  pub at : ℕ
  pub state : BrickState
  pub there : brick_at (world_at o journal at) brick ≡ Some state
  pub noted : get state.locks.outcomes txn ≡ Some commit

-- at some place of the run the transaction, with these members, was pending at a brick
pub record HasMembers (o : OpeningOf) (journal : List Step) (txn : Txn) (list : List NodeNo) : Type 0 where
  pub at : ℕ
  pub brick : NodeNo
  pub state : BrickState
  pub place : ℕ
  pub pending : Pending
  pub there : brick_at (world_at o journal at) brick ≡ Some state
  pub is : slice_get state.locks.pending place ≡ Some pending
  pub same : pending.txn ≡ txn
  pub members : pending.list ≡ list

-- commit of a transaction with these members was decided: its library had the call in its committing phase
pub record DecidedByLibrary (o : OpeningOf) (journal : List Step) (txn : Txn) (list : List NodeNo) : Type 0 where
  pub at : ℕ
  pub node : NodeNo
  pub state : LibraryState
  pub place : ℕ
  pub call : OpenCall
  pub leaf : Leaf
  pub waiting : List NodeNo
  pub was : Option Bool
  pub there : library_at (world_at o journal at) node ≡ Some state
  pub is : slice_get state.calls place ≡ Some call
  pub same : call.txn ≡ txn
  pub committing : call.phase ≡ phase.Committing leaf list waiting was

-- or a brick applied it, which somewhere was pending with these members
pub record DecidedByPoint (o : OpeningOf) (journal : List Step) (txn : Txn) (list : List NodeNo) : Type 0 where
  pub at : ℕ
  pub point : Made
  pub is : slice_get (run_of o journal).made at ≡ Some point
  pub same : point.txn ≡ txn
  pub update : is_get point.entry.op ≡ false
  pub members : HasMembers o journal txn list

-- or a resolver told others to commit it
pub record DecidedByResolver (o : OpeningOf) (journal : List Step) (txn : Txn) (list : List NodeNo) : Type 0 where
  pub at : ℕ
  pub from : NodeNo
  pub to : NodeNo
  pub told : Travels (world_at o journal at) from to (letter.Outcome txn true)
  pub members : HasMembers o journal txn list

pub data IsDecided : OpeningOf → List Step → Txn → List NodeNo → Type 0 where
  by_library : (o : OpeningOf) (journal : List Step) (txn : Txn) (list : List NodeNo) →
      DecidedByLibrary o journal txn list → IsDecided o journal txn list
  by_point : (o : OpeningOf) (journal : List Step) (txn : Txn) (list : List NodeNo) →
      DecidedByPoint o journal txn list → IsDecided o journal txn list
  by_resolver : (o : OpeningOf) (journal : List Step) (txn : Txn) (list : List NodeNo) →
      DecidedByResolver o journal txn list → IsDecided o journal txn list

abbrev pub IsPendingAt : BrickState → Txn → Type 0
IsPendingAt s txn = is_some (first_of s.locks.pending txn) ≡ true

-- where commit was decided, each live member has the transaction pending or has applied it
abbrev pub CommitReachesAll : OpeningOf → List Step → Type 0
CommitReachesAll o journal =
    (txn : Txn) (list : List NodeNo) (brick : NodeNo) (s : BrickState) →
    IsDecided o journal txn list →
    has list brick ≡ true →
    IsLive (reached o journal) brick s →
    IsPendingAt s txn ⊎ Noted o journal brick txn true

-- no two live members have different outcomes, and a status is told only to a member that can be the resolver
pub record OneOutcome (o : OpeningOf) (journal : List Step) : Type 0 where
  pub agree :
      (txn : Txn) (list : List NodeNo) (a b : NodeNo) (s t : BrickState) →
      HasMembers o journal txn list →
      has list a ≡ true →
      has list b ≡ true →
      IsLive (reached o journal) a s →
      IsLive (reached o journal) b t →
      Noted o journal a txn true →
      Noted o journal b txn false →
      ⊥
  pub told :
      (txn : Txn) (list : List NodeNo) (a b : NodeNo) (s : BrickState) (status : TxnStatus) →
      HasMembers o journal txn list →
      Travels (reached o journal) a b (letter.Status txn status) →
      IsLive (reached o journal) a s →
      is_ready s.known txn list b ≡ true

-- at some place of the run the transaction was the attempt of this open call
pub record IsAttemptOf (o : OpeningOf) (journal : List Step) (caller : ℕ) (call : CallNo) (txn : Txn) : Type 0 where
  pub at : ℕ
  pub node : NodeNo
  pub state : LibraryState
  pub place : ℕ
  pub is : OpenCall
  pub there : library_at (world_at o journal at) node ≡ Some state
  pub open_call : slice_get state.calls place ≡ Some is
  pub caller_is : is.request.caller ≡ caller
  pub call_is : is.request.call ≡ call
  pub same : is.txn ≡ txn

-- of one call's attempts none but the last was applied, or is pending at a live brick
pub record OnlyTheLastAttempt (o : OpeningOf) (journal : List Step) : Type 0 where
  pub applied :
      (at : ℕ) (m : Made) (txn : Txn) →
      slice_get (run_of o journal).made at ≡ Some m →
      is_get m.entry.op ≡ false →
      IsAttemptOf o journal m.entry.caller m.entry.call txn →
      txn.number ≤ m.txn.number
  pub pending :
      (brick : NodeNo) (s : BrickState) (at : ℕ) (p : Pending) (txn : Txn) →
      IsLive (reached o journal) brick s →
      slice_get s.locks.pending at ≡ Some p →
      IsAttemptOf o journal p.caller p.call txn →
      txn.number ≤ p.txn.number
