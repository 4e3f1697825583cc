-- What is promised of every run.
use Rattle.std.specs.Prelude.{ℕ, ◌≡◌, Bool, true, false, not, List, Option, Some, None, take}
use Rattle.std.specs.List.{AllByRecursion, list_all}
use Rattle.dds_base.specs.BrickList.{has}
use Rattle.dds_base.specs.declared.leaf.Leaf.{Leaf}
use Rattle.dds_base.specs.declared.number.NodeNo.{NodeNo}
use Rattle.dds_base.specs.declared.op.Reply.{Reply}
use Rattle.dds_base.specs.declared.op.Reply.TheVariants as reply
use Rattle.dds_calls.specs.Law.{is_of_stop, is_stop}
use Rattle.dds_cluster.specs.Trace.{is_run, run_of}
use Rattle.dds_cluster.specs.World.{library_at}
use Rattle.dds_cluster.specs.declared.step.Step.{Step}
use Rattle.dds_cluster.specs.declared.trace.Asked.{Asked}
use Rattle.dds_cluster.specs.declared.trace.Told.{Told}
use Rattle.dds_law_commit.specs.Law.{AreCaused}
use Rattle.dds_script.specs.Opening.{IsOpening, OpeningOf}
use Rattle.dds_states.specs.declared.brick_state.BrickState.{BrickState}
use Rattle.dds_states.specs.declared.library_state.LibraryState.{LibraryState}
use Rattle.dds_states.specs.declared.library_state.OpenCall.{OpenCall}
use Rattle.dds_states.specs.declared.library_state.Phase.TheVariants.{Committing}
use Rattle.dds_world.specs.Groups.{SameStampSameLeaf, ServersShareAGroup}
use Rattle.dds_world.specs.Notices.{NoticeIsLast}
use Rattle.dds_world.specs.Outcomes.{CommitReachesAll, OneOutcome, OnlyTheLastAttempt}
use Rattle.dds_world.specs.Places.{IsLive, world_at}
use Rattle.dds_world.specs.Refusals.{RefusalsWereTrue}
use Rattle.dds_world.specs.Stands.{Stands, answer_to}
use Rattle.dds_world.specs.Treated.{open_as}
use Rattle.dds_world.specs.Values.{JoinIsFrozen, ServersHoldTheHistory}

-- the nine facts of reached worlds, in the world that a run reaches
pub record FactsHold (o : OpeningOf) (journal : List Step) : Type 0 where
  pub notices : NoticeIsLast o journal
  pub refusals : RefusalsWereTrue o journal
  pub stamps : SameStampSameLeaf o journal
  pub groups : ServersShareAGroup o journal
  pub commits : CommitReachesAll o journal
  pub outcomes : OneOutcome o journal
  pub attempts : OnlyTheLastAttempt o journal
  pub values : ServersHoldTheHistory o journal
  pub joins : JoinIsFrozen o journal

-- a run's calls stand in one legal history, each answer has its cause, and the facts hold after each beginning of the run
pub record RunStands (o : OpeningOf) (journal : List Step) : Type 0 where
  pub stands : Stands (run_of o journal)
  pub caused : AreCaused o journal
  pub facts : (at : ℕ) → FactsHold o (take at journal)

-- of each run of each opening
abbrev pub AllRunsStand : Type 0
AllRunsStand = (o : OpeningOf) (journal : List Step) → IsOpening o → is_run o journal ≡ true → RunStands o journal

-- a member of the list that lives
pub record HasLiveMember (o : OpeningOf) (journal : List Step) (at : ℕ) (list : List NodeNo) : Type 0 where
  pub brick : NodeNo
  pub state : BrickState
  pub lists : has list brick ≡ true
  pub lives : IsLive (world_at o journal at) brick state

-- wherever an update is committing at a library, a member of its list lives
abbrev pub ListsKeepAMember : OpeningOf → List Step → Type 0
ListsKeepAMember o journal =
    (at : ℕ) (library : NodeNo) (s : LibraryState) (asked : Asked) (c : OpenCall) (leaf : Leaf) (list waiting : List NodeNo) (was : Option Bool)
    → library_at (world_at o journal at) library ≡ Some s → open_as s asked ≡ Some c → c.phase ≡ Committing leaf list waiting was
    → HasLiveMember o journal at list

abbrev pub is_lost : Reply → Bool
is_lost (reply.Lost name) = true
is_lost other = false

-- a call isn't answered Lost
abbrev pub IsNotLost : Option Told → Type 0
IsNotLost None = Unit {0}
IsNotLost (Some told) = is_lost told.reply ≡ false

abbrev pub KeptMembersLoseNothing : Type 0
KeptMembersLoseNothing =
    (o : OpeningOf) (journal : List Step) → IsOpening o → is_run o journal ≡ true → ListsKeepAMember o journal
    → AllByRecursion (λ (a : Asked). IsNotLost (answer_to (run_of o journal).told a.caller a.call)) (run_of o journal).asked

-- of each run without stops: it stands, and no answer says that a node stopped
pub record FixedStands (o : OpeningOf) (journal : List Step) : Type 0 where
  pub stands : RunStands o journal
  pub none_stopped : AllByRecursion (λ (t : Told). is_of_stop t.reply ≡ false) (run_of o journal).told

abbrev pub FixedRunsStand : Type 0
FixedRunsStand =
    (o : OpeningOf) (journal : List Step) → IsOpening o → is_run o journal ≡ true → list_all (λ (x : Step). not (is_stop x)) journal ≡ true
    → FixedStands o journal
