-- Two-phase commit is kept: what is so of every run, with stops, splits and joins.
use Rattle.std.specs.Prelude.{ℕ, ◌≡◌, true, List, take}
use Rattle.dds_cluster.specs.Trace.{is_run}
use Rattle.dds_cluster.specs.declared.step.Step.{Step}
use Rattle.dds_script.specs.Opening.{IsOpening, OpeningOf}
use Rattle.dds_world.specs.Notices.{NoticeIsLast}
use Rattle.dds_world.specs.Outcomes.{CommitReachesAll, OneOutcome, OnlyTheLastAttempt}

-- at the end of a run: notices are last letters; a decided commit reaches all live members; a transaction has one outcome; and
-- of a call's attempts the last alone is applied or pending
pub record IsCommitKept (o : OpeningOf) (journal : List Step) : Type 0 where
  pub notices : NoticeIsLast o journal
  pub reaches : CommitReachesAll o journal
  pub outcomes : OneOutcome o journal
  pub attempts : OnlyTheLastAttempt o journal

-- of each beginning of each run of each opening
abbrev pub CommitIsKept : Type 0
CommitIsKept = (o : OpeningOf) (journal : List Step) → IsOpening o → is_run o journal ≡ true → (at : ℕ) → IsCommitKept o (take at journal)
