-- What joins copy and what bricks hold, along runs.
use Rattle.std.specs.Prelude.{◌≡◌, true, List}
use Rattle.dds_cluster.specs.Trace.{is_run, run_of}
use Rattle.dds_cluster.specs.declared.step.Step.{Step}
use Rattle.dds_net.proofs.Journals.{net_of}
use Rattle.dds_script.specs.Opening.{IsOpening, OpeningOf}
use Rattle.dds_values.specs.Held.{JoinsServeTheTable, TalkAlong, ValuesHeld}
use Rattle.dds_values.specs.Values.{table}
use Rattle.dds_world.specs.Values.{ServersHoldTheHistory}
use Rattle.dds_copies.specs.Copies.{JoinsAsk, JoinsCopy}

-- in the world that a run reaches open joins have copied what the points left, and ask for what follows; and at each of its steps a brick that
-- serves the leaf of its own join has what the points left
pub record JoinsHaveCopied (o : OpeningOf) (journal : List Step) : Type 0 where
  pub copied : JoinsCopy (table (run_of o journal).made) (net_of o journal)
  pub asked : JoinsAsk (net_of o journal)
  pub served : JoinsServeTheTable o journal

-- of each run of each opening at whose places orders and their members talk as the table of conversations says
abbrev pub JoinsCopyTheTable : Type 0
JoinsCopyTheTable =
    (o : OpeningOf) (journal : List Step) → IsOpening o → is_run o journal ≡ true → TalkAlong o journal → JoinsHaveCopied o journal

abbrev pub ValuesAreHeld : Type 0
ValuesAreHeld = (o : OpeningOf) (journal : List Step) → IsOpening o → is_run o journal ≡ true → TalkAlong o journal → ValuesHeld o journal

-- and so bricks hold what the one history left
abbrev pub ServersHold : Type 0
ServersHold =
    (o : OpeningOf) (journal : List Step) → IsOpening o → is_run o journal ≡ true → TalkAlong o journal → ServersHoldTheHistory o journal
