-- A join's copying goes on.
use Rattle.std.specs.Prelude.{◌≡◌, true, List}
use Rattle.dds_cluster.specs.Trace.{is_run}
use Rattle.dds_cluster.specs.declared.step.Step.{Step}
use Rattle.dds_net.proofs.Journals.{net_of}
use Rattle.dds_order_talk.specs.Seen.{PartsGoOn}
use Rattle.dds_script.specs.Opening.{IsOpening, OpeningOf}
use Rattle.dds_values.specs.Held.{TalkAlong}

-- in each world of each run of each opening at whose places orders and their members talk as the table of conversations says
abbrev pub PartsAlwaysGoOn : Type 0
PartsAlwaysGoOn =
    (o : OpeningOf) (journal : List Step) → IsOpening o → is_run o journal ≡ true → TalkAlong o journal → PartsGoOn (net_of o journal)
