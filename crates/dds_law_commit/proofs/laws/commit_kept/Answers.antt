use Rattle.std.specs.Prelude.{take}
use Rattle.dds_attempts.proofs.Runs.{last-attempts-stand}
use Rattle.dds_cluster.specs.Trace.{start}
use Rattle.dds_law_commit.proofs.laws.commit_kept.Goals as goal
use Rattle.dds_law_notice.proofs.Last.{notices-are-last}
use Rattle.dds_net.proofs.Prefixes.{run-take}
use Rattle.dds_outcomes.proofs.Runs.{outcomes-are-one}

-- a beginning of a run is a run
pub returns : goal.returns
returns c o journal h run at =
    let run_then = run-take (start o) journal at run in
    let outcomes = outcomes-are-one o (take at journal) h run_then in
    record {
      notices = notices-are-last o journal h.ranges run at;
      reaches = outcomes.0;
      outcomes = outcomes.1;
      attempts = last-attempts-stand o (take at journal) h run_then;
    }
