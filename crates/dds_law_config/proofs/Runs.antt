use Rattle.std.specs.Prelude.{ℕ, ◌≡◌, true, List, take}
use Rattle.dds_attempts.proofs.Runs.{last-attempts-stand}
use Rattle.dds_calls.proofs.Answering.{none-is-of-stops}
use Rattle.dds_cluster.specs.Trace.{is_run, start}
use Rattle.dds_cluster.specs.declared.step.Step.{Step}
use Rattle.dds_copies.proofs.LateRuns.{joins-copy-frozen}
use Rattle.dds_law_commit.proofs.Causes.{all-are-caused}
use Rattle.dds_law_leaf.proofs.Ever.{leaves-are-one}
use Rattle.dds_law_notice.proofs.Last.{notices-are-last}
use Rattle.dds_law_refusal.proofs.Facts.{refusals-true}
use Rattle.dds_net.proofs.Prefixes.{run-take}
use Rattle.dds_order_runs.proofs.Group.{groups-are-shared}
use Rattle.dds_order_runs.proofs.Runs.{orders-always-talk}
use Rattle.dds_outcomes.proofs.Runs.{outcomes-are-one}
use Rattle.dds_script.specs.Opening.{IsOpening, OpeningOf}
use Rattle.dds_law_config.proofs.Standing.{runs-stand}
use Rattle.dds_law_config.proofs.Values.{always-hold}
use Rattle.dds_law_config.specs.Law.{AllRunsStand, FactsHold, FixedRunsStand}

-- The laws of every run, put together: a beginning of a run is a run.

pub facts-at : (o : OpeningOf) (journal : List Step) → IsOpening o → is_run o journal ≡ true → (at : ℕ) → FactsHold o (take at journal)
facts-at o journal h run at =
    let then = take at journal in
    let run_then = run-take (start o) journal at run in
    let outcomes = outcomes-are-one o then h run_then in
    record {
      notices = notices-are-last o journal h.ranges run at;
      refusals = refusals-true o then h.ranges.bricks run_then;
      stamps = (leaves-are-one o then h run_then).here;
      groups = groups-are-shared o then h run_then;
      commits = outcomes.0;
      outcomes = outcomes.1;
      attempts = last-attempts-stand o then h run_then;
      values = always-hold o then h run_then;
      joins = joins-copy-frozen o then h run_then (orders-always-talk o then h run_then);
    }

pub all-stand : AllRunsStand
all-stand o journal h run =
    record { stands = runs-stand o journal h run; caused = all-are-caused o journal h run; facts = facts-at o journal h run }

pub fixed-stand : FixedRunsStand
fixed-stand o journal h run fixed = record { stands = all-stand o journal h run; none_stopped = none-is-of-stops o journal h run fixed }
