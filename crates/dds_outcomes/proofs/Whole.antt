use Rattle.std.proofs.Common.{◌≡◌, ℕ, true, List}
use Rattle.dds_base.specs.BrickList.{has}
use Rattle.dds_base.specs.Number.{Txn}
use Rattle.dds_cluster.specs.declared.step.Step.{Step}
use Rattle.dds_script.specs.Opening.{OpeningOf, ranges_of}
use Rattle.dds_script.specs.Ranges.{IsRanges}
use Rattle.dds_talk.specs.Books.{Books}
use Rattle.dds_world.specs.Outcomes.{CommitReachesAll, IsDecided, OneOutcome}
use Rattle.dds_world.specs.Outcomes.IsDecided.{by_library, by_point, by_resolver}
use Rattle.dds_outcomes.proofs.Facts.{IsBooked, library-booked}
use Rattle.dds_outcomes.proofs.Outs.{resolver-booked}
use Rattle.dds_outcomes.proofs.Points.{point-booked}
use Rattle.dds_outcomes.proofs.Reach.{booked-reaches, outcomes-agree}
use Rattle.dds_outcomes.proofs.Told.{status-told}
use Rattle.dds_outcomes.specs.Kept.{Kept}

-- Commit reaches all, and each transaction has one outcome.

decided-booked : (o : OpeningOf) (journal : List Step) (b : Books) (t : Txn) (list : List ℕ) (k : ℕ) → Kept o journal b
    → has list k ≡ true → IsDecided o journal t list → IsBooked b t list
decided-booked o journal b t list k kept member (by_library p q r s d) = library-booked o journal b t list k kept member d
decided-booked o journal b t list k kept member (by_point p q r s d) = point-booked o journal b t list kept d
decided-booked o journal b t list k kept member (by_resolver p q r s d) = resolver-booked o journal b t list kept d

pub commit-reaches : (o : OpeningOf) (journal : List Step) (b : Books) → IsRanges (ranges_of o) → Kept o journal b → CommitReachesAll o journal
commit-reaches o journal b ranges kept t list k s decided member live =
    booked-reaches o journal b t list k s ranges kept (decided-booked o journal b t list k kept member decided) member live

pub one-outcome : (o : OpeningOf) (journal : List Step) (b : Books) → IsRanges (ranges_of o) → Kept o journal b → OneOutcome o journal
one-outcome o journal b ranges kept =
    record {
      agree = λ t list k m s u h a d live also committed aborted.
          outcomes-agree o journal b ranges kept t list k m s u h a d live also committed aborted;
      told = λ t list k m s status h way live. status-told o journal b ranges kept t list k m s status h way live;
    }
