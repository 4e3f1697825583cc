-- What holds of each run.
use Rattle.std.specs.Prelude.{◌≡◌, true, List}
use Rattle.dds_cluster.specs.Trace.{is_run, run_of}
use Rattle.dds_cluster.specs.declared.step.Step.{Step}
use Rattle.dds_due.specs.Due.{AreDue}
use Rattle.dds_due.specs.Opened.{AreOpened}
use Rattle.dds_due.specs.Quiet.{CallsAnswered, PendingIsOfStopped}
use Rattle.dds_net.specs.Event.{history_of}
use Rattle.dds_net.specs.Net.{net, sizes_of}
use Rattle.dds_script.specs.Opening.{IsOpening, OpeningOf}
use Rattle.dds_world.specs.Places.{reached}
use Rattle.dds_world.specs.Quiet.{Quiet}

-- open calls are in their libraries' lists, and calls that were asked are open or were answered
abbrev pub OpenCallsAreListed : Type 0
OpenCallsAreListed =
    (o : OpeningOf) (journal : List Step) → IsOpening o → is_run o journal ≡ true
    → AreOpened (history_of (run_of o journal)) (net (sizes_of o) (run_of o journal).world)

-- what open calls wait for is on its way
abbrev pub CallsAreDue : Type 0
CallsAreDue =
    (o : OpeningOf) (journal : List Step) → IsOpening o → is_run o journal ≡ true → AreDue (net (sizes_of o) (run_of o journal).world)

-- where nothing is on its way, each call whose library lives was answered
abbrev pub QuietCallsAreAnswered : Type 0
QuietCallsAreAnswered =
    (o : OpeningOf) (journal : List Step) → IsOpening o → is_run o journal ≡ true → Quiet (reached o journal) → CallsAnswered (run_of o journal)

-- and what is pending at a live brick is of a library that has stopped
abbrev pub QuietLibrariesHoldNothing : Type 0
QuietLibrariesHoldNothing =
    (o : OpeningOf) (journal : List Step) → IsOpening o → is_run o journal ≡ true → Quiet (reached o journal) → PendingIsOfStopped (reached o journal)
