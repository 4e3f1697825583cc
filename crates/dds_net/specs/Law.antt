-- Each step of a run is a move.
use Rattle.std.specs.Prelude.{ℕ, ◌≡◌, true, List}
use Rattle.dds_script.specs.Opening.{OpeningOf, ranges_of}
use Rattle.dds_script.specs.Ranges.{IsRanges}
use Rattle.dds_cluster.specs.Trace.{asked_by, is_possible, opened_by, run_of}
use Rattle.dds_cluster.specs.Turn.{WorldTurn, turn}
use Rattle.dds_cluster.specs.World.{World}
use Rattle.dds_cluster.specs.declared.step.Input.TheVariants as input
use Rattle.dds_cluster.specs.declared.step.Step.{Step}
use Rattle.dds_cluster.specs.declared.step.Step.TheVariants as step
use Rattle.dds_cluster.specs.declared.trace.Caller.{Caller}
use Rattle.dds_net.specs.Net.{Sizes, net, sizes_of}
use Rattle.dds_net.specs.Event.{Event, nothing, unheard, unasked, brick_takes, brick_told, brick_stops, library_takes, library_asked, library_stops, Fits}
use Rattle.dds_net.specs.Event.{asked_of, moved, opened_of, points_of, replies_of}

-- the step of the journal that an event is; nothing happens at a Post
abbrev pub IsStepOf : Step → Event → Type 0
IsStepOf x nothing = Unit {0}
IsStepOf x (unheard at from l) = x ≡ step.Handle at from
IsStepOf x (unasked at caller call o) = x ≡ step.Input at (input.Call caller call o)
IsStepOf x (brick_takes at from l s) = x ≡ step.Handle at from
IsStepOf x (brick_told at o s) = x ≡ step.Input at (input.Order o)
IsStepOf x (brick_stops at s kept) = x ≡ step.Stop at
IsStepOf x (library_takes at from l s) = x ≡ step.Handle at from
IsStepOf x (library_asked at caller call o s) = x ≡ step.Input at (input.Call caller call o)
IsStepOf x (library_stops at s kept) = x ≡ step.Stop at

-- a step at a place of the journal is this event: nodes and channels move by it, and it gives the step's points and answers,
-- makes its calls and opens its callers
pub record IsMove (z : Sizes) (cs : List Caller) (place : ℕ) (w : World) (x : Step) (r : WorldTurn) : Type 0 where
  pub event : Event
  pub step : IsStepOf x event
  pub fits : Fits z cs (net z w) event
  pub after : net z r.world ≡ moved z (net z w) event
  pub points : r.made ≡ points_of place event
  pub replies : r.replies ≡ replies_of event
  pub asked : asked_by place x ≡ asked_of place event
  pub opened : opened_by cs x ≡ opened_of cs event

-- of each step that is possible after a journal
abbrev pub StepsAreMoves : Type 0
StepsAreMoves =
    (o : OpeningOf) (journal : List Step) (x : Step) → IsRanges (ranges_of o) → is_possible (run_of o journal) x ≡ true
    → IsMove (sizes_of o) (run_of o journal).callers (run_of o journal).steps (run_of o journal).world x
    (turn (run_of o journal).steps (run_of o journal).world x)
