use Rattle.std.proofs.Common.{◌≡◌, ℕ, ◌-◌, ◌≤◌, true, not, Option, Some, None, List, refl}
use Rattle.std.proofs.lemmas.Bool.{not-true}
use Rattle.std.specs.Prelude.{slice_set}
use Rattle.dds_base.specs.declared.number.NodeNo.{NodeNo}
use Rattle.dds_states.specs.declared.brick_state.BrickState.{BrickState}
use Rattle.dds_states.specs.declared.library_state.LibraryState.{LibraryState}
use Rattle.dds_cluster.proofs.Sizes.{IsSized, sized-bricks, sized-libraries}
use Rattle.dds_cluster.specs.Trace.{is_live_brick, is_live_library}
use Rattle.dds_cluster.specs.Turn.{no_step, stop_at}
use Rattle.dds_cluster.specs.Turn.{stop_library, tells}
use Rattle.dds_cluster.specs.World.{World, brick_at, emptied, library_at}
use Rattle.dds_cluster.specs.declared.step.Step.TheVariants as step
use Rattle.dds_cluster.specs.declared.trace.Caller.{Caller}
use Rattle.dds_net.specs.Event.{brick_stops, library_stops}
use Rattle.dds_net.specs.Law.{IsMove}
use Rattle.dds_net.specs.Net.{a_brick, a_library, Sizes}
use Rattle.dds_net.proofs.Nets.{brick-put, library-put}
use Rattle.dds_net.proofs.Stopping.{links-left, links_of, stops-net, tells-is}
use Rattle.dds_net.proofs.Nodes.{brick-in, brick-node, library-in, library-node}

-- A Stop is a move.

brick-stop : (z : Sizes) (cs : List Caller) (at : ℕ) (w : World) (n : NodeNo) (s : BrickState) → z.bricks ≤ 64 → IsSized z.bricks z.libraries w
    → brick_at w n ≡ Some s → not s.stopped ≡ true → IsMove z cs at w (step.Stop n) (no_step (stop_at w n (Some s)))
brick-stop z cs at w n s few g e live =
    let x = emptied s.number in
    let v = record w { bricks = slice_set w.bricks n x } in
    let sized = sized-bricks z.bricks z.libraries w n x g in
    let h = brick-in z w n s g e in
    let t = tells-is z v n sized h in
    record {
      event = brick_stops n s (links_of z w n);
      step = refl;
      fits = record { inside = h; here = brick-node w n s e; live = not-true s.stopped live; left = links-left z w n };
      after = stops-net z w (tells v n) n w.made (a_brick x) few h (record { boxed = t.boxed; boxes = t.boxes; lanes = t.lanes }) (brick-put w n s x e);
      points = refl;
      replies = refl;
      asked = refl;
      opened = refl;
    }

library-stop : (z : Sizes) (cs : List Caller) (at : ℕ) (w : World) (n : NodeNo) (x : Option LibraryState) → z.bricks ≤ 64 → IsSized z.bricks z.libraries w
    → library_at w n ≡ x → is_live_library x ≡ true → IsMove z cs at w (step.Stop n) (no_step (stop_library w n x))
library-stop z cs at w n None few g e live = cc
library-stop z cs at w n (Some s) few g e live =
    let x = record s { stopped = true } in
    let v = record w { libraries = slice_set w.libraries (n - 64) x } in
    let sized = sized-libraries z.bricks z.libraries w n x g in
    let h = library-in z w n s g e in
    let t = tells-is z v n sized h in
    record {
      event = library_stops n s (links_of z w n);
      step = refl;
      fits = record { inside = h; here = library-node w n s e; live = not-true s.stopped live; left = links-left z w n };
      after = stops-net z w (tells v n) n w.made (a_library x) few h (record { boxed = t.boxed; boxes = t.boxes; lanes = t.lanes }) (library-put w n s x e);
      points = refl;
      replies = refl;
      asked = refl;
      opened = refl;
    }

pub stop-move : (z : Sizes) (cs : List Caller) (at : ℕ) (w : World) (n : NodeNo) (x : Option BrickState) → z.bricks ≤ 64 → IsSized z.bricks z.libraries w
    → brick_at w n ≡ x → is_live_brick w n x ≡ true → IsMove z cs at w (step.Stop n) (no_step (stop_at w n x))
stop-move z cs at w n None few g e live = library-stop z cs at w n (library_at w n) few g refl live
stop-move z cs at w n (Some s) few g e live = brick-stop z cs at w n s few g e live
