use Rattle.std.proofs.Common.{◌≡◌, ℕ, ◌&&◌, ◌||◌, ◌++◌, Bool, true, false, not, Option, List, [], ◌∷◌, refl, sym, ap, ◌∙◌, subst}
use Rattle.std.specs.FinMap.{get}
use Rattle.std.specs.List.{AllByRecursion}
use Rattle.std.specs.Prelude.{if◌then◌else◌}
use Rattle.dds_base.specs.Number.{Txn}
use Rattle.dds_base.specs.Op.{is_get}
use Rattle.dds_cluster.specs.Trace.{all_kept, is_applied, kept, run_of}
use Rattle.dds_cluster.specs.Turn.{points_made, read_by}
use Rattle.dds_cluster.specs.declared.step.Step.{Step}
use Rattle.dds_cluster.specs.declared.trace.Made.{Made}
use Rattle.dds_core.proofs.Lists.{all-append, all-is, all-map}
use Rattle.dds_core.specs.Brick.{live_brick_turn}
use Rattle.dds_letters.specs.declared.letter.Letter.{Letter}
use Rattle.dds_letters.specs.declared.letter.Letter.TheVariants as letter
use Rattle.dds_net.proofs.Journals.{IsNext, net_of}
use Rattle.dds_net.specs.Event.{Event, History, nothing, unheard, unasked, brick_takes, brick_told, brick_stops, library_takes, library_asked}
use Rattle.dds_net.specs.Event.{library_stops, points_of}
use Rattle.dds_net.specs.Net.{sizes_of}
use Rattle.dds_script.specs.Opening.{OpeningOf}
use Rattle.dds_states.specs.declared.brick_state.BrickState.{BrickState}
use Rattle.dds_states.specs.declared.turn.Point.{Point}
use Rattle.dds_states.specs.declared.turn.Point.TheVariants as point
use Rattle.dds_talk.specs.Books.{Books, is_yes, with_brick}
use Rattle.dds_world.specs.Outcomes.{DecidedByPoint}
use Rattle.dds_outcomes.proofs.Facts.{IsBooked, members-listed}
use Rattle.dds_outcomes.proofs.Marks.{PointOk, turn-marked}
use Rattle.dds_outcomes.proofs.Places.{event-goes, kept-holds}
use Rattle.dds_outcomes.specs.Kept.{Holds, Kept, books_after}
use Rattle.dds_outcomes.specs.Kept.Kept.{first, grown}

-- What was applied at a point of the run is decided.

abbrev pub IsDone : Books → Made → Type 0
IsDone b m = is_get m.entry.op ≡ false → b.decided m.txn ≡ true

or-right : (x y : Bool) → y ≡ true → (x || y) ≡ true
or-right true y e = refl
or-right false y e = e

-- of those points of a step that are kept
one-kept : (P : Made → Type 0) (c : Bool) (m : Made) → P m → AllByRecursion P (if c then [] else m ∷ [])
one-kept P true m h = tt
one-kept P false m h = (h, tt)

pub kept-all : (P : Made → Type 0) (made ms : List Made) → AllByRecursion P ms → AllByRecursion P (all_kept made ms)
kept-all P made [] h = tt
kept-all P made (m ∷ ms) h =
    all-append P (kept made m) (all_kept (made ++ kept made m) ms) (one-kept P (not (is_get m.entry.op) && is_applied made m.txn) m h.0)
    (kept-all P (made ++ kept made m) ms h.1)

-- a brick's points
reads-done : (b : Books) (place : ℕ) (txn : Txn) (value : Option (List ℕ)) (l : Letter) → AllByRecursion (IsDone b) (read_by place txn value l)
reads-done b place txn value (letter.Get asked caller call key name stamp) = (λ e. cc, tt)
reads-done b place txn value other = tt

brick-done : (b : Books) (at place : ℕ) (l : Letter) (u : BrickState) (ps : List Point) → AllByRecursion (PointOk u) ps
    → AllByRecursion (IsDone (with_brick at u b)) (points_made place l ps)
brick-done b at place l u [] h = tt
brick-done b at place l u (point.Read txn value ∷ ps) h =
    all-append (IsDone (with_brick at u b)) (read_by place txn value l) (points_made place l ps) (reads-done (with_brick at u b) place txn value l)
    (brick-done b at place l u ps h.1)
brick-done b at place l u (point.Applied p was ∷ ps) h =
    (λ e. or-right (b.decided p.txn) (is_yes (get u.locks.outcomes p.txn)) (ap is_yes h.0.0), brick-done b at place l u ps h.1)

event-done : (o : OpeningOf) (was : List Step) (x : Step) (e : Event) (b : Books) (place : ℕ) → Holds (sizes_of o) (net_of o was) b → IsNext o was x e
    → AllByRecursion (IsDone (books_after o was e b)) (points_of place e)
event-done o was x (brick_takes at from l s) b place holds next =
    brick-done b at place l (live_brick_turn s from l).state (live_brick_turn s from l).out.points
    (turn-marked s from l (holds.commit.note at s next.fits.here).once)
event-done o was x nothing b place holds next = tt
event-done o was x (unheard at from l) b place holds next = tt
event-done o was x (unasked at caller call i) b place holds next = tt
event-done o was x (brick_told at i s) b place holds next = tt
event-done o was x (brick_stops at s left) b place holds next = tt
event-done o was x (library_takes at from l s) b place holds next = tt
event-done o was x (library_asked at caller call i s) b place holds next = tt
event-done o was x (library_stops at s left) b place holds next = tt

-- all points of a run
pub points-done : (o : OpeningOf) (journal : List Step) (b : Books) → Kept o journal b → AllByRecursion (IsDone b) (run_of o journal).made
points-done o journal b (first j c e f h) = subst (λ steps. AllByRecursion (IsDone b) (run_of o steps).made) (sym e) tt
points-done o journal b (grown j was x e c d k same is next past stays h) =
    let t = run_of o was in
    let grows = event-goes o was e c b is stays in
    subst (AllByRecursion (IsDone b)) (sym (ap (λ (g : History). g.made) past))
    (all-append (IsDone b) t.made (all_kept t.made (points_of t.steps e))
    (all-map (IsDone c) (IsDone b) t.made (λ m f i. grows.decided m.txn (f i)) (points-done o was c k))
    (kept-all (IsDone b) t.made (points_of t.steps e)
    (subst (λ (y : Books). AllByRecursion (IsDone y) (points_of t.steps e)) (sym is) (event-done o was x e c t.steps (kept-holds o was c k) next))))

pub point-booked : (o : OpeningOf) (journal : List Step) (b : Books) (t : Txn) (list : List ℕ) → Kept o journal b → DecidedByPoint o journal t list
    → IsBooked b t list
point-booked o journal b t list k d =
    record {
      decided = ap b.decided (sym d.same) ∙ all-is (IsDone b) (run_of o journal).made d.at d.point (points-done o journal b k) d.is d.update;
      listed = members-listed o journal b t list k d.members;
    }
