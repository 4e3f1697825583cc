use Rattle.std.proofs.Common.{◌≡◌, ℕ, ◌<◌, ◌==◌, ◌&&◌, Bool, true, false, not, Some, List, [], ◌∷◌, length, refl, sym, ap, ◌∙◌, subst}
use Rattle.std.proofs.Common.{arith}
use Rattle.std.proofs.lemmas.Bool.{and_parts, both_ways}
use Rattle.std.specs.List.{AllByRecursion, list_all}
use Rattle.std.specs.Prelude.{slice_get, take}
use Rattle.dds_base.specs.declared.op.Reply.{Reply}
use Rattle.dds_base.specs.declared.op.Reply.TheVariants as reply
use Rattle.dds_cluster.specs.Trace.{is_run}
use Rattle.dds_cluster.specs.declared.step.Step.{Step}
use Rattle.dds_cluster.specs.declared.step.Step.TheVariants as step
use Rattle.dds_cluster.specs.declared.trace.Told.{Told}
use Rattle.dds_commit.proofs.Runs.{parts-hold}
use Rattle.dds_core.proofs.CallDoes.{call-does}
use Rattle.dds_core.proofs.Lists.{all-is}
use Rattle.dds_core.proofs.Tells.{is_notice}
use Rattle.dds_core.specs.LibraryTurn.{call_row}
use Rattle.dds_law_notice.proofs.Link.{Link, lives, over, told}
use Rattle.dds_law_notice.proofs.Views as views
use Rattle.dds_law_notice.proofs.Views.{View, knows, view}
use Rattle.dds_letters.specs.declared.letter.Letter.{Letter}
use Rattle.dds_letters.specs.declared.letter.Letter.TheVariants as letter
use Rattle.dds_net.proofs.Carried.{Becomes, nodes-moved}
use Rattle.dds_net.proofs.Journals.{EachKeeps, Grown, IsNext, journal-keeps, last-is, net_of, place-of, step-later}
use Rattle.dds_net.proofs.Opening.{IsNew, new_a_brick, new_a_library, no_node, start-node}
use Rattle.dds_net.specs.Event.{Event, nothing, unheard, unasked, brick_takes, brick_told, brick_stops, library_takes, library_asked, library_stops}
use Rattle.dds_net.specs.Net.{Node, a_brick, a_library, sizes_of}
use Rattle.dds_script.specs.Opening.{IsOpening, OpeningOf}
use Rattle.dds_states.specs.declared.library_state.LibraryState.{LibraryState}
use Rattle.dds_world.specs.Causes.{StopsBefore}
use Rattle.dds_world.specs.Stands.{is_result}
use Rattle.dds_calls.proofs.Answered.{AnsweredBy, at_input, at_letter}
use Rattle.dds_calls.proofs.Caused.{names}
use Rattle.dds_calls.proofs.Reasons.{Reason, lost, met as has_met, reason, result, was_full}
use Rattle.dds_calls.proofs.Told.{IsGiven}
use Rattle.dds_calls.specs.Law.{is_stop}

-- A node that has stopped was stopped by a step; and where no step is a stop no call is lost.

abbrev StoppedIn : List Step → ℕ → Type 0
StoppedIn journal k = StopsBefore journal (length journal) k

abbrev IfStopped : List Step → ℕ → Node → Type 0
IfStopped journal k x = (view x).stopped ≡ true → StoppedIn journal k

length-grown : (xs : List Step) (y : Step) → length xs < length (Grown xs y)
length-grown [] y = omega arith
length-grown (z ∷ xs) y = let rest = length-grown xs y in omega (arith, rest)

stopped-later : (journal : List Step) (x : Step) (k : ℕ) → StoppedIn journal k → StoppedIn (Grown journal x) k
stopped-later journal x k h =
    let one = length-grown journal x in
    let before = h.before in
    record { when = h.when; before = omega (arith, before, one); step = step-later journal (x ∷ []) h.when _ h.step }

stopped-now : (journal : List Step) (x : Step) (k : ℕ) → x ≡ step.Stop k → StoppedIn (Grown journal x) k
stopped-now journal x k e = record { when = length journal; before = length-grown journal x; step = last-is journal x ∙ ap Some e }

-- a live node that takes a letter lives on
still-lives : (from : ℕ) (l : Letter) (v : View) → v.stopped ≡ false → (views.learns from l v).stopped ≡ false
still-lives from l v e = views.same-stopped from l v ∙ e

becomes : (o : OpeningOf) (journal : List Step) (x : Step) (e : Event) → IsNext o journal x e
    → ((k : ℕ) → IfStopped journal k ((net_of o journal).node k)) → Becomes (IfStopped (Grown journal x)) e
becomes o journal x (brick_takes at from l s) next g =
    let t = views.brick-takes s from l next.fits.live in
    λ e. absurd (both_ways _ (ap (λ (v : View). v.stopped) t.after ∙ still-lives from l (view (a_brick s)) t.live) e)
becomes o journal x (brick_told at ord s) next g =
    let t = views.brick-does s ord in
    λ e. stopped-later journal x at (subst (IfStopped journal at) next.fits.here (g at) (sym (ap (λ (v : View). v.stopped) t.after) ∙ e))
becomes o journal x (brick_stops at s left) next g = λ e. stopped-now journal x at next.step
becomes o journal x (library_takes at from l s) next g =
    let t = views.library-takes s from l next.fits.live in
    λ e. absurd (both_ways _ (ap (λ (v : View). v.stopped) t.after ∙ still-lives from l (view (a_library s)) t.live) e)
becomes o journal x (library_asked at caller call op s) next g =
    let t = views.library-does s caller call op next.fits.live in
    λ e. stopped-later journal x at (subst (IfStopped journal at) next.fits.here (g at) (sym (ap (λ (v : View). v.stopped) t.after) ∙ e))
becomes o journal x (library_stops at s left) next g = λ e. stopped-now journal x at next.step
becomes o journal x nothing next g = tt
becomes o journal x (unheard at from l) next g = tt
becomes o journal x (unasked at caller call op) next g = tt

stops-kept : (o : OpeningOf) → EachKeeps o (λ journal n. (k : ℕ) → IfStopped journal k (n.node k))
stops-kept o journal x e next g =
    nodes-moved (IfStopped (Grown journal x)) (sizes_of o) (net_of o journal) e (λ k h. stopped-later journal x k (g k h)) (becomes o journal x e next g)

new-lives : (o : OpeningOf) (k : ℕ) (x : Node) → IsNew o k x → IfStopped [] k x
new-lives o k x (no_node e) = subst (IfStopped [] k) (sym e) (λ h. cc)
new-lives o k x (new_a_brick e) = subst (IfStopped [] k) (sym e) (λ h. cc)
new-lives o k x (new_a_library high e) = subst (IfStopped [] k) (sym e) (λ h. cc)

pub stopped-stops : (o : OpeningOf) (journal : List Step) (k : ℕ) → IsOpening o → is_run o journal ≡ true → (view ((net_of o journal).node k)).stopped ≡ true
    → StopsBefore journal (length journal) k
stopped-stops o journal k h run =
    journal-keeps o (λ j n. (i : ℕ) → IfStopped j i (n.node i)) journal h.ranges.bricks (stops-kept o) (λ i. new-lives o i _ (start-node o i)) run k

-- the sender of a notice has stopped
head-notice : {d s k : Bool} (l : Letter) (c : List Letter) → Link d (l ∷ c) s k → is_notice l ≡ true → s ≡ true
head-notice l c (lives h) e = absurd (both_ways (is_notice l) h.0 e)
head-notice l c (told front is h) e = refl
head-notice l c (over known is h) e = refl

pub notice-stops : (o : OpeningOf) (front : List Step) (x : Step) (at from : ℕ) (l : Letter) (y : LibraryState) → IsOpening o → is_run o front ≡ true
    → IsNext o front x (library_takes at from l y) → l ≡ letter.Notice → StopsBefore front (length front) from
notice-stops o front x at from l y h run next is =
    let all = parts-hold o front h run in
    let n = net_of o front in
    let f = next.fits.letter in
    let apart = (view (n.node from)).stopped && not (from == at) in
    let link = subst (λ c. Link (view (n.node at)).stopped c apart (knows (view (n.node at)) from)) f.first (all.holds.linked from at f.receiver) in
    let stopped = head-notice l f.others link (ap is_notice is) in
    stopped-stops o front from h run (and_parts (view (n.node from)).stopped (not (from == at)) stopped).0

-- where nothing stops

abbrev pub is_lost : Reply → Bool
is_lost (reply.Lost name) = true
is_lost other = false

pub step-of : (journal : List Step) (i : ℕ) (x : Step) → list_all (λ y. not (is_stop y)) journal ≡ true → slice_get journal i ≡ Some x → not (is_stop x) ≡ true
step-of journal i x h e = all-is (λ y. not (is_stop y) ≡ true) journal i x (each journal h) e
  where
    each : (xs : List Step) → list_all (λ y. not (is_stop y)) xs ≡ true → AllByRecursion (λ y. not (is_stop y) ≡ true) xs
    each [] k = tt
    each (y ∷ ys) k = let p = and_parts (not (is_stop y)) (list_all (λ z. not (is_stop z)) ys) k in (p.0, each ys p.1)

pub answer-stays : (o : OpeningOf) (journal : List Step) (t : Told) → IsOpening o → is_run o journal ≡ true → list_all (λ y. not (is_stop y)) journal ≡ true
    → (g : IsGiven o journal t) → AnsweredBy o (take t.place journal) g.step t → is_lost t.reply ≡ false
answer-stays o journal t h run none g (at_letter at from l s next own b) =
    let c = b.by.call in
    subst (λ r. is_lost r ≡ false) (names s from l t b).reply
    (stays b.reply (reason b.by.desk c from l (call_row b.by.desk c from l) b.reply (call-does b.by.desk c from l) b.given))
  where
    result-stays : (r : Reply) → is_result r ≡ true → is_lost r ≡ false
    result-stays (reply.Lost name) e = cc
    result-stays other e = refl

    stays : (r : Reply) → Reason b.by.call from l r → is_lost r ≡ false
    stays r (result e) = result-stays r e
    stays r (has_met m w e) = ap is_lost (sym e)
    stays r (was_full waiting brick w e) = ap is_lost (sym e)
    stays r (lost leaf list waiting w n left e) =
        let front = take t.place journal in
        let p = place-of o journal t.place g.step run g.is in
        let s = notice-stops o front g.step at from l s h p.run next n in
        let later = subst (λ j. slice_get j s.when ≡ Some (step.Stop from)) p.whole
        (step-later (Grown front g.step) _ s.when _ (step-later front (g.step ∷ []) s.when _ s.step)) in
        let no : false ≡ true = step-of journal s.when (step.Stop from) none later in
        cc
answer-stays o journal t h run none g (at_input at caller call op s next own m stop row e p q) = ap is_lost e
