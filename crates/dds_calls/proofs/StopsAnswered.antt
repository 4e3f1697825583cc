use Rattle.std.proofs.Common.{◌≡◌, ℕ, suc, cond, drop, find, ◌+◌, ◌<◌, Bool, true, false, Some, List, [], ◌∷◌}
use Rattle.std.proofs.Common.{◌++◌, length, refl, sym, ap, ◌∙◌, subst, arith}
use Rattle.std.proofs.lemmas.Bool.{and_from, and_parts}
use Rattle.std.specs.Prelude.{slice_get, take}
use Rattle.dds_base.specs.declared.number.CallNo.{CallNo}
use Rattle.dds_base.specs.declared.number.CallerNo.{CallerNo}
use Rattle.dds_base.specs.declared.op.Met.{Met}
use Rattle.dds_base.specs.declared.op.Met.TheVariants as met
use Rattle.dds_base.specs.declared.op.Op.{Op}
use Rattle.dds_base.specs.declared.op.Reply.TheVariants as reply
use Rattle.dds_books.specs.Calls.{IsOwned}
use Rattle.dds_call_rows.specs.Library.{begin}
use Rattle.dds_cluster.specs.Trace.{is_possible, is_run, is_run_from, next, run_of, start}
use Rattle.dds_cluster.specs.declared.step.Step.{Step}
use Rattle.dds_cluster.specs.declared.trace.Asked.{Asked}
use Rattle.dds_cluster.specs.declared.trace.Caller.{Caller}
use Rattle.dds_cluster.specs.declared.trace.Told.{Told}
use Rattle.dds_cluster.specs.declared.trace.Trace.{Trace}
use Rattle.dds_core.proofs.Lists.{all-is}
use Rattle.dds_core.specs.LibraryTurn.{desk_of, live_library_turn, new_request}
use Rattle.dds_letters.specs.declared.letter.Letter.{Letter}
use Rattle.dds_net.proofs.Journals.{Grown, IsNext, place-of}
use Rattle.dds_net.specs.Event.{library_takes, library_asked}
use Rattle.dds_script.specs.Opening.{IsOpening, OpeningOf}
use Rattle.dds_states.specs.declared.library_state.LibraryState.{LibraryState}
use Rattle.dds_states.specs.declared.library_state.OpenCall.{OpenCall}
use Rattle.dds_world.specs.Causes.{MetStopped}
use Rattle.dds_world.specs.Treated.{is_this, open_as}
use Rattle.dds_calls.proofs.Answered.{AnsweredBy, answered, at_input, at_letter, differ, made-all, of-answer, own-calls, reply_to}
use Rattle.dds_calls.proofs.Answered as answered_so
use Rattle.dds_calls.proofs.Asked.{one-asked}
use Rattle.dds_calls.proofs.Caused.{names}
use Rattle.dds_calls.proofs.Entries.{run-asked}
use Rattle.dds_calls.proofs.Refused.{the_no}
use Rattle.dds_calls.proofs.StopCauses.{Is, StopCause, cause-later}
use Rattle.dds_calls.proofs.Stopping.{input-cause}
use Rattle.dds_calls.proofs.Shutting.{IsShut}
use Rattle.dds_calls.proofs.Telling.{run-telling}
use Rattle.dds_calls.proofs.Told.{At, IsGiven, given-at}
use Rattle.dds_calls.proofs.Treats.{Answers}
use Rattle.dds_calls.proofs.StopsCaused.{HasCause, NodeStops, calls-after, cause-of, input-ends, its-ends, run-stops}

-- The answers that say that a brick stopped.

found-at : (p : OpenCall → Bool) (cs : List OpenCall) (c : OpenCall) → find p cs ≡ Some c → At cs c
found-at p [] c e = cc
found-at p (y ∷ ys) c e = by (p y) e (λ f. found-at p ys c f)
  where
    by : (b : Bool) → cond b (Some y) (find p ys) ≡ Some c → (find p ys ≡ Some c → At ys c) → At (y ∷ ys) c
    by true f g = record { index = 0; there = f }
    by false f g = let k = g f in record { index = suc k.index; there = k.there }

run-front : (o : OpeningOf) (front more : List Step) → is_run o (front ++ more) ≡ true → is_run o front ≡ true
run-front o front more = from (start o) front
  where
    from : (t : Trace) (xs : List Step) → is_run_from t (xs ++ more) ≡ true → is_run_from t xs ≡ true
    from t [] r = refl
    from t (x ∷ xs) r =
        let p = and_parts (is_possible t x) (is_run_from (next t x) (xs ++ more)) r in
        and_from (is_possible t x) (is_run_from (next t x) xs) p.0 (from (next t x) xs p.1)

-- the answered call isn't open any more
answered-open : (o : OpeningOf) (journal : List Step) (x : Step) (at from : ℕ) (l : Letter) (s : LibraryState) (c : OpenCall) (t : Told) (i : ℕ) (a : Asked)
    → IsOpening o → is_run o (Grown journal x) ≡ true → IsNext o journal x (library_takes at from l s)
    → slice_get (run_of o (Grown journal x)).told i ≡ Some t → t.caller ≡ c.request.caller → t.call ≡ c.request.call
    → open_as (live_library_turn s from l).state a ≡ Some c → ⊥
answered-open o journal x at from l s c t i a h run next told p q e =
    let after = (live_library_turn s from l).state in
    let own = calls-after o journal x at from l s h run next in
    let f = found-at (is_this a) after.calls c e in
    let mine = all-is (IsOwned (run_of o (Grown journal x)).callers at) after.calls f.index c own.owned f.there in
    let shut = all-is (IsShut (run_of o (Grown journal x)).callers) (run_of o (Grown journal x)).told i t
    (run-telling o (Grown journal x) h.ranges run).shut told in
    let same : mine.caller ≡ shut.caller = let both = sym mine.there ∙ ap (slice_get (run_of o (Grown journal x)).callers) (sym p) ∙ shut.there in cc in
    shut.shut c.request.call (sym (ap (λ (y : Caller). y.call) same) ∙ mine.call) (sym (ap the_no q))

-- the cause of an answer
cause-met : (o : OpeningOf) (journal : List Step) (i : ℕ) (a : Asked) (t : Told) (brick : ℕ) (caller : ℕ) (call : CallNo) (op : Op) → IsOpening o
    → is_run o journal ≡ true → slice_get (run_of o journal).asked i ≡ Some a → a.caller ≡ caller → a.call.0 ≡ call.0
    → StopCause o journal (t.place + 1) caller call op brick → MetStopped o journal a t brick
cause-met o journal i a t brick caller call op h run there p q k =
    let w = k.asked in
    let g = run-asked o journal h.ranges run in
    let same : a ≡ w.it = one-asked (run_of o journal).asked i w.index a w.it g.apart there w.there (p ∙ sym w.caller_is) (q ∙ sym (ap the_no w.call_is)) in
    let is : Is a caller call = record {
      caller_is = p;
      call_is = ap (λ (y : Asked). y.call) same ∙ w.call_is;
    } in
    let earlier : a.place < k.at + 1 = subst (λ (y : Asked). y.place < k.at + 1) (sym same) w.earlier in
    let inside = k.inside in
    let stop = k.stops in
    let before = stop.before in
    record {
      before = k.before;
      within = k.within;
      after = k.after;
      treats = record {
        at = k.at;
        in_call = record { from_input = omega (arith, earlier); to_answer = omega (arith, inside) };
        node = k.node;
        is_before = k.is_before;
        is_after = k.is_after;
        how = k.how a is;
      };
      listed = k.listed a is (ap (λ (y : Asked). y.op) same ∙ w.op_is);
      stops = record { when = stop.when; before = omega (arith, before, inside); step = stop.step };
    }

-- carried to the end of the run
carried : (o : OpeningOf) (journal : List Step) (t : Told) (x : Step) (brick caller : ℕ) (call : CallNo) (op : Op) → is_run o journal ≡ true
    → slice_get journal t.place ≡ Some x → HasCause o (Grown (take t.place journal) x) brick caller call op
    → StopCause o journal (t.place + 1) caller call op brick
carried o journal t x brick caller call op run is k =
    let front = take t.place journal in
    let p = place-of o journal t.place x run is in
    let count : length (Grown front x) ≡ t.place + 1 = length-one front x ∙ ap (λ n. n + 1) p.place in
    subst (λ j. StopCause o j (t.place + 1) caller call op brick) p.whole
    (subst (λ n. StopCause o (Grown front x ++ drop (t.place + 1) journal) n caller call op brick) count
    (cause-later o (Grown front x) (drop (t.place + 1) journal) (length (Grown front x)) caller call op brick k))
  where
    length-one : (xs : List Step) (y : Step) → length (Grown xs y) ≡ length xs + 1
    length-one [] y = refl
    length-one (z ∷ xs) y = let rest = length-one xs y in omega (arith, rest)

run-grown : (o : OpeningOf) (journal : List Step) (at : ℕ) (x : Step) → is_run o journal ≡ true → slice_get journal at ≡ Some x
    → is_run o (Grown (take at journal) x) ≡ true
run-grown o journal at x run is =
    let p = place-of o journal at x run is in
    run-front o (Grown (take at journal) x) (drop (at + 1) journal) (subst (λ j. is_run o j ≡ true) (sym p.whole) run)

-- why an answer says that a brick stopped
pub record StoppedCause (o : OpeningOf) (journal : List Step) (t : Told) (brick : ℕ) : Type 0 where
  pub caller : ℕ
  pub call : CallNo
  pub op : Op
  pub caller_is : t.caller ≡ caller
  pub call_is : t.call ≡ call
  pub cause : StopCause o journal (t.place + 1) caller call op brick

letter-stopped : (o : OpeningOf) (journal : List Step) (t : Told) (brick at from : ℕ) (l : Letter) (s : LibraryState) → IsOpening o
    → is_run o journal ≡ true → (g : IsGiven o journal t) → IsNext o (take t.place journal) g.step (library_takes at from l s)
    → Answers s from l (reply_to t) → t.reply ≡ reply.Again (met.Stopped brick) → StoppedCause o journal t brick
letter-stopped o journal t brick at from l s h run g next b e =
    let front = take t.place journal in
    let x = g.step in
    let p = place-of o journal t.place x run g.is in
    let c = b.by.call in
    let named = names s from l t b in
    let on = run-grown o journal t.place x run g.is in
    let seen = (its-ends o front x at from l s b.by h p.run next).told (met.Stopped brick) (b.given ∙ ap Some (named.reply ∙ e)) in
    let here = given-at o front x t (sym p.place) g.among in
    let stops = subst (NodeStops o front at) next.fits.here (run-stops o front h p.run at) in
    let cause = cause-of o front x at from l s b.by brick h p.run next stops
    (λ no_look y same found. answered-open o front x at from l s c t here.index y h on next here.there named.caller named.call found) seen in
    record {
      caller = c.request.caller;
      call = c.request.call;
      op = c.request.op;
      caller_is = named.caller;
      call_is = named.call;
      cause = carried o journal t x brick c.request.caller c.request.call c.request.op run g.is cause;
    }

input-stopped : (o : OpeningOf) (journal : List Step) (t : Told) (brick at : ℕ) (caller : CallerNo) (call : CallNo) (op : Op) (s : LibraryState) (m : Met)
    → IsOpening o → is_run o journal ≡ true → (g : IsGiven o journal t) → IsNext o (take t.place journal) g.step (library_asked at caller call op s)
    → (begin (desk_of s s.calls) (new_request caller call op)).went.reply ≡ Some (reply.Again m) → t.reply ≡ reply.Again m → t.caller ≡ caller
    → t.call ≡ call → t.reply ≡ reply.Again (met.Stopped brick) → StoppedCause o journal t brick
input-stopped o journal t brick at caller call op s m h run g next row f p q e =
    let front = take t.place journal in
    let k = place-of o journal t.place g.step run g.is in
    let which : m ≡ met.Stopped brick = let both = sym f ∙ e in cc in
    let seen = (input-ends o front g.step at caller call op s h k.run next).told m row brick which in
    record {
      caller = caller;
      call = call;
      op = op;
      caller_is = p;
      call_is = q;
      cause = carried o journal t g.step brick caller call op run g.is (input-cause o front g.step at caller call op s brick h k.run next seen);
    }

pub told-stopped : (o : OpeningOf) (journal : List Step) (t : Told) (brick : ℕ) → IsOpening o → is_run o journal ≡ true → (g : IsGiven o journal t)
    → AnsweredBy o (take t.place journal) g.step t → t.reply ≡ reply.Again (met.Stopped brick) → StoppedCause o journal t brick
told-stopped o journal t brick h run g (at_letter at from l s next own b) e = letter-stopped o journal t brick at from l s h run g next b e
told-stopped o journal t brick h run g (at_input at caller call op s next own m stop row f p q) e =
    input-stopped o journal t brick at caller call op s m h run g next row f p q e

pub stop-met : (o : OpeningOf) (journal : List Step) (i : ℕ) (a : Asked) (t : Told) (brick : ℕ) → IsOpening o → is_run o journal ≡ true
    → slice_get (run_of o journal).asked i ≡ Some a → IsGiven o journal t → answered_so.IsOf a t → t.reply ≡ reply.Again (met.Stopped brick)
    → MetStopped o journal a t brick
stop-met o journal i a t brick h run there g is e =
    let k = told-stopped o journal t brick h run g (answered o journal t h run g) e in
    cause-met o journal i a t brick k.caller k.call k.op h run there (is.0 ∙ k.caller_is) (is.1 ∙ ap the_no k.call_is) k.cause
