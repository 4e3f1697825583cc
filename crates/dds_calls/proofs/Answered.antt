use Rattle.std.proofs.Common.{◌≡◌, ℕ, zero, suc, ◌+◌, ◌<◌, ◌==◌, Bool, true, false, Option, Some, None, List, [], ◌∷◌, drop, refl, sym, ap, ◌∙◌}
use Rattle.std.proofs.Common.{subst}
use Rattle.std.proofs.lemmas.Bool.{and_parts, eqb-true}
use Rattle.std.proofs.lemmas.List.{append_assoc}
use Rattle.std.specs.List.{AllByRecursion}
use Rattle.std.specs.Prelude.{slice_get, take, if◌then◌else◌}
use Rattle.dds_base.specs.Number.{Txn}
use Rattle.dds_base.specs.declared.number.CallNo.{CallNo}
use Rattle.dds_base.specs.declared.number.CallerNo.{CallerNo}
use Rattle.dds_base.specs.declared.op.Met.{Met}
use Rattle.dds_base.specs.declared.op.Op.{Op}
use Rattle.dds_base.specs.declared.op.Reply.{Reply}
use Rattle.dds_base.specs.declared.op.Reply.TheVariants as reply
use Rattle.dds_books.proofs.Keeps.{calls-are-booked}
use Rattle.dds_books.specs.Calls.{Apart, CallsOk, LibraryIs}
use Rattle.dds_call_rows.specs.Library.{begin}
use Rattle.dds_cluster.specs.Trace.{is_run, run_of}
use Rattle.dds_cluster.specs.declared.step.Step.{Step}
use Rattle.dds_cluster.specs.declared.trace.Asked.{Asked}
use Rattle.dds_cluster.specs.declared.trace.Told.{Told}
use Rattle.dds_core.proofs.CallDoes.{IsStop, new-begins}
use Rattle.dds_core.proofs.LetterTells.{MetAt, letter-tells}
use Rattle.dds_core.proofs.Lists.{all-is}
use Rattle.dds_core.proofs.OrderTells.{InputMet, order-tells}
use Rattle.dds_core.proofs.Tells.{Given, Gives}
use Rattle.dds_core.specs.LibraryTurn.{attempts, desk_of, new_request}
use Rattle.dds_core.specs.LibraryTurn as core
use Rattle.dds_letters.specs.declared.letter.Letter.{Letter}
use Rattle.dds_net.proofs.Journals.{IsNext, net_of, next-event, place-of}
use Rattle.dds_net.proofs.Pairwise.{Pairwise}
use Rattle.dds_net.specs.Event.{Event, nothing, unheard, unasked, brick_takes, brick_told, brick_stops, library_takes, library_asked, library_stops, replies_of}
use Rattle.dds_net.specs.Net.{a_library}
use Rattle.dds_script.specs.Opening.{IsOpening, OpeningOf}
use Rattle.dds_states.specs.declared.library_state.LibraryState.{LibraryState}
use Rattle.dds_states.specs.declared.library_state.OpenCall.{OpenCall}
use Rattle.dds_states.specs.declared.turn.Replied.{Replied}
use Rattle.dds_states.specs.declared.turn.Replied.TheVariants as replied
use Rattle.dds_world.specs.Stands.{answer_to, answers}
use Rattle.dds_calls.proofs.Refused.{Case}
use Rattle.dds_calls.proofs.Reasons.{begins-again}
use Rattle.dds_calls.proofs.Told.{IsGiven}
use Rattle.dds_calls.proofs.Treats.{Answers, Differ, Made, library-treats}
use Rattle.dds_calls.specs.Law.{OfAnswer}

-- The event that answered a call: its library took a letter, or was asked the call.

abbrev pub reply_to : Told → Replied
reply_to t = replied.Call t.read t.caller t.call t.reply

pub data AnsweredBy (o : OpeningOf) (front : List Step) (x : Step) (t : Told) : Type 0 where
  at_letter : (at from : ℕ) (l : Letter) (s : LibraryState) → IsNext o front x (library_takes at from l s) → CallsOk (run_of o front).callers at s
      → Answers s from l (reply_to t) → AnsweredBy o front x t
  at_input : (at : ℕ) (caller : CallerNo) (call : CallNo) (op : Op) (s : LibraryState) → IsNext o front x (library_asked at caller call op s)
      → CallsOk (run_of o front).callers at s → (m : Met) → IsStop m
      → (begin (desk_of s s.calls) (new_request caller call op)).went.reply ≡ Some (reply.Again m)
      → t.reply ≡ reply.Again m → t.caller ≡ caller → t.call ≡ call → AnsweredBy o front x t

-- attempts of open calls

pub differ : (cs : List OpenCall) → Pairwise Apart cs → Pairwise Differ (attempts cs)
differ [] h = tt
differ (c ∷ cs) h = (each cs h.0, differ cs h.1)
  where
    each : (ds : List OpenCall) → AllByRecursion (Apart c) ds → AllByRecursion (Differ c.txn) (attempts ds)
    each [] k = tt
    each (d ∷ ds) k = (k.0.0, each ds k.1)

pub made-all : (next : ℕ) (cs : List OpenCall) → AllByRecursion (λ (c : OpenCall). c.txn.number < next) cs → Made next (attempts cs)
made-all next [] h = tt
made-all next (c ∷ cs) h = (h.0, made-all next cs h.1)

pub own-calls : (o : OpeningOf) (front : List Step) (at : ℕ) (s : LibraryState) → IsOpening o → is_run o front ≡ true → (net_of o front).node at ≡ a_library s
    → CallsOk (run_of o front).callers at s
own-calls o front at s h run here =
    subst (LibraryIs (CallsOk (run_of o front).callers at)) here ((calls-are-booked o front h.ranges run).calls at)

-- bricks answer no call

no-call : (M : Given) (rs : List Replied) (i : ℕ) (t : Told) → AllByRecursion (Gives M) rs → slice_get rs i ≡ Some (reply_to t) → ⊥
no-call M rs i t h e = all-is (Gives M) rs i (reply_to t) h e

record OneReply (o : Option Reply) (caller : ℕ) (call : CallNo) (t : Told) : Type 0 where
  given : o ≡ Some t.reply
  caller_is : t.caller ≡ caller
  call_is : t.call ≡ call

one-reply : (o : Option Reply) (caller : ℕ) (call : CallNo) (txn : Txn) (i : ℕ) (t : Told) → slice_get (core.replies_of caller call txn o) i ≡ Some (reply_to t)
    → OneReply o caller call t
one-reply None caller call txn i t e = cc
one-reply (Some r) caller call txn zero t e =
    let is : r ≡ t.reply = cc in
    record { given = ap Some is; caller_is = cc; call_is = cc }
one-reply (Some r) caller call txn (suc i) t e = cc

by-event : (o : OpeningOf) (front : List Step) (x : Step) (e : Event) (i : ℕ) (t : Told) → IsOpening o → is_run o front ≡ true → IsNext o front x e
    → slice_get (replies_of e) i ≡ Some (reply_to t) → AnsweredBy o front x t
by-event o front x (brick_takes at from l s) i t h run next is = absurd (no-call (MetAt s from l) _ i t (letter-tells s from l).replies is)
by-event o front x (brick_told at ord s) i t h run next is = absurd (no-call (InputMet s ord) _ i t (order-tells {L = λ to l. ⊥} s ord).replies is)
by-event o front x (library_takes at from l s) i t h run next is =
    let own = own-calls o front at s h run next.fits.here in
    let k = library-treats s from l next.fits.live (differ s.calls own.apart) (made-all s.next s.calls own.below) in
    at_letter at from l s next own (all-is (Answers s from l) _ i (reply_to t) k.replies is)
by-event o front x (library_asked at caller call op s) i t h run next is =
    let own = own-calls o front at s h run next.fits.here in
    let r = new_request caller call op in
    let d = desk_of s s.calls in
    let k = one-reply (begin d r).went.reply caller call (record { library = s.number; number = s.next }) i t is in
    let a = begins-again d r (begin d r) t.reply (new-begins d r) k.given in
    at_input at caller call op s next own a.0 a.1 (k.given ∙ ap Some (sym a.2)) (sym a.2) k.caller_is k.call_is
by-event o front x nothing i t h run next is = cc
by-event o front x (unheard at from l) i t h run next is = cc
by-event o front x (unasked at caller call op) i t h run next is = cc
by-event o front x (brick_stops at s left) i t h run next is = cc
by-event o front x (library_stops at s left) i t h run next is = cc

pub answered : (o : OpeningOf) (journal : List Step) (t : Told) → IsOpening o → is_run o journal ≡ true → (g : IsGiven o journal t)
    → AnsweredBy o (take t.place journal) g.step t
answered o journal t h run g =
    let p = place-of o journal t.place g.step run g.is in
    let n = next-event o (take t.place journal) g.step h.ranges.bricks p.possible in
    by-event o (take t.place journal) g.step n.0 g.among.index t h p.run n.1 (ap (λ rs. slice_get rs g.among.index) (sym n.1.replies) ∙ g.among.is)

-- the call and its answer in the run
abbrev pub case-of : (o : OpeningOf) (journal : List Step) (i : ℕ) (a : Asked) (t : Told) → IsOpening o → is_run o journal ≡ true
    → slice_get (run_of o journal).asked i ≡ Some a → (g : IsGiven o journal t) → Case o journal a t
case-of o journal i a t h run there g =
    let front = take t.place journal in
    let p = place-of o journal t.place g.step run g.is in
    record {
      opening = h;
      run = run;
      index = i;
      there = there;
      front = front;
      rest = g.step ∷ drop (t.place + 1) journal;
      whole = sym (append_assoc front (g.step ∷ []) (drop (t.place + 1) journal)) ∙ p.whole;
      place = p.place;
    }

-- a call's answer is one of the run's, and is of this call

abbrev pub IsOf : Asked → Told → Type 0
IsOf a t = (a.caller ≡ t.caller) × (a.call.0 ≡ t.call.0)

pub of-answer : (P : Told → Reply → Type 0) (told : List Told) (a : Asked) → AllByRecursion (λ t. IsOf a t → P t t.reply) told
    → OfAnswer P (answer_to told a.caller a.call)
of-answer P [] a h = tt
of-answer P (t ∷ ts) a h = by (answers a.caller a.call t) refl (of-answer P ts a h.1)
  where
    by : (b : Bool) → answers a.caller a.call t ≡ b → OfAnswer P (answer_to ts a.caller a.call)
        → OfAnswer P (if b then Some t else answer_to ts a.caller a.call)
    by true e rest =
        let p = and_parts (t.caller == a.caller) (t.call.0 == a.call.0) e in
        h.0 (sym (eqb-true t.caller a.caller p.0), sym (eqb-true t.call.0 a.call.0 p.1))
    by false e rest = rest
