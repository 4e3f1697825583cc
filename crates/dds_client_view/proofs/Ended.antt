-- A call that was answered is over: its update has no point behind the answer, and where it was answered Lost it is an update.
use Rattle.std.proofs.Common.{◌≡◌, ℕ, ◌+◌, ◌<◌, ◌≤◌, ◌++◌, true, Option, Some, None, List, [], refl, sym, ap, ◌∙◌, subst, arith}
use Rattle.std.specs.List.{AllByRecursion}
use Rattle.std.specs.Prelude.{slice_get}
use Rattle.dds_answered.proofs.Flags.{own-calls}
use Rattle.dds_attempts.proofs.Runs.{Stands, stands-kept}
use Rattle.dds_base.specs.Number.{Txn}
use Rattle.dds_base.specs.Op.{is_get}
use Rattle.dds_base.specs.declared.number.CallNo.{CallNo}
use Rattle.dds_base.specs.declared.op.Reply.{Reply}
use Rattle.dds_books.specs.Books.{Book, booked}
use Rattle.dds_books.specs.Calls.{IsOwned, LibraryIs}
use Rattle.dds_books.specs.Placed.{CallOk, LibraryOk, Made, NodeOk, PhaseOk}
use Rattle.dds_call_rows.specs.Library.{begin}
use Rattle.dds_calls.proofs.Answered.{differ, made-all}
use Rattle.dds_calls.proofs.Reasons.{Reason, begins-again, lost, met, reason, result, was_full}
use Rattle.dds_calls.proofs.Treats.{Answers, library-treats}
use Rattle.dds_client_view.proofs.Asked.{OpenIsAsked, asked-last, asked-more, open-then}
use Rattle.dds_client_view.proofs.Order.{IsAt}
use Rattle.dds_cluster.specs.Lists.{is_asked}
use Rattle.dds_client_view.proofs.Once.{OtherReply, OtherTold, no-calls-apart, one-answer-apart, told-apart, turn-apart}
use Rattle.dds_net.proofs.Opening.{no-call-open}
use Rattle.dds_net.proofs.Pairwise.{Pairwise, pairs-append}
use Rattle.dds_client_view.proofs.Shut.{ReplySays, replies-shut, told-says}
use Rattle.dds_client_view.specs.Client.{is_loss}
use Rattle.dds_cluster.specs.Trace.{all_kept, is_run, run_of, start, told_at}
use Rattle.dds_cluster.specs.declared.step.Step.{Step}
use Rattle.dds_cluster.specs.declared.trace.Caller.{Caller}
use Rattle.dds_cluster.specs.declared.trace.Made as trace
use Rattle.dds_cluster.specs.declared.trace.Told.{Told}
use Rattle.dds_core.proofs.CallDoes.{call-does, new-begins}
use Rattle.dds_core.proofs.LetterTells.{letter-tells}
use Rattle.dds_core.proofs.Lists.{all-append, all-is, all-map}
use Rattle.dds_core.proofs.OrderTells.{order-tells}
use Rattle.dds_core.specs.Brick.{brick_input, live_brick_turn}
use Rattle.dds_core.specs.LibraryTurn.{call_row, desk_of, live_library_turn, new_request, replies_of as replies_in}
use Rattle.dds_letters.specs.declared.letter.Letter.{Letter}
use Rattle.dds_net.proofs.Rungs.{Both, both_books, kept-over}
use Rattle.dds_net.proofs.Runs.{IsBuilt, run-keeps}
use Rattle.dds_net.specs.Event.{Event, Fits, History, asked_of, brick_takes, brick_told, goes, history_of, library_asked, library_takes, opened_of, points_of}
use Rattle.dds_net.specs.Event.{replies_of}
use Rattle.dds_net.specs.Net.{Net, Sizes, a_library, sizes_of}
use Rattle.dds_once.proofs.Claim.{AllAsk, AreAsked, AreOnce, AsksThis}
use Rattle.dds_once.proofs.Kept.{AreOnceOver, once-stays}
use Rattle.dds_once.proofs.Opens.{IsOpenPoint, open-shut, points-open}
use Rattle.dds_once.proofs.Requests.{OfCall}
use Rattle.dds_once.proofs.Shut.{IsShut, shut-later}
use Rattle.dds_once.proofs.Start.{start-once}
use Rattle.dds_once.proofs.Used.{IsNew, IsUsed, asked-new, free-unused, may-free, opens-used}
use Rattle.dds_outcomes.proofs.Points.{kept-all}
use Rattle.dds_script.specs.Opening.{IsOpening, OpeningOf}
use Rattle.dds_states.specs.declared.library_state.LibraryState.{LibraryState}
use Rattle.dds_states.specs.declared.library_state.OpenCall.{OpenCall}
use Rattle.dds_talk.specs.Books as talk
use Rattle.dds_client_view.proofs.Ends.{AreEnded, Ends, IsEarlier, IsUpdate, LosesUpdate, points-at, no-calls, no-loss, result-no-loss}

module _ (z : Sizes) (few : z.bricks ≤ 64) (some : z.libraries ≤ 16) (h : History) (n : Net) (b : Book × talk.Books) (built : IsBuilt z n)
    (k : Stands z h n b) (once : AreOnce h n b.0) (opened : OpenIsAsked h.callers h.asked) where
  -- an open call that is answered
  module _ (at : ℕ) (s : LibraryState) (here : n.node at ≡ a_library s) (place : ℕ) (c : OpenCall) (is : slice_get s.calls place ≡ Some c) where
    its-used : IsUsed h.callers c.request.caller c.request.call
    its-used =
        let owned = all-is (IsOwned h.callers at) s.calls place c (own-calls z h n b at s k here).owned is in
        record {
          who = owned.caller;
          there = owned.there;
          past = k.last.callers c.request.caller owned.caller c.request.call owned.there owned.call;
        }

    its-asked : is_asked h.asked c.request.caller c.request.call ≡ true
    its-asked =
        let owned = all-is (IsOwned h.callers at) s.calls place c (own-calls z h n b at s k here).owned is in
        opened c.request.caller owned.caller c.request.call owned.there owned.call

    its-phase : PhaseOk z s.known c.request.op c.phase
    its-phase =
        let ok : LibraryOk z at s = subst (NodeOk (Made n) z at) here (k.parts.0.2.nodes at) in
        (all-is (CallOk z s.number s.next s.known) s.calls place c ok.calls is).its_phase

    its-op : AllAsk h.asked c.request.caller c.request.call c.request.op
    its-op =
        let ok : AreAsked h.asked s = subst (LibraryIs (AreAsked h.asked)) here (once.calls at) in
        all-is (OfCall (AllAsk h.asked)) s.calls place c ok is

    loses-by : (from : ℕ) (l : Letter) (r : Reply) → Reason c from l r → LosesUpdate h.asked c.request.caller c.request.call r
    loses-by from l r (lost leaf list waiting p q none e) = λ is_lost.
        let ok = subst (PhaseOk z s.known c.request.op) p its-phase in
        all-map (AsksThis c.request.caller c.request.call c.request.op) (IsUpdate c.request.caller c.request.call) h.asked
        (λ x asks same number. ap is_get (asks same number) ∙ ok.0) its-op
    loses-by from l r (result e) = λ is_lost. absurd (no-loss r (result-no-loss r e) is_lost)
    loses-by from l r (was_full waiting brick p e) = λ is_lost. absurd (no-loss r (ap is_loss (sym e)) is_lost)
    loses-by from l r (met m w e) = λ is_lost. absurd (no-loss r (ap is_loss (sym e)) is_lost)

    not-shut : IsShut h.callers c.request.caller c.request.call → ⊥
    not-shut shut =
        let owned = all-is (IsOwned h.callers at) s.calls place c (own-calls z h n b at s k here).owned is in
        let who : owned.caller ≡ shut.who = (let two : Some owned.caller ≡ Some shut.who = sym owned.there ∙ shut.there in cc) in
        shut.shut (ap (λ (x : Caller). x.call) (sym who) ∙ owned.call)

  -- what is so of each call that an event answers
  abbrev Answered : Event → ℕ → CallNo → Reply → Type 0
  Answered e i call r = IsUsed (opened_of h.callers e) i call ×
      (LosesUpdate (goes h e).asked i call r × AllByRecursion (IsEarlier h.steps i call) (goes h e).made × (is_asked (goes h e).asked i call ≡ true))

  -- where an event has no points, all points stand before it
  all-earlier : (i : ℕ) (call : CallNo) → AllByRecursion (λ (m : trace.Made). m.place < h.steps) h.made
      → AllByRecursion (IsEarlier h.steps i call) (h.made ++ [])
  all-earlier i call places =
      all-append (IsEarlier h.steps i call) h.made []
      (all-map (λ (m : trace.Made). m.place < h.steps) (IsEarlier h.steps i call) h.made (λ m p update e f. p) places) tt

  began : (P : ℕ → CallNo → Reply → Type 0) (caller : ℕ) (call : CallNo) (txn : Txn) (o : Option Reply) → ((r : Reply) → o ≡ Some r → P caller call r)
      → AllByRecursion (ReplySays P) (replies_in caller call txn o)
  began P caller call txn None f = tt
  began P caller call txn (Some r) f = (f r refl, tt)

  answers : (e : Event) → Fits z h.callers n e → AllByRecursion (λ (m : trace.Made). m.place < h.steps) h.made
      → AllByRecursion (ReplySays (Answered e)) (replies_of e)
  answers (library_takes at from l s) f places =
      let e = library_takes at from l s in
      let own = own-calls z h n b at s k f.here in
      let t = library-treats s from l f.live (differ s.calls own.apart) (made-all s.next s.calls own.below) in
      all-map (Answers s from l) (ReplySays (Answered e)) (live_library_turn s from l).out.replies
      (λ r w.
      let c = w.by.call in
      let because = reason w.by.desk c from l (call_row w.by.desk c from l) w.reply (call-does w.by.desk c from l) w.given in
      let loses = loses-by at s f.here w.by.index c w.by.there from l w.reply because in
      subst (ReplySays (Answered e)) (sym w.is) (
        its-used at s f.here w.by.index c w.by.there,
        (
          (λ lost. all-append (IsUpdate c.request.caller c.request.call) h.asked [] (loses lost) tt),
          all-earlier c.request.caller c.request.call places,
          asked-more h.asked [] c.request.caller c.request.call (its-asked at s f.here w.by.index c w.by.there),
        ),
      )) t.replies
  answers (library_asked at caller call o s) f places =
      let e = library_asked at caller call o s in
      let r = new_request caller call o in
      let d = desk_of s s.calls in
      let t = begin d r in
      began (Answered e) caller call (record { library = s.number; number = s.next }) t.went.reply
      (λ x is.
      let again = begins-again d r t x (new-begins d r) is in (
        opens-used h.callers caller at call (slice_get h.callers caller) refl f.may,
        (
          (λ lost. absurd (no-loss x (ap is_loss (sym again.2)) lost)),
          all-earlier caller call places,
          asked-last h.asked (record { place = h.steps; caller = caller; call = call; op = o }),
        ),
      ))
  answers (brick_takes at from l s) f places =
      no-calls _ (Answered (brick_takes at from l s)) (live_brick_turn s from l).out.replies (letter-tells s from l).replies
  answers (brick_told at o s) f places =
      no-calls _ (Answered (brick_told at o s)) (brick_input s o).out.replies (order-tells {L = λ to l. ⊥} s o).replies
  answers other f places = tt

  -- it wasn't answered before
  abbrev NotShut : ℕ → CallNo → Reply → Type 0
  NotShut i call r = IsShut h.callers i call → ⊥

  fresh-answers : (e : Event) → Fits z h.callers n e → AllByRecursion (ReplySays NotShut) (replies_of e)
  fresh-answers (library_takes at from l s) f =
      let own = own-calls z h n b at s k f.here in
      let t = library-treats s from l f.live (differ s.calls own.apart) (made-all s.next s.calls own.below) in
      all-map (Answers s from l) (ReplySays NotShut) (live_library_turn s from l).out.replies
      (λ r w. subst (ReplySays NotShut) (sym w.is) (not-shut at s f.here w.by.index w.by.call w.by.there)) t.replies
  fresh-answers (library_asked at caller call o s) f =
      let t = begin (desk_of s s.calls) (new_request caller call o) in
      began NotShut caller call (record { library = s.number; number = s.next }) t.went.reply
      (λ x is shut.
      free-unused h.callers caller caller call call (may-free h.callers caller at call f.may)
      (record { who = shut.who; there = shut.there; past = shut.past }) refl refl)
  fresh-answers (brick_takes at from l s) f = no-calls _ NotShut (live_brick_turn s from l).out.replies (letter-tells s from l).replies
  fresh-answers (brick_told at o s) f = no-calls _ NotShut (brick_input s o).out.replies (order-tells {L = λ to l. ⊥} s o).replies
  fresh-answers other f = tt

  -- nor by this event
  replies-apart : (e : Event) → Fits z h.callers n e → Pairwise OtherReply (replies_of e)
  replies-apart (library_takes at from l s) f = turn-apart h.callers at s from l (own-calls z h n b at s k f.here)
  replies-apart (library_asked at caller call o s) f =
      one-answer-apart caller call (record { library = s.number; number = s.next }) (begin (desk_of s s.calls) (new_request caller call o)).went.reply
  replies-apart (brick_takes at from l s) f =
      no-calls-apart (live_brick_turn s from l).out.replies (no-calls _ (λ i call r. ⊥) (live_brick_turn s from l).out.replies (letter-tells s from l).replies)
  replies-apart (brick_told at o s) f =
      no-calls-apart (brick_input s o).out.replies (no-calls _ (λ i call r. ⊥) (brick_input s o).out.replies (order-tells {L = λ to l. ⊥} s o).replies)
  replies-apart other f = tt

  -- an answer that was given before
  still-ends : (e : Event) (r : Told) → Fits z h.callers n e → Ends h.callers h.asked h.made r → Ends (goes h e).callers (goes h e).asked (goes h e).made r
  still-ends e r f g =
      let used : IsUsed h.callers r.caller r.call = record { who = g.shut.who; there = g.shut.there; past = g.shut.past } in
      record {
        shut = shut-later z h n e r.caller r.call f g.shut;
        before = all-append (IsEarlier r.place r.caller r.call) h.made (all_kept h.made (points_of h.steps e)) g.before
            (kept-all (IsEarlier r.place r.caller r.call) h.made (points_of h.steps e)
            (all-map (IsOpenPoint z few some h n b built k) (IsEarlier r.place r.caller r.call) (points_of h.steps e)
            (λ m p update x y. absurd (open-shut h.callers m.entry.caller r.caller m.entry.call r.call (p update) g.shut x y))
            (points-open z few some h n b built k e f)));
        lost = λ lost. all-append (IsUpdate r.caller r.call) h.asked (asked_of h.steps e) (g.lost lost)
            (all-map (IsNew h.callers (goes h e).callers h.steps) (IsUpdate r.caller r.call) (asked_of h.steps e)
            (λ x new same number. absurd (free-unused h.callers x.caller r.caller x.call r.call new.free used same number)) (asked-new z h n e f));
        was_asked = asked-more h.asked (asked_of h.steps e) r.caller r.call g.was_asked;
      }

  other-answers : (e : Event) (r : Told) → Fits z h.callers n e → Ends h.callers h.asked h.made r
      → AllByRecursion (OtherTold r) (told_at h.steps (replies_of e))
  other-answers e r f g =
      told-says NotShut (OtherTold r) h.steps (replies_of e)
      (λ x place fresh same number. fresh (subst (λ i. IsShut h.callers i x.call) same (subst (IsShut h.callers r.caller) number g.shut)))
      (fresh-answers e f)

  pub ended-then : (e : Event) → Fits z h.callers n e → AreEnded h → AreEnded (goes h e)
  ended-then e f g =
      let cs = (goes h e).callers in
      let asked = (goes h e).asked in
      let made = (goes h e).made in
      let At = λ (i : ℕ) (call : CallNo) (r : Reply).
      LosesUpdate asked i call r × AllByRecursion (IsEarlier h.steps i call) made × (is_asked asked i call ≡ true) in
      record {
        open_calls = open-then h e g.open_calls;
        apart = pairs-append OtherTold h.told (told_at h.steps (replies_of e)) g.apart (told-apart h.steps (replies_of e) (replies-apart e f))
            (all-map (Ends h.callers h.asked h.made) (λ r. AllByRecursion (OtherTold r) (told_at h.steps (replies_of e))) h.told
            (λ r q. other-answers e r f q) g.ends);
        places = all-append (λ (m : trace.Made). m.place < h.steps + 1) h.made (all_kept h.made (points_of h.steps e))
            (all-map (λ (m : trace.Made). m.place < h.steps) (λ (m : trace.Made). m.place < h.steps + 1) h.made (λ m p. omega (arith, p)) g.places)
            (kept-all (λ (m : trace.Made). m.place < h.steps + 1) h.made (points_of h.steps e)
            (all-map (IsAt h.steps) (λ (m : trace.Made). m.place < h.steps + 1) (points_of h.steps e) (λ m p. omega (arith, p)) (points-at h.steps e)));
        ends = all-append (Ends cs asked made) h.told (told_at h.steps (replies_of e))
            (all-map (Ends h.callers h.asked h.made) (Ends cs asked made) h.told (λ r q. still-ends e r f q) g.ends)
            (told-says (λ i call r. IsShut cs i call × At i call r) (Ends cs asked made) h.steps (replies_of e)
            (λ r place w. record {
              shut = w.0;
              before = subst (λ p. AllByRecursion (IsEarlier p r.caller r.call) made) (sym place) w.1.1;
              lost = w.1.0;
              was_asked = w.1.2;
            })
            (replies-shut At (opened_of h.callers e) (replies_of e) (answers e f g.places)));
      }

-- of each run
pub run-ended : (o : OpeningOf) (journal : List Step) → IsOpening o → is_run o journal ≡ true → AreEnded (history_of (run_of o journal))
run-ended o journal h run =
    let z = sizes_of o in
    let few = h.ranges.bricks in
    let some = h.ranges.libraries in
    let first = start-once o h in
    let low = kept-over z (Book × talk.Books) (λ i n e b. (booked e b.0, talk.adds i n e b.1)) (Stands z) (Unit {0}) (λ i n e b u. tt) (AreOnceOver z)
    (stands-kept z few some) (once-stays z) in
    (run-keeps z (((Book × talk.Books) × Unit {0}) × Unit {0})
    (both_books (both_books (λ i n e b. (booked e b.0, talk.adds i n e b.1)) (λ i n e b u. tt)) (λ i n e b u. tt))
    (Both (Both (Stands z) (AreOnceOver z)) (λ i n b u. AreEnded i)) journal (start o) few
    (kept-over z ((Book × talk.Books) × Unit {0}) (both_books (λ i n e b. (booked e b.0, talk.adds i n e b.1)) (λ i n e b u. tt))
    (Both (Stands z) (AreOnceOver z)) (Unit {0}) (λ i n e b u. tt) (λ i n b u. AreEnded i) low
    (λ i n e b u built f k after g. ended-then z few some i n b.0 built k.0 k.1 g.open_calls e f g))
    (record {
      sized = first.sized;
      books = (first.books, tt);
      is = (
        first.is,
        record {
          open_calls = λ k x call e f. absurd (no-call-open o.libraries o.callers 0 k x call e f);
          apart = tt;
          places = tt;
          ends = tt;
        },
      );
    }) run).is.1
