use Rattle.std.proofs.Common.{◌≡◌, ℕ, zero, suc, ◌+◌, ◌%◌, true, Option, Some, None, List}
use Rattle.std.proofs.Common.{refl, sym}
use Rattle.std.proofs.Common.{ap, ◌∙◌, subst}
use Rattle.std.proofs.lemmas.Option.{slice_get_within}
use Rattle.std.specs.Prelude.{slice_get}
use Rattle.dds_base.specs.Number.{Txn}
use Rattle.dds_base.specs.declared.number.CallNo.{CallNo}
use Rattle.dds_base.specs.declared.number.NodeNo.{NodeNo}
use Rattle.dds_base.specs.declared.op.Reply.{Reply}
use Rattle.dds_books.proofs.Keeps.{calls-kept, start-booked}
use Rattle.dds_books.proofs.Turns.{Booked, one-keeps}
use Rattle.dds_books.specs.Calls.{AreBooked, CallsOk, IsOwned, LibraryIs, PrepareOk}
use Rattle.dds_cluster.proofs.Sizes.{sized-start}
use Rattle.dds_cluster.specs.Trace.{all_closed, is_run, may_call, new_callers, opens, run_of, start}
use Rattle.dds_cluster.specs.declared.step.Step.{Step}
use Rattle.dds_cluster.specs.declared.trace.Caller.{Caller}
use Rattle.dds_core.proofs.CallTurns.{OneKeeps, heard, library-keeps}
use Rattle.dds_core.proofs.LetterTells.{MetAt, letter-tells}
use Rattle.dds_core.proofs.Lists.{all-is}
use Rattle.dds_core.proofs.OrderTells.{InputMet, order-tells}
use Rattle.dds_core.specs.LibraryTurn.{live_library_turn}
use Rattle.dds_core.specs.LibraryTurn as core
use Rattle.dds_letters.specs.declared.letter.Letter.{Letter}
use Rattle.dds_letters.specs.declared.letter.Letter.TheVariants as letter
use Rattle.dds_net.proofs.Nodes.{get-set-same}
use Rattle.dds_net.proofs.Rungs.{IsKeptOver, kept-over}
use Rattle.dds_net.proofs.Runs.{run-keeps}
use Rattle.dds_net.specs.Event.{Event, nothing, unheard, unasked, brick_takes, brick_told, brick_stops, library_takes, library_asked, library_stops}
use Rattle.dds_net.specs.Event.{Fits, History, opened_of, replies_of}
use Rattle.dds_net.specs.Net.{Net, Sizes, sizes_of}
use Rattle.dds_script.specs.Opening.{OpeningOf, ranges_of}
use Rattle.dds_script.specs.Ranges.{IsRanges}
use Rattle.dds_states.specs.Turn.{no_out}
use Rattle.dds_states.specs.declared.library_state.LibraryState.{LibraryState}
use Rattle.dds_states.specs.declared.turn.CoreTurn.{CoreTurn}
use Rattle.dds_calls.proofs.Shutting.{AreOpenFor, Telling, may-open, one-open, open-append, opened_caller}
use Rattle.dds_calls.proofs.Shutting.{opens-telling}
use Rattle.dds_calls.proofs.Shutting.{orders-open, told-all}

-- Only open calls are answered, so no call is answered twice.

-- a library's turn answers open calls

record Opens (old : LibraryState) (cs : List Caller) (at : ℕ) (s : LibraryState) (out : CoreTurn) : Type 0 where
  booked : Booked old cs at s out
  opened : AreOpenFor cs out.replies

one-opens : (old : LibraryState) (cs : List Caller) (at : ℕ) (from : NodeNo) (l : Letter) → OneKeeps (Opens old cs at) from l
one-opens old cs at from l s out place c e concerns h =
    let ds = all_closed cs out.replies in
    let mine = all-is (IsOwned ds at) s.calls place c h.booked.calls.owned e in
    record {
      booked = one-keeps old cs at from l s out place c e concerns h.booked;
      opened = open-append cs out.replies _ h.opened
          (one-open ds c.request.caller c.request.call c.txn _ (record { who = mine.caller; there = mine.there; call_is = mine.call }));
    }

heard-opens : (cs : List Caller) (at : ℕ) (s : LibraryState) (from : NodeNo) (l : Letter) → CallsOk cs at s → Opens s cs at (heard s from l) no_out
heard-opens cs at s from letter.Notice h =
    record {
      booked = record {
        calls = record { below = h.below; owned = h.owned; apart = h.apart };
        others = record { stay = λ k x e ne. e };
        later = λ l k. prepare-same l k;
        letters = tt;
      };
      opened = tt;
    }
  where
    prepare-same : (l : Letter) → PrepareOk s l → PrepareOk (heard s from letter.Notice) l
    prepare-same (letter.Prepare txn caller call below name stamp list op) k = k
    prepare-same other k = tt
heard-opens cs at s from other h =
    record { booked = record { calls = h; others = record { stay = λ k x e ne. e }; later = λ l k. k; letters = tt }; opened = tt }

takes-opens : (cs : List Caller) (at : ℕ) (s : LibraryState) (from : NodeNo) (l : Letter) → CallsOk cs at s
    → AreOpenFor cs (live_library_turn s from l).out.replies
takes-opens cs at s from l h = (library-keeps (Opens s cs at) s from l (one-opens s cs at from l) (heard-opens cs at s from l h)).opened

asked-opens : (cs : List Caller) (at caller : ℕ) (call : CallNo) (txn : Txn) (o : Option Reply) → may_call (slice_get cs caller) at call ≡ true
    → AreOpenFor (opens cs caller call (slice_get cs caller)) (core.replies_of caller call txn o)
asked-opens cs at caller call txn o may =
    let m = may-open (slice_get cs caller) at call may in
    one-open _ caller call txn o (record {
      who = opened_caller m.who call;
      there = ap (λ x. slice_get (opens cs caller call x) caller) m.there ∙ get-set-same cs caller _ (slice_get_within cs caller m.who m.there);
      call_is = refl;
    })

-- Each event

event-opens : (z : Sizes) (h : History) (n : Net) (e : Event) → Fits z h.callers n e → AreBooked h n → AreOpenFor (opened_of h.callers e) (replies_of e)
event-opens z h n (brick_takes at from l s) f g = orders-open (MetAt s from l) h.callers _ (letter-tells s from l).replies
event-opens z h n (brick_told at o s) f g = orders-open (InputMet s o) h.callers _ (order-tells {L = λ to l. ⊥} s o).replies
event-opens z h n (library_takes at from l s) f g = takes-opens h.callers at s from l (subst (LibraryIs (CallsOk h.callers at)) f.here (g.calls at))
event-opens z h n (library_asked at caller call o s) f g = asked-opens h.callers at caller call _ _ f.may
event-opens z h n nothing f g = tt
event-opens z h n (unheard at from l) f g = tt
event-opens z h n (unasked at caller call o) f g = tt
event-opens z h n (brick_stops at s left) f g = tt
event-opens z h n (library_stops at s left) f g = tt

opened-telling : (z : Sizes) (h : History) (n : Net) (e : Event) → Fits z h.callers n e → Telling h.callers h.told → Telling (opened_of h.callers e) h.told
opened-telling z h n (unasked at caller call o) f g = opens-telling h.callers caller at call h.told f g
opened-telling z h n (library_asked at caller call o s) f g = opens-telling h.callers caller at call h.told f.may g
opened-telling z h n nothing f g = g
opened-telling z h n (unheard at from l) f g = g
opened-telling z h n (brick_takes at from l s) f g = g
opened-telling z h n (brick_told at o s) f g = g
opened-telling z h n (brick_stops at s left) f g = g
opened-telling z h n (library_takes at from l s) f g = g
opened-telling z h n (library_stops at s left) f g = g

pub telling-kept : (z : Sizes) → IsKeptOver z (Unit {0}) (λ h n e b. tt) (λ h n b. AreBooked h n) (Unit {0}) (λ h n e b u. tt)
    (λ h n b u. Telling h.callers h.told)
telling-kept z h n e b u built f low after g =
    told-all (opened_of h.callers e) h.told h.steps (replies_of e) (event-opens z h n e f low) (opened-telling z h n e f g)

-- the opening: no call is open
new-shut : (libraries k n i : ℕ) (c : Caller) → slice_get (new_callers libraries k n) i ≡ Some c → c.call ≡ None
new-shut libraries zero n i c e = cc
new-shut libraries (suc k) n zero c e =
    let is : record { library = 64 + n % libraries; call = None; least = 0 } ≡ c = cc in
    ap (λ (x : Caller). x.call) (sym is)
new-shut libraries (suc k) n (suc i) c e = new-shut libraries k (n + 1) i c e

pub run-telling : (o : OpeningOf) (journal : List Step) → IsRanges (ranges_of o) → is_run o journal ≡ true
    → Telling (run_of o journal).callers (run_of o journal).told
run-telling o journal ranges run =
    let z = sizes_of o in
    (run-keeps z (Unit {0} × Unit {0}) _ _ journal (start o) ranges.bricks
    (kept-over z (Unit {0}) (λ h n e b. tt) (λ h n b. AreBooked h n) (Unit {0}) (λ h n e b u. tt) (λ h n b u. Telling h.callers h.told) (calls-kept z)
    (telling-kept z))
    (record {
      sized = sized-start o;
      books = (tt, tt);
      is = (
        start-booked o,
        record {
          shut = tt;
          once = tt;
          opened = λ i c k there is. let no : None ≡ Some k = sym (new-shut o.libraries o.callers 0 i c there) ∙ is in cc;
        },
      );
    }) run).is.1
