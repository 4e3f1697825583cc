use Rattle.std.proofs.Common.{◌≡◌, ℕ, ◌+◌, ◌==◌, ◌&&◌, Bool, true, Option, Some, None, List, [], ◌∷◌, refl, sym, ap, ◌∙◌, subst}
use Rattle.std.proofs.lemmas.Bool.{and_parts, eqb-true}
use Rattle.std.proofs.lemmas.Option.{slice_get_within}
use Rattle.std.specs.List.{AllByRecursion}
use Rattle.std.specs.Prelude.{is_none, nat_le, slice_get}
use Rattle.dds_base.specs.NodeSet.{with_node}
use Rattle.dds_base.specs.declared.node_set.NodeSet.{NodeSet}
use Rattle.dds_base.specs.declared.number.CallNo.{CallNo}
use Rattle.dds_base.specs.declared.number.CallerNo.{CallerNo}
use Rattle.dds_base.specs.declared.number.NodeNo.{NodeNo}
use Rattle.dds_call_rows.specs.Library.{begin}
use Rattle.dds_core.specs.Brick.{brick_input, live_brick_turn}
use Rattle.dds_core.specs.LibraryTurn.{desk_of, live_library_turn, new_request}
use Rattle.dds_letters.specs.declared.letter.Letter.{Letter}
use Rattle.dds_letters.specs.declared.letter.Letter.TheVariants as letter
use Rattle.dds_script.specs.Opening.{OpeningOf}
use Rattle.dds_states.specs.Turn.{no_out}
use Rattle.dds_states.specs.declared.library_state.LibraryState.{LibraryState}
use Rattle.dds_states.specs.declared.library_state.OpenCall.{OpenCall}
use Rattle.dds_states.specs.declared.turn.Replied.{Replied}
use Rattle.dds_states.specs.declared.turn.Replied.TheVariants as replied
use Rattle.dds_cluster.proofs.Sizes.{sized-start}
use Rattle.dds_cluster.specs.Trace.{all_closed, may_call, opens, start}
use Rattle.dds_cluster.specs.World.{emptied}
use Rattle.dds_cluster.specs.declared.trace.Caller.{Caller}
use Rattle.dds_net.proofs.Nodes.{get-set-other, get-set-same}
use Rattle.dds_core.proofs.LetterTells.{Says, letter-tells}
use Rattle.dds_core.proofs.OrderTells.{order-tells}
use Rattle.dds_core.proofs.Tells.{AllSends, Given, Gives, Sends, Sent}
use Rattle.dds_core.proofs.CallTurns.{heard, library-keeps}
use Rattle.dds_core.proofs.Lists.{all-map}
use Rattle.dds_net.proofs.Letters.{does-sent, stops-sent, takes-sent}
use Rattle.dds_net.proofs.Opening.{IsNew, new_a_brick, new_a_library, no_node, start-channel, start-node}
use Rattle.dds_net.proofs.Puts.{at-put}
use Rattle.dds_net.proofs.Runs.{IsKept, run-keeps}
use Rattle.dds_net.specs.Event.{nothing, unheard, unasked, brick_takes, brick_told, brick_stops, library_takes, library_asked, library_stops, History}
use Rattle.dds_net.specs.Event.{asked_turn, history_of}
use Rattle.dds_net.specs.Net.{Net, Node, nowhere, a_brick, a_library, Sizes, net, put, sizes_of}
use Rattle.dds_books.specs.Calls.{AreBooked, CallsAreBooked, CallsOk, IsNoPrepare, IsOwned, LibraryIs, PrepareOk, SentOk}
use Rattle.dds_books.proofs.CallGoes.{LetterGoes}
use Rattle.dds_books.proofs.CallGoes as rows
use Rattle.dds_books.proofs.Turns.{Beside, Booked, OthersStay, Owner, calls-after, end-with, one-keeps, others-after, others-then, prepare-later, prepare-new}

-- Each event keeps what is so of calls and prepares.

-- bricks answer no call, and send no prepare
orders-only : (M : Given) (cs : List Caller) (rs : List Replied) → AllByRecursion (Gives M) rs → all_closed cs rs ≡ cs
orders-only M cs [] h = refl
orders-only M cs (replied.Order r ∷ rs) h = orders-only M cs rs h.1
orders-only M cs (replied.Call read caller call r ∷ rs) h = absurd h.0

no-prepare : (L : Sent) (to : NodeNo) (l : Letter) → Sends L to l → IsNoPrepare l
no-prepare L to (letter.Prepare txn a b below name stamp list op) h = h
no-prepare L to other h = tt

no-prepares : (L : Sent) (ls : List (NodeNo × Letter)) → AllSends L ls → AllByRecursion (λ (p : NodeNo × Letter). IsNoPrepare p.1) ls
no-prepares L ls h = all-map (λ (p : NodeNo × Letter). Sends L p.0 p.1) (λ p. IsNoPrepare p.1) ls (λ p k. no-prepare L p.0 p.1 k) h

-- a library's calls where other libraries' callers change
calls-stay : (cs ds : List Caller) (at k : ℕ) (s : LibraryState) → OthersStay at cs ds → (k ≡ at → ⊥) → CallsOk cs k s → CallsOk ds k s
calls-stay cs ds at k s o ne h =
    record {
      below = h.below;
      owned = all-map (IsOwned cs k) (IsOwned ds k) s.calls (λ c w. record {
        caller = w.caller;
        there =
            o.stay c.request.caller w.caller w.there (λ e. ne (sym w.library ∙ e));
        library = w.library;
        call = w.call;
      }) h.owned;
      apart = h.apart;
    }

library-map : (P Q : LibraryState → Type 0) (x : Node) → ((s : LibraryState) → P s → Q s) → LibraryIs P x → LibraryIs Q x
library-map P Q nowhere f h = tt
library-map P Q (a_brick s) f h = tt
library-map P Q (a_library s) f h = f s h

prepare-same : (s : LibraryState) (known : NodeSet) (stopped : Bool) (l : Letter) → PrepareOk s l → PrepareOk (record s { known = known; stopped = stopped }) l
prepare-same s known stopped (letter.Prepare txn a b below name stamp list op) h = h
prepare-same s known stopped other h = tt

calls-same : (cs : List Caller) (at : ℕ) (s : LibraryState) (known : NodeSet) (stopped : Bool) → CallsOk cs at s
    → CallsOk cs at (record s { known = known; stopped = stopped })
calls-same cs at s known stopped h = record { below = h.below; owned = h.owned; apart = h.apart }

-- what a node did that has these callers and letters afterwards
brick-books : (z : Sizes) (h : History) (n : Net) (at : ℕ) (y : Node) (cs : List Caller) → LibraryIs (CallsOk h.callers at) y → cs ≡ h.callers → AreBooked h n
    → (k : ℕ) → LibraryIs (CallsOk cs k) (put at y n.node k)
brick-books z h n at y cs own e g = subst (λ ds. (k : ℕ) → LibraryIs (CallsOk ds k) (put at y n.node k)) (sym e)
    (at-put (λ k x. LibraryIs (CallsOk h.callers k) x) at y n.node own (λ k ne. g.calls k))

library-books : (h : History) (n : Net) (at : ℕ) (s : LibraryState) (cs : List Caller) → CallsOk cs at s → OthersStay at h.callers cs → AreBooked h n → (k : ℕ)
    → LibraryIs (CallsOk cs k) (put at (a_library s) n.node k)
library-books h n at s cs own o g = at-put (λ k x. LibraryIs (CallsOk cs k) x) at (a_library s) n.node own
    (λ k ne. library-map (CallsOk h.callers k) (CallsOk cs k) (n.node k) (λ t c. calls-stay h.callers cs at k t o ne c) (g.calls k))

-- a call comes
pub record MayCall (o : Option Caller) (at : ℕ) : Type 0 where
  pub who : Caller
  pub there : o ≡ Some who
  pub library : who.library ≡ at
  pub free : who.call ≡ None

none-is : (o : Option CallNo) → is_none o ≡ true → o ≡ None
none-is None e = refl
none-is (Some c) e = cc

may-is : (o : Option Caller) (at : ℕ) (call : CallNo) → may_call o at call ≡ true → MayCall o at
may-is None at call e = cc
may-is (Some c) at call e =
    let p = and_parts (c.library == at) (is_none c.call && nat_le c.least call.0) e in
    let q = and_parts (is_none c.call) (nat_le c.least call.0) p.1 in
    record { who = c; there = refl; library = eqb-true c.library at p.0; free = none-is c.call q.0 }

some-is : {X : Type 0} (x y : X) → Some x ≡ Some y → x ≡ y
some-is x y e = cc

free-apart : (cs : List Caller) (caller at k : ℕ) (d : OpenCall) → MayCall (slice_get cs caller) at → IsOwned cs k d → caller ≡ d.request.caller → ⊥
free-apart cs caller at k d m w e =
    let is : m.who ≡ w.caller = some-is m.who w.caller (sym m.there ∙ ap (slice_get cs) e ∙ w.there) in
    let none : None ≡ Some d.request.call = sym m.free ∙ ap (λ (x : Caller). x.call) is ∙ w.call in
    cc

opens-other : (cs : List Caller) (caller k : ℕ) (call : CallNo) (o : Option Caller) → (k ≡ caller → ⊥) → slice_get (opens cs caller call o) k ≡ slice_get cs k
opens-other cs caller k call None ne = refl
opens-other cs caller k call (Some x) ne = get-set-other cs caller k _ (λ e. ne (sym e))

opened-owned : (cs : List Caller) (caller at k : ℕ) (call : CallNo) (xs : List OpenCall) → MayCall (slice_get cs caller) at → AllByRecursion (IsOwned cs k) xs
    → AllByRecursion (IsOwned (opens cs caller call (slice_get cs caller)) k) xs
opened-owned cs caller at k call xs m h = all-map (IsOwned cs k) _ xs (λ d w. record {
  caller = w.caller;
  there =
      opens-other cs caller d.request.caller call (slice_get cs caller) (λ e. free-apart cs caller at k d m w (sym e)) ∙ w.there;
  library = w.library;
  call =
      w.call;
}) h

opened-owner : (cs : List Caller) (caller at : ℕ) (call : CallNo) → MayCall (slice_get cs caller) at
    → Owner (opens cs caller call (slice_get cs caller)) at caller call
opened-owner cs caller at call m =
    record {
      who = record m.who { call = Some call; least = call.0 + 1 };
      there = ap (λ o. slice_get (opens cs caller call o) caller) m.there ∙ get-set-same cs caller _ (slice_get_within cs caller m.who m.there);
      library = m.library;
      call_is = refl;
    }

opened-others : (cs : List Caller) (caller at : ℕ) (call : CallNo) → MayCall (slice_get cs caller) at
    → OthersStay at cs (opens cs caller call (slice_get cs caller))
opened-others cs caller at call m = record {
  stay = λ k x e ne. opens-other cs caller k call (slice_get cs caller)
      (λ same. ne (let is : x ≡ m.who = some-is x m.who (sym e ∙ ap (slice_get cs) same ∙ m.there) in ap (λ (y : Caller). y.library) is ∙ m.library)) ∙ e;
}

asked-beside : (cs : List Caller) (at : ℕ) (caller : CallerNo) (call : CallNo) (s : LibraryState) → MayCall (slice_get cs caller) at → CallsOk cs at s
    → Beside (opens cs caller call (slice_get cs caller)) at s.next s.calls caller call None
asked-beside cs at caller call s m h =
    record {
      below = h.below;
      owned = opened-owned cs caller at at call s.calls m h.owned;
      apart = h.apart;
      owner = opened-owner cs caller at call m;
      callers = all-map (IsOwned cs at) _ s.calls (λ d w e. free-apart cs caller at at d m w e) h.owned;
      attempts = λ txn e. cc;
    }

-- the library's own, from what is so of its node
own-calls : (h : History) (n : Net) (at : ℕ) (s : LibraryState) → n.node at ≡ a_library s → AreBooked h n → CallsOk h.callers at s
own-calls h n at s e g = subst (LibraryIs (CallsOk h.callers at)) e (g.calls at)

pub heard-books : (cs : List Caller) (at : ℕ) (s : LibraryState) (from : NodeNo) (l : Letter) → CallsOk cs at s → Booked s cs at (heard s from l) no_out
heard-books cs at s from letter.Notice h = record {
  calls = calls-same cs at s (with_node s.known from) s.stopped h;
  others = record { stay = λ k x e ne. e };
  later = λ l k. prepare-same s (with_node s.known from) s.stopped l k;
  letters = tt;
}
heard-books cs at s from other h = record { calls = h; others = record { stay = λ k x e ne. e }; later = λ l k. k; letters = tt }

sent-from : (n : Net) (at : ℕ) (x y : Node) → n.node at ≡ x → ((l : Letter) → SentOk at x l → SentOk at y l) → (l : Letter) → SentOk at (n.node at) l
    → SentOk at y l
sent-from n at x y e f l h = f l (subst (λ k. SentOk at k l) e h)

pub calls-kept : (z : Sizes) → IsKept z (Unit {0}) (λ h n e b. tt) (λ h n b. AreBooked h n)
calls-kept z h n nothing b u f g = record { calls = g.calls; letters = g.letters }
calls-kept z h n (unheard at from l) b u f g = record {
  calls = brick-books z h n at (n.node at) h.callers (g.calls at) refl g;
  letters =
      takes-sent SentOk z n at from (n.node at) [] (record { later = λ m k. k; new = tt }) g.letters;
}
calls-kept z h n (unasked at caller call o) b u f g =
    let m = may-is (slice_get h.callers caller) at call f in
    record {
      calls = λ k. library-map (CallsOk h.callers k) _ (n.node k) (λ s c. record {
        below = c.below;
        owned =
            opened-owned h.callers caller at k call s.calls m c.owned;
        apart = c.apart;
      }) (g.calls k);
      letters = g.letters;
    }
calls-kept z h n (brick_takes at from l s) b u f g =
    let t = live_brick_turn s from l in
    let k = letter-tells s from l in
    record {
      calls = brick-books z h n at (a_brick t.state) _ tt (orders-only _ h.callers t.out.replies k.replies) g;
      letters = takes-sent SentOk z n at from (a_brick t.state) t.out.letters (record {
        later = sent-from n at (a_brick s) (a_brick t.state) f.here (λ m x. x);
        new = no-prepares (Says s from l) t.out.letters k.letters;
      }) g.letters;
    }
calls-kept z h n (brick_told at o s) b u f g =
    let t = brick_input s o in
    let k = order-tells {L = λ to l. ⊥} s o in
    record {
      calls = brick-books z h n at (a_brick t.state) _ tt (orders-only _ h.callers t.out.replies k.replies) g;
      letters = does-sent SentOk z n at (a_brick t.state) t.out.letters (record {
        later = sent-from n at (a_brick s) (a_brick t.state) f.here (λ m x. x);
        new =
            no-prepares (λ to l. ⊥) t.out.letters k.letters;
      }) g.letters;
    }
calls-kept z h n (brick_stops at s left) b u f g =
    record {
      calls = brick-books z h n at (a_brick (emptied s.number)) h.callers tt refl g;
      letters = stops-sent SentOk z n at (a_brick (emptied s.number)) left f.left.front (sent-from n at (a_brick s) (a_brick (emptied s.number)) f.here
          (λ m x. x)) tt g.letters;
    }
calls-kept z h n (library_takes at from l s) b u f g =
    let t = live_library_turn s from l in
    let k = library-keeps (Booked s h.callers at) s from l (one-keeps s h.callers at from l)
    (heard-books h.callers at s from l (own-calls h n at s f.here g)) in
    record {
      calls = library-books h n at t.state _ k.calls k.others g;
      letters = takes-sent SentOk z n at from (a_library t.state) t.out.letters (record {
        later =
            sent-from n at (a_library s) (a_library t.state) f.here k.later;
        new = k.letters;
      }) g.letters;
    }
calls-kept z h n (library_asked at caller call o s) b u f g =
    let r = new_request caller call o in
    let d = desk_of s s.calls in
    let t = begin d r in
    let turn = asked_turn s caller call o in
    let m = may-is (slice_get h.callers caller) at call f.may in
    let cs = opens h.callers caller call (slice_get h.callers caller) in
    let own = own-calls h n at s f.here g in
    let beside = asked-beside h.callers at caller call s m own in
    let w = end-with s.calls t.went.call in
    let goes_so = rows.begin {old = None} d r in
    record {
      calls = library-books h n at turn.state _ (calls-after cs at s.calls caller call _ t turn.state beside goes_so refl w)
          (others-then at h.callers cs _ (opened-others h.callers caller at call m) (others-after cs at s.calls caller call _ t.went.reply beside)) g;
      letters = does-sent SentOk z n at (a_library turn.state) turn.out.letters (record {
        later = sent-from n at (a_library s) (a_library turn.state) f.here (λ l k. prepare-later s.calls cs at s.calls caller call t s turn.state l refl
            (λ below a. a) (λ below x e a. cc) goes_so refl w k);
        new = all-map (λ (p : NodeNo × Letter). LetterGoes d.numbers t.desk.numbers.next t.went.call p.1) _ t.went.letters
            (λ p k. prepare-new s.calls caller call t turn.state p.1 refl goes_so refl w k) goes_so.letters;
      }) g.letters;
    }
calls-kept z h n (library_stops at s left) b u f g =
    let x = record s { stopped = true } in
    record {
      calls = library-books h n at x h.callers (calls-same h.callers at s s.known true (own-calls h n at s f.here g)) (record { stay = λ k y e ne. e }) g;
      letters = stops-sent SentOk z n at (a_library x) left f.left.front (sent-from n at (a_library s) (a_library x) f.here
          (λ l k. prepare-same s s.known true l k)) tt g.letters;
    }

-- the opening
new-calls : (o : OpeningOf) (n : ℕ) (x : Node) → IsNew o n x → LibraryIs (CallsOk (start o).callers n) x
new-calls o n x (no_node e) = subst (LibraryIs (CallsOk (start o).callers n)) (sym e) tt
new-calls o n x (new_a_brick e) = subst (LibraryIs (CallsOk (start o).callers n)) (sym e) tt
new-calls o n x (new_a_library high e) = subst (LibraryIs (CallsOk (start o).callers n)) (sym e) (record { below = tt; owned = tt; apart = tt })

pub start-booked : (o : OpeningOf) → AreBooked (history_of (start o)) (net (sizes_of o) (start o).world)
start-booked o =
    let n = net (sizes_of o) (start o).world in
    record {
      calls = λ k. new-calls o k (n.node k) (start-node o k);
      letters = λ a b. subst (AllByRecursion (SentOk a (n.node a))) (sym (start-channel o a b)) tt;
    }

pub calls-are-booked : CallsAreBooked
calls-are-booked o journal ranges run =
    let z = sizes_of o in
    (run-keeps z (Unit {0}) (λ h n e b. tt) (λ h n b. AreBooked h n) journal (start o) ranges.bricks (calls-kept z)
    (record { sized = sized-start o; books = tt; is = start-booked o }) run).is
