use Rattle.std.proofs.Common.{◌≡◌, ℕ, inl, inr, true, false, Some, List, sym, ap, ◌∙◌, subst}
use Rattle.std.proofs.lemmas.Bool.{both_ways, cases_eq}
use Rattle.std.specs.List.{AllByRecursion}
use Rattle.std.specs.Prelude.{slice_get}
use Rattle.dds_base.specs.declared.number.CallNo.{CallNo}
use Rattle.dds_books.specs.Calls.{AreBooked, CallsOk, LibraryIs}
use Rattle.dds_cluster.specs.Trace.{all_closed, may_call, opens, told_at}
use Rattle.dds_cluster.specs.World.{emptied}
use Rattle.dds_cluster.specs.declared.trace.Asked.{Asked}
use Rattle.dds_cluster.specs.declared.trace.Caller.{Caller}
use Rattle.dds_core.proofs.LetterTells.{MetAt, letter-tells}
use Rattle.dds_core.proofs.Lists.{all-append, all-map}
use Rattle.dds_core.proofs.OrderTells.{InputMet, order-tells}
use Rattle.dds_core.specs.Brick.{brick_input, live_brick_turn}
use Rattle.dds_core.specs.LibraryTurn.{desk_of, live_library_turn, new_request}
use Rattle.dds_net.proofs.Carried.{Becomes, nodes-moved}
use Rattle.dds_net.proofs.Puts.{at-put}
use Rattle.dds_net.specs.Event.{Event, Fits, History, asked_of, asked_turn, goes, moved, opened_of, replies_of}
use Rattle.dds_net.specs.Event.{nothing, unheard, unasked, brick_takes, brick_told, brick_stops, library_takes, library_asked, library_stops}
use Rattle.dds_net.specs.Net.{Net, Node, nowhere, a_brick, a_library, Sizes}
use Rattle.dds_states.specs.declared.library_state.LibraryState.{LibraryState}
use Rattle.dds_due.proofs.CallMaps.{begin-finds}
use Rattle.dds_due.proofs.Callers.{AreOpenFor, Before, all-before, answers-before, answers-behind, may-open, one-open, open-or-told, opened-there}
use Rattle.dds_due.proofs.Callers.{opened_caller, opens-open, opens-other, opens-own, orders-open, some-is}
use Rattle.dds_due.proofs.Turns.{asked-lists, library-opens}
use Rattle.dds_due.specs.Opened.{AreOpened, FindsAll, HasOpen, IsAnsweredOrOpen, Lists, ListsOpen, NodeFinds}

-- Each event keeps which calls are open.

-- a call that nobody takes comes to no library that lives
abbrev pub Heeded : Net → Event → Type 0
Heeded n (unasked at caller call o) = LibraryIs (λ s. s.stopped ≡ true) (n.node at)
Heeded n other = Unit {0}

library-map : (P Q : LibraryState → Type 0) (x : Node) → ((s : LibraryState) → P s → Q s) → LibraryIs P x → LibraryIs Q x
library-map P Q nowhere f h = tt
library-map P Q (a_brick s) f h = tt
library-map P Q (a_library s) f h = f s h

-- callers without some calls
fewer : (cs ds : List Caller) (k : ℕ) (x : Node) → Before cs ds → ListsOpen cs k x → ListsOpen ds k x
fewer cs ds k x b h =
    library-map (λ s. s.stopped ≡ false → Lists cs k s) (λ s. s.stopped ≡ false → Lists ds k s) x
    (λ s f live caller who call there library its. f live caller who call (b caller who call there its) library its) h

-- a caller with a call more, which isn't of the node
opens-fewer : (cs : List Caller) (caller at k : ℕ) (call : CallNo) (s : LibraryState) → may_call (slice_get cs caller) at call ≡ true → (k ≡ at → ⊥)
    → Lists cs k s → Lists (opens cs caller call (slice_get cs caller)) k s
opens-fewer cs caller at k call s may ne h j who next there library its = elim (cases_eq caller j) [
  | inl e ↦
      let m = may-open (slice_get cs caller) at call may in
      let same : opened_caller m.who call ≡ who =
      some-is (opened_caller m.who call) who (sym (opened-there cs caller at call m)
      ∙ subst (λ i. slice_get (opens cs caller call (slice_get cs caller)) i ≡ Some who) (sym e) there) in
      absurd (ne (sym library ∙ ap (λ (x : Caller). x.library) (sym same) ∙ m.library))
  | inr other ↦ h j who next (sym (opens-other cs caller j call (slice_get cs caller) other) ∙ there) library its
]

opens-lists : (cs : List Caller) (caller at k : ℕ) (call : CallNo) (x : Node) → may_call (slice_get cs caller) at call ≡ true
    → (k ≡ at → LibraryIs (λ s. s.stopped ≡ true) x) → ListsOpen cs k x → ListsOpen (opens cs caller call (slice_get cs caller)) k x
opens-lists cs caller at k call nowhere may dead h = tt
opens-lists cs caller at k call (a_brick s) may dead h = tt
opens-lists cs caller at k call (a_library s) may dead h =
    λ live. opens-fewer cs caller at k call s may (λ e. both_ways s.stopped live (dead e)) (h live)

-- a library's own
own-lists : (cs : List Caller) (at : ℕ) (x : Node) (s : LibraryState) → x ≡ a_library s → s.stopped ≡ false → ListsOpen cs at x → Lists cs at s
own-lists cs at x s e live h = subst (ListsOpen cs at) e h live

module _ (z : Sizes) (h : History) (n : Net) (booked : AreBooked h n) (g : AreOpened h n) where
  own-calls : (at : ℕ) (s : LibraryState) → n.node at ≡ a_library s → CallsOk h.callers at s
  own-calls at s e = subst (LibraryIs (CallsOk h.callers at)) e (booked.calls at)

  own-finds : (at : ℕ) (s : LibraryState) → n.node at ≡ a_library s → FindsAll s.map
  own-finds at s e = subst NodeFinds e (g.finds at)

  own : (at : ℕ) (s : LibraryState) → n.node at ≡ a_library s → s.stopped ≡ false → Lists h.callers at s
  own at s e live = own-lists h.callers at (n.node at) s e live (g.opened at)

  pub finds-then : (e : Event) → Fits z h.callers n e → (k : ℕ) → NodeFinds ((moved z n e).node k)
  finds-then e f = nodes-moved (λ k x. NodeFinds x) z n e g.finds (becomes e f)
    where
      becomes : (e : Event) → Fits z h.callers n e → Becomes (λ k x. NodeFinds x) e
      becomes (library_takes at from l s) f =
          (library-opens h.callers at s from l (own-calls at s f.here) (own-finds at s f.here) (own at s f.here f.live)).finds
      becomes (library_asked at caller call o s) f = (begin-finds (desk_of s s.calls) (new_request caller call o) (own-finds at s f.here)).map
      becomes (library_stops at s left) f = own-finds at s f.here
      becomes nothing f = tt
      becomes (unheard at from l) f = tt
      becomes (unasked at caller call o) f = tt
      becomes (brick_takes at from l s) f = tt
      becomes (brick_told at o s) f = tt
      becomes (brick_stops at s left) f = tt

  -- who answers
  pub event-opens : (e : Event) → Fits z h.callers n e → AreOpenFor (opened_of h.callers e) (replies_of e)
  event-opens (brick_takes at from l s) f = orders-open (MetAt s from l) h.callers _ (letter-tells s from l).replies
  event-opens (brick_told at o s) f = orders-open (InputMet s o) h.callers _ (order-tells {L = λ to l. ⊥} s o).replies
  event-opens (library_takes at from l s) f =
      (library-opens h.callers at s from l (own-calls at s f.here) (own-finds at s f.here) (own at s f.here f.live)).opened
  event-opens (library_asked at caller call o s) f =
      one-open (opens h.callers caller call (slice_get h.callers caller)) caller call _ _ (opens-own h.callers caller at call f.may)
  event-opens nothing f = tt
  event-opens (unheard at from l) f = tt
  event-opens (unasked at caller call o) f = tt
  event-opens (brick_stops at s left) f = tt
  event-opens (library_stops at s left) f = tt

  -- the lists
  pub lists-then : (e : Event) → Fits z h.callers n e → Heeded n e → (k : ℕ) → ListsOpen (goes h e).callers k ((moved z n e).node k)
  lists-then nothing f w k = g.opened k
  lists-then (unheard at from l) f w k = nodes-moved (ListsOpen h.callers) z n (unheard at from l) g.opened tt k
  lists-then (unasked at caller call o) f w k =
      opens-lists h.callers caller at k call (n.node k) f (λ e. subst (λ i. LibraryIs (λ s. s.stopped ≡ true) (n.node i)) (sym e) w) (g.opened k)
  lists-then (brick_takes at from l s) f w k =
      let rs = (live_brick_turn s from l).out.replies in
      at-put (ListsOpen (all_closed h.callers rs)) at (a_brick (live_brick_turn s from l).state) n.node tt
      (λ j ne. fewer h.callers (all_closed h.callers rs) j (n.node j) (all-before h.callers rs) (g.opened j)) k
  lists-then (brick_told at o s) f w k =
      let rs = (brick_input s o).out.replies in
      at-put (ListsOpen (all_closed h.callers rs)) at (a_brick (brick_input s o).state) n.node tt
      (λ j ne. fewer h.callers (all_closed h.callers rs) j (n.node j) (all-before h.callers rs) (g.opened j)) k
  lists-then (brick_stops at s left) f w k = at-put (ListsOpen h.callers) at (a_brick (emptied s.number)) n.node tt (λ k ne. g.opened k) k
  lists-then (library_takes at from l s) f w k =
      let t = live_library_turn s from l in
      let rs = t.out.replies in
      at-put (ListsOpen (all_closed h.callers rs)) at (a_library t.state) n.node
      (λ live. (library-opens h.callers at s from l (own-calls at s f.here) (own-finds at s f.here) (own at s f.here f.live)).lists)
      (λ j ne. fewer h.callers (all_closed h.callers rs) j (n.node j) (all-before h.callers rs) (g.opened j)) k
  lists-then (library_asked at caller call o s) f w k =
      let t = asked_turn s caller call o in
      let rs = t.out.replies in
      let cs = h.callers in
      let ds = opens cs caller call (slice_get cs caller) in
      let m = may-open (slice_get cs caller) at call f.may in
      at-put (ListsOpen (all_closed ds rs)) at (a_library t.state) n.node
      (λ live. asked-lists cs ds at caller call o s (own-finds at s f.here) (own at s f.here f.live)
      (λ j who next ne there. sym (opens-other cs caller j call (slice_get cs caller) ne) ∙ there)
      (λ who next there its.
      some-is call next (ap (λ (x : Caller). x.call) (some-is (opened_caller m.who call) who (sym (opened-there cs caller at call m) ∙ there)) ∙ its)))
      (λ j ne. fewer ds (all_closed ds rs) j (n.node j) (all-before ds rs)
      (opens-lists cs caller at j call (n.node j) f.may (λ e. absurd (ne e)) (g.opened j))) k
  lists-then (library_stops at s left) f w k =
      at-put (ListsOpen h.callers) at (a_library (record s { stopped = true })) n.node (λ live. cc) (λ j ne. g.opened j) k

  -- the calls that were asked
  after-event : (e : Event) → Fits z h.callers n e → (a : Asked) → HasOpen (opened_of h.callers e) a.caller a.call
      → IsAnsweredOrOpen (goes h e).callers (goes h e).told a
  after-event e f a k = elim (open-or-told (opened_of h.callers e) h.steps a.caller a.call (replies_of e) (event-opens e f) k) [
    | inl told ↦ inl (answers-behind h.told (told_at h.steps (replies_of e)) a.caller a.call told)
    | inr later ↦ inr later
  ]

  still-has : (e : Event) → Fits z h.callers n e → (k : ℕ) (call : CallNo) → HasOpen h.callers k call → HasOpen (opened_of h.callers e) k call
  still-has (library_asked at caller call o s) f k other m = opens-open h.callers caller at k call other f.may m
  still-has (unasked at caller call o) f k other m = opens-open h.callers caller at k call other f m
  still-has other f k call m = m

  new-asked : (e : Event) → Fits z h.callers n e → AllByRecursion (λ (a : Asked). HasOpen (opened_of h.callers e) a.caller a.call) (asked_of h.steps e)
  new-asked (library_asked at caller call o s) f = (opens-own h.callers caller at call f.may, tt)
  new-asked (unasked at caller call o) f = (opens-own h.callers caller at call f, tt)
  new-asked other f = tt

  pub asked-then : (e : Event) → Fits z h.callers n e → AllByRecursion (IsAnsweredOrOpen (goes h e).callers (goes h e).told) (goes h e).asked
  asked-then e f =
      let P = IsAnsweredOrOpen (goes h e).callers (goes h e).told in
      all-append P h.asked (asked_of h.steps e)
      (all-map (IsAnsweredOrOpen h.callers h.told) P h.asked (λ a k. elim k [
        | inl told ↦ inl (answers-before h.told (told_at h.steps (replies_of e)) a.caller a.call told)
        | inr its ↦ after-event e f a (still-has e f a.caller a.call its)
      ]) g.asked)
      (all-map (λ (a : Asked). HasOpen (opened_of h.callers e) a.caller a.call) P (asked_of h.steps e) (λ a k. after-event e f a k) (new-asked e f))

  pub opened-then : (e : Event) → Fits z h.callers n e → Heeded n e → AreOpened (goes h e) (moved z n e)
  opened-then e f w = record { finds = finds-then e f; opened = lists-then e f w; asked = asked-then e f }
