use Rattle.std.proofs.Common.{◌≡◌, ℕ, true, false, Option, Some, None, List, [], ◌∷◌, ◌≤◌, refl, sym, ap, ◌∙◌, subst}
use Rattle.std.specs.List.{AllByRecursion}
use Rattle.std.specs.Prelude.{is_some, slice_get}
use Rattle.dds_attempts.proofs.Found.{call-at}
use Rattle.dds_outcomes.proofs.PointRows.{PointHas, turn-points}
use Rattle.dds_attempts.proofs.Runs.{Stands}
use Rattle.dds_attempts.proofs.Views.{held-open}
use Rattle.dds_base.specs.Number.{Txn}
use Rattle.dds_base.specs.Op.{is_get}
use Rattle.dds_base.specs.declared.number.CallNo.{CallNo}
use Rattle.dds_base.specs.declared.pending.Pending.{Pending}
use Rattle.dds_books.proofs.There.{library-there}
use Rattle.dds_books.specs.Books.{Book, Entry, IsBooked, LibraryListed, NodeListed}
use Rattle.dds_books.specs.Calls.{CallsOk, IsOwned, LibraryIs}
use Rattle.dds_books.specs.Placed.{BrickOk, Made, NodeOk, PendingOk}
use Rattle.dds_cluster.specs.Turn.{points_made, read_by}
use Rattle.dds_cluster.specs.declared.trace.Caller.{Caller}
use Rattle.dds_cluster.specs.declared.trace.Made as trace
use Rattle.dds_commit.proofs.Opens.{each-pending}
use Rattle.dds_core.proofs.Lists.{all-append, all-both, all-is, all-map}
use Rattle.dds_core.specs.Brick.{live_brick_turn}
use Rattle.dds_letters.specs.declared.letter.Letter.{Letter}
use Rattle.dds_letters.specs.declared.letter.Letter.TheVariants as letter
use Rattle.dds_net.proofs.Runs.{IsBuilt}
use Rattle.dds_net.specs.Event.{Event, Fits, History, brick_takes, points_of}
use Rattle.dds_net.specs.Net.{Net, a_brick, Sizes}
use Rattle.dds_once.proofs.Shut.{IsShut}
use Rattle.dds_outcomes.proofs.Entries.{NodeHas, PendingIs}
use Rattle.dds_states.specs.declared.brick_state.BrickState.{BrickState}
use Rattle.dds_states.specs.declared.library_state.LibraryState.{LibraryState}
use Rattle.dds_states.specs.declared.library_state.OpenCall.{OpenCall}
use Rattle.dds_states.specs.declared.turn.Point.{Point}
use Rattle.dds_states.specs.declared.turn.Point.TheVariants as point
use Rattle.dds_talk.proofs.Grounds.{Ground}
use Rattle.dds_talk.specs.Books as talk
use Rattle.dds_talk.specs.Seen.{call_of, is_pending}

-- What a live brick has pending is of an open call, and so is what it applies: none of a call that was answered.

pub record IsOpen (cs : List Caller) (k : ℕ) (call : CallNo) : Type 0 where
  pub who : Caller
  pub there : slice_get cs k ≡ Some who
  pub call_is : who.call ≡ Some call

pub open-shut : (cs : List Caller) (k i : ℕ) (call other : CallNo) → IsOpen cs k call → IsShut cs i other → k ≡ i → call ≡ other → ⊥
open-shut cs k i call other h g e f =
    let same : h.who ≡ g.who = (let two : Some h.who ≡ Some g.who = sym h.there ∙ ap (slice_get cs) e ∙ g.there in cc) in
    g.shut (sym (ap (λ (x : Caller). x.call) same) ∙ h.call_is ∙ ap Some f)

some-is : {X : Type 0} (o : Option X) → is_some o ≡ true → (x : X) × (o ≡ Some x)
some-is None e = cc
some-is (Some x) e = (x, refl)

abbrev IsOpened : List Caller → Pending → Type 0
IsOpened cs p = IsOpen cs p.caller p.call

opened-by : (cs : List Caller) (at : ℕ) (a : Book) (p : Pending) (l : LibraryState) (c : OpenCall) → PendingIs a p → call_of l.calls p.txn ≡ Some c
    → AllByRecursion (IsBooked a) l.calls → AllByRecursion (IsOwned cs at) l.calls → IsOpened cs p
opened-by cs at a p l c asked is booked owned =
    let k = call-at l.calls p.txn c is in
    let b = all-is (IsBooked a) l.calls k.place c booked k.is in
    let w = all-is (IsOwned cs at) l.calls k.place c owned k.is in
    let its : Entry = record { caller = p.caller; call = p.call; op = p.op; list = Some p.list } in
    let same : b.its ≡ its = (let two : Some b.its ≡ Some its = sym b.there ∙ ap a k.txn_is ∙ asked in cc) in
    record {
      who = w.caller;
      there = ap (slice_get cs) (sym (ap (λ (x : Entry). x.caller) same) ∙ b.caller_is) ∙ w.there;
      call_is = w.call ∙ ap Some (sym b.call_is ∙ ap (λ (x : Entry). x.call) same);
    }

module _ (z : Sizes) (few : z.bricks ≤ 64) (some : z.libraries ≤ 16) (h : History) (n : Net) (b : Book × talk.Books) (built : IsBuilt z n)
    (k : Stands z h n b) where
  one-opened : (at : ℕ) (s : BrickState) (p : Pending) → n.node at ≡ a_brick s → s.stopped ≡ false → Made n p.txn → PendingIs b.0 p
      → is_pending s.locks.pending p.txn ≡ true → IsOpened h.callers p
  one-opened at s p here live made asked pending =
      let l = library-there n p.txn made in
      let base : Ground z n = record { few = few; some = some; linked = k.parts.0.0; built = built } in
      let open_call = some-is (call_of l.state.calls p.txn) (held-open z n b.1 p.txn at l.state s base k.parts.1 l.here here live pending) in
      let listed : LibraryListed b.0 l.state = subst (NodeListed b.0 p.txn.library) l.here (k.parts.0.3.nodes p.txn.library) in
      let booked : CallsOk h.callers p.txn.library l.state = subst (LibraryIs (CallsOk h.callers p.txn.library)) l.here (k.parts.0.1.calls p.txn.library) in
      opened-by h.callers p.txn.library b.0 p l.state open_call.0 asked open_call.1 listed.calls booked.owned

  all-opened : (at : ℕ) (s : BrickState) → n.node at ≡ a_brick s → s.stopped ≡ false → AllByRecursion (IsOpened h.callers) s.locks.pending
  all-opened at s here live =
      let ok : BrickOk (Made n) z at s = subst (NodeOk (Made n) z at) here (k.parts.0.2.nodes at) in
      all-map (λ (p : Pending). (PendingOk (Made n) z at p × PendingIs b.0 p) × (is_pending s.locks.pending p.txn ≡ true)) (IsOpened h.callers)
      s.locks.pending (λ p q. one-opened at s p here live q.0.0.0 q.0.1 q.1)
      (all-both (λ (p : Pending). PendingOk (Made n) z at p × PendingIs b.0 p) (λ (p : Pending). is_pending s.locks.pending p.txn ≡ true) s.locks.pending
      (all-both (PendingOk (Made n) z at) (PendingIs b.0) s.locks.pending ok.its_locks.0 (subst (NodeHas b.0 at) here (k.last.pending at)))
      (each-pending s.locks.pending))

  -- the points that are updates
  abbrev pub IsOpenPoint : trace.Made → Type 0
  IsOpenPoint m = is_get m.entry.op ≡ false → IsOpen h.callers m.entry.caller m.entry.call

  reads-open : (place : ℕ) (txn : Txn) (value : Option (List ℕ)) (l : Letter) → AllByRecursion IsOpenPoint (read_by place txn value l)
  reads-open place txn value (letter.Get asked caller call key name stamp) = (λ e. cc, tt)
  reads-open place txn value other = tt

  made-open : (place : ℕ) (l : Letter) (ps : List Point) → AllByRecursion (PointHas (IsOpened h.callers)) ps
      → AllByRecursion IsOpenPoint (points_made place l ps)
  made-open place l [] g = tt
  made-open place l (point.Read txn value ∷ ps) g =
      all-append IsOpenPoint (read_by place txn value l) (points_made place l ps) (reads-open place txn value l) (made-open place l ps g.1)
  made-open place l (point.Applied p was ∷ ps) g = (λ e. g.0, made-open place l ps g.1)

  pub points-open : (e : Event) → Fits z h.callers n e → AllByRecursion IsOpenPoint (points_of h.steps e)
  points-open (brick_takes at from l s) f =
      made-open h.steps l (live_brick_turn s from l).out.points (turn-points (IsOpened h.callers) s from l (all-opened at s f.here f.live))
  points-open other f = tt
