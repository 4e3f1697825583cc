use Rattle.std.proofs.Common.{◌≡◌, ℕ, ◌≤◌, ◌||◌, Bool, true, false, Option, Some, None, List, [], ◌∷◌, refl, sym, ap, ◌∙◌, subst}
use Rattle.std.specs.FinMap.{get}
use Rattle.std.specs.List.{AllByRecursion}
use Rattle.std.specs.Prelude.{is_some}
use Rattle.dds_base.specs.Number.{Txn}
use Rattle.dds_base.specs.declared.pending.Pending.{Pending}
use Rattle.dds_books.proofs.There.{library-there}
use Rattle.dds_books.specs.Books.{AreListed, Book, Entry, IsBooked, LibraryListed, NodeListed}
use Rattle.dds_books.specs.Calls.{LibraryIs}
use Rattle.dds_books.specs.Placed.{ArePlaced, BrickOk, Made, NodeOk, PendingOk}
use Rattle.dds_cluster.specs.Turn.{points_made, read_by}
use Rattle.dds_cluster.specs.declared.trace.Made as trace
use Rattle.dds_commit.proofs.Opens.{each-pending}
use Rattle.dds_core.proofs.Lists.{all-append, all-both, all-is, all-map}
use Rattle.dds_letters.specs.declared.letter.Letter.{Letter}
use Rattle.dds_letters.specs.declared.letter.Letter.TheVariants as letter
use Rattle.dds_net.specs.Net.{Net, a_brick, Sizes}
use Rattle.dds_outcomes.proofs.Entries.{ArePending, NodeHas, PendingIs}
use Rattle.dds_outcomes.proofs.Marks.{PointOk}
use Rattle.dds_states.specs.declared.brick_state.BrickState.{BrickState}
use Rattle.dds_states.specs.declared.library_state.LibraryState.{LibraryState}
use Rattle.dds_states.specs.declared.library_state.OpenCall.{OpenCall}
use Rattle.dds_states.specs.declared.turn.Point.{Point}
use Rattle.dds_states.specs.declared.turn.Point.TheVariants as point
use Rattle.dds_talk.proofs.Grounds.{Ground}
use Rattle.dds_talk.specs.Books as talk
use Rattle.dds_talk.specs.Parts.{Commit}
use Rattle.dds_talk.specs.Seen.{call_of, is_pending}
use Rattle.dds_attempts.proofs.Claim.{IsLast, IsNewest, PointIs}
use Rattle.dds_attempts.proofs.Found.{call-at}
use Rattle.dds_outcomes.proofs.PointRows.{PointHas}
use Rattle.dds_attempts.proofs.Views.{held-open}

-- What a live brick has pending is its call's last attempt, and so is what it applies.

pub record IsHeld (a : Book) (p : Pending) : Type 0 where
  pub asked : PendingIs a p
  pub last : IsLast a p.txn p.caller p.call

some-is : {X : Type 0} (o : Option X) → is_some o ≡ true → (x : X) × (o ≡ Some x)
some-is None e = cc
some-is (Some x) e = (x, refl)

-- the open call with the attempt is the pending update's
held-last : (a : Book) (p : Pending) (l : LibraryState) (c : OpenCall) → PendingIs a p → call_of l.calls p.txn ≡ Some c → AllByRecursion (IsBooked a) l.calls
    → AllByRecursion (IsNewest a) l.calls → IsLast a p.txn p.caller p.call
held-last a p l c asked is booked newest u f e fc fk =
    let k = call-at l.calls p.txn c is in
    let b = all-is (IsBooked a) l.calls k.place c booked k.is in
    let its : Entry = record { caller = p.caller; call = p.call; op = p.op; list = Some p.list } in
    let same : b.its ≡ its = (let two : Some b.its ≡ Some its = sym b.there ∙ ap a k.txn_is ∙ asked in cc) in
    subst (λ (t : Txn). u.number ≤ t.number) k.txn_is
    (all-is (IsNewest a) l.calls k.place c newest k.is u f e
    (fc ∙ sym (ap (λ (x : Entry). x.caller) same) ∙ b.caller_is) (fk ∙ sym (ap (λ (x : Entry). x.call) same) ∙ b.call_is))

one-held : (z : Sizes) (n : Net) (a : Book) (b : talk.Books) (k : ℕ) (s : BrickState) (p : Pending) → Ground z n → Commit z n b → AreListed n a
    → ((i : ℕ) → LibraryIs (λ y. AllByRecursion (IsNewest a) y.calls) (n.node i)) → n.node k ≡ a_brick s → s.stopped ≡ false → Made n p.txn
    → PendingIs a p → is_pending s.locks.pending p.txn ≡ true → IsHeld a p
one-held z n a b k s p g parts listed newest here live made asked pending =
    let l = library-there n p.txn made in
    let open_call = some-is (call_of l.state.calls p.txn) (held-open z n b p.txn k l.state s g parts l.here here live pending) in
    let booked : LibraryListed a l.state = subst (NodeListed a p.txn.library) l.here (listed.nodes p.txn.library) in
    record {
      asked = asked;
      last = held-last a p l.state open_call.0 asked open_call.1 booked.calls
          (subst (LibraryIs (λ y. AllByRecursion (IsNewest a) y.calls)) l.here (newest p.txn.library));
    }

pub all-held : (z : Sizes) (n : Net) (a : Book) (b : talk.Books) (k : ℕ) (s : BrickState) → Ground z n → Commit z n b → ArePlaced z n → AreListed n a
    → ArePending n a → ((i : ℕ) → LibraryIs (λ y. AllByRecursion (IsNewest a) y.calls) (n.node i)) → n.node k ≡ a_brick s → s.stopped ≡ false
    → AllByRecursion (IsHeld a) s.locks.pending
all-held z n a b k s g parts placed listed asked newest here live =
    let ok : BrickOk (Made n) z k s = subst (NodeOk (Made n) z k) here (placed.nodes k) in
    all-map (λ (p : Pending). (PendingOk (Made n) z k p × PendingIs a p) × (is_pending s.locks.pending p.txn ≡ true)) (IsHeld a) s.locks.pending
    (λ p h. one-held z n a b k s p g parts listed newest here live h.0.0.0 h.0.1 h.1)
    (all-both (λ (p : Pending). PendingOk (Made n) z k p × PendingIs a p) (λ (p : Pending). is_pending s.locks.pending p.txn ≡ true) s.locks.pending
    (all-both (PendingOk (Made n) z k) (PendingIs a) s.locks.pending ok.its_locks.0 (subst (NodeHas a k) here (asked k))) (each-pending s.locks.pending))

-- the points of a brick's turn

or-right : (x y : Bool) → y ≡ true → (x || y) ≡ true
or-right true y e = refl
or-right false y e = e

reads-are : (a : Book) (b : talk.Books) (place : ℕ) (txn : Txn) (value : Option (List ℕ)) (l : Letter)
    → AllByRecursion (PointIs a b) (read_by place txn value l)
reads-are a b place txn value (letter.Get asked caller call key name stamp) = (λ e. cc, tt)
reads-are a b place txn value other = tt

pub points-are : (a : Book) (b : talk.Books) (at place : ℕ) (l : Letter) (u : BrickState) (ps : List Point) → AllByRecursion (PointOk u) ps
    → AllByRecursion (PointHas (IsHeld a)) ps → AllByRecursion (PointIs a (talk.with_brick at u b)) (points_made place l ps)
points-are a b at place l u [] h g = tt
points-are a b at place l u (point.Read txn value ∷ ps) h g =
    all-append (PointIs a (talk.with_brick at u b)) (read_by place txn value l) (points_made place l ps)
    (reads-are a (talk.with_brick at u b) place txn value l) (points-are a b at place l u ps h.1 g.1)
points-are a b at place l u (point.Applied p was ∷ ps) h g = (
  λ e. record {
    decided = or-right (b.decided p.txn) (talk.is_yes (get u.locks.outcomes p.txn)) (ap talk.is_yes h.0.0);
    its = record { caller = p.caller; call = p.call; op = p.op; list = Some p.list };
    there = g.0.asked;
    caller_is = refl;
    call_is = refl;
    last = g.0.last;
  },
  points-are a b at place l u ps h.1 g.1,
)

-- they stay so while the book of attempts does
pub applied-stays : (a : Book) (b c : talk.Books) (m : trace.Made) → ((t : Txn) → b.decided t ≡ true → c.decided t ≡ true) → PointIs a b m → PointIs a c m
applied-stays a b c m grows h e =
    let q = h e in
    record { decided = grows m.txn q.decided; its = q.its; there = q.there; caller_is = q.caller_is; call_is = q.call_is; last = q.last }
