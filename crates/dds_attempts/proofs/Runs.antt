use Rattle.std.proofs.Common.{◌≡◌, ℕ, ◌≤◌, true, false, Some, None, List, take, drop, inl, refl, sym, ap, ◌∙◌, subst}
use Rattle.std.specs.Prelude.{slice_get}
use Rattle.dds_base.specs.Number.{Txn}
use Rattle.dds_base.specs.Op.{is_get}
use Rattle.dds_base.specs.declared.number.CallNo.{CallNo}
use Rattle.dds_base.specs.declared.pending.Pending.{Pending}
use Rattle.dds_books.proofs.Booking.{listed-within}
use Rattle.dds_books.specs.Books.{Book, Entry, IsBooked, IsWithin, LibraryListed, NodeListed, booked}
use Rattle.dds_books.specs.Calls.{LibraryIs}
use Rattle.dds_cluster.proofs.Sizes.{sized-start}
use Rattle.dds_cluster.specs.Trace.{is_run, run_of, start}
use Rattle.dds_cluster.specs.declared.step.Step.{Step}
use Rattle.dds_cluster.specs.declared.trace.Made.{Made}
use Rattle.dds_commit.proofs.Knot.{All, all-kept}
use Rattle.dds_commit.proofs.Start.{start-all}
use Rattle.dds_core.proofs.Lists.{all-is}
use Rattle.dds_net.proofs.Nodes.{brick-node, library-node}
use Rattle.dds_net.proofs.Opening.{IsNew, new_a_brick, new_a_library, no_node, start-node, no-call-open}
use Rattle.dds_net.proofs.Prefixes.{Later, run-drop, run-split, run-take}
use Rattle.dds_net.proofs.Runs.{Books, IsKept, Ran, net-built, run-keeps, sized-run}
use Rattle.dds_net.specs.Event.{History, history_of}
use Rattle.dds_net.specs.Net.{Net, Node, Sizes, net, sizes_of}
use Rattle.dds_outcomes.proofs.Entries.{NodeHas}
use Rattle.dds_script.specs.Opening.{IsOpening, OpeningOf}
use Rattle.dds_states.specs.declared.brick_state.BrickState.{BrickState}
use Rattle.dds_talk.specs.Books as talk
use Rattle.dds_world.specs.Outcomes.{IsAttemptOf}
use Rattle.dds_world.specs.Places.{IsLive, reached}
use Rattle.dds_attempts.proofs.Claim.{AreCommitting, AreLast, AreNewest, PointIs}
use Rattle.dds_attempts.proofs.Held.{IsHeld, all-held}
use Rattle.dds_attempts.proofs.Since.{Rises, run-rises}
use Rattle.dds_attempts.proofs.Whole.{last-kept}
use Rattle.dds_attempts.specs.Law.{LastAttemptsStand}

-- Of each run: the attempts that were open at a place of it are in the book at its end, where those that were applied or are pending are
-- their calls' last ones.

pub record Stands (z : Sizes) (h : History) (n : Net) (b : Book × talk.Books) : Type 0 where
  pub parts : All z h n b
  pub last : AreLast z h n b.0 b.1

abbrev adds_both : Books (Book × talk.Books)
adds_both h n e b = (booked e b.0, talk.adds h n e b.1)

pub stands-kept : (z : Sizes) → z.bricks ≤ 64 → z.libraries ≤ 16 → IsKept z (Book × talk.Books) adds_both (Stands z)
stands-kept z few some h n e b built f k =
    let later = all-kept z few some h n e b built f k.parts in
    record { parts = later; last = last-kept z few some h n e b tt built f k.parts later k.last }

abbrev Within : Book × talk.Books → Book × talk.Books → Type 0
Within b c = IsWithin b.0 c.0

stands-rises : (z : Sizes) → Rises z (Book × talk.Books) adds_both (Stands z) Within
stands-rises z =
    record {
      itself = λ b t e h. h;
      through = λ a b c f g t e h. g t e (f t e h);
      adds = λ h n e b built f k. listed-within z h.callers n e b.0 f k.parts.0.2 k.parts.0.3;
    }

-- The opening

new-pending : (o : OpeningOf) (k : ℕ) (x : Node) → IsNew o k x → NodeHas (λ t. None) k x
new-pending o k x (no_node e) = subst (NodeHas (λ t. None) k) (sym e) tt
new-pending o k x (new_a_brick e) = subst (NodeHas (λ t. None) k) (sym e) tt
new-pending o k x (new_a_library high e) = subst (NodeHas (λ t. None) k) (sym e) tt

new-newest : (o : OpeningOf) (k : ℕ) (x : Node) → IsNew o k x → LibraryIs (AreNewest (λ t. None)) x
new-newest o k x (no_node e) = subst (LibraryIs (AreNewest (λ t. None))) (sym e) tt
new-newest o k x (new_a_brick e) = subst (LibraryIs (AreNewest (λ t. None))) (sym e) tt
new-newest o k x (new_a_library high e) = subst (LibraryIs (AreNewest (λ t. None))) (sym e) tt

new-commits : (o : OpeningOf) (k : ℕ) (x : Node) → IsNew o k x → LibraryIs (AreCommitting talk.no_books) x
new-commits o k x (no_node e) = subst (LibraryIs (AreCommitting talk.no_books)) (sym e) tt
new-commits o k x (new_a_brick e) = subst (LibraryIs (AreCommitting talk.no_books)) (sym e) tt
new-commits o k x (new_a_library high e) = subst (LibraryIs (AreCommitting talk.no_books)) (sym e) (λ live. tt)

pub start-last : (o : OpeningOf) → AreLast (sizes_of o) (history_of (start o)) (net (sizes_of o) (start o).world) (λ t. None) talk.no_books
start-last o =
    record {
      pending = λ k. new-pending o k _ (start-node o k);
      callers = λ k x call e f. absurd (no-call-open o.libraries o.callers 0 k x call e f);
      entries = λ u f e. cc;
      newest = λ k. new-newest o k _ (start-node o k);
      lists = λ t. inl refl;
      commits = λ built k. new-commits o k _ (start-node o k);
      made = tt;
    }

start-stands : (o : OpeningOf) → IsOpening o → Ran (sizes_of o) (Book × talk.Books) (Stands (sizes_of o)) (start o)
start-stands o h =
    record { sized = sized-start o; books = (λ t. None, talk.no_books); is = record { parts = start-all o h; last = start-last o } }

-- The end of a run, and the attempt of a call that was open at a place of it

pub record Ended (o : OpeningOf) (journal : List Step) (caller : ℕ) (call : CallNo) (txn : Txn) : Type 0 where
  pub books : Book × talk.Books
  pub is : Stands (sizes_of o) (history_of (run_of o journal)) (net (sizes_of o) (run_of o journal).world) books
  pub its : Entry
  pub there : books.0 txn ≡ Some its
  pub caller_is : its.caller ≡ caller
  pub call_is : its.call ≡ call

since : (o : OpeningOf) (journal : List Step) (at : ℕ) → IsOpening o → is_run o journal ≡ true
    → (r : Ran (sizes_of o) (Book × talk.Books) (Stands (sizes_of o)) (run_of o (take at journal)))
    × Later (sizes_of o) (Book × talk.Books) (Stands (sizes_of o)) Within r.books (run_of o journal)
since o journal at h run =
    let z = sizes_of o in
    let kept = stands-kept z h.ranges.bricks h.ranges.libraries in
    let r = run-keeps z (Book × talk.Books) adds_both (Stands z) (take at journal) (start o) h.ranges.bricks kept (start-stands o h)
    (run-take (start o) journal at run) in (
      r,
      subst (Later z (Book × talk.Books) (Stands z) Within r.books) (run-split (start o) journal at)
          (run-rises z (Book × talk.Books) adds_both (Stands z) Within (drop at journal) (run_of o (take at journal)) h.ranges.bricks kept
          (stands-rises z) r (run-drop (start o) journal at run)),
    )

attempt-ended : (o : OpeningOf) (journal : List Step) (caller : ℕ) (call : CallNo) (txn : Txn) → IsOpening o → is_run o journal ≡ true
    → IsAttemptOf o journal caller call txn → Ended o journal caller call txn
attempt-ended o journal caller call txn h run t =
    let w = since o journal t.at h run in
    let a = w.0.books.0 in
    let here = library-node (run_of o (take t.at journal)).world t.node t.state t.there in
    let listed : LibraryListed a t.state = subst (NodeListed a t.node) here (w.0.is.parts.0.3.nodes t.node) in
    let q = all-is (IsBooked a) t.state.calls t.place t.is listed.calls t.open_call in
    record {
      books = w.1.ran.books;
      is = w.1.ran.is;
      its = q.its;
      there = w.1.within txn q.its (ap a (sym t.same) ∙ q.there);
      caller_is = q.caller_is ∙ t.caller_is;
      call_is = q.call_is ∙ t.call_is;
    }

-- The law

applied-last : (o : OpeningOf) (journal : List Step) → IsOpening o → is_run o journal ≡ true → (at : ℕ) (m : Made) (txn : Txn)
    → slice_get (run_of o journal).made at ≡ Some m → is_get m.entry.op ≡ false → IsAttemptOf o journal m.entry.caller m.entry.call txn
    → txn.number ≤ m.txn.number
applied-last o journal h run at m txn is update t =
    let w = attempt-ended o journal m.entry.caller m.entry.call txn h run t in
    let q = all-is (PointIs w.books.0 w.books.1) (run_of o journal).made at m w.is.last.made is update in
    q.last txn w.its w.there w.caller_is w.call_is

pending-last : (o : OpeningOf) (journal : List Step) → IsOpening o → is_run o journal ≡ true → (brick : ℕ) (s : BrickState) (at : ℕ) (p : Pending) (txn : Txn)
    → IsLive (reached o journal) brick s → slice_get s.locks.pending at ≡ Some p → IsAttemptOf o journal p.caller p.call txn → txn.number ≤ p.txn.number
pending-last o journal h run brick s at p txn live is t =
    let w = attempt-ended o journal p.caller p.call txn h run t in
    let z = sizes_of o in
    let world = (run_of o journal).world in
    let n = net z world in
    let k = w.is.parts in
    let held = all-held z n w.books.0 w.books.1 brick s
    (record { few = h.ranges.bricks; some = h.ranges.libraries; linked = k.0.0; built = net-built z world (sized-run o journal) }) k.1 k.0.2 k.0.3
    w.is.last.pending w.is.last.newest (brick-node world brick s live.there) live.live in
    (all-is (IsHeld w.books.0) s.locks.pending at p held is).last txn w.its w.there w.caller_is w.call_is

pub last-attempts-stand : LastAttemptsStand
last-attempts-stand o journal h run =
    record {
      applied = λ at m txn is update t. applied-last o journal h run at m txn is update t;
      pending = λ brick s at p txn live is t. pending-last o journal h run brick s at p txn live is t;
    }
