use Rattle.std.proofs.Common.{◌≡◌, ℕ, Some, List, ◌++◌, sym, ap, ◌∙◌, subst}
use Rattle.std.specs.List.{AllByRecursion}
use Rattle.std.specs.Prelude.{◌<◌, slice_get}
use Rattle.dds_attempts.proofs.Claim.{EntryOk}
use Rattle.dds_attempts.proofs.Found.{Found, OpenWith, before, found, opened}
use Rattle.dds_attempts.proofs.Library.{txn-is}
use Rattle.dds_base.specs.Number.{Txn}
use Rattle.dds_base.specs.declared.number.CallNo.{CallNo}
use Rattle.dds_base.specs.declared.op.Op.{Op}
use Rattle.dds_books.specs.Books.{Book, Entry, IsBooked, LibraryListed, NodeListed, with_library}
use Rattle.dds_books.specs.Calls.{LibraryIs}
use Rattle.dds_books.specs.Placed.{CallOk, LibraryOk}
use Rattle.dds_cluster.specs.declared.trace.Asked.{Asked}
use Rattle.dds_cluster.specs.declared.trace.Caller.{Caller}
use Rattle.dds_cluster.specs.declared.trace.Made.{Made}
use Rattle.dds_core.proofs.Lists.{all-append, all-both, all-is, all-map}
use Rattle.dds_net.specs.Net.{Node, nowhere, a_brick, a_library, Sizes}
use Rattle.dds_once.proofs.Claim.{AllAsk, AllBehind, AreAsked, AsksThis, IsBehind}
use Rattle.dds_once.proofs.Points.{HasEntry}
use Rattle.dds_once.proofs.Requests.{OfCall, says-same}
use Rattle.dds_once.proofs.Used.{IsNew, IsUsed, free-unused}
use Rattle.dds_states.specs.declared.library_state.LibraryState.{LibraryState}
use Rattle.dds_states.specs.declared.library_state.OpenCall.{OpenCall}

-- A call that is asked has no entry yet: entries, open calls and points are of the calls that were asked before.

pub entry-used : (cs : List Caller) (u : Txn) (f : Entry) → EntryOk cs u f → IsUsed cs f.caller f.call
entry-used cs u f e = record { who = e.who; there = e.there; past = e.past }

-- books and nodes before the turn, with the calls that are asked
module _ (cs ds : List Caller) (steps : ℕ) (asked new : List Asked) (fresh : AllByRecursion (IsNew cs ds steps) new) where
  pub more-asked : (k : ℕ) (call : CallNo) (o : Op) → IsUsed cs k call → AllAsk asked k call o → AllAsk (asked ++ new) k call o
  more-asked k call o used h =
      all-append (AsksThis k call o) asked new h
      (all-map (IsNew cs ds steps) (AsksThis k call o) new
      (λ x q e f. absurd (free-unused cs x.caller k x.call call q.free used e f)) fresh)

  pub more-behind : (a : Book) (m : Made) → ((u : Txn) (f : Entry) → a u ≡ Some f → EntryOk cs u f) → HasEntry a m → AllBehind asked m
      → AllBehind (asked ++ new) m
  more-behind a m entries g h =
      let used = entry-used cs g.txn g.its (entries g.txn g.its g.there) in
      all-append (IsBehind m) asked new h
      (all-map (IsNew cs ds steps) (IsBehind m) new
      (λ x q e f. absurd (free-unused cs x.caller g.its.caller x.call g.its.call q.free used (e ∙ sym g.caller_is) (f ∙ sym g.call_is))) fresh)

  more-call : (a : Book) (c : OpenCall) → ((u : Txn) (f : Entry) → a u ≡ Some f → EntryOk cs u f) → IsBooked a c → OfCall (AllAsk asked) c
      → OfCall (AllAsk (asked ++ new)) c
  more-call a c entries b h =
      let w = entries c.txn b.its b.there in
      more-asked c.request.caller c.request.call c.request.op
      (record {
        who = w.who;
        there = ap (slice_get cs) (sym b.caller_is) ∙ w.there;
        past = subst (λ (q : CallNo). q.0 < w.who.least) b.call_is w.past;
      }) h

  pub more-node : (a : Book) (k : ℕ) (x : Node) → ((u : Txn) (f : Entry) → a u ≡ Some f → EntryOk cs u f) → NodeListed a k x → LibraryIs (AreAsked asked) x
      → LibraryIs (AreAsked (asked ++ new)) x
  more-node a k nowhere entries b h = tt
  more-node a k (a_brick s) entries b h = tt
  more-node a k (a_library s) entries b h =
      all-map (λ c. IsBooked a c × OfCall (AllAsk asked) c) (OfCall (AllAsk (asked ++ new))) s.calls (λ c q. more-call a c entries q.0 q.1)
      (all-both (IsBooked a) (OfCall (AllAsk asked)) s.calls b.calls h)

-- the book after a library's turn
module _ (z : Sizes) (a : Book) (at : ℕ) (s : LibraryState) (asked : List Asked) (placed : LibraryOk z at s)
    (listed : LibraryListed (with_library at s a) s) (calls : AreAsked asked s) where
  opened-asks : (u : Txn) (f : Entry) → with_library at s a u ≡ Some f → u.library ≡ at → OpenWith s.calls u.number f → AllAsk asked f.caller f.call f.op
  opened-asks u f h e o =
      let c = o.call in
      let b = all-is (IsBooked (with_library at s a)) s.calls o.place c listed.calls o.is in
      let home = (all-is (CallOk z s.number s.next s.known) s.calls o.place c placed.calls o.is).library ∙ placed.its_number in
      let same : b.its ≡ f =
      (let two : Some b.its ≡ Some f = sym b.there ∙ ap (with_library at s a) (txn-is c.txn u (home ∙ sym e) o.number_is) ∙ h in cc) in
      says-same (AllAsk asked) c.request.caller f.caller c.request.call f.call c.request.op f.op o.caller_is o.call_is
      (sym b.op_is ∙ ap (λ (x : Entry). x.op) same) (all-is (OfCall (AllAsk asked)) s.calls o.place c calls o.is)

  asks-found : (u : Txn) (f : Entry) → with_library at s a u ≡ Some f → ((v : Txn) (g : Entry) → a v ≡ Some g → AllAsk asked g.caller g.call g.op)
      → Found a at s u f → AllAsk asked f.caller f.call f.op
  asks-found u f h old (before e) = old u f e
  asks-found u f h old (opened e o) = opened-asks u f h e o

  pub entries-asked : ((v : Txn) (g : Entry) → a v ≡ Some g → AllAsk asked g.caller g.call g.op) → (u : Txn) (f : Entry) → with_library at s a u ≡ Some f
      → AllAsk asked f.caller f.call f.op
  entries-asked old u f h = asks-found u f h old (found a at s u f h)
