use Rattle.std.proofs.Common.{◌≡◌, ℕ, ◌<◌, ◌≤◌, inl, inr, true, Some, None, List, sym, ap, ◌∙◌, subst, arith}
use Rattle.std.proofs.lemmas.Bool.{both_ways, cases_lt}
use Rattle.std.specs.List.{AllByRecursion}
use Rattle.std.specs.Prelude.{slice_get}
use Rattle.dds_base.specs.Number.{Txn}
use Rattle.dds_base.specs.declared.number.CallNo.{CallNo}
use Rattle.dds_books.proofs.Overlays.{at-other}
use Rattle.dds_books.specs.Books.{Book, Entry, IsBooked, IsWithin, LibraryListed, with_library}
use Rattle.dds_books.specs.Calls.{Apart, CallsOk, IsOwned, LibraryIs}
use Rattle.dds_books.specs.Placed.{CallOk, LibraryOk}
use Rattle.dds_cluster.specs.declared.trace.Caller.{Caller}
use Rattle.dds_cluster.specs.declared.trace.Made.{Made}
use Rattle.dds_core.proofs.Lists.{all-both, all-is, all-map}
use Rattle.dds_net.proofs.Puts.{at-put}
use Rattle.dds_net.specs.Net.{Net, Node, nowhere, a_brick, a_library, Sizes, put}
use Rattle.dds_states.specs.declared.library_state.LibraryState.{LibraryState}
use Rattle.dds_states.specs.declared.library_state.OpenCall.{OpenCall}
use Rattle.dds_talk.specs.Books as talk
use Rattle.dds_talk.specs.Seen.{commits_now}
use Rattle.dds_attempts.proofs.Callers.{CallersGo}
use Rattle.dds_attempts.proofs.Claim.{AreCounted, Commits, EntryOk, IsApplied, IsNewest}
use Rattle.dds_attempts.proofs.Found.{Found, OpenWith, before, found, opened, same-item}
use Rattle.dds_attempts.proofs.Turns.{Comes, Tracked, WasOpen, Went, again, all-from, comes, still}

-- A library's turn: the entries that there are then, which attempts are their calls' last ones, and what was applied.

-- the library before and after, with the callers before and after, and the nodes and the book before
pub record Turn (New : Comes) (z : Sizes) (cs ds : List Caller) (n : Net) (a : Book) (at : ℕ) (old s : LibraryState) : Type 0 where
  pub placed : LibraryOk z at old
  pub placed_then : LibraryOk z at s
  pub listed : LibraryListed a old
  pub booked : CallsOk cs at old
  pub booked_then : CallsOk ds at s
  pub others : (k : ℕ) → (k ≡ at → ⊥) → LibraryIs (CallsOk ds k) (n.node k)
  pub tracked : Tracked New old s
  pub go : CallersGo cs ds
  pub counted : AreCounted cs
  pub entries : (u : Txn) (f : Entry) → a u ≡ Some f → EntryOk cs u f
  pub newest : AllByRecursion (IsNewest a) old.calls
  pub unmade : (caller : ℕ) (call : CallNo) → New caller call → (x : Caller) → slice_get cs caller ≡ Some x → x.least ≤ call.0

-- whose call it is says whose attempt it is
owner-library : (cs : List Caller) (k : ℕ) (c : OpenCall) (u : Txn) (f : Entry) → IsOwned cs k c → EntryOk cs u f → f.caller ≡ c.request.caller
    → u.library ≡ k
owner-library cs k c u f w e same =
    let is : e.who ≡ w.caller = (let two : Some e.who ≡ Some w.caller = sym e.there ∙ ap (slice_get cs) same ∙ w.there in cc) in
    sym e.library ∙ ap (λ (x : Caller). x.library) is ∙ w.library

entry-later : (cs ds : List Caller) (u : Txn) (f : Entry) → CallersGo cs ds → EntryOk cs u f → EntryOk ds u f
entry-later cs ds u f g e =
    let w = g.on f.caller e.who e.there in
    let low = e.past in
    let more = w.least in
    record { who = w.who; there = w.there; library = w.library ∙ e.library; past = omega (arith, low, more) }

pub entries-later : (cs ds : List Caller) (a : Book) → CallersGo cs ds → ((u : Txn) (f : Entry) → a u ≡ Some f → EntryOk cs u f) → (u : Txn) (f : Entry)
    → a u ≡ Some f → EntryOk ds u f
entries-later cs ds a g h u f e = entry-later cs ds u f g (h u f e)

pub txn-is : (t u : Txn) → t.library ≡ u.library → t.number ≡ u.number → t ≡ u
txn-is t u e f = λ i. record { library = e i; number = f i }

module _ (New : Comes) (z : Sizes) (cs ds : List Caller) (n : Net) (a : Book) (at : ℕ) (old s : LibraryState) (t : Turn New z cs ds n a at old s) where
  -- the entries
  entry-opened : (u : Txn) (f : Entry) → u.library ≡ at → OpenWith s.calls u.number f → EntryOk ds u f
  entry-opened u f e o =
      let w = all-is (IsOwned ds at) s.calls o.place o.call t.booked_then.owned o.is in
      record {
        who = w.caller;
        there = ap (slice_get ds) (sym o.caller_is) ∙ w.there;
        library = w.library ∙ sym e;
        past = subst (λ (i : CallNo). i.0 < w.caller.least) o.call_is
            (t.go.counted t.counted o.call.request.caller w.caller o.call.request.call w.there w.call);
      }

  entry-found : (u : Txn) (f : Entry) → Found a at s u f → EntryOk ds u f
  entry-found u f (before e) = entry-later cs ds u f t.go (t.entries u f e)
  entry-found u f (opened e o) = entry-opened u f e o

  pub entries-then : (u : Txn) (f : Entry) → with_library at s a u ≡ Some f → EntryOk ds u f
  entries-then u f h = entry-found u f (found a at s u f h)

  -- an entry that was there has a number that was taken
  old-number : (u : Txn) (f : Entry) → u.library ≡ at → a u ≡ Some f → u.number < old.next
  old-number u f home e = elim (cases_lt u.number old.next) [
    | inl lt ↦ lt
    | inr le ↦ (let no : None ≡ Some f = sym (t.listed.to_come u (home ∙ sym t.placed.its_number) le) ∙ e in cc)
  ]

  -- which attempts are last
  newest-before : (c : OpenCall) → IsOwned ds at c → Went New old c → (u : Txn) (f : Entry) → a u ≡ Some f → f.caller ≡ c.request.caller
      → f.call ≡ c.request.call → u.number ≤ c.txn.number
  newest-before c w (still x o k g) u f e fc fk =
      subst (λ (y : Txn). u.number ≤ y.number) k
      (all-is (IsNewest a) old.calls o.place x t.newest o.is u f e (fc ∙ sym o.caller_is) (fk ∙ sym o.call_is))
  newest-before c w (again x o le g) u f e fc fk =
      let low = old-number u f (owner-library ds at c u f w (entry-later cs ds u f t.go (t.entries u f e)) fc) e in
      omega (arith, low, le)
  newest-before c w (comes le g) u f e fc fk =
      let low = old-number u f (owner-library ds at c u f w (entry-later cs ds u f t.go (t.entries u f e)) fc) e in
      omega (arith, low, le)

  newest-found : (i : ℕ) (c : OpenCall) → slice_get s.calls i ≡ Some c → (u : Txn) (f : Entry) → Found a at s u f → f.caller ≡ c.request.caller
      → f.call ≡ c.request.call → u.number ≤ c.txn.number
  newest-found i c is u f (before e) fc fk =
      newest-before c (all-is (IsOwned ds at) s.calls i c t.booked_then.owned is) (all-is (Went New old) s.calls i c t.tracked.calls is) u f e fc fk
  newest-found i c is u f (opened e o) fc fk =
      let same : c ≡ o.call = same-item Apart s.calls i o.place c o.call t.booked_then.apart is o.is
      (λ r. r.1 (sym (o.caller_is ∙ fc))) (λ r. r.1 (o.caller_is ∙ fc)) in
      let number : c.txn.number ≡ u.number = ap (λ (x : OpenCall). x.txn.number) same ∙ o.number_is in
      omega (arith, number)

  newest-own : AllByRecursion (IsNewest (with_library at s a)) s.calls
  newest-own = all-from (IsNewest (with_library at s a)) s.calls (λ i c is u f h fc fk. newest-found i c is u f (found a at s u f h) fc fk)

  newest-other : (k : ℕ) (x : Node) → (k ≡ at → ⊥) → LibraryIs (CallsOk ds k) x → LibraryIs (λ y. AllByRecursion (IsNewest a) y.calls) x
      → LibraryIs (λ y. AllByRecursion (IsNewest (with_library at s a)) y.calls) x
  newest-other k nowhere ne w h = tt
  newest-other k (a_brick y) ne w h = tt
  newest-other k (a_library y) ne w h =
      all-map (λ c. IsOwned ds k c × IsNewest a c) (IsNewest (with_library at s a)) y.calls
      (λ c q u f e fc fk.
      let home = owner-library ds k c u f q.0 (entries-then u f e) fc in
      q.1 u f (sym (at-other at s a u (λ i. ne (sym home ∙ i))) ∙ e) fc fk)
      (all-both (IsOwned ds k) (IsNewest a) y.calls w.owned h)

  pub newest-then : ((k : ℕ) → LibraryIs (λ y. AllByRecursion (IsNewest a) y.calls) (n.node k)) → (k : ℕ)
      → LibraryIs (λ y. AllByRecursion (IsNewest (with_library at s a)) y.calls) (put at (a_library s) n.node k)
  newest-then h =
      at-put (λ k x. LibraryIs (λ y. AllByRecursion (IsNewest (with_library at s a)) y.calls) x) at (a_library s) n.node newest-own
      (λ k ne. newest-other k (n.node k) ne (t.others k ne) (h k))

  -- what was applied: its call makes no other attempt
  old-call : (c : OpenCall) (place : ℕ) → slice_get old.calls place ≡ Some c → c.txn.library ≡ at
  old-call c place is = (all-is (CallOk z old.number old.next old.known) old.calls place c t.placed.calls is).library ∙ t.placed.its_number

  last-still : {b : talk.Books} (m : Made) (d : OpenCall) (c : OpenCall) → IsApplied a b m → WasOpen old c d → d.request.caller ≡ m.entry.caller
      → d.request.call ≡ m.entry.call → c.txn.number ≤ m.txn.number
  last-still m d c h w fc fk =
      let q = all-is (IsBooked a) old.calls w.place c t.listed.calls w.is in
      h.last c.txn q.its q.there (q.caller_is ∙ w.caller_is ∙ fc) (q.call_is ∙ w.call_is ∙ fk)

  last-went : {b : talk.Books} (m : Made) (d : OpenCall) → AllByRecursion (Commits b) old.calls → IsApplied a b m → Went New old d
      → d.request.caller ≡ m.entry.caller → d.request.call ≡ m.entry.call → d.txn.number ≤ m.txn.number
  last-went m d committing h (still c w k g) fc fk =
      subst (λ (y : Txn). y.number ≤ m.txn.number) k (last-still m d c h w fc fk)
  last-went {b = b} m d committing h (again c w le g) fc fk =
      let low = last-still m d c h w fc fk in
      let caller = h.caller_is ∙ sym (w.caller_is ∙ fc) in
      let high = all-is (IsNewest a) old.calls w.place c t.newest w.is m.txn h.its h.there caller (h.call_is ∙ sym (w.call_is ∙ fk)) in
      let number : c.txn.number ≡ m.txn.number = omega (arith, low, high) in
      let home = owner-library cs at c m.txn h.its (all-is (IsOwned cs at) old.calls w.place c t.booked.owned w.is) (t.entries m.txn h.its h.there) caller in
      let same : c.txn ≡ m.txn = txn-is c.txn m.txn (old-call c w.place w.is ∙ sym home) number in
      absurd (both_ways (commits_now c.phase) g (all-is (Commits b) old.calls w.place c committing w.is (ap b.decided same ∙ h.decided)))
  last-went m d committing h (comes le g) fc fk =
      let e = t.entries m.txn h.its h.there in
      let who = ap (slice_get cs) (fc ∙ sym h.caller_is) ∙ e.there in
      let call : d.request.call ≡ h.its.call = fk ∙ sym h.call_is in
      let low = e.past in
      let high = subst (λ (i : CallNo). e.who.least ≤ i.0) call (t.unmade d.request.caller d.request.call g e.who who) in
      absurd (omega (arith, low, high))

  last-found : {b : talk.Books} (m : Made) → AllByRecursion (Commits b) old.calls → IsApplied a b m → (u : Txn) (f : Entry) → Found a at s u f
      → f.caller ≡ m.entry.caller → f.call ≡ m.entry.call → u.number ≤ m.txn.number
  last-found m committing h u f (before e) fc fk = h.last u f e fc fk
  last-found m committing h u f (opened e o) fc fk =
      subst (λ k. k ≤ m.txn.number) o.number_is
      (last-went m o.call committing h (all-is (Went New old) s.calls o.place o.call t.tracked.calls o.is) (o.caller_is ∙ fc) (o.call_is ∙ fk))

  pub applied-then : (b c : talk.Books) (m : Made) → AllByRecursion (Commits b) old.calls → ((u : Txn) → b.decided u ≡ true → c.decided u ≡ true)
      → IsWithin a (with_library at s a) → IsApplied a b m → IsApplied (with_library at s a) c m
  applied-then b c m committing grows within h =
      record {
        decided = grows m.txn h.decided;
        its = h.its;
        there = within m.txn h.its h.there;
        caller_is = h.caller_is;
        call_is = h.call_is;
        last = λ u f e fc fk. last-found m committing h u f (found a at s u f e) fc fk;
      }
