use Rattle.std.proofs.Common.{◌≡◌, ℕ, ◌≤◌, ◌++◌, true, false, Some, List, [], ◌∷◌, refl, sym, ap, ◌∙◌, subst, arith}
use Rattle.std.proofs.lemmas.Bool.{both_ways}
use Rattle.std.specs.List.{AllByRecursion}
use Rattle.std.specs.Prelude.{slice_get}
use Rattle.dds_attempts.proofs.Claim.{AreCommitting, AreNewest, Commits, IsNewest, PointIs}
use Rattle.dds_attempts.proofs.Runs.{Stands}
use Rattle.dds_attempts.proofs.Library.{txn-is}
use Rattle.dds_base.specs.Op.{is_get}
use Rattle.dds_base.specs.declared.number.CallNo.{CallNo}
use Rattle.dds_books.specs.Books.{Book, IsBooked, NodeListed, booked}
use Rattle.dds_books.specs.Calls.{CallsOk, IsOwned, LibraryIs}
use Rattle.dds_books.specs.Placed.{CallOk, LibraryOk, NodeOk}
use Rattle.dds_books.specs.Placed as placed
use Rattle.dds_call_rows.specs.Library.{begin}
use Rattle.dds_cluster.specs.Trace.{all_kept, may_call, told_at}
use Rattle.dds_cluster.specs.declared.trace.Caller.{Caller}
use Rattle.dds_cluster.specs.declared.trace.Made.{Made}
use Rattle.dds_core.proofs.LetterTells.{letter-tells}
use Rattle.dds_core.proofs.Lists.{all-append, all-is, all-map}
use Rattle.dds_core.proofs.OrderTells.{order-tells}
use Rattle.dds_core.proofs.Tells.{Given, Gives}
use Rattle.dds_core.specs.Brick.{brick_input, live_brick_turn}
use Rattle.dds_core.specs.LibraryTurn.{desk_of, live_library_turn, new_request}
use Rattle.dds_net.proofs.Rungs.{IsKeptOver}
use Rattle.dds_net.proofs.Runs.{IsBuilt}
use Rattle.dds_net.specs.Event.{Event, Fits, History, goes, opened_of, points_of, replies_of, brick_takes, brick_told}
use Rattle.dds_net.specs.Event.{library_asked, library_takes}
use Rattle.dds_net.specs.Net.{Net, a_library, Sizes}
use Rattle.dds_once.proofs.Answered.{IsQuiet, replies-say, turn-answers}
use Rattle.dds_once.proofs.Grown.{entry-used}
use Rattle.dds_once.proofs.Opens.{IsOpenPoint, open-shut, points-open}
use Rattle.dds_once.proofs.Shut.{IsShut, ReplySays, ToldSays, replies-shut, says-map, shut-later, told-says}
use Rattle.dds_once.proofs.Used.{IsUsed, free-unused, may-free, opens-used}
use Rattle.dds_outcomes.proofs.Points.{kept-all}
use Rattle.dds_states.specs.declared.library_state.LibraryState.{LibraryState}
use Rattle.dds_states.specs.declared.library_state.OpenCall.{OpenCall}
use Rattle.dds_states.specs.declared.turn.Replied.{Replied}
use Rattle.dds_states.specs.declared.turn.Replied.TheVariants as replied
use Rattle.dds_talk.specs.Books as talk
use Rattle.dds_talk.specs.Seen.{commits_now}

-- A refused call was never applied, and isn't open again: when it was refused its last attempt didn't commit, so that none of its attempts
-- was applied; and what is applied later is of open calls.

abbrev pub IsNotOf : ℕ → CallNo → Made → Type 0
IsNotOf k call m = is_get m.entry.op ≡ false → m.entry.caller ≡ k → m.entry.call ≡ call → ⊥

abbrev pub NoneOf : List Made → ℕ → CallNo → Type 0
NoneOf made k call = AllByRecursion (IsNotOf k call) made

abbrev pub IsRefused : List Caller → List Made → ℕ → CallNo → Type 0
IsRefused cs made k call = IsShut cs k call × NoneOf made k call

abbrev pub AreRefused : History → Type 0
AreRefused h = AllByRecursion (ToldSays (IsRefused h.callers h.made)) h.told

orders-say : (M : Given) (P : ℕ → CallNo → Type 0) (rs : List Replied) → AllByRecursion (Gives M) rs → AllByRecursion (ReplySays P) rs
orders-say M P [] h = tt
orders-say M P (replied.Order r ∷ rs) h = (tt, orders-say M P rs h.1)
orders-say M P (replied.Call read caller call r ∷ rs) h = absurd h.0

module _ (z : Sizes) (few : z.bricks ≤ 64) (some : z.libraries ≤ 16) (h : History) (n : Net) (b : Book × talk.Books) (built : IsBuilt z n)
    (k : Stands z h n b) where
  -- an open call that doesn't commit
  module _ (at : ℕ) (s : LibraryState) (here : n.node at ≡ a_library s) (live : s.stopped ≡ false) (place : ℕ) (c : OpenCall)
      (is : slice_get s.calls place ≡ Some c) (quiet : commits_now c.phase ≡ false) where
    owned : IsOwned h.callers at c
    owned = all-is (IsOwned h.callers at) s.calls place c (subst (LibraryIs (CallsOk h.callers at)) here (k.parts.0.1.calls at)).owned is

    listed : IsBooked b.0 c
    listed = all-is (IsBooked b.0) s.calls place c (subst (NodeListed b.0 at) here (k.parts.0.3.nodes at)).calls is

    home : c.txn.library ≡ at
    home =
        let ok : LibraryOk z at s = subst (NodeOk (placed.Made n) z at) here (k.parts.0.2.nodes at) in
        (all-is (CallOk z s.number s.next s.known) s.calls place c ok.calls is).library ∙ ok.its_number

    pub quiet-used : IsUsed h.callers c.request.caller c.request.call
    quiet-used =
        record {
          who = owned.caller;
          there = owned.there;
          past = k.last.callers c.request.caller owned.caller c.request.call owned.there owned.call;
        }

    not-made : (m : Made) → PointIs b.0 b.1 m → IsNotOf c.request.caller c.request.call m
    not-made m p update e f =
        let q = p update in
        let newest : AreNewest b.0 s = subst (LibraryIs (AreNewest b.0)) here (k.last.newest at) in
        let low = q.last c.txn listed.its listed.there (listed.caller_is ∙ sym e) (listed.call_is ∙ sym f) in
        let high = all-is (IsNewest b.0) s.calls place c newest is m.txn q.its q.there (q.caller_is ∙ e) (q.call_is ∙ f) in
        let v = k.last.entries m.txn q.its q.there in
        let who : v.who ≡ owned.caller =
        (let two : Some v.who ≡ Some owned.caller = sym v.there ∙ ap (slice_get h.callers) (q.caller_is ∙ e) ∙ owned.there in cc) in
        let library : m.txn.library ≡ c.txn.library = sym v.library ∙ ap (λ (x : Caller). x.library) who ∙ owned.library ∙ sym home in
        let same : m.txn ≡ c.txn = txn-is m.txn c.txn library (omega (arith, low, high)) in
        let commits : AreCommitting b.1 s = subst (LibraryIs (AreCommitting b.1)) here (k.last.commits built at) in
        both_ways (commits_now c.phase) quiet (all-is (Commits b.1) s.calls place c (commits live) is (sym (ap b.1.decided same) ∙ q.decided))

    pub quiet-none : NoneOf h.made c.request.caller c.request.call
    quiet-none = all-map (PointIs b.0 b.1) (IsNotOf c.request.caller c.request.call) h.made not-made k.last.made

  -- a call that comes
  new-none : (caller at : ℕ) (call : CallNo) → may_call (slice_get h.callers caller) at call ≡ true → NoneOf h.made caller call
  new-none caller at call may =
      all-map (PointIs b.0 b.1) (IsNotOf caller call) h.made
      (λ m p update e f.
      let q = p update in
      free-unused h.callers caller q.its.caller call q.its.call (may-free h.callers caller at call may)
      (entry-used h.callers m.txn q.its (k.last.entries m.txn q.its q.there)) (sym (q.caller_is ∙ e)) (sym (q.call_is ∙ f))) k.last.made

  more-none : (i : ℕ) (call : CallNo) → NoneOf h.made i call → NoneOf (h.made ++ []) i call
  more-none i call g = all-append (IsNotOf i call) h.made [] g tt

  abbrev Answers : Event → ℕ → CallNo → Type 0
  Answers e i call = IsUsed (opened_of h.callers e) i call × NoneOf (goes h e).made i call

  answers : (e : Event) → Fits z h.callers n e → AllByRecursion (ReplySays (Answers e)) (replies_of e)
  answers (library_takes at from l s) f =
      let e = library_takes at from l s in
      all-map (ReplySays (IsQuiet s)) (ReplySays (Answers e)) (live_library_turn s from l).out.replies
      (λ r. says-map (IsQuiet s) (Answers e) r
      (λ i call w.
      subst (λ j. Answers e j call) w.caller_is
      (subst (Answers e w.call.request.caller) w.call_is (
        quiet-used at s f.here f.live w.place w.call w.is w.quiet,
        more-none w.call.request.caller w.call.request.call (quiet-none at s f.here f.live w.place w.call w.is w.quiet),
      )))) (turn-answers s from l)
  answers (library_asked at caller call o s) f =
      let e = library_asked at caller call o s in
      let r = new_request caller call o in
      replies-say (Answers e) caller call (record { library = s.number; number = s.next }) (begin (desk_of s s.calls) r).went.reply
      (λ q is refusal. (
        opens-used h.callers caller at call (slice_get h.callers caller) refl f.may,
        more-none caller call (new-none caller at call f.may),
      ))
  answers (brick_takes at from l s) f =
      orders-say _ (Answers (brick_takes at from l s)) (live_brick_turn s from l).out.replies (letter-tells s from l).replies
  answers (brick_told at o s) f =
      orders-say _ (Answers (brick_told at o s)) (brick_input s o).out.replies (order-tells {L = λ to l. ⊥} s o).replies
  answers other f = tt

  none-later : (e : Event) (i : ℕ) (call : CallNo) → Fits z h.callers n e → IsShut h.callers i call → NoneOf h.made i call → NoneOf (goes h e).made i call
  none-later e i call f shut g =
      all-append (IsNotOf i call) h.made (all_kept h.made (points_of h.steps e)) g
      (kept-all (IsNotOf i call) h.made (points_of h.steps e)
      (all-map (IsOpenPoint z few some h n b built k) (IsNotOf i call) (points_of h.steps e)
      (λ m p update x y. open-shut h.callers m.entry.caller i m.entry.call call (p update) shut x y) (points-open z few some h n b built k e f)))

  pub refused-then : (e : Event) → Fits z h.callers n e → AreRefused h → AreRefused (goes h e)
  refused-then e f g =
      let P = IsRefused (goes h e).callers (goes h e).made in
      all-append (ToldSays P) h.told (told_at h.steps (replies_of e))
      (all-map (ToldSays (IsRefused h.callers h.made)) (ToldSays P) h.told
      (λ r q refusal.
      let w = q refusal in
      (shut-later z h n e r.caller r.call f w.0, none-later e r.caller r.call f w.0 w.1)) g)
      (told-says P h.steps (replies_of e) (replies-shut (λ i call. NoneOf (goes h e).made i call) (opened_of h.callers e) (replies_of e) (answers e f)))

pub refused-stays : (z : Sizes) → z.bricks ≤ 64 → z.libraries ≤ 16
    → IsKeptOver z (Book × talk.Books) (λ h n e b. (booked e b.0, talk.adds h n e b.1)) (Stands z) (Unit {0}) (λ h n e b u. tt)
    (λ h n b u. AreRefused h)
refused-stays z few some h n e b u built f k after g = refused-then z few some h n b built k e f g
