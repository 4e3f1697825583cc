use Rattle.std.proofs.Common.{◌≡◌, ℕ, zero, suc, ◌+◌, Bool, true, false, not, cond, Some, List, [], ◌∷◌, ◌++◌, drop, refl, sym, ap, ◌∙◌, subst}
use Rattle.std.proofs.lemmas.Bool.{and_parts, both_ways}
use Rattle.std.proofs.lemmas.List.{append_assoc}
use Rattle.std.specs.List.{find}
use Rattle.std.specs.Prelude.{slice_get, take}
use Rattle.dds_answered.proofs.Flags.{letter-txn}
use Rattle.dds_answered.proofs.Having.{Has, has-later}
use Rattle.dds_attempts.proofs.Claim.{PointIs}
use Rattle.dds_base.specs.Number.{Txn, same_txn}
use Rattle.dds_base.specs.Op.{is_get}
use Rattle.dds_base.specs.declared.number.CallNo.{CallNo}
use Rattle.dds_base.specs.declared.number.NodeNo.{NodeNo}
use Rattle.dds_books.specs.Books.{Book, Entry, IsBooked, NodeListed}
use Rattle.dds_books.specs.Placed.{CallOk, Made as Attempts, NodeOk, PhaseOk}
use Rattle.dds_calls.proofs.Answered.{AnsweredBy, IsOf, answered, at_input, at_letter, reply_to}
use Rattle.dds_calls.proofs.Asked.{NodeIs, WasAsked, get-front, one-asked}
use Rattle.dds_calls.proofs.Entries.{run-asked}
use Rattle.dds_calls.proofs.Requests.{RequestIs}
use Rattle.dds_calls.proofs.Told.{IsGiven, asked-from, made-from}
use Rattle.dds_calls.proofs.Treats.{Answers}
use Rattle.dds_cluster.specs.Lists.{is_update_of}
use Rattle.dds_cluster.specs.Trace.{is_run, next, run_of, start}
use Rattle.dds_cluster.specs.declared.step.Step.{Step}
use Rattle.dds_cluster.specs.declared.trace.Asked.{Asked}
use Rattle.dds_cluster.specs.declared.trace.Made.{Made}
use Rattle.dds_cluster.specs.declared.trace.Told.{Told}
use Rattle.dds_core.proofs.CallTurns.{Concerns, same-is}
use Rattle.dds_core.proofs.Lists.{all-is}
use Rattle.dds_core.specs.LibraryTurn.{call_row}
use Rattle.dds_core.specs.LibraryTurn as core
use Rattle.dds_history.specs.Map.{reply_with}
use Rattle.dds_letters.specs.declared.letter.Letter.{Letter}
use Rattle.dds_net.proofs.Journals.{IsNext, net_of, place-of}
use Rattle.dds_net.proofs.Letters.{first-all}
use Rattle.dds_net.specs.Event.{History, history_of, library_takes}
use Rattle.dds_net.specs.Net.{Net, Sizes, a_library, sizes_of}
use Rattle.dds_script.specs.Opening.{OpeningOf, ranges_of}
use Rattle.dds_script.specs.Ranges.{IsRanges}
use Rattle.dds_states.specs.declared.library_state.Desk.{Desk}
use Rattle.dds_states.specs.declared.library_state.LibraryState.{LibraryState}
use Rattle.dds_states.specs.declared.library_state.OpenCall.{OpenCall}
use Rattle.dds_talk.specs.Books as talk
use Rattle.dds_values.proofs.AtBricks.{op_at, op_in}
use Rattle.dds_values.proofs.Kept.{Below, Held}
use Rattle.dds_values.proofs.LibraryFlags.{Kept, had, heard}
use Rattle.dds_values.proofs.Settles.{PointFits}
use Rattle.dds_values.specs.Values.{CallFlag, HasFlag, LetterFlag, NodeHolds}
use Rattle.dds_world.specs.Stands.{is_result}
use Rattle.dds_values.proofs.Runs.{Premises, along}
use Rattle.dds_law_config.proofs.Rows.{update-reply}

-- The point of an answered update: the first one of the attempt that is answered, with the reply that is answered.

pub record IsItsReply (r : Told) (m : Made) : Type 0 where
  pub update : is_get m.entry.op ≡ false
  pub caller_is : m.entry.caller ≡ r.caller
  pub call_is : m.entry.call ≡ r.call
  pub reply_is : m.entry.reply ≡ r.reply

not-true : (b : Bool) → not b ≡ true → b ≡ false
not-true true e = cc
not-true false e = refl

-- the first point of an attempt is one of the points
abbrev IsThis : Txn → Made → Made → Type 0
IsThis t m x = (x ≡ m) × (is_update_of t x ≡ true)

first-has : (made : List Made) (t : Txn) (m : Made) → find (is_update_of t) made ≡ Some m → Has made (IsThis t m)
first-has [] t m e = cc
first-has (x ∷ made) t m e = pick (is_update_of t x) refl e (first-has made t m)
  where
    pick : (b : Bool) → is_update_of t x ≡ b → cond b (Some x) (find (is_update_of t) made) ≡ Some m
        → (find (is_update_of t) made ≡ Some m → Has made (IsThis t m)) → Has (x ∷ made) (IsThis t m)
    pick true f g k = let here : x ≡ m = cc in record { index = zero; it = x; there = refl; is = (here, f) }
    pick false f g k = let r = k g in record { index = suc r.index; it = r.it; there = r.there; is = r.is }

-- of an update's call that a library answers at a letter
module _ (z : Sizes) (h : History) (n : Net) (b : Book × talk.Books) (below : Below z h n b) (held : Held h n b) (at : ℕ) (s : LibraryState)
    (here : n.node at ≡ a_library s) (from : NodeNo) (l : Letter) (hears : LetterFlag h.made l) (place : ℕ) (c : OpenCall)
    (is : slice_get s.calls place ≡ Some c) (concerns : Concerns l c) (r : Told) (caller_is : r.caller ≡ c.request.caller)
    (call_is : r.call ≡ c.request.call) where
  listed : IsBooked b.0 c
  listed = all-is (IsBooked b.0) s.calls place c (subst (NodeListed b.0 at) here (below.stands.parts.0.3.nodes at)).calls is

  phase-is : PhaseOk z s.known c.request.op c.phase
  phase-is =
      (all-is (CallOk z s.number s.next s.known) s.calls place c (subst (NodeOk (Attempts n) z at) here (below.stands.parts.0.2.nodes at)).calls is).its_phase

  flag-is : (was : Bool) → Kept c l was → HasFlag h.made c.txn was
  flag-is was (had e) = all-is (CallFlag h.made) s.calls place c (subst (NodeHolds h.made) here (held.is.nodes at)) is was e
  flag-is was (heard txn e) =
      subst (λ t. HasFlag h.made t was) (letter-txn l c txn (ap core.attempt_of e) concerns) (subst (LetterFlag h.made) e hears)

  its-reply : (i : ℕ) (m : Made) (was : Bool) → slice_get h.made i ≡ Some m → is_update_of c.txn m ≡ true → m.entry.reply ≡ reply_with m.entry.op was
      → reply_with c.request.op was ≡ r.reply → IsItsReply r m
  its-reply i m was there u reply answer =
      let q = and_parts (same_txn m.txn c.txn) (not (is_get m.entry.op)) u in
      let txn_is : m.txn ≡ c.txn = same-is m.txn c.txn q.0 in
      let update : is_get m.entry.op ≡ false = not-true (is_get m.entry.op) q.1 in
      let p = all-is (PointIs b.0 b.1) h.made i m below.stands.last.made there update in
      let same : p.its ≡ listed.its = (let two : Some p.its ≡ Some listed.its = sym p.there ∙ ap b.0 txn_is ∙ listed.there in cc) in
      let asked = (all-is (PointFits (op_at b.0) b.1.decided) h.made i m held.fit there update).1 in
      let op_is : m.entry.op ≡ listed.its.op =
      (let two : Some m.entry.op ≡ Some listed.its.op = sym asked ∙ ap (op_at b.0) txn_is ∙ ap op_in listed.there in cc) in
      record {
        update = update;
        caller_is = sym p.caller_is ∙ ap (λ (x : Entry). x.caller) same ∙ listed.caller_is ∙ sym caller_is;
        call_is = sym p.call_is ∙ ap (λ (x : Entry). x.call) same ∙ listed.call_is ∙ sym call_is;
        reply_is = reply ∙ ap (λ x. reply_with x was) (op_is ∙ listed.op_is) ∙ answer;
      }

  reply-point : (d : Desk) → is_get c.request.op ≡ false → (call_row d c from l).went.reply ≡ Some r.reply → is_result r.reply ≡ true
      → Has h.made (IsItsReply r)
  reply-point d update given good =
      let w = update-reply z s.known d c from l r.reply phase-is update given good in
      let f = flag-is w.was w.kept in
      let x = first-has h.made c.txn f.point f.first in
      record {
        index = x.index;
        it = x.it;
        there = x.there;
        is = its-reply x.index x.it w.was x.there x.is.1 (subst (λ (m : Made). m.entry.reply ≡ reply_with m.entry.op w.was) (sym x.is.0) f.reply) w.reply_is;
      }

-- the points of a run only grow
has-in : (o : OpeningOf) (front rest journal : List Step) (P : Made → Type 0) → front ++ rest ≡ journal → Has (run_of o front).made P
    → Has (run_of o journal).made P
has-in o front rest journal P whole w =
    let g = made-from (start o) front rest in
    subst (λ j. Has (run_of o j).made P) whole (subst (λ ms. Has ms P) (sym g.is) (has-later (run_of o front).made g.more P w))

-- the operation of a call is that with which it was asked
asked-op : (o : OpeningOf) (front rest journal : List Step) (at : ℕ) (s : LibraryState) (place : ℕ) (c : OpenCall) (i : ℕ) (a : Asked)
    → IsRanges (ranges_of o) → front ++ rest ≡ journal → is_run o front ≡ true → is_run o journal ≡ true → (net_of o front).node at ≡ a_library s
    → slice_get s.calls place ≡ Some c → slice_get (run_of o journal).asked i ≡ Some a → a.caller ≡ c.request.caller → a.call.0 ≡ c.request.call.0
    → a.op ≡ c.request.op
asked-op o front rest journal at s place c i a ranges whole early run here is there p q =
    let t = run_of o front in
    let old = WasAsked t.asked t.steps in
    let w = all-is (RequestIs old) s.calls place c (subst (NodeIs old at) here ((run-asked o front ranges early).nodes at)) is in
    let g = asked-from (start o) front rest in
    let later : slice_get (run_of o journal).asked w.index ≡ Some w.it =
    subst (λ j. slice_get (run_of o j).asked w.index ≡ Some w.it) whole
    (ap (λ xs. slice_get xs w.index) g.is ∙ get-front t.asked g.more w.index w.it w.there) in
    let same = one-asked (run_of o journal).asked i w.index a w.it (run-asked o journal ranges run).apart there later (p ∙ sym w.caller_is)
    (q ∙ ap (λ (k : CallNo). k.0) (sym w.call_is)) in
    ap (λ (x : Asked). x.op) same ∙ w.op_is

module _ (o : OpeningOf) (journal : List Step) (given : Premises o journal) (i : ℕ) (a : Asked) (there : slice_get (run_of o journal).asked i ≡ Some a)
    (update : is_get a.op ≡ false) (t : Told) (g : IsGiven o journal t) (its : IsOf a t) (good : is_result t.reply ≡ true) where
  abbrev front : List Step
  front = take t.place journal

  abbrev rest : List Step
  rest = g.step ∷ drop (t.place + 1) journal

  whole : front ++ rest ≡ journal
  whole = sym (append_assoc front (g.step ∷ []) (drop (t.place + 1) journal)) ∙ (place-of o journal t.place g.step given.run g.is).whole

  early : is_run o front ≡ true
  early = (place-of o journal t.place g.step given.run g.is).run

  by-letter : (at from : ℕ) (l : Letter) (s : LibraryState) → IsNext o front g.step (library_takes at from l s) → Answers s from l (reply_to t)
      → Has (run_of o front).made (IsItsReply t)
  by-letter at from l s next w =
      let c = w.by.call in
      let e = w.is in
      let caller_is : t.caller ≡ c.request.caller = cc in
      let call_is : t.call ≡ c.request.call = cc in
      let reply_is : t.reply ≡ w.reply = cc in
      let k = along o front rest journal given whole early in
      let h = history_of (run_of o front) in
      let n = net_of o front in
      let op_is = asked-op o front rest journal at s w.by.index c i a given.opening.ranges whole early given.run next.fits.here w.by.there there
      (its.0 ∙ caller_is) (its.1 ∙ ap (λ (x : CallNo). x.0) call_is) in
      reply-point (sizes_of o) h n k.books k.below k.held at s next.fits.here from l
      (first-all (LetterFlag h.made) (sizes_of o) n at from l next.fits.letter (k.held.is.sent from at)) w.by.index c w.by.there w.by.concerns t caller_is
      call_is w.by.desk (ap is_get (sym op_is) ∙ update) (w.given ∙ ap Some (sym reply_is)) good

  by-event : AnsweredBy o front g.step t → Has (run_of o front).made (IsItsReply t)
  by-event (at_letter at from l s next own w) = by-letter at from l s next w
  by-event (at_input at caller call op s next own m stop begun again caller_is call_is) =
      absurd (both_ways (is_result t.reply) (ap is_result again) good)

  pub reply-there : Has (run_of o journal).made (IsItsReply t)
  reply-there = has-in o front rest journal (IsItsReply t) whole (by-event (answered o journal t given.opening given.run g))
