use Rattle.std.proofs.Common.{◌≡◌, ℕ, ◌<◌, false, Option, Some, None, List, [], ◌∷◌, refl, sym, ap, ◌∙◌, subst}
use Rattle.std.proofs.lemmas.Bool.{both_ways}
use Rattle.std.specs.List.{AllByRecursion}
use Rattle.std.specs.Prelude.{slice_get}
use Rattle.dds_attempts.proofs.Claim.{PointIs}
use Rattle.dds_attempts.proofs.Runs.{Stands}
use Rattle.dds_base.specs.Number.{Txn}
use Rattle.dds_base.specs.declared.number.CallNo.{CallNo}
use Rattle.dds_base.specs.declared.number.NodeNo.{NodeNo}
use Rattle.dds_base.specs.declared.op.Reply.{Reply}
use Rattle.dds_base.specs.declared.op.Reply.TheVariants as reply
use Rattle.dds_books.specs.Books.{Book, Entry, IsBooked, NodeListed}
use Rattle.dds_books.specs.Calls.{LibraryIs}
use Rattle.dds_call_rows.specs.Library.{begin}
use Rattle.dds_calls.proofs.Answered.{differ, made-all}
use Rattle.dds_calls.proofs.Reasons.{begins-again}
use Rattle.dds_calls.proofs.Treats.{Answers, library-treats}
use Rattle.dds_cluster.specs.Trace.{told_at}
use Rattle.dds_cluster.specs.declared.trace.Made.{Made}
use Rattle.dds_cluster.specs.declared.trace.Told.{Told}
use Rattle.dds_core.proofs.CallDoes.{new-begins}
use Rattle.dds_core.proofs.CallTurns.{Concerns}
use Rattle.dds_core.proofs.LetterTells.{MetAt, letter-tells}
use Rattle.dds_core.proofs.Lists.{all-is, all-map}
use Rattle.dds_core.proofs.OrderTells.{InputMet, order-tells}
use Rattle.dds_core.proofs.Tells.{Given, Gives}
use Rattle.dds_core.specs.LibraryTurn.{desk_of, live_library_turn, new_request}
use Rattle.dds_core.specs.LibraryTurn as core
use Rattle.dds_letters.specs.declared.letter.Letter.{Letter}
use Rattle.dds_net.proofs.Letters.{first-all}
use Rattle.dds_net.specs.Event.{Event, Fits, History, replies_of, nothing, unheard, unasked, brick_takes, brick_told}
use Rattle.dds_net.specs.Event.{brick_stops, library_asked, library_stops, library_takes}
use Rattle.dds_net.specs.Net.{Net, a_library, Sizes}
use Rattle.dds_states.specs.Turn.{read_of}
use Rattle.dds_states.specs.declared.library_state.LibraryState.{LibraryState}
use Rattle.dds_states.specs.declared.library_state.OpenCall.{OpenCall}
use Rattle.dds_states.specs.declared.turn.Replied.{Replied}
use Rattle.dds_states.specs.declared.turn.Replied.TheVariants as replied
use Rattle.dds_talk.specs.Books as talk
use Rattle.dds_world.specs.Stands.{is_result}
use Rattle.dds_answered.proofs.Backed.{IsBacked}
use Rattle.dds_answered.proofs.Claim.{AreBacked, FlagBacked, FlagsBacked, HasPoint, IsItsRead, IsItsUpdate, ToldBacked, was_applied, was_read}
use Rattle.dds_answered.proofs.Having.{Has, IsReadOf, IsUpdateOf}
use Rattle.dds_answered.proofs.Results.{Result, applied, got_absent, got_value, result}
use Rattle.dds_answered.proofs.Flags.{flag-there, letter-txn, own-calls}

-- An answer that is a result has its point: it comes of a Got, or of an Applied, now or kept.

-- an answer at a place has its point
abbrev ReplyBacked : List Made → ℕ → Replied → Type 0
ReplyBacked made place (replied.Call read caller call r) =
    ToldBacked made (record { place = place; read = read; caller = caller; call = call; reply = r })
ReplyBacked made place (replied.Order r) = Unit {0}

pub told-backed : (made : List Made) (place : ℕ) (rs : List Replied) → AllByRecursion (ReplyBacked made place) rs
    → AllByRecursion (ToldBacked made) (told_at place rs)
told-backed made place [] h = tt
told-backed made place (replied.Call read caller call r ∷ rs) h = (h.0, told-backed made place rs h.1)
told-backed made place (replied.Order r ∷ rs) h = told-backed made place rs h.1

orders-backed : (M : Given) (made : List Made) (place : ℕ) (rs : List Replied) → AllByRecursion (Gives M) rs → AllByRecursion (ReplyBacked made place) rs
orders-backed M made place [] h = tt
orders-backed M made place (replied.Order r ∷ rs) h = (tt, orders-backed M made place rs h.1)
orders-backed M made place (replied.Call read caller call r ∷ rs) h = absurd h.0

-- with the points before the event, each at a place before it
module _ (z : Sizes) (h : History) (n : Net) (b : Book × talk.Books) (k : Stands z h n b) (g : AreBacked h n b.0) where
  earlier : (P Q : Made → Type 0) → ((m : Made) → P m → m.place < h.steps → Q m) → Has h.made P → Has h.made Q
  earlier P Q f w =
      record { index = w.index; it = w.it; there = w.there; is = f w.it w.is (all-is (λ (m : Made). m.place < h.steps) h.made w.index w.it g.places w.there) }

  -- the call of an update's point is that of its attempt
  module _ (at : ℕ) (s : LibraryState) (here : n.node at ≡ a_library s) (place : ℕ) (c : OpenCall) (is : slice_get s.calls place ≡ Some c) where
    abbrev answer_of : Reply → Told
    answer_of r = record { place = h.steps; read = read_of c.txn r; caller = c.request.caller; call = c.request.call; reply = r }

    listed : IsBooked b.0 c
    listed = all-is (IsBooked b.0) s.calls place c (subst (NodeListed b.0 at) here (k.parts.0.3.nodes at)).calls is

    its-update : (r : Reply) (i : ℕ) (m : Made) → slice_get h.made i ≡ Some m → IsUpdateOf c.txn m → m.place < h.steps → IsItsUpdate (answer_of r) m
    its-update r i m there u low =
        let p = all-is (PointIs b.0 b.1) h.made i m k.last.made there u.1 in
        let same : p.its ≡ listed.its = (let two : Some p.its ≡ Some listed.its = sym p.there ∙ ap b.0 u.0 ∙ listed.there in cc) in (
          u.1,
          sym p.caller_is ∙ ap (λ (x : Entry). x.caller) same ∙ listed.caller_is,
          sym p.call_is ∙ ap (λ (x : Entry). x.call) same ∙ listed.call_is,
          low,
        )

    applied-point : (r : Reply) → Has h.made (IsUpdateOf c.txn) → HasPoint h.made (answer_of r)
    applied-point r w =
        was_applied (record {
          index = w.index;
          it = w.it;
          there = w.there;
          is = its-update r w.index w.it w.there w.is (all-is (λ (m : Made). m.place < h.steps) h.made w.index w.it g.places w.there);
        })

    read-point : (r : Reply) → read_of c.txn r ≡ Some c.txn → Has h.made (IsReadOf c.txn r) → HasPoint h.made (answer_of r)
    read-point r e w = was_read (earlier (IsReadOf c.txn r) (IsItsRead (answer_of r)) (λ m q low. (e ∙ ap Some (sym q.0), q.1, q.2, low)) w)

    result-point : (l : Letter) (r : Reply) → Concerns l c → IsBacked h.made l → FlagBacked h.made c → Result c l r → HasPoint h.made (answer_of r)
    result-point l r concerns backed own (got_value txn value e f) =
        let txn_is = letter-txn l c txn (ap core.attempt_of e) concerns in
        subst (λ x. HasPoint h.made (answer_of x)) f
        (read-point (reply.Value value) refl (subst (λ t. Has h.made (IsReadOf t (reply.Value value))) txn_is (subst (IsBacked h.made) e backed)))
    result-point l r concerns backed own (got_absent txn e f) =
        let txn_is = letter-txn l c txn (ap core.attempt_of e) concerns in
        subst (λ x. HasPoint h.made (answer_of x)) f
        (read-point reply.Absent refl (subst (λ t. Has h.made (IsReadOf t reply.Absent)) txn_is (subst (IsBacked h.made) e backed)))
    result-point l r concerns backed own (applied commits flag) = applied-point r (flag-there h.made c l concerns backed own flag)

  answer-backed : (at : ℕ) (from : NodeNo) (l : Letter) (s : LibraryState) → n.node at ≡ a_library s → IsBacked h.made l → FlagsBacked h.made s → (r : Replied)
      → Answers s from l r → ReplyBacked h.made h.steps r
  answer-backed at from l s here backed flags r w =
      let c = w.by.call in
      subst (ReplyBacked h.made h.steps) (sym w.is) (λ good.
      result-point at s here w.by.index c w.by.there l w.reply w.by.concerns backed
      (all-is (FlagBacked h.made) s.calls w.by.index c flags w.by.there) (result w.by.desk c from l w.reply w.given good))

  begun-backed : (caller : ℕ) (call : CallNo) (txn : Txn) (o : Option Reply) → ((r : Reply) → o ≡ Some r → is_result r ≡ false)
      → AllByRecursion (ReplyBacked h.made h.steps) (core.replies_of caller call txn o)
  begun-backed caller call txn None f = tt
  begun-backed caller call txn (Some r) f = (λ good. absurd (both_ways (is_result r) (f r refl) good), tt)

  pub replies-backed : (e : Event) → Fits z h.callers n e → AllByRecursion (ReplyBacked h.made h.steps) (replies_of e)
  replies-backed (brick_takes at from l s) f = orders-backed (MetAt s from l) h.made h.steps _ (letter-tells s from l).replies
  replies-backed (brick_told at o s) f = orders-backed (InputMet s o) h.made h.steps _ (order-tells {L = λ to l. ⊥} s o).replies
  replies-backed (library_takes at from l s) f =
      let own = own-calls z h n b at s k f.here in
      let t = library-treats s from l f.live (differ s.calls own.apart) (made-all s.next s.calls own.below) in
      all-map (Answers s from l) (ReplyBacked h.made h.steps) (live_library_turn s from l).out.replies
      (answer-backed at from l s f.here (first-all (IsBacked h.made) z n at from l f.letter (g.letters from at))
      (subst (LibraryIs (FlagsBacked h.made)) f.here (g.flags at))) t.replies
  replies-backed (library_asked at caller call o s) f =
      let r = new_request caller call o in
      let d = desk_of s s.calls in
      let t = begin d r in
      begun-backed caller call (record { library = s.number; number = s.next }) t.went.reply
      (λ x e. let w = begins-again d r t x (new-begins d r) e in ap is_result (sym w.2))
  replies-backed nothing f = tt
  replies-backed (unheard at from l) f = tt
  replies-backed (unasked at caller call o) f = tt
  replies-backed (brick_stops at s left) f = tt
  replies-backed (library_stops at s left) f = tt
