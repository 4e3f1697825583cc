use Rattle.std.proofs.Common.{◌≡◌, ℕ, ◌⊎◌, inl, inr, false, Some, None, List, sym, ap, ◌∙◌, subst}
use Rattle.dds_attempts.proofs.Runs.{Stands}
use Rattle.dds_base.specs.Number.{Txn}
use Rattle.dds_base.specs.declared.number.CallNo.{CallNo}
use Rattle.dds_base.specs.declared.number.CallerNo.{CallerNo}
use Rattle.dds_base.specs.declared.number.NodeNo.{NodeNo}
use Rattle.dds_base.specs.declared.op.Op.{Op}
use Rattle.dds_books.proofs.Turns.{end-with}
use Rattle.dds_books.specs.Books.{Book}
use Rattle.dds_books.specs.Calls.{CallsOk, LibraryIs}
use Rattle.dds_call_rows.specs.Library.{begin}
use Rattle.dds_calls.proofs.Answered.{differ, made-all}
use Rattle.dds_calls.proofs.Treats.{Becomes as CallBecomes, Was, library-treats}
use Rattle.dds_cluster.specs.declared.trace.Caller.{Caller}
use Rattle.dds_cluster.specs.declared.trace.Made.{Made}
use Rattle.dds_core.proofs.CallDoes.{new-begins}
use Rattle.dds_core.proofs.CallTurns.{Concerns, a_notice, its_attempt}
use Rattle.dds_core.proofs.Lists.{all-is, all-map}
use Rattle.dds_core.specs.LibraryTurn.{desk_of, live_library_turn, new_request}
use Rattle.dds_core.specs.LibraryTurn as core
use Rattle.dds_letters.specs.declared.letter.Letter.{Letter}
use Rattle.dds_net.proofs.Carried.{AllCarried, Becomes}
use Rattle.dds_net.proofs.Letters.{first-all}
use Rattle.dds_net.specs.Event.{Event, Fits, History, asked_turn, nothing, unheard, unasked, brick_takes, brick_told}
use Rattle.dds_net.specs.Event.{brick_stops, library_asked, library_stops, library_takes}
use Rattle.dds_net.specs.Net.{Net, a_library, Sizes}
use Rattle.dds_states.specs.declared.library_state.LibraryState.{LibraryState}
use Rattle.dds_states.specs.declared.library_state.OpenCall.{OpenCall}
use Rattle.dds_talk.specs.Books as talk
use Rattle.dds_answered.proofs.Backed.{IsBacked}
use Rattle.dds_answered.proofs.Claim.{FlagBacked, FlagsBacked}
use Rattle.dds_answered.proofs.Having.{Has, IsUpdateOf}
use Rattle.dds_answered.proofs.Results.{HasFlag, before, begun-unflagged, flagged, now}

-- A flag that an open call keeps has its point: it was kept of an Applied.

-- the letter is of the call's attempt
pub letter-txn : (l : Letter) (c : OpenCall) (txn : Txn) → core.attempt_of l ≡ Some txn → Concerns l c → txn ≡ c.txn
letter-txn l c txn e (its_attempt k) = let same : Some txn ≡ Some c.txn = sym e ∙ k in cc
letter-txn l c txn e (a_notice k) = let no : None ≡ Some txn = sym (ap core.attempt_of k) ∙ e in cc

pub flag-there : (made : List Made) (c : OpenCall) (l : Letter) → Concerns l c → IsBacked made l → FlagBacked made c → HasFlag c l → Has made (IsUpdateOf c.txn)
flag-there made c l concerns backed own (now txn was e) =
    subst (λ t. Has made (IsUpdateOf t)) (letter-txn l c txn (ap core.attempt_of e) concerns) (subst (IsBacked made) e backed)
flag-there made c l concerns backed own (before f) = own f

module _ (made : List Made) (s : LibraryState) (from : NodeNo) (l : Letter) (backed : IsBacked made l) (flags : FlagsBacked made s) where
  turned-flag : (x : OpenCall) → Was s x ⊎ CallBecomes s from l x → FlagBacked made x
  turned-flag x (inl w) = all-is (FlagBacked made) s.calls w.index x flags w.there
  turned-flag x (inr w) = λ f.
      let c = w.by.call in
      let k = flagged w.by.desk c x from l w.goes f in
      subst (λ t. Has made (IsUpdateOf t)) (sym k.txn_is)
      (flag-there made c l w.by.concerns backed (all-is (FlagBacked made) s.calls w.by.index c flags w.by.there) k.flag)

turn-flags : (made : List Made) (cs : List Caller) (at : ℕ) (s : LibraryState) (from : NodeNo) (l : Letter) → s.stopped ≡ false → CallsOk cs at s
    → IsBacked made l → FlagsBacked made s → FlagsBacked made (live_library_turn s from l).state
turn-flags made cs at s from l live own backed flags =
    let k = library-treats s from l live (differ s.calls own.apart) (made-all s.next s.calls own.below) in
    all-map (λ x. Was s x ⊎ CallBecomes s from l x) (FlagBacked made) (live_library_turn s from l).state.calls
    (λ x q. turned-flag made s from l backed flags x q) k.calls

asked-flags : (made : List Made) (s : LibraryState) (caller : CallerNo) (call : CallNo) (o : Op) → FlagsBacked made s
    → FlagsBacked made (asked_turn s caller call o).state
asked-flags made s caller call o flags =
    let r = new_request caller call o in
    let d = desk_of s s.calls in
    let t = begin d r in
    (end-with s.calls t.went.call).each (FlagBacked made) flags (λ x e f. absurd (begun-unflagged d r t x (new-begins d r) e f))

pub own-calls : (z : Sizes) (h : History) (n : Net) (b : Book × talk.Books) (at : ℕ) (s : LibraryState) → Stands z h n b → n.node at ≡ a_library s
    → CallsOk h.callers at s
own-calls z h n b at s k here = subst (LibraryIs (CallsOk h.callers at)) here (k.parts.0.1.calls at)

pub event-flags : (z : Sizes) (h : History) (n : Net) (e : Event) (b : Book × talk.Books) (made : List Made) → Fits z h.callers n e → Stands z h n b
    → AllCarried (λ x y l. IsBacked made l) n → ((k : ℕ) → LibraryIs (FlagsBacked made) (n.node k)) → Becomes (λ k x. LibraryIs (FlagsBacked made) x) e
event-flags z h n (library_takes at from l s) b made f k letters flags =
    turn-flags made h.callers at s from l f.live (own-calls z h n b at s k f.here)
    (first-all (IsBacked made) z n at from l f.letter (letters from at)) (subst (LibraryIs (FlagsBacked made)) f.here (flags at))
event-flags z h n (library_asked at caller call o s) b made f k letters flags =
    asked-flags made s caller call o (subst (LibraryIs (FlagsBacked made)) f.here (flags at))
event-flags z h n (library_stops at s left) b made f k letters flags = subst (LibraryIs (FlagsBacked made)) f.here (flags at)
event-flags z h n nothing b made f k letters flags = tt
event-flags z h n (unheard at from l) b made f k letters flags = tt
event-flags z h n (unasked at caller call o) b made f k letters flags = tt
event-flags z h n (brick_takes at from l s) b made f k letters flags = tt
event-flags z h n (brick_told at o s) b made f k letters flags = tt
event-flags z h n (brick_stops at s left) b made f k letters flags = tt
