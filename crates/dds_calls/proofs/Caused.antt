use Rattle.std.proofs.Common.{◌≡◌, ℕ, true, Some, List, sym, ap, ◌∙◌, subst}
use Rattle.std.specs.Prelude.{slice_get, take}
use Rattle.dds_base.specs.declared.number.CallNo.{CallNo}
use Rattle.dds_base.specs.declared.number.NodeNo.{NodeNo}
use Rattle.dds_base.specs.declared.op.Met.{Met}
use Rattle.dds_base.specs.declared.op.Met.TheVariants as met
use Rattle.dds_base.specs.declared.op.Reply.{Reply}
use Rattle.dds_base.specs.declared.op.Reply.TheVariants as reply
use Rattle.dds_cluster.specs.Trace.{is_run, run_of}
use Rattle.dds_cluster.specs.declared.step.Step.{Step}
use Rattle.dds_cluster.specs.declared.trace.Asked.{Asked}
use Rattle.dds_cluster.specs.declared.trace.Told.{Told}
use Rattle.dds_core.proofs.CallDoes.{IsStop, call-does}
use Rattle.dds_core.proofs.LibraryAttempts.{IsHeld, IsOf, IsOpen}
use Rattle.dds_core.proofs.Lists.{all-is}
use Rattle.dds_core.specs.LibraryTurn.{call_row}
use Rattle.dds_law_refusal.proofs.Calls.{Hears, meets}
use Rattle.dds_law_refusal.proofs.Facts.{run-good}
use Rattle.dds_law_refusal.proofs.Good.{CallOk, LetterOk, NodeOk, PhaseOk}
use Rattle.dds_letters.specs.declared.letter.Letter.{Letter}
use Rattle.dds_net.proofs.Journals.{IsNext, net_of, place-of}
use Rattle.dds_net.proofs.Letters.{first-all}
use Rattle.dds_net.specs.Event.{library_takes}
use Rattle.dds_net.specs.Net.{sizes_of}
use Rattle.dds_script.specs.Opening.{IsOpening, OpeningOf}
use Rattle.dds_states.specs.declared.library_state.LibraryState.{LibraryState}
use Rattle.dds_states.specs.declared.library_state.OpenCall.{OpenCall}
use Rattle.dds_world.specs.Causes.{FullBy, MetBy}
use Rattle.dds_world.specs.Refusals.{WasMet}
use Rattle.dds_world.specs.Stands.{is_result}
use Rattle.dds_calls.proofs.Answered.{AnsweredBy, answered, at_input, at_letter, case-of, of-answer, reply_to}
use Rattle.dds_calls.proofs.Answered as answered_so
use Rattle.dds_calls.proofs.Refused.{Case, full-cause, met-cause, the_no}
use Rattle.dds_calls.proofs.Reasons.{Reason, lost, met as has_met, reason, result, was_full}
use Rattle.dds_calls.proofs.Told.{IsGiven}
use Rattle.dds_calls.proofs.Treats.{Answers}

-- Each refusal that a call was answered was so at a brick within the call.

-- a brick refused the call what it was answered: for a lease, for a lock, for a stale leaf, or since its partition was full
abbrev pub RefusedBy : OpeningOf → List Step → Asked → Told → Reply → Type 0
RefusedBy o journal a told (reply.Again (met.Stopped brick)) = Unit {0}
RefusedBy o journal a told (reply.Again m) = MetBy o journal a told m
RefusedBy o journal a told (reply.Full brick) = FullBy o journal a told brick
RefusedBy o journal a told other = Unit {0}

result-refuses : (o : OpeningOf) (journal : List Step) (a : Asked) (told : Told) (r : Reply) → is_result r ≡ true → RefusedBy o journal a told r
result-refuses o journal a told (reply.Again m) e = cc
result-refuses o journal a told (reply.Full brick) e = cc
result-refuses o journal a told other e = tt

stop-refuses : (o : OpeningOf) (journal : List Step) (a : Asked) (told : Told) (m : Met) → IsStop m → RefusedBy o journal a told (reply.Again m)
stop-refuses o journal a told m s = subst (λ k. RefusedBy o journal a told (reply.Again k)) s.is tt

met-refuses : (o : OpeningOf) (journal : List Step) (a : Asked) (told : Told) (c : Case o journal a told) (caller : ℕ) (call : CallNo) (m : Met)
    → WasMet o c.front caller call m → a.caller ≡ caller → a.call.0 ≡ call.0 → RefusedBy o journal a told (reply.Again m)
met-refuses o journal a told c caller call (met.Stopped brick) w e f = tt
met-refuses o journal a told c caller call (met.Lease brick) w e f = met-cause o journal a told c caller call (met.Lease brick) w e f
met-refuses o journal a told c caller call (met.Lock brick) w e f = met-cause o journal a told c caller call (met.Lock brick) w e f
met-refuses o journal a told c caller call (met.Stale brick) w e f = met-cause o journal a told c caller call (met.Stale brick) w e f

-- what the answered call was, as its library took the letter
pub record Finds (o : OpeningOf) (front : List Step) (at from : ℕ) (l : Letter) (s : LibraryState) (c : OpenCall) : Type 0 where
  pub hears : Hears o front (net_of o front) at s from at l
  pub held : IsHeld s c
  pub kept : CallOk o front c

pub finds : (o : OpeningOf) (front : List Step) (x : Step) (at from i : ℕ) (l : Letter) (s : LibraryState) (c : OpenCall) → IsOpening o → is_run o front ≡ true
    → IsNext o front x (library_takes at from l s) → slice_get s.calls i ≡ Some c → Finds o front at from l s c
finds o front x at from i l s c h run next there =
    let z = sizes_of o in
    let n = net_of o front in
    let g = run-good o front h.ranges.bricks run in
    let f = next.fits in
    let own = subst (NodeOk o front at) f.here (g.nodes at) in
    let mine = all-is (IsOpen (CallOk o front) s.number s.next) s.calls i c own.1 there in
    record {
      hears = record { here = f.here; number = own.0; says = first-all (LetterOk o front n from at) z n at from l f.letter (g.letters from at) };
      held = record { library = mine.library; ties = λ txn u v tie. all-is (IsOf txn.number u v) s.calls i c tie.calls there };
      kept = mine.kept;
    }

reason-refuses : (o : OpeningOf) (journal : List Step) (a : Asked) (told : Told) (k : Case o journal a told) (at from : ℕ) (l : Letter) (s : LibraryState)
    (r : Reply) → (b : Answers s from l (reply_to told)) → Finds o k.front at from l s b.by.call → a.caller ≡ b.by.call.request.caller
    → a.call.0 ≡ b.by.call.request.call.0 → Reason b.by.call from l r → RefusedBy o journal a told r
reason-refuses o journal a told k at from l s r b f e g (result is) = result-refuses o journal a told r is
reason-refuses o journal a told k at from l s r b f e g (has_met m w is) =
    let c = b.by.call in
    subst (RefusedBy o journal a told) is
    (met-refuses o journal a told k c.request.caller c.request.call m
    (meets o k.front (net_of o k.front) at s from at l c m f.hears b.by.concerns f.held f.kept w) e g)
reason-refuses o journal a told k at from l s r b f e g (was_full waiting brick p is) =
    let c = b.by.call in
    let w = subst (PhaseOk o k.front c.txn c.request.caller c.request.call) p f.kept in
    subst (RefusedBy o journal a told) is (full-cause o journal a told k brick c.txn w.0 (e ∙ sym w.1) (g ∙ sym (ap the_no w.2)))
reason-refuses o journal a told k at from l s r b f e g (lost leaf list waiting p q w is) = subst (RefusedBy o journal a told) is tt

-- what an answer says of the call that was answered
pub record Names (t : Told) (c : OpenCall) (r : Reply) : Type 0 where
  pub caller : t.caller ≡ c.request.caller
  pub call : t.call ≡ c.request.call
  pub reply : r ≡ t.reply

pub names : (s : LibraryState) (from : NodeNo) (l : Letter) (t : Told) → (b : Answers s from l (reply_to t)) → Names t b.by.call b.reply
names s from l t b = let is = b.is in record { caller = cc; call = cc; reply = cc }

pub answer-refuses : (o : OpeningOf) (journal : List Step) (i : ℕ) (a : Asked) (t : Told) → IsOpening o → is_run o journal ≡ true
    → slice_get (run_of o journal).asked i ≡ Some a → (g : IsGiven o journal t) → answered_so.IsOf a t → AnsweredBy o (take t.place journal) g.step t
    → RefusedBy o journal a t t.reply
answer-refuses o journal i a t h run there g is (at_letter at from l s next own b) =
    let k = case-of o journal i a t h run there g in
    let p = place-of o journal t.place g.step run g.is in
    let c = b.by.call in
    let named = names s from l t b in
    let does_so = reason b.by.desk c from l (call_row b.by.desk c from l) b.reply (call-does b.by.desk c from l) b.given in
    subst (RefusedBy o journal a t) named.reply
    (reason-refuses o journal a t k at from l s b.reply b (finds o k.front g.step at from b.by.index l s c h p.run next b.by.there)
    (is.0 ∙ named.caller) (is.1 ∙ ap the_no named.call) does_so)
answer-refuses o journal i a t h run there g is (at_input at caller call op s next own m stop row e p q) =
    subst (RefusedBy o journal a t) (sym e) (stop-refuses o journal a t m stop)
