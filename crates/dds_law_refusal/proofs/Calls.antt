use Rattle.std.proofs.Common.{◌≡◌, ℕ, inl, inr, Some, List, refl, sym, ap, ◌∙◌, subst}
use Rattle.dds_base.specs.Number.{Txn}
use Rattle.dds_base.specs.declared.number.CallNo.{CallNo}
use Rattle.dds_base.specs.declared.number.NodeNo.{NodeNo}
use Rattle.dds_base.specs.declared.op.Met.{Met}
use Rattle.dds_call_rows.specs.Library.{CallTurn}
use Rattle.dds_core.specs.LibraryTurn.{attempt_of}
use Rattle.dds_core.proofs.CallDoes.{Begins, CallDoes, IsStop, Meets, a_stop, aborts, applies, commits, gets, idles, in_letter, in_vote, kept, looks, prepares}
use Rattle.dds_core.proofs.CallDoes.{tries, votes, waits_aborted, waits_told}
use Rattle.dds_core.proofs.CallTurns.{Concerns, a_notice, its_attempt}
use Rattle.dds_core.proofs.LibraryAttempts.{IsHeld}
use Rattle.dds_core.proofs.Lists.{this-one}
use Rattle.dds_letters.specs.declared.letter.Letter.{Letter}
use Rattle.dds_letters.specs.declared.letter.Letter.TheVariants as letter
use Rattle.dds_letters.specs.declared.refusal.Answer.TheVariants as answer
use Rattle.dds_letters.specs.declared.refusal.Ballot.TheVariants as ballot
use Rattle.dds_letters.specs.declared.refusal.Denial.{Denial}
use Rattle.dds_letters.specs.declared.refusal.Denial.TheVariants as denial
use Rattle.dds_letters.specs.declared.refusal.Refusal.{Refusal}
use Rattle.dds_letters.specs.declared.refusal.Refusal.TheVariants as refusal
use Rattle.dds_order_rows.specs.OwnOrder.{met_of}
use Rattle.dds_script.specs.Opening.{OpeningOf}
use Rattle.dds_states.specs.declared.library_state.Desk.{Desk}
use Rattle.dds_states.specs.declared.library_state.LibraryState.{LibraryState}
use Rattle.dds_states.specs.declared.library_state.OpenCall.{OpenCall}
use Rattle.dds_states.specs.declared.library_state.Request.{Request}
use Rattle.dds_world.specs.Refusals.{CallWasRefused, WasMet}
use Rattle.dds_cluster.specs.declared.step.Step.{Step}
use Rattle.dds_net.specs.Net.{Net, a_library}
use Rattle.dds_law_refusal.proofs.Good.{CallOk, LetterOk, PhaseOk, TiedAt, TiedIn, WasDenied}

-- What a call's turn at its library keeps of refusals.

was-met : (o : OpeningOf) (journal : List Step) (caller : ℕ) (call : CallNo) (brick : NodeNo) (why : Refusal)
    → CallWasRefused o journal caller call (met_of why brick) → WasMet o journal caller call (met_of why brick)
was-met o journal caller call brick refusal.Lease h = h
was-met o journal caller call brick refusal.Lock h = h
was-met o journal caller call brick (refusal.Stale leaf) h = h

stop-met : (o : OpeningOf) (journal : List Step) (caller : ℕ) (call : CallNo) (m : Met) → IsStop m → WasMet o journal caller call m
stop-met o journal caller call m s = subst (WasMet o journal caller call) s.is tt

-- what a call that begins or asks keeps
begun-kept : {M : Met → Type 0} (o : OpeningOf) (journal : List Step) (d : Desk) (r : Request) (t : CallTurn) (x : OpenCall) → Begins M d r t
    → ((m : Met) → M m → WasMet o journal r.caller r.call m) → t.went.call ≡ Some x → CallOk o journal x
begun-kept o journal d r _ x (gets leaf m ms key e f g) w is = this-one (CallOk o journal) _ x is tt
begun-kept o journal d r _ x (prepares leaf m ms e f g) w is = this-one (CallOk o journal) _ x is tt
begun-kept o journal d r _ x (looks m n ns e h) w is = this-one (CallOk o journal) _ x is (w m h)
begun-kept o journal d r _ x other w is = cc

pub new-kept : (o : OpeningOf) (journal : List Step) (d : Desk) (r : Request) (t : CallTurn) (x : OpenCall) → Begins IsStop d r t → t.went.call ≡ Some x
    → CallOk o journal x
new-kept o journal d r t x b is = begun-kept o journal d r t x b (λ m s. stop-met o journal r.caller r.call m s) is

-- A letter comes to a library, of which this is said.

pub record Hears (o : OpeningOf) (journal : List Step) (n : Net) (at : ℕ) (old : LibraryState) (from to : NodeNo) (l : Letter) : Type 0 where
  pub here : n.node at ≡ a_library old
  pub number : old.number ≡ at
  pub says : LetterOk o journal n from to l

-- the open call with the letter's attempt is the call to which the attempt is tied
its-txn : (l : Letter) (c : OpenCall) (txn : Txn) → Concerns l c → attempt_of l ≡ Some txn → (l ≡ letter.Notice → ⊥) → txn ≡ c.txn
its-txn l c txn (its_attempt e) is other = let same = sym is ∙ e in cc
its-txn l c txn (a_notice e) is other = absurd (other e)

tied-call : (n : Net) (at : ℕ) (old : LibraryState) (c : OpenCall) (txn : Txn) (a : ℕ) (b : CallNo) → n.node at ≡ a_library old → old.number ≡ at → IsHeld old c
    → txn ≡ c.txn → TiedIn n txn a b → (c.request.caller ≡ a) × (c.request.call ≡ b)
tied-call n at old c txn a b here number held e tie =
    let home : txn.library ≡ at = ap (λ (t : Txn). t.library) e ∙ held.library ∙ number in
    held.ties txn a b (subst (TiedAt txn a b) (ap n.node home ∙ here) tie) (ap (λ (t : Txn). t.number) (sym e))

got-met : (o : OpeningOf) (journal : List Step) (n : Net) (at : ℕ) (old : LibraryState) (from to : NodeNo) (l : Letter) (c : OpenCall) (txn : Txn)
    (why : Refusal) → Hears o journal n at old from to l → Concerns l c → IsHeld old c → l ≡ letter.Got txn (answer.Refused why)
    → WasMet o journal c.request.caller c.request.call (met_of why from)
got-met o journal n at old from to l c txn why h concerns held is =
    let f = subst (LetterOk o journal n from to) is h.says in
    let mine = its-txn l c txn concerns (ap attempt_of is) (λ e. let k = sym is ∙ e in cc) in
    let same = tied-call n at old c txn f.0.caller f.0.call h.here h.number held mine f.1 in
    was-met o journal c.request.caller c.request.call from why
    (inl (record { brick = from; txn = txn; why = why; was = f.0; caller_is = sym same.0; call_is = sym same.1; met = refl }))

vote-denied : (o : OpeningOf) (journal : List Step) (n : Net) (at : ℕ) (old : LibraryState) (from to : NodeNo) (l : Letter) (c : OpenCall) (txn : Txn)
    (why : Denial) → Hears o journal n at old from to l → Concerns l c → IsHeld old c → l ≡ letter.Vote txn (ballot.No why)
    → WasDenied o journal c.txn c.request.caller c.request.call from why
vote-denied o journal n at old from to l c txn why h concerns held is =
    let f = subst (LetterOk o journal n from to) is h.says in
    let mine = its-txn l c txn concerns (ap attempt_of is) (λ e. let k = sym is ∙ e in cc) in
    let same = tied-call n at old c txn f.0.caller f.0.call h.here h.number held mine f.1 in
    subst (λ t. WasDenied o journal t c.request.caller c.request.call from why) mine (f.0, sym same.0, sym same.1)

denied-met : (o : OpeningOf) (journal : List Step) (txn : Txn) (caller : ℕ) (call : CallNo) (brick : NodeNo) (why : Refusal)
    → WasDenied o journal txn caller call brick (denial.Refused why) → WasMet o journal caller call (met_of why brick)
denied-met o journal txn caller call brick why h =
    was-met o journal caller call brick why (inr (record { brick = brick; txn = txn; why = why; was = h.0; caller_is = h.1; call_is = h.2; met = refl }))

pub meets : (o : OpeningOf) (journal : List Step) (n : Net) (at : ℕ) (old : LibraryState) (from to : NodeNo) (l : Letter) (c : OpenCall) (m : Met)
    → Hears o journal n at old from to l → Concerns l c → IsHeld old c → CallOk o journal c → Meets c from l m
    → WasMet o journal c.request.caller c.request.call m
meets o journal n at old from to l c m h concerns held k (in_letter txn why is e) =
    subst (WasMet o journal c.request.caller c.request.call) e (got-met o journal n at old from to l c txn why h concerns held is)
meets o journal n at old from to l c m h concerns held k (in_vote waiting why brick is e) =
    subst (WasMet o journal c.request.caller c.request.call) e
    (denied-met o journal c.txn c.request.caller c.request.call brick why (subst (PhaseOk o journal c.txn c.request.caller c.request.call) is k))
meets o journal n at old from to l c m h concerns held k (kept waiting newest is) = subst (PhaseOk o journal c.txn c.request.caller c.request.call) is k
meets o journal n at old from to l c m h concerns held k (a_stop s) = stop-met o journal c.request.caller c.request.call m s

pub turn-kept : (o : OpeningOf) (journal : List Step) (n : Net) (at : ℕ) (old : LibraryState) (from to : NodeNo) (l : Letter)
    → Hears o journal n at old from to l → (d : Desk) (c : OpenCall) (t : CallTurn) (x : OpenCall) → Concerns l c → IsHeld old c → CallDoes d c from l t
    → CallOk o journal c → t.went.call ≡ Some x → CallOk o journal x
turn-kept o journal n at old from to l h d c _ x concerns held (tries map retries pushed ls t pushes b) k e =
    begun-kept o journal _ _ t x b (λ m w. meets o journal n at old from to l c m h concerns held k w) e
turn-kept o journal n at old from to l h d c _ x concerns held (aborts leaf list waiting txn why p w is) k e =
    this-one (CallOk o journal) _ x e (vote-denied o journal n at old from to l c txn why h concerns held is)
turn-kept o journal n at old from to l h d c _ x concerns held (waits_aborted waiting why brick is w) k e =
    this-one (CallOk o journal) _ x e (subst (PhaseOk o journal c.txn c.request.caller c.request.call) is k)
turn-kept o journal n at old from to l h d c _ x concerns held (waits_told waiting newest next m is w) k e =
    this-one (CallOk o journal) _ x e (subst (PhaseOk o journal c.txn c.request.caller c.request.call) is k)
turn-kept o journal n at old from to l h d c _ x concerns held idles k e = this-one (CallOk o journal) c x e k
turn-kept o journal n at old from to l h d c _ x concerns held (votes leaf list waiting is p w) k e = this-one (CallOk o journal) _ x e tt
turn-kept o journal n at old from to l h d c _ x concerns held (commits leaf list waiting is p w) k e = this-one (CallOk o journal) _ x e tt
turn-kept o journal n at old from to l h d c _ x concerns held (applies leaf list waiting was next is w) k e = this-one (CallOk o journal) _ x e tt
turn-kept o journal n at old from to l h d c _ x concerns held other k e = cc
