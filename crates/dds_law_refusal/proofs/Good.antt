use Rattle.std.proofs.Common.{◌≡◌, ℕ, List, ◌++◌}
use Rattle.dds_base.specs.Number.{Txn}
use Rattle.dds_base.specs.declared.number.CallNo.{CallNo}
use Rattle.dds_base.specs.declared.number.NodeNo.{NodeNo}
use Rattle.dds_letters.specs.declared.letter.Letter.{Letter}
use Rattle.dds_letters.specs.declared.letter.Letter.TheVariants as letter
use Rattle.dds_letters.specs.declared.refusal.Answer.{Answer}
use Rattle.dds_letters.specs.declared.refusal.Answer.TheVariants as answer
use Rattle.dds_letters.specs.declared.refusal.Ballot.{Ballot}
use Rattle.dds_letters.specs.declared.refusal.Ballot.TheVariants as ballot
use Rattle.dds_letters.specs.declared.refusal.Denial.{Denial}
use Rattle.dds_script.specs.Opening.{OpeningOf}
use Rattle.dds_states.specs.declared.library_state.LibraryState.{LibraryState}
use Rattle.dds_states.specs.declared.library_state.OpenCall.{OpenCall}
use Rattle.dds_states.specs.declared.library_state.Phase.{Phase}
use Rattle.dds_states.specs.declared.library_state.Phase.TheVariants as phase
use Rattle.dds_core.proofs.LibraryAttempts.{AreOpen, IsOpen, Tied}
use Rattle.dds_core.proofs.Lists.{all-map}
use Rattle.dds_world.specs.Refusals.{GetWasRefused, LeaseWasRefused, UpdateWasDenied, WasMet}
use Rattle.dds_cluster.specs.declared.step.Step.{Step}
use Rattle.dds_net.proofs.Carried.{AllCarried}
use Rattle.dds_net.specs.Net.{Net, Node, nowhere, a_brick, a_library}
use Rattle.dds_law_refusal.proofs.Later.{get-later, lease-later, met-later, update-later}

-- The invariant, of a journal and the nodes and channels that it leaves. What was refused is history: it names a place of the
-- journal, and stays so as the journal grows. So each part is of one letter on its way, or of one node.
--
-- | part | why it is needed | which rows keep it |
-- |---|---|---|
-- | a node's state has its number | an order names its brick by it, an attempt its library | all: none changes it |
-- | an open call's attempt is its library's, not to come (`IsOpen`) | a new attempt is of no letter on its way | Input, and what begins again |
-- | a Get's or Prepare's attempt is of no open call but its own (`TiedIn`) | what is refused of it is refused of that call | what sends it or ends a call |
-- | a Got or Vote that refuses was so, and its attempt is tied to that call | claimed; the call that takes it is that call | Get, Prepare |
-- | a LeaseRefused was so, of the brick that it comes to | claimed; an order may end because of it | Lease |
-- | an aborting call keeps a denial that was so, an asking one what it met (`PhaseOk`) | claimed; one becomes the other | Vote, Got, Aborted, MapTell, Notice |

-- a denial of this attempt of this call
abbrev pub WasDenied : OpeningOf → List Step → Txn → ℕ → CallNo → NodeNo → Denial → Type 0
WasDenied o journal txn caller call brick why = (was : UpdateWasDenied o journal brick txn why) × (was.caller ≡ caller) × (was.call ≡ call)

abbrev pub PhaseOk : OpeningOf → List Step → Txn → ℕ → CallNo → Phase → Type 0
PhaseOk o journal txn caller call (phase.Aborting waiting why brick) = WasDenied o journal txn caller call brick why
PhaseOk o journal txn caller call (phase.Asking waiting newest m) = WasMet o journal caller call m
PhaseOk o journal txn caller call other = Unit {0}

abbrev pub CallOk : OpeningOf → List Step → OpenCall → Type 0
CallOk o journal c = PhaseOk o journal c.txn c.request.caller c.request.call c.phase

abbrev pub NodeOk : OpeningOf → List Step → ℕ → Node → Type 0
NodeOk o journal k nowhere = Unit {0}
NodeOk o journal k (a_brick s) = s.number ≡ k
NodeOk o journal k (a_library s) = (s.number ≡ k) × AreOpen (CallOk o journal) s

-- the attempt is tied to the call in its library
abbrev pub TiedAt : Txn → ℕ → CallNo → Node → Type 0
TiedAt txn caller call nowhere = Unit {0}
TiedAt txn caller call (a_brick s) = Unit {0}
TiedAt txn caller call (a_library s) = Tied s txn caller call

abbrev pub TiedIn : Net → Txn → ℕ → CallNo → Type 0
TiedIn n txn caller call = TiedAt txn caller call (n.node txn.library)

-- what is said of a letter on its way
abbrev pub AnswerOk : OpeningOf → List Step → Net → NodeNo → Txn → Answer → Type 0
AnswerOk o journal n from txn (answer.Refused why) = (was : GetWasRefused o journal from txn why) × TiedIn n txn was.caller was.call
AnswerOk o journal n from txn other = Unit {0}

abbrev pub BallotOk : OpeningOf → List Step → Net → NodeNo → Txn → Ballot → Type 0
BallotOk o journal n from txn ballot.Yes = Unit {0}
BallotOk o journal n from txn (ballot.No why) = (was : UpdateWasDenied o journal from txn why) × TiedIn n txn was.caller was.call

abbrev pub LetterOk : OpeningOf → List Step → Net → NodeNo → NodeNo → Letter → Type 0
LetterOk o journal n from to (letter.Get txn caller call key name stamp) = TiedIn n txn caller call
LetterOk o journal n from to (letter.Prepare txn caller call below name stamp list op) = TiedIn n txn caller call
LetterOk o journal n from to (letter.Got txn a) = AnswerOk o journal n from txn a
LetterOk o journal n from to (letter.Vote txn vote) = BallotOk o journal n from txn vote
LetterOk o journal n from to (letter.LeaseRefused number why) = LeaseWasRefused o journal from to number why
LetterOk o journal n from to other = Unit {0}

pub record IsGood (o : OpeningOf) (journal : List Step) (n : Net) : Type 0 where
  pub nodes : (k : ℕ) → NodeOk o journal k (n.node k)
  pub letters : AllCarried (LetterOk o journal n) n

-- It stays so as the journal grows, and as libraries go on.

phase-later : (o : OpeningOf) (journal more : List Step) (txn : Txn) (caller : ℕ) (call : CallNo) (p : Phase) → PhaseOk o journal txn caller call p
    → PhaseOk o (journal ++ more) txn caller call p
phase-later o journal more txn caller call (phase.Aborting waiting why brick) h = (update-later o journal more brick txn why h.0, h.1, h.2)
phase-later o journal more txn caller call (phase.Asking waiting newest m) h = met-later o journal more caller call m h
phase-later o journal more txn caller call other h = tt

pub calls-later : (o : OpeningOf) (journal more : List Step) (s : LibraryState) → AreOpen (CallOk o journal) s → AreOpen (CallOk o (journal ++ more)) s
calls-later o journal more s h =
    all-map (IsOpen (CallOk o journal) s.number s.next) (IsOpen (CallOk o (journal ++ more)) s.number s.next) s.calls
    (λ c f. record { library = f.library; below = f.below; kept = phase-later o journal more c.txn c.request.caller c.request.call c.phase f.kept }) h

pub node-later : (o : OpeningOf) (journal more : List Step) (k : ℕ) (x : Node) → NodeOk o journal k x → NodeOk o (journal ++ more) k x
node-later o journal more k nowhere h = tt
node-later o journal more k (a_brick s) h = h
node-later o journal more k (a_library s) h = (h.0, calls-later o journal more s h.1)

-- what is tied in a node before is tied in the node after
abbrev pub Lasts : Node → Node → Type 0
Lasts x y = (txn : Txn) (caller : ℕ) (call : CallNo) → TiedAt txn caller call x → TiedAt txn caller call y

abbrev pub AllLast : Net → Net → Type 0
AllLast n u = (k : ℕ) → Lasts (n.node k) (u.node k)

answer-later : (o : OpeningOf) (journal more : List Step) (n u : Net) (from : NodeNo) (txn : Txn) (a : Answer) → AllLast n u → AnswerOk o journal n from txn a
    → AnswerOk o (journal ++ more) u from txn a
answer-later o journal more n u from txn (answer.Refused why) f h = (get-later o journal more from txn why h.0, f txn.library txn h.0.caller h.0.call h.1)
answer-later o journal more n u from txn other f h = tt

ballot-later : (o : OpeningOf) (journal more : List Step) (n u : Net) (from : NodeNo) (txn : Txn) (vote : Ballot) → AllLast n u
    → BallotOk o journal n from txn vote → BallotOk o (journal ++ more) u from txn vote
ballot-later o journal more n u from txn ballot.Yes f h = tt
ballot-later o journal more n u from txn (ballot.No why) f h = (update-later o journal more from txn why h.0, f txn.library txn h.0.caller h.0.call h.1)

pub letter-later : (o : OpeningOf) (journal more : List Step) (n u : Net) (from to : NodeNo) (l : Letter) → AllLast n u → LetterOk o journal n from to l
    → LetterOk o (journal ++ more) u from to l
letter-later o journal more n u from to (letter.Get txn caller call key name stamp) f h = f txn.library txn caller call h
letter-later o journal more n u from to (letter.Prepare txn caller call below name stamp list op) f h = f txn.library txn caller call h
letter-later o journal more n u from to (letter.Got txn a) f h = answer-later o journal more n u from txn a f h
letter-later o journal more n u from to (letter.Vote txn vote) f h = ballot-later o journal more n u from txn vote f h
letter-later o journal more n u from to (letter.LeaseRefused number why) f h = lease-later o journal more from to number why h
letter-later o journal more n u from to other f h = tt

pub letters-later : (o : OpeningOf) (journal more : List Step) (n u : Net) → AllLast n u → AllCarried (LetterOk o journal n) n
    → AllCarried (LetterOk o (journal ++ more) u) n
letters-later o journal more n u f g a b =
    all-map (LetterOk o journal n a b) (LetterOk o (journal ++ more) u a b) (n.channel a b) (λ l h. letter-later o journal more n u a b l f h) (g a b)
