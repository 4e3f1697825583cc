use Rattle.std.proofs.Common.{◌≡◌, ℕ, ◌+◌, ◌<◌, ◌≤◌, ◌⊎◌, inl, inr, Option, Some, None, List, [], ◌∷◌, refl, arith}
use Rattle.std.specs.List.{AllByRecursion}
use Rattle.dds_base.specs.Number.{Txn}
use Rattle.dds_base.specs.Op.{the_key}
use Rattle.dds_base.specs.declared.number.CallNo.{CallNo}
use Rattle.dds_base.specs.declared.number.NodeNo.{NodeNo}
use Rattle.dds_base.specs.declared.op.Met.{Met}
use Rattle.dds_base.specs.declared.op.Reply.{Reply}
use Rattle.dds_call_rows.specs.Library as rows
use Rattle.dds_call_rows.specs.Library.{CallTurn}
use Rattle.dds_letters.specs.declared.letter.Letter.{Letter}
use Rattle.dds_letters.specs.declared.letter.Letter.TheVariants as letter
use Rattle.dds_states.specs.Turn.{to_each, unknown, without}
use Rattle.dds_states.specs.declared.library_state.Desk.{Desk}
use Rattle.dds_states.specs.declared.library_state.OpenCall.{OpenCall}
use Rattle.dds_states.specs.declared.library_state.Phase.{Phase}
use Rattle.dds_states.specs.declared.library_state.Phase.TheVariants as phase
use Rattle.dds_states.specs.declared.library_state.Request.{Request}
use Rattle.dds_states.specs.declared.library_state.TxnNumbers.{TxnNumbers}
use Rattle.dds_core.proofs.CallDoes.{ArePushes, Begins, CallDoes, aborts, applies, commits, gets, idles, looks, prepares, tries}
use Rattle.dds_core.proofs.CallDoes.{votes, waits_aborted, waits_told}
use Rattle.dds_core.proofs.Lists.{all-append, all-map, this-one}

-- The attempt of an open call after one turn of the call, and those of the letters that the turn sends.

-- what is said of each attempt that a letter of a library begins; it sends no answer, vote, refusal of a lease or notice
abbrev pub FromLibrary : (Txn → ℕ → CallNo → Type 0) → Letter → Type 0
FromLibrary B (letter.Get txn caller call key name stamp) = B txn caller call
FromLibrary B (letter.Prepare txn caller call below name stamp list op) = B txn caller call
FromLibrary B (letter.Got txn a) = ⊥
FromLibrary B (letter.Vote txn vote) = ⊥
FromLibrary B (letter.LeaseRefused number why) = ⊥
FromLibrary B letter.Notice = ⊥
FromLibrary B other = Unit {0}

abbrev pub AllFrom : (Txn → ℕ → CallNo → Type 0) → List (NodeNo × Letter) → Type 0
AllFrom B ls = AllByRecursion (λ (p : NodeNo × Letter). FromLibrary B p.1) ls

from-map : (B C : Txn → ℕ → CallNo → Type 0) (l : Letter) → ((txn : Txn) (caller : ℕ) (call : CallNo) → B txn caller call → C txn caller call) → FromLibrary B l
    → FromLibrary C l
from-map B C (letter.Get txn caller call key name stamp) f h = f txn caller call h
from-map B C (letter.Prepare txn caller call below name stamp list op) f h = f txn caller call h
from-map B C (letter.Got txn a) f h = h
from-map B C (letter.Vote txn vote) f h = h
from-map B C (letter.LeaseRefused number why) f h = h
from-map B C letter.Notice f h = h
from-map B C other f h = tt

pub all-from : (B C : Txn → ℕ → CallNo → Type 0) (ls : List (NodeNo × Letter)) →
    ((txn : Txn) (caller : ℕ) (call : CallNo) → B txn caller call → C txn caller call)
    → AllFrom B ls → AllFrom C ls
all-from B C ls f h = all-map (λ (p : NodeNo × Letter). FromLibrary B p.1) (λ p. FromLibrary C p.1) ls (λ p k. from-map B C p.1 f k) h

-- One call's turn

-- the attempt takes one of the numbers between
pub record IsFresh (n : TxnNumbers) (next : ℕ) (txn : Txn) : Type 0 where
  pub library : txn.library ≡ n.library
  pub from : n.next ≤ txn.number
  pub below : txn.number < next

abbrev pub Begun : TxnNumbers → ℕ → ℕ → CallNo → Txn → ℕ → CallNo → Type 0
Begun n next caller call txn a b = IsFresh n next txn × (a ≡ caller) × (b ≡ call)

-- the call stays open with its attempt, or a new one
pub record Stays (n : TxnNumbers) (next caller : ℕ) (call : CallNo) (old : Option Txn) (x : OpenCall) : Type 0 where
  pub caller_is : x.request.caller ≡ caller
  pub call_is : x.request.call ≡ call
  pub attempt : (old ≡ Some x.txn) ⊎ IsFresh n next x.txn

pub record Goes (n : TxnNumbers) (caller : ℕ) (call : CallNo) (old : Option Txn) (t : CallTurn) : Type 0 where
  pub library : t.desk.numbers.library ≡ n.library
  pub next : n.next ≤ t.desk.numbers.next
  pub letters : AllFrom (Begun n t.desk.numbers.next caller call) t.went.letters
  pub stays : (x : OpenCall) → t.went.call ≡ Some x → Stays n t.desk.numbers.next caller call old x

each : (B : Txn → ℕ → CallNo → Type 0) (ns : List NodeNo) (l : Letter) → FromLibrary B l → AllFrom B (to_each ns l)
each B [] l h = tt
each B (n ∷ ns) l h = (h, each B ns l h)

-- an attempt begins
fresh : (d : Desk) → IsFresh d.numbers (rows.counted d).numbers.next (rows.next_txn d)
fresh d = record { library = refl; from = omega arith; below = omega arith }

new-call : {old : Option Txn} (d : Desk) (r s : Request) (p : Phase) (ls : List (NodeNo × Letter)) → s.caller ≡ r.caller → s.call ≡ r.call
    → AllFrom (Begun d.numbers (d.numbers.next + 1) r.caller r.call) ls → Goes d.numbers r.caller r.call old
    (rows.stays (rows.counted d) ls (record { request = s; txn = rows.next_txn d; phase = p }))
new-call {old = old} d r s p ls e f h =
    let c : OpenCall = record { request = s; txn = rows.next_txn d; phase = p } in
    record {
      library = refl;
      next = omega arith;
      letters = h;
      stays = λ x is. this-one (Stays d.numbers (d.numbers.next + 1) r.caller r.call old) c x is
          (record { caller_is = e; call_is = f; attempt = inr (fresh d) });
    }

pub begun : {M : Met → Type 0} {old : Option Txn} (d : Desk) (r : Request) (t : CallTurn) → Begins M d r t → Goes d.numbers r.caller r.call old t
begun d r _ (gets leaf m ms key e f g) = new-call d r r (phase.Getting leaf (rows.got_from (m ∷ ms) r)) _ refl refl ((fresh d, refl, refl), tt)
begun d r _ (prepares leaf m ms e f g) =
    let l = letter.Prepare (rows.next_txn d) r.caller r.call (rows.below d) leaf.name leaf.stamp (m ∷ ms) r.op in
    new-call d r r (phase.Preparing leaf (m ∷ ms) (m ∷ ms)) _ refl refl (each _ (m ∷ ms) l (fresh d, refl, refl))
begun d r _ (looks m n ns e h) =
    let l = letter.MapAsk (rows.next_txn d) r.caller r.call (the_key r.op) in
    new-call d r (rows.retried r) (phase.Asking (n ∷ ns) None m) _ refl refl (each _ (n ∷ ns) l tt)
begun d r _ other = record { library = refl; next = omega arith; letters = tt; stays = λ x is. cc }

-- the open call goes on with its attempt, or is answered
abbrev pub Going : Desk → OpenCall → CallTurn → Type 0
Going d c t = Goes d.numbers c.request.caller c.request.call (Some c.txn) t

goes-on : (d : Desk) (c : OpenCall) (p : Phase) (ls : List (NodeNo × Letter)) → AllFrom (Begun d.numbers d.numbers.next c.request.caller c.request.call) ls
    → Going d c (rows.stays d ls (record c { phase = p }))
goes-on d c p ls h =
    let y = record c { phase = p } in
    record {
      library = refl;
      next = omega arith;
      letters = h;
      stays = λ x is. this-one (Stays d.numbers d.numbers.next c.request.caller c.request.call (Some c.txn)) y x is
          (record { caller_is = refl; call_is = refl; attempt = inl refl });
    }

idle : (d : Desk) (c : OpenCall) → Going d c (rows.stays d [] c)
idle d c =
    record {
      library = refl;
      next = omega arith;
      letters = tt;
      stays = λ x is. this-one (Stays d.numbers d.numbers.next c.request.caller c.request.call (Some c.txn)) c x is
          (record { caller_is = refl; call_is = refl; attempt = inl refl });
    }

answers : (d : Desk) (c : OpenCall) (r : Reply) → Going d c (rows.replies d r)
answers d c r = record { library = refl; next = omega arith; letters = tt; stays = λ x is. cc }

pushes : (B : Txn → ℕ → CallNo → Type 0) (ls : List (NodeNo × Letter)) → ArePushes ls → AllFrom B ls
pushes B [] h = tt
pushes B ((to, letter.Push leaf) ∷ ls) h = (tt, pushes B ls h)
pushes B (other ∷ ls) h = absurd h

pub does : (d : Desk) (c : OpenCall) (from : NodeNo) (l : Letter) (t : CallTurn) → CallDoes d c from l t → Going d c t
does d c from l _ (tries map retries pushed ls t h b) =
    let g = begun (record d { map = map }) (record c.request { retries = retries; pushed = pushed }) t b in
    record { library = g.library; next = g.next; letters = all-append _ ls t.went.letters (pushes _ ls h) g.letters; stays = g.stays }
does d c from l _ (commits leaf list waiting e f g) =
    goes-on d c (phase.Committing leaf list (unknown list d.known) None) _ (each _ (unknown list d.known) (letter.Commit c.txn) tt)
does d c from l _ (aborts leaf list waiting txn why e f g) =
    goes-on d c (phase.Aborting (unknown list d.known) why from) _ (each _ (unknown list d.known) (letter.Abort c.txn) tt)
does d c from l _ idles = idle d c
does d c from l _ (votes leaf list waiting e f g) = goes-on d c (phase.Preparing leaf list (without waiting from)) [] tt
does d c from l _ (applies leaf list waiting was next e f) = goes-on d c (phase.Committing leaf list (without waiting from) next) [] tt
does d c from l _ (waits_aborted waiting why brick e f) = goes-on d c (phase.Aborting (without waiting from) why brick) [] tt
does d c from l _ (waits_told waiting newest next m e f) = goes-on d c (phase.Asking (without waiting from) next m) [] tt
does d c from l _ other = answers d c _
