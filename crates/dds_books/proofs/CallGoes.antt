use Rattle.std.proofs.Common.{◌≡◌, ℕ, ◌+◌, ◌<◌, ◌≤◌, ◌⊎◌, inl, inr, Option, Some, None, List, [], ◌∷◌, refl, arith}
use Rattle.std.specs.List.{AllByRecursion}
use Rattle.dds_base.specs.Number.{Txn}
use Rattle.dds_base.specs.Op.{the_key}
use Rattle.dds_base.specs.declared.number.CallNo.{CallNo}
use Rattle.dds_base.specs.declared.number.NodeNo.{NodeNo}
use Rattle.dds_base.specs.declared.op.Reply.{Reply}
use Rattle.dds_call_rows.specs.Library as rows
use Rattle.dds_call_rows.specs.Library.{CallTurn}
use Rattle.dds_core.specs.LibraryTurn.{call_row}
use Rattle.dds_letters.specs.declared.letter.Letter.{Letter}
use Rattle.dds_letters.specs.declared.letter.Letter.TheVariants as letter
use Rattle.dds_states.specs.Turn.{to_each, unknown, without}
use Rattle.dds_states.specs.declared.library_state.Desk.{Desk}
use Rattle.dds_states.specs.declared.library_state.OpenCall.{OpenCall}
use Rattle.dds_states.specs.declared.library_state.Phase.{Phase}
use Rattle.dds_states.specs.declared.library_state.Phase.TheVariants as phase
use Rattle.dds_states.specs.declared.library_state.Request.{Request}
use Rattle.dds_states.specs.declared.library_state.TxnNumbers.{TxnNumbers}
use Rattle.dds_core.proofs.CallDoes.{ArePushes, Begins, CallDoes, aborts, applies, new-begins, call-does, commits, gets, idles, looks, prepares}
use Rattle.dds_core.proofs.CallDoes.{tries, votes, waits_aborted, waits_told}
use Rattle.dds_base.specs.declared.op.Met.{Met}
use Rattle.dds_core.proofs.Lists.{all-append}

-- What one call's turn does to its attempt, and what it sends.

pub record StillOpen (n : TxnNumbers) (caller : ℕ) (call : CallNo) (old : Option Txn) (next : ℕ) (x : OpenCall) : Type 0 where
  pub caller_is : x.request.caller ≡ caller
  pub call_is : x.request.call ≡ call
  pub attempt : (old ≡ Some x.txn) ⊎ ((n.next ≤ x.txn.number) × (x.txn.number < next))

abbrev pub CallGoes : TxnNumbers → ℕ → CallNo → Option Txn → ℕ → Option OpenCall → Type 0
CallGoes n caller call old next None = Unit {0}
CallGoes n caller call old next (Some x) = StillOpen n caller call old next x

abbrev pub IsUnder : ℕ → Option OpenCall → Type 0
IsUnder below None = Unit {0}
IsUnder below (Some x) = below ≤ x.txn.number

abbrev pub LetterGoes : TxnNumbers → ℕ → Option OpenCall → Letter → Type 0
LetterGoes n next o (letter.Prepare txn caller call below name stamp list op) = (below ≤ n.below) × (below ≤ txn.number) × (txn.number < next) × IsUnder below o
LetterGoes n next o other = Unit {0}

abbrev pub Unanswered : Option OpenCall → Option Reply → Type 0
Unanswered None reply = Unit {0}
Unanswered (Some x) reply = reply ≡ None

pub record Goes (n : TxnNumbers) (caller : ℕ) (call : CallNo) (old : Option Txn) (t : CallTurn) : Type 0 where
  pub next : n.next ≤ t.desk.numbers.next
  pub goes : CallGoes n caller call old t.desk.numbers.next t.went.call
  pub reply : Unanswered t.went.call t.went.reply
  pub letters : AllByRecursion (λ (p : NodeNo × Letter). LetterGoes n t.desk.numbers.next t.went.call p.1) t.went.letters

pub each : (P : Letter → Type 0) (ns : List NodeNo) (l : Letter) → P l → AllByRecursion (λ (p : NodeNo × Letter). P p.1) (to_each ns l)
each P [] l h = tt
each P (n ∷ ns) l h = (h, each P ns l h)

answers : {caller : ℕ} {call : CallNo} {old : Option Txn} (d : Desk) (r : Reply) → Goes d.numbers caller call old (rows.replies d r)
answers d r = record { next = omega arith; goes = tt; reply = tt; letters = tt }

-- the open call goes on with its attempt
abbrev Going : Desk → OpenCall → CallTurn → Type 0
Going d c t = Goes d.numbers c.request.caller c.request.call (Some c.txn) t

goes-on : (d : Desk) (c : OpenCall) (p : Phase) (ls : List (NodeNo × Letter)) → AllByRecursion
    (λ (m : NodeNo × Letter). LetterGoes d.numbers d.numbers.next (Some (record c { phase = p })) m.1) ls → Going d c (rows.stays d ls (record c { phase = p }))
goes-on d c p ls h = record { next = omega arith; goes = record { caller_is = refl; call_is = refl; attempt = inl refl }; reply = refl; letters = h }

idle : (d : Desk) (c : OpenCall) → Going d c (rows.stays d [] c)
idle d c = record { next = omega arith; goes = record { caller_is = refl; call_is = refl; attempt = inl refl }; reply = refl; letters = tt }

-- a new attempt
new_call : {old : Option Txn} (d : Desk) (r : Request) (s : Request) (p : Phase) (ls : List (NodeNo × Letter)) → s.caller ≡ r.caller → s.call ≡ r.call
    → AllByRecursion (λ (m : NodeNo × Letter). LetterGoes d.numbers (d.numbers.next + 1) (Some
    (record { request = s; txn = rows.next_txn d; phase = p })) m.1) ls → Goes d.numbers r.caller r.call old
    (rows.stays (rows.counted d) ls (record { request = s; txn = rows.next_txn d; phase = p }))
new_call d r s p ls e f h = record {
  next = omega arith;
  goes = record { caller_is = e; call_is = f; attempt = inr (omega arith, omega arith) };
  reply = refl;
  letters = h;
}

begun : {M : Met → Type 0} {old : Option Txn} (d : Desk) (r : Request) (t : CallTurn) → Begins M d r t → Goes d.numbers r.caller r.call old t
begun d r _ (gets leaf m ms key e f g) = new_call d r r (phase.Getting leaf (rows.got_from (m ∷ ms) r)) _ refl refl (tt, tt)
begun d r _ (prepares leaf m ms e f g) = new_call d r r (phase.Preparing leaf (m ∷ ms) (m ∷ ms)) _ refl refl
    (each _ (m ∷ ms) (letter.Prepare (rows.next_txn d) r.caller r.call (rows.below d) leaf.name leaf.stamp (m ∷ ms) r.op) (
      omega arith,
      omega arith,
      omega arith,
      omega arith,
    ))
begun d r _ (looks m n ns e h) = new_call d r (rows.retried r) (phase.Asking (n ∷ ns) None m) _ refl refl
    (each _ (n ∷ ns) (letter.MapAsk (rows.next_txn d) r.caller r.call (the_key r.op)) tt)
begun d r _ other = record { next = omega arith; goes = tt; reply = tt; letters = tt }

pub begin : {old : Option Txn} (d : Desk) (r : Request) → Goes d.numbers r.caller r.call old (rows.begin d r)
begin d r = begun d r (rows.begin d r) (new-begins d r)

pushes : (n : TxnNumbers) (next : ℕ) (o : Option OpenCall) (ls : List (NodeNo × Letter)) → ArePushes ls
    → AllByRecursion (λ (p : NodeNo × Letter). LetterGoes n next o p.1) ls
pushes n next o [] h = tt
pushes n next o ((to, letter.Push leaf) ∷ ls) h = (tt, pushes n next o ls h)
pushes n next o (other ∷ ls) h = absurd h

does : (d : Desk) (c : OpenCall) (from : NodeNo) (l : Letter) (t : CallTurn) → CallDoes d c from l t → Going d c t
does d c from l _ (tries map retries pushed ls t h b) =
    let g = begun (record d { map = map }) (record c.request { retries = retries; pushed = pushed }) t b in
    record {
      next = g.next;
      goes = g.goes;
      reply = g.reply;
      letters = all-append _ ls t.went.letters
          (pushes d.numbers t.desk.numbers.next t.went.call ls h) g.letters;
    }
does d c from l _ (commits leaf list waiting e f g) = goes-on d c (phase.Committing leaf list (unknown list d.known) None) _
    (each _ (unknown list d.known) (letter.Commit c.txn) tt)
does d c from l _ (aborts leaf list waiting txn why e f g) = goes-on d c (phase.Aborting (unknown list d.known) why from) _
    (each _ (unknown list d.known) (letter.Abort c.txn) tt)
does d c from l _ idles = idle d c
does d c from l _ (votes leaf list waiting e f g) = goes-on d c (phase.Preparing leaf list (without waiting from)) [] tt
does d c from l _ (applies leaf list waiting was next e f) = goes-on d c (phase.Committing leaf list (without waiting from) next) [] tt
does d c from l _ (waits_aborted waiting why brick e f) = goes-on d c (phase.Aborting (without waiting from) why brick) [] tt
does d c from l _ (waits_told waiting newest next m e f) = goes-on d c (phase.Asking (without waiting from) next m) [] tt
does d c from l _ other = answers d _

pub call-goes : (d : Desk) (c : OpenCall) (from : NodeNo) (l : Letter) → Going d c (call_row d c from l)
call-goes d c from l = does d c from l (call_row d c from l) (call-does d c from l)
