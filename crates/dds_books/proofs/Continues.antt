use Rattle.std.proofs.Common.{◌≡◌, ℕ, ◌+◌, ◌<◌, ◌≤◌, Option, Some, None, List, [], ◌∷◌, refl, ap, subst, arith}
use Rattle.std.specs.List.{AllByRecursion}
use Rattle.std.specs.Prelude.{is_some}
use Rattle.dds_base.specs.Number.{Txn}
use Rattle.dds_base.specs.Op.{the_key}
use Rattle.dds_base.specs.declared.number.NodeNo.{NodeNo}
use Rattle.dds_base.specs.declared.op.Met.{Met}
use Rattle.dds_base.specs.declared.op.Op.TheVariants as op
use Rattle.dds_call_rows.specs.Library as rows
use Rattle.dds_call_rows.specs.Library.{CallTurn}
use Rattle.dds_core.proofs.CallDoes.{ArePushes, Begins, CallDoes, aborts, applies, commits, gets, idles, looks, prepares, tries, votes, waits_aborted}
use Rattle.dds_core.proofs.CallDoes.{waits_told}
use Rattle.dds_core.proofs.Lists.{all-append, this-one}
use Rattle.dds_letters.specs.declared.letter.Letter.{Letter}
use Rattle.dds_letters.specs.declared.letter.Letter.TheVariants as letter
use Rattle.dds_states.specs.Turn.{to_each, unknown, without}
use Rattle.dds_states.specs.declared.library_state.Desk.{Desk}
use Rattle.dds_states.specs.declared.library_state.OpenCall.{OpenCall}
use Rattle.dds_states.specs.declared.library_state.Phase.{Phase}
use Rattle.dds_states.specs.declared.library_state.Phase.TheVariants as phase
use Rattle.dds_states.specs.declared.library_state.Request.{Request}
use Rattle.dds_states.specs.declared.library_state.TxnNumbers.{TxnNumbers}
use Rattle.dds_books.specs.Books.{Entry, ListFits, entry, tells}

-- What one call's turn does to the entry of its attempt: it stays, or the call has a new attempt, whose entry it tells.

-- it has the next number of its library
pub record IsAnew (n : TxnNumbers) (next : ℕ) (r : Request) (x : OpenCall) : Type 0 where
  pub library : x.txn.library ≡ n.library
  pub from : n.next ≤ x.txn.number
  pub below : x.txn.number < next
  pub caller_is : x.request.caller ≡ r.caller
  pub call_is : x.request.call ≡ r.call
  pub op_is : x.request.op ≡ r.op
  pub its : Entry
  pub told : tells x.request x.phase ≡ Some its

pub data Continues (n : TxnNumbers) (next : ℕ) (c x : OpenCall) : Type 0 where
  goes_on : x.txn ≡ c.txn → x.request ≡ c.request → ((list : Option (List ℕ)) → ListFits c.phase list → ListFits x.phase list) → Continues n next c x
  anew : IsAnew n next c.request x → Continues n next c x

-- a letter that begins an attempt is of the call's new one, and tells its entry
pub record BeginsIt (n : TxnNumbers) (o : Option OpenCall) (txn : Txn) (e : Entry) : Type 0 where
  pub call : OpenCall
  pub stays : o ≡ Some call
  pub txn_is : call.txn ≡ txn
  pub from : n.next ≤ txn.number
  pub told : tells call.request call.phase ≡ Some e

abbrev pub LetterBegins : TxnNumbers → Option OpenCall → Letter → Type 0
LetterBegins n o (letter.Get txn caller call key name stamp) = BeginsIt n o txn (record { caller = caller; call = call; op = op.Get key; list = None })
LetterBegins n o (letter.Prepare txn caller call below name stamp list w) = BeginsIt n o txn (record { caller = caller; call = call; op = w; list = Some list })
LetterBegins n o other = Unit {0}

abbrev pub AllBegin : TxnNumbers → Option OpenCall → List (NodeNo × Letter) → Type 0
AllBegin n o ls = AllByRecursion (λ (p : NodeNo × Letter). LetterBegins n o p.1) ls

pub record Entered (n : TxnNumbers) (c : OpenCall) (t : CallTurn) : Type 0 where
  pub call : (x : OpenCall) → t.went.call ≡ Some x → Continues n t.desk.numbers.next c x
  pub letters : AllBegin n t.went.call t.went.letters

pub record EnteredAnew (n : TxnNumbers) (r : Request) (t : CallTurn) : Type 0 where
  pub call : (x : OpenCall) → t.went.call ≡ Some x → IsAnew n t.desk.numbers.next r x
  pub letters : AllBegin n t.went.call t.went.letters

each-begins : (n : TxnNumbers) (o : Option OpenCall) (ns : List NodeNo) (l : Letter) → LetterBegins n o l → AllBegin n o (to_each ns l)
each-begins n o [] l h = tt
each-begins n o (m ∷ ns) l h = (h, each-begins n o ns l h)

-- a new attempt of the request
begun-anew : (d : Desk) (r s : Request) (p : Phase) (e : Entry) (ls : List (NodeNo × Letter)) → s.caller ≡ r.caller → s.call ≡ r.call → s.op ≡ r.op
    → tells s p ≡ Some e → AllBegin d.numbers (Some (record { request = s; txn = rows.next_txn d; phase = p })) ls
    → EnteredAnew d.numbers r (rows.stays (rows.counted d) ls (record { request = s; txn = rows.next_txn d; phase = p }))
begun-anew d r s p e ls a b o told h =
    let c : OpenCall = record { request = s; txn = rows.next_txn d; phase = p } in
    record {
      call = λ x is. this-one (IsAnew d.numbers (d.numbers.next + 1) r) c x is (record {
        library = refl;
        from = omega arith;
        below = omega arith;
        caller_is = a;
        call_is = b;
        op_is = o;
        its = e;
        told = told;
      });
      letters = h;
    }

-- the get's entry, as its letter tells it
get-entry : (r : Request) (key : ℕ) → r.op ≡ op.Get key
    → ◌≡◌ {A = Option Entry} (Some (entry r None)) (Some (record { caller = r.caller; call = r.call; op = op.Get key; list = None }))
get-entry r key e = λ i. Some (record { caller = r.caller; call = r.call; op = e i; list = None })

pub begun-entered : {M : Met → Type 0} (d : Desk) (r : Request) (t : CallTurn) → Begins M d r t → EnteredAnew d.numbers r t
begun-entered d r _ (gets leaf m ms key e f g) =
    let brick = rows.got_from (m ∷ ms) r in
    let p = phase.Getting leaf brick in
    let c : OpenCall = record { request = r; txn = rows.next_txn d; phase = p } in
    begun-anew d r r p (entry r None) ((brick, letter.Get (rows.next_txn d) r.caller r.call key leaf.name leaf.stamp) ∷ []) refl refl refl refl
    (record { call = c; stays = refl; txn_is = refl; from = omega arith; told = get-entry r key g }, tt)
begun-entered d r _ (prepares leaf m ms e f g) =
    let p = phase.Preparing leaf (m ∷ ms) (m ∷ ms) in
    let c : OpenCall = record { request = r; txn = rows.next_txn d; phase = p } in
    let l = letter.Prepare (rows.next_txn d) r.caller r.call (rows.below d) leaf.name leaf.stamp (m ∷ ms) r.op in
    begun-anew d r r p (entry r (Some (m ∷ ms))) (to_each (m ∷ ms) l) refl refl refl refl
    (each-begins d.numbers (Some c) (m ∷ ms) l (record { call = c; stays = refl; txn_is = refl; from = omega arith; told = refl }))
begun-entered d r _ (looks m n ns e h) =
    let p = phase.Asking (n ∷ ns) None m in
    let s = rows.retried r in
    let c : OpenCall = record { request = s; txn = rows.next_txn d; phase = p } in
    let l = letter.MapAsk (rows.next_txn d) r.caller r.call (the_key r.op) in
    begun-anew d r s p (entry s None) (to_each (n ∷ ns) l) refl refl refl refl (each-begins d.numbers (Some c) (n ∷ ns) l tt)
begun-entered d r _ other = record { call = λ x is. cc; letters = tt }

-- an open call goes on with its attempt, or is answered
onward : (d : Desk) (c : OpenCall) (p : Phase) (ls : List (NodeNo × Letter)) → ((list : Option (List ℕ)) → ListFits c.phase list → ListFits p list)
    → AllBegin d.numbers (Some (record c { phase = p })) ls → Entered d.numbers c (rows.stays d ls (record c { phase = p }))
onward d c p ls f h =
    record { call = λ x is. this-one (Continues d.numbers d.numbers.next c) (record c { phase = p }) x is (goes_on refl refl f); letters = h }

push-begins : (n : TxnNumbers) (o : Option OpenCall) (ls : List (NodeNo × Letter)) → ArePushes ls → AllBegin n o ls
push-begins n o [] h = tt
push-begins n o ((to, letter.Push leaf) ∷ ls) h = (tt, push-begins n o ls h)
push-begins n o (other ∷ ls) h = absurd h

-- the phase before
fits-was : (p q : Phase) (list : Option (List ℕ)) → p ≡ q → ListFits p list → ListFits q list
fits-was p q list e h = subst (λ x. ListFits x list) e h

pub does-entered : (d : Desk) (c : OpenCall) (from : NodeNo) (l : Letter) (t : CallTurn) → CallDoes d c from l t → Entered d.numbers c t
does-entered d c from l _ (tries map retries pushed ls t h b) =
    let r = record c.request { retries = retries; pushed = pushed } in
    let g = begun-entered (record d { map = map }) r t b in
    record {
      call = λ x is. let k = g.call x is in anew (record {
        library = k.library;
        from = k.from;
        below = k.below;
        caller_is = k.caller_is;
        call_is = k.call_is;
        op_is = k.op_is;
        its = k.its;
        told = k.told;
      });
      letters = all-append _ ls t.went.letters (push-begins d.numbers t.went.call ls h) g.letters;
    }
does-entered d c from l _ (commits leaf list waiting e f g) =
    let ms = unknown list d.known in
    let p = phase.Committing leaf list ms None in
    onward d c p (to_each ms (letter.Commit c.txn)) (λ k h. fits-was c.phase (phase.Preparing leaf list waiting) k e h)
    (each-begins d.numbers (Some (record c { phase = p })) ms (letter.Commit c.txn) tt)
does-entered d c from l _ (aborts leaf list waiting txn why e f g) =
    let ms = unknown list d.known in
    let p = phase.Aborting ms why from in
    onward d c p (to_each ms (letter.Abort c.txn)) (λ k h. ap is_some (fits-was c.phase (phase.Preparing leaf list waiting) k e h))
    (each-begins d.numbers (Some (record c { phase = p })) ms (letter.Abort c.txn) tt)
does-entered d c from l _ idles =
    record { call = λ x is. this-one (Continues d.numbers d.numbers.next c) c x is (goes_on refl refl (λ k h. h)); letters = tt }
does-entered d c from l _ (votes leaf list waiting e f g) =
    onward d c (phase.Preparing leaf list (without waiting from)) []
    (λ k h. fits-was c.phase (phase.Preparing leaf list waiting) k e h) tt
does-entered d c from l _ (applies leaf list waiting was next e f) =
    onward d c (phase.Committing leaf list (without waiting from) next) []
    (λ k h. fits-was c.phase (phase.Committing leaf list waiting was) k e h) tt
does-entered d c from l _ (waits_aborted waiting why brick e f) =
    onward d c (phase.Aborting (without waiting from) why brick) []
    (λ k h. fits-was c.phase (phase.Aborting waiting why brick) k e h) tt
does-entered d c from l _ (waits_told waiting newest next m e f) =
    onward d c (phase.Asking (without waiting from) next m) []
    (λ k h. fits-was c.phase (phase.Asking waiting newest m) k e h) tt
does-entered d c from l _ other = record { call = λ x is. cc; letters = tt }
