use Rattle.std.proofs.Common.{◌≡◌, ℕ, Some, List, [], ◌∷◌, subst}
use Rattle.std.specs.List.{AllByRecursion, remove}
use Rattle.dds_base.specs.Op.{the_key}
use Rattle.dds_base.specs.declared.number.CallNo.{CallNo}
use Rattle.dds_base.specs.declared.number.NodeNo.{NodeNo}
use Rattle.dds_base.specs.declared.op.Met.{Met}
use Rattle.dds_base.specs.declared.op.Op.{Op}
use Rattle.dds_base.specs.declared.op.Op.TheVariants as op
use Rattle.dds_books.proofs.Turns.{back-with, end-with}
use Rattle.dds_call_rows.specs.Library as rows
use Rattle.dds_call_rows.specs.Library.{CallTurn}
use Rattle.dds_core.proofs.CallDoes.{ArePushes, Begins, CallDoes, aborts, applies, call-does, commits, gets, idles, looks, new-begins, prepares, tries}
use Rattle.dds_core.proofs.CallDoes.{votes, waits_aborted, waits_told}
use Rattle.dds_core.proofs.CallTurns.{OneKeeps, heard, library-keeps}
use Rattle.dds_core.proofs.Lists.{all-append, all-is, all-taken, this-one}
use Rattle.dds_core.specs.LibraryTurn.{call_row, desk_of, live_library_turn, new_request}
use Rattle.dds_letters.specs.declared.letter.Letter.{Letter}
use Rattle.dds_letters.specs.declared.letter.Letter.TheVariants as letter
use Rattle.dds_net.specs.Event.{asked_turn}
use Rattle.dds_states.specs.Turn.{no_out, to_each, unknown}
use Rattle.dds_states.specs.declared.library_state.Desk.{Desk}
use Rattle.dds_states.specs.declared.library_state.LibraryState.{LibraryState}
use Rattle.dds_states.specs.declared.library_state.OpenCall.{OpenCall}
use Rattle.dds_states.specs.declared.library_state.Request.{Request}
use Rattle.dds_states.specs.declared.turn.CoreTurn.{CoreTurn}

-- A library's turn changes no call's caller, number or operation, and its Gets and Prepares tell those of its open calls.

-- what is said of a call
abbrev pub OfCall : Type 1
OfCall = ℕ → CallNo → Op → Type 0

abbrev pub RequestIs : OfCall → OpenCall → Type 0
RequestIs P c = P c.request.caller c.request.call c.request.op

abbrev pub LetterIs : OfCall → Letter → Type 0
LetterIs P (letter.Get txn caller call key name stamp) = P caller call (op.Get key)
LetterIs P (letter.Prepare txn caller call below name stamp list o) = P caller call o
LetterIs P other = Unit {0}

abbrev pub LettersAre : OfCall → List (NodeNo × Letter) → Type 0
LettersAre P ls = AllByRecursion (λ (p : NodeNo × Letter). LetterIs P p.1) ls

-- one call's turn
pub record Tells (P : OfCall) (t : CallTurn) : Type 0 where
  pub stays : (x : OpenCall) → t.went.call ≡ Some x → RequestIs P x
  pub letters : LettersAre P t.went.letters

each : (P : OfCall) (ns : List NodeNo) (l : Letter) → LetterIs P l → LettersAre P (to_each ns l)
each P [] l h = tt
each P (n ∷ ns) l h = (h, each P ns l h)

stays-so : (P : OfCall) (d : Desk) (ls : List (NodeNo × Letter)) (c : OpenCall) → RequestIs P c → LettersAre P ls → Tells P (rows.stays d ls c)
stays-so P d ls c h k = record { stays = λ x e. this-one (RequestIs P) c x e h; letters = k }

pub begun : {M : Met → Type 0} (P : OfCall) (d : Desk) (r : Request) (t : CallTurn) → Begins M d r t → P r.caller r.call r.op → Tells P t
begun P d r _ (gets leaf m ms key e f g) h = stays-so P (rows.counted d) _ _ h (subst (P r.caller r.call) g h, tt)
begun P d r _ (prepares leaf m ms e f g) h =
    let l = letter.Prepare (rows.next_txn d) r.caller r.call (rows.below d) leaf.name leaf.stamp (m ∷ ms) r.op in
    stays-so P (rows.counted d) _ _ h (each P (m ∷ ms) l h)
begun P d r _ (looks m n ns e k) h =
    let l = letter.MapAsk (rows.next_txn d) r.caller r.call (the_key r.op) in
    stays-so P (rows.counted d) _ _ h (each P (n ∷ ns) l tt)
begun P d r _ other h = record { stays = λ x is. cc; letters = tt }

pushes : (P : OfCall) (ls : List (NodeNo × Letter)) → ArePushes ls → LettersAre P ls
pushes P [] h = tt
pushes P ((to, letter.Push leaf) ∷ ls) h = (tt, pushes P ls h)
pushes P (other ∷ ls) h = absurd h

pub does : (P : OfCall) (d : Desk) (c : OpenCall) (from : NodeNo) (l : Letter) (t : CallTurn) → CallDoes d c from l t → RequestIs P c → Tells P t
does P d c from l _ (tries map retries pushed ls t p b) h =
    let g = begun P (record d { map = map }) (record c.request { retries = retries; pushed = pushed }) t b h in
    record { stays = g.stays; letters = all-append _ ls t.went.letters (pushes P ls p) g.letters }
does P d c from l _ (commits leaf list waiting e f g) h = stays-so P d _ _ h (each P (unknown list d.known) (letter.Commit c.txn) tt)
does P d c from l _ (aborts leaf list waiting txn why e f g) h = stays-so P d _ _ h (each P (unknown list d.known) (letter.Abort c.txn) tt)
does P d c from l _ idles h = stays-so P d [] c h tt
does P d c from l _ (votes leaf list waiting e f g) h = stays-so P d [] _ h tt
does P d c from l _ (applies leaf list waiting was next e f) h = stays-so P d [] _ h tt
does P d c from l _ (waits_aborted waiting why brick e f) h = stays-so P d [] _ h tt
does P d c from l _ (waits_told waiting newest next m e f) h = stays-so P d [] _ h tt
does P d c from l _ other h = record { stays = λ x is. cc; letters = tt }

-- a library, and what it has given
pub record Says (P : OfCall) (s : LibraryState) (out : CoreTurn) : Type 0 where
  pub calls : AllByRecursion (RequestIs P) s.calls
  pub letters : LettersAre P out.letters

one-says : (P : OfCall) (from : NodeNo) (l : Letter) → OneKeeps (Says P) from l
one-says P from l s out place c is concerns h =
    let rest = remove s.calls place in
    let d = desk_of (record s { calls = rest }) rest in
    let t = call_row d c from l in
    let g = does P d c from l t (call-does d c from l) (all-is (RequestIs P) s.calls place c h.calls is) in
    record {
      calls = (back-with rest place t.went.call).each (RequestIs P) (all-taken (RequestIs P) s.calls place h.calls) g.stays;
      letters = all-append _ out.letters t.went.letters h.letters g.letters;
    }

heard-says : (P : OfCall) (s : LibraryState) (from : NodeNo) (l : Letter) → AllByRecursion (RequestIs P) s.calls → Says P (heard s from l) no_out
heard-says P s from letter.Notice h = record { calls = h; letters = tt }
heard-says P s from other h = record { calls = h; letters = tt }

-- a letter at a live library
pub library-says : (P : OfCall) (s : LibraryState) (from : NodeNo) (l : Letter) → AllByRecursion (RequestIs P) s.calls
    → Says P (live_library_turn s from l).state (live_library_turn s from l).out
library-says P s from l h = library-keeps (Says P) s from l (one-says P from l) (heard-says P s from l h)

-- a call at a live library
pub input-says : (P : OfCall) (s : LibraryState) (caller : ℕ) (call : CallNo) (o : Op) → AllByRecursion (RequestIs P) s.calls → P caller call o
    → Says P (asked_turn s caller call o).state (asked_turn s caller call o).out
input-says P s caller call o h k =
    let r = new_request caller call o in
    let d = desk_of s s.calls in
    let t = rows.begin d r in
    let g = begun P d r t (new-begins d r) k in
    record { calls = (end-with s.calls t.went.call).each (RequestIs P) h g.stays; letters = g.letters }
