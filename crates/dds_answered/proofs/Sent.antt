use Rattle.std.proofs.Common.{◌≡◌, ℕ, ◌+◌, ◌<◌, ◌≤◌, ◌++◌, Option, Some, None, List, [], ◌∷◌, refl, sym, ◌∙◌, subst, arith}
use Rattle.std.specs.List.{AllByRecursion, remove}
use Rattle.dds_base.specs.Number.{Txn}
use Rattle.dds_base.specs.Op.{the_key}
use Rattle.dds_base.specs.declared.number.CallNo.{CallNo}
use Rattle.dds_base.specs.declared.number.CallerNo.{CallerNo}
use Rattle.dds_base.specs.declared.number.NodeNo.{NodeNo}
use Rattle.dds_base.specs.declared.op.Met.{Met}
use Rattle.dds_base.specs.declared.op.Op.{Op}
use Rattle.dds_call_rows.specs.Library as rows
use Rattle.dds_call_rows.specs.Library.{CallTurn, begin}
use Rattle.dds_core.proofs.CallDoes.{ArePushes, Begins, CallDoes, aborts, alone, call-does, commits, gets, gives_up, looks, new-begins, no_leaf}
use Rattle.dds_core.proofs.CallDoes.{prepares, tries}
use Rattle.dds_core.proofs.CallTurns.{OneKeeps, heard, library-keeps}
use Rattle.dds_core.proofs.Lists.{all-append, all-map}
use Rattle.dds_core.specs.LibraryTurn.{call_row, desk_of, live_library_turn, new_request}
use Rattle.dds_letters.specs.declared.letter.Letter.{Letter}
use Rattle.dds_letters.specs.declared.letter.Letter.TheVariants as letter
use Rattle.dds_net.proofs.Pairwise.{Pairwise, pairs-append}
use Rattle.dds_net.specs.Event.{asked_turn}
use Rattle.dds_states.specs.Turn.{no_out, to_each, unknown}
use Rattle.dds_states.specs.declared.library_state.Desk.{Desk}
use Rattle.dds_states.specs.declared.library_state.LibraryState.{LibraryState}
use Rattle.dds_states.specs.declared.library_state.OpenCall.{OpenCall}
use Rattle.dds_states.specs.declared.library_state.Request.{Request}
use Rattle.dds_states.specs.declared.turn.CoreTurn.{CoreTurn}

-- What a library sends: each Get has a new attempt of its own, and nothing says what was read or applied.

-- the attempt of a Get
abbrev pub get_of : Letter → Option Txn
get_of (letter.Get txn caller call key name stamp) = Some txn
get_of other = None

-- two letters that aren't Gets of one attempt
abbrev pub OtherGet : Letter → Letter → Type 0
OtherGet l m = (t : Txn) → get_of l ≡ Some t → get_of m ≡ Some t → ⊥

abbrev pub OtherSent : NodeNo × Letter → NodeNo × Letter → Type 0
OtherSent p q = OtherGet p.1 q.1

-- a Get's attempt is of this library, and is new
pub record IsNew (number from next : ℕ) (txn : Txn) : Type 0 where
  pub library : txn.library ≡ number
  pub above : from ≤ txn.number
  pub below : txn.number < next

abbrev pub IsSent : ℕ → ℕ → ℕ → Letter → Type 0
IsSent number from next (letter.Get txn caller call key name stamp) = IsNew number from next txn
IsSent number from next (letter.Got txn a) = ⊥
IsSent number from next (letter.Applied txn was) = ⊥
IsSent number from next other = Unit {0}

pub record Sends (number from next : ℕ) (ls : List (NodeNo × Letter)) : Type 0 where
  pub more : from ≤ next
  pub each : AllByRecursion (λ (p : NodeNo × Letter). IsSent number from next p.1) ls
  pub apart : Pairwise OtherSent ls

pub new-get : (number from next : ℕ) (l : Letter) (t : Txn) → IsSent number from next l → get_of l ≡ Some t → IsNew number from next t
new-get number from next (letter.Get txn caller call key name stamp) t h e = let is : txn ≡ t = cc in subst (IsNew number from next) is h
new-get number from next other t h e = cc

-- letters that begin no get
abbrev IsPlain : Letter → Type 0
IsPlain (letter.Get txn caller call key name stamp) = ⊥
IsPlain (letter.Got txn a) = ⊥
IsPlain (letter.Applied txn was) = ⊥
IsPlain other = Unit {0}

abbrev AllPlain : List (NodeNo × Letter) → Type 0
AllPlain ls = AllByRecursion (λ (p : NodeNo × Letter). IsPlain p.1) ls

plain-sent : (number from next : ℕ) (l : Letter) → IsPlain l → IsSent number from next l
plain-sent number from next (letter.Get txn caller call key name stamp) h = absurd h
plain-sent number from next (letter.Got txn a) h = absurd h
plain-sent number from next (letter.Applied txn was) h = absurd h
plain-sent number from next other h = tt

plain-none : (l : Letter) → IsPlain l → get_of l ≡ None
plain-none (letter.Get txn caller call key name stamp) h = absurd h
plain-none other h = refl

pub no-get : (l : Letter) (t : Txn) → get_of l ≡ None → get_of l ≡ Some t → ⊥
no-get l t e f = let no : None ≡ Some t = sym e ∙ f in cc

plain-apart : (p : NodeNo × Letter) (qs : List (NodeNo × Letter)) → IsPlain p.1 → AllByRecursion (OtherSent p) qs
plain-apart p [] h = tt
plain-apart p (q ∷ qs) h = (λ t e f. no-get p.1 t (plain-none p.1 h) e, plain-apart p qs h)

plain-pairs : (ls : List (NodeNo × Letter)) → AllPlain ls → Pairwise OtherSent ls
plain-pairs [] h = tt
plain-pairs (p ∷ ps) h = (plain-apart p ps h.0, plain-pairs ps h.1)

plain-between : (ls ms : List (NodeNo × Letter)) → AllPlain ls → AllByRecursion (λ p. AllByRecursion (OtherSent p) ms) ls
plain-between [] ms h = tt
plain-between (p ∷ ps) ms h = (plain-apart p ms h.0, plain-between ps ms h.1)

each-plain : (ns : List NodeNo) (l : Letter) → IsPlain l → AllPlain (to_each ns l)
each-plain [] l h = tt
each-plain (n ∷ ns) l h = (h, each-plain ns l h)

plain : (number from next : ℕ) (ls : List (NodeNo × Letter)) → from ≤ next → AllPlain ls → Sends number from next ls
plain number from next ls le h =
    record {
      more = le;
      each = all-map (λ (p : NodeNo × Letter). IsPlain p.1) _ ls (λ p k. plain-sent number from next p.1 k) h;
      apart = plain-pairs ls h;
    }

pushes-plain : (ls : List (NodeNo × Letter)) → ArePushes ls → AllPlain ls
pushes-plain [] h = tt
pushes-plain ((to, letter.Push leaf) ∷ ls) h = (tt, pushes-plain ls h)
pushes-plain (other ∷ ls) h = absurd h

-- one call's turn

abbrev DeskSends : Desk → CallTurn → Type 0
DeskSends d t = Sends d.numbers.library d.numbers.next t.desk.numbers.next t.went.letters

begun-sends : {M : Met → Type 0} (d : Desk) (r : Request) (t : CallTurn) → Begins M d r t → DeskSends d t
begun-sends d r _ (gets leaf m ms key e f g) =
    record { more = omega arith; each = (record { library = refl; above = omega arith; below = omega arith }, tt); apart = (tt, tt) }
begun-sends d r _ (prepares leaf m ms e f g) =
    plain d.numbers.library d.numbers.next (d.numbers.next + 1) _ (omega arith)
    (each-plain (m ∷ ms) (letter.Prepare (rows.next_txn d) r.caller r.call (rows.below d) leaf.name leaf.stamp (m ∷ ms) r.op) tt)
begun-sends d r _ (looks m n ns e h) =
    plain d.numbers.library d.numbers.next (d.numbers.next + 1) _ (omega arith)
    (each-plain (n ∷ ns) (letter.MapAsk (rows.next_txn d) r.caller r.call (the_key r.op)) tt)
begun-sends d r _ (alone m e h) = plain d.numbers.library d.numbers.next (d.numbers.next + 1) [] (omega arith) tt
begun-sends d r _ (gives_up m h) = plain d.numbers.library d.numbers.next d.numbers.next [] (omega arith) tt
begun-sends d r _ (no_leaf e) = plain d.numbers.library d.numbers.next d.numbers.next [] (omega arith) tt

behind-sends : (number from next : ℕ) (ls ms : List (NodeNo × Letter)) → AllPlain ls → Sends number from next ms → Sends number from next (ls ++ ms)
behind-sends number from next ls ms h g =
    record {
      more = g.more;
      each = all-append _ ls ms (all-map (λ (p : NodeNo × Letter). IsPlain p.1) _ ls (λ p k. plain-sent number from next p.1 k) h) g.each;
      apart = pairs-append OtherSent ls ms (plain-pairs ls h) g.apart (plain-between ls ms h);
    }

does-send : (d : Desk) (c : OpenCall) (from : NodeNo) (l : Letter) (t : CallTurn) → CallDoes d c from l t → DeskSends d t
does-send d c from l _ (tries map retries pushed ls t h b) =
    behind-sends d.numbers.library d.numbers.next t.desk.numbers.next ls t.went.letters (pushes-plain ls h)
    (begun-sends (record d { map = map }) (record c.request { retries = retries; pushed = pushed }) t b)
does-send d c from l _ (commits leaf list waiting e f g) =
    plain d.numbers.library d.numbers.next d.numbers.next _ (omega arith) (each-plain (unknown list d.known) (letter.Commit c.txn) tt)
does-send d c from l _ (aborts leaf list waiting txn why e f g) =
    plain d.numbers.library d.numbers.next d.numbers.next _ (omega arith) (each-plain (unknown list d.known) (letter.Abort c.txn) tt)
does-send d c from l _ other = plain d.numbers.library d.numbers.next d.numbers.next [] (omega arith) tt

-- the turns of some calls, one after the other

sent-later : (number from next more : ℕ) (l : Letter) → next ≤ more → IsSent number from next l → IsSent number from more l
sent-later number from next more (letter.Get txn caller call key name stamp) le h =
    let low = h.below in
    record { library = h.library; above = h.above; below = omega (arith, low, le) }
sent-later number from next more (letter.Got txn a) le h = absurd h
sent-later number from next more (letter.Applied txn was) le h = absurd h
sent-later number from next more other le h = tt

sent-earlier : (number early from next : ℕ) (l : Letter) → early ≤ from → IsSent number from next l → IsSent number early next l
sent-earlier number early from next (letter.Get txn caller call key name stamp) le h =
    let high = h.above in
    record { library = h.library; above = omega (arith, high, le); below = h.below }
sent-earlier number early from next (letter.Got txn a) le h = absurd h
sent-earlier number early from next (letter.Applied txn was) le h = absurd h
sent-earlier number early from next other le h = tt

-- those of one turn and those of the next one
sent-between : (number a b c : ℕ) (ls ms : List (NodeNo × Letter)) → AllByRecursion (λ (p : NodeNo × Letter). IsSent number a b p.1) ls
    → AllByRecursion (λ (p : NodeNo × Letter). IsSent number b c p.1) ms → AllByRecursion (λ p. AllByRecursion (OtherSent p) ms) ls
sent-between number a b c ls ms h k =
    all-map (λ (p : NodeNo × Letter). IsSent number a b p.1) (λ p. AllByRecursion (OtherSent p) ms) ls (λ p i.
    all-map (λ (q : NodeNo × Letter). IsSent number b c q.1) (OtherSent p) ms (λ q j t e f.
    let low = (new-get number a b p.1 t i e).below in
    let high = (new-get number b c q.1 t j f).above in
    omega (arith, low, high)) k) h

sends-then : (number a b c : ℕ) (ls ms : List (NodeNo × Letter)) → Sends number a b ls → Sends number b c ms → Sends number a c (ls ++ ms)
sends-then number a b c ls ms h k =
    let x = h.more in
    let y = k.more in
    record {
      more = omega (arith, x, y);
      each = all-append _ ls ms (all-map (λ (p : NodeNo × Letter). IsSent number a b p.1) _ ls (λ p i. sent-later number a b c p.1 y i) h.each)
          (all-map (λ (p : NodeNo × Letter). IsSent number b c p.1) _ ms (λ p i. sent-earlier number a b c p.1 x i) k.each);
      apart = pairs-append OtherSent ls ms h.apart k.apart (sent-between number a b c ls ms h.each k.each);
    }

-- a library's turn

pub record LibrarySends (old s : LibraryState) (out : CoreTurn) : Type 0 where
  pub number : s.number ≡ old.number
  pub sends : Sends old.number old.next s.next out.letters

one-sends : (old : LibraryState) (from : NodeNo) (l : Letter) → OneKeeps (LibrarySends old) from l
one-sends old from l s out place c e concerns h =
    let rest = remove s.calls place in
    let d = desk_of (record s { calls = rest }) rest in
    let t = call_row d c from l in
    record {
      number = h.number;
      sends = sends-then old.number old.next s.next t.desk.numbers.next out.letters t.went.letters h.sends
          (subst (λ i. Sends i s.next t.desk.numbers.next t.went.letters) h.number (does-send d c from l t (call-does d c from l)));
    }

heard-sends : (s : LibraryState) (from : NodeNo) (l : Letter) → LibrarySends s (heard s from l) no_out
heard-sends s from letter.Notice = record { number = refl; sends = plain s.number s.next s.next [] (omega arith) tt }
heard-sends s from other = record { number = refl; sends = plain s.number s.next s.next [] (omega arith) tt }

pub turn-sends : (s : LibraryState) (from : NodeNo) (l : Letter)
    → LibrarySends s (live_library_turn s from l).state (live_library_turn s from l).out
turn-sends s from l = library-keeps (LibrarySends s) s from l (one-sends s from l) (heard-sends s from l)

pub asked-sends : (s : LibraryState) (caller : CallerNo) (call : CallNo) (o : Op)
    → LibrarySends s (asked_turn s caller call o).state (asked_turn s caller call o).out
asked-sends s caller call o =
    let r = new_request caller call o in
    let d = desk_of s s.calls in
    record { number = refl; sends = begun-sends d r (begin d r) (new-begins d r) }
