use Rattle.std.proofs.Common.{◌≡◌, ℕ, ◌<◌, ◌≤◌, Option, Some, None, List, ◌++◌, refl, sym, ap, ◌∙◌, subst, arith}
use Rattle.std.specs.List.{AllByRecursion, remove}
use Rattle.std.specs.Prelude.{option_to_list}
use Rattle.dds_base.specs.Number.{Txn}
use Rattle.dds_base.specs.declared.number.CallNo.{CallNo}
use Rattle.dds_base.specs.declared.number.NodeNo.{NodeNo}
use Rattle.dds_base.specs.declared.op.Op.{Op}
use Rattle.dds_base.specs.declared.op.Op.TheVariants as op
use Rattle.dds_call_rows.specs.Library.{begin}
use Rattle.dds_core.proofs.CallDoes.{call-does, new-begins}
use Rattle.dds_core.proofs.Lists.{all-append, all-both, all-is, all-map, all-taken}
use Rattle.dds_core.specs.LibraryTurn.{call_row, desk_of, input_turn, new_request, put_back}
use Rattle.dds_letters.specs.declared.letter.Letter.{Letter}
use Rattle.dds_letters.specs.declared.letter.Letter.TheVariants as letter
use Rattle.dds_net.proofs.Pairwise.{Pairwise, others-of, pairs-taken}
use Rattle.dds_net.specs.Net.{Sizes}
use Rattle.dds_states.specs.Turn.{no_out}
use Rattle.dds_states.specs.declared.library_state.LibraryState.{LibraryState}
use Rattle.dds_states.specs.declared.library_state.OpenCall.{OpenCall}
use Rattle.dds_states.specs.declared.library_state.Request.{Request}
use Rattle.dds_states.specs.declared.library_state.TxnNumbers.{TxnNumbers}
use Rattle.dds_states.specs.declared.turn.CoreTurn.{CoreTurn}
use Rattle.dds_books.proofs.CallGoes as goings
use Rattle.dds_books.proofs.CallGoes.{call-goes}
use Rattle.dds_books.proofs.Continues.{BeginsIt, Continues, LetterBegins, anew, begun-entered, does-entered, goes_on}
use Rattle.dds_books.proofs.Entries.{entry-back, entry-removed, own-end, own-put}
use Rattle.dds_books.proofs.LibraryCalls.{other-sym}
use Rattle.dds_books.proofs.OldCalls.{OneKeepsIf}
use Rattle.dds_books.proofs.Turns.{back-with, end-with}
use Rattle.dds_books.specs.Books.{Book, Entry, IsBooked, ListFits, open_entry, tells}
use Rattle.dds_books.specs.Placed.{CallOk, LibraryOk, OtherAttempt}

-- A library while its calls have their turns: each open call is in the book, or has a new attempt, whose entry it tells; and
-- the letters that begin attempts are of open calls with new ones.

abbrev pub IsOld : ℕ → Txn → Type 0
IsOld from txn = txn.number < from

pub data Kept (b : Book) (from next : ℕ) (c : OpenCall) : Type 0 where
  same : c.txn.number < from → IsBooked b c → Kept b from next c
  fresh : from ≤ c.txn.number → c.txn.number < next → (e : Entry) → tells c.request c.phase ≡ Some e → Kept b from next c

-- the letter's attempt is new and open
pub record IsOpened (number from next : ℕ) (calls : List OpenCall) (txn : Txn) (e : Entry) : Type 0 where
  pub library : txn.library ≡ number
  pub above : from ≤ txn.number
  pub below : txn.number < next
  pub told : open_entry calls txn.number ≡ Some e

abbrev pub LetterOpened : ℕ → ℕ → ℕ → List OpenCall → Letter → Type 0
LetterOpened number from next calls (letter.Get txn caller call key name stamp) =
    IsOpened number from next calls txn (record { caller = caller; call = call; op = op.Get key; list = None })
LetterOpened number from next calls (letter.Prepare txn caller call below name stamp list o) =
    IsOpened number from next calls txn (record { caller = caller; call = call; op = o; list = Some list })
LetterOpened number from next calls other = Unit {0}

abbrev pub AllOpened : ℕ → ℕ → ℕ → List OpenCall → List (NodeNo × Letter) → Type 0
AllOpened number from next calls ls = AllByRecursion (λ (p : NodeNo × Letter). LetterOpened number from next calls p.1) ls

pub record Listing (b : Book) (old s : LibraryState) (out : CoreTurn) : Type 0 where
  pub number : s.number ≡ old.number
  pub more : old.next ≤ s.next
  pub apart : Pairwise OtherAttempt s.calls
  pub libraries : AllByRecursion (λ (c : OpenCall). c.txn.library ≡ s.number) s.calls
  pub calls : AllByRecursion (Kept b old.next s.next) s.calls
  pub letters : AllOpened s.number old.next s.next s.calls out.letters

kept-below : {b : Book} {from next : ℕ} (c : OpenCall) → from ≤ next → Kept b from next c → c.txn.number < next
kept-below c m (same low k) = omega (arith, low, m)
kept-below c m (fresh high low e told) = low

kept-later : {b : Book} {from next more : ℕ} (c : OpenCall) → next ≤ more → Kept b from next c → Kept b from more c
kept-later c m (same low k) = same low k
kept-later c m (fresh high low e told) = fresh high (omega (arith, low, m)) e told

-- letters that were sent before stay of open calls
opened-later : (number from next more : ℕ) (xs ys : List OpenCall) (l : Letter) → next ≤ more
    → ((k : ℕ) → from ≤ k → k < next → open_entry ys k ≡ open_entry xs k) → LetterOpened number from next xs l → LetterOpened number from more ys l
opened-later number from next more xs ys (letter.Get txn caller call key name stamp) m f h =
    let low = h.below in
    record { library = h.library; above = h.above; below = omega (arith, low, m); told = f txn.number h.above low ∙ h.told }
opened-later number from next more xs ys (letter.Prepare txn caller call below name stamp list o) m f h =
    let low = h.below in
    record { library = h.library; above = h.above; below = omega (arith, low, m); told = f txn.number h.above low ∙ h.told }
opened-later number from next more xs ys other m f h = tt

-- a new letter is of the call with its new attempt
opened-it : {n : TxnNumbers} {o : Option OpenCall} {txn : Txn} {e : Entry} (number from next : ℕ) (ys : List OpenCall) → from ≤ n.next
    → ((x : OpenCall) → o ≡ Some x → x.txn.library ≡ number) → ((x : OpenCall) → o ≡ Some x → x.txn.number < next)
    → ((x : OpenCall) → o ≡ Some x → open_entry ys x.txn.number ≡ tells x.request x.phase) → BeginsIt n o txn e → IsOpened number from next ys txn e
opened-it {txn = txn} number from next ys m f g own h =
    let high = h.from in
    let is = ap (λ (t : Txn). t.number) h.txn_is in
    record {
      library = ap (λ (t : Txn). t.library) (sym h.txn_is) ∙ f h.call h.stays;
      above = omega (arith, m, high);
      below = subst (λ k. k < next) is (g h.call h.stays);
      told = ap (open_entry ys) (sym is) ∙ own h.call h.stays ∙ h.told;
    }

opened-new : (n : TxnNumbers) (o : Option OpenCall) (number from next : ℕ) (ys : List OpenCall) (l : Letter) → from ≤ n.next
    → ((x : OpenCall) → o ≡ Some x → x.txn.library ≡ number) → ((x : OpenCall) → o ≡ Some x → x.txn.number < next)
    → ((x : OpenCall) → o ≡ Some x → open_entry ys x.txn.number ≡ tells x.request x.phase) → LetterBegins n o l → LetterOpened number from next ys l
opened-new n o number from next ys (letter.Get txn caller call key name stamp) m f g own h = opened-it number from next ys m f g own h
opened-new n o number from next ys (letter.Prepare txn caller call below name stamp list w) m f g own h = opened-it number from next ys m f g own h
opened-new n o number from next ys other m f g own h = tt

-- the call that has had its turn

-- its number is the one before, or a new one
numbered : {n : TxnNumbers} {next : ℕ} (c x : OpenCall) (k : ℕ) → (c.txn.number ≡ k → ⊥) → k < n.next → Continues n next c x → x.txn.number ≡ k → ⊥
numbered c x k ne low (goes_on is r f) e = ne (ap (λ (t : Txn). t.number) (sym is) ∙ e)
numbered c x k ne low (anew a) e = let high = a.from in omega (arith, low, high, e)

its-library : {n : TxnNumbers} {next : ℕ} (c x : OpenCall) → c.txn.library ≡ n.library → Continues n next c x → x.txn.library ≡ n.library
its-library c x e (goes_on is r f) = ap (λ (t : Txn). t.library) is ∙ e
its-library c x e (anew a) = a.library

its-below : {n : TxnNumbers} {next : ℕ} (c x : OpenCall) → c.txn.number < n.next → n.next ≤ next → Continues n next c x → x.txn.number < next
its-below {n = n} {next = next} c x low m (goes_on is r f) = subst (λ (t : Txn). t.number < next) (sym is) (omega (arith, low, m))
its-below c x low m (anew a) = a.below

booked-on : {b : Book} (c x : OpenCall) → x.txn ≡ c.txn → x.request ≡ c.request → ((list : Option (List ℕ)) → ListFits c.phase list → ListFits x.phase list)
    → IsBooked b c → IsBooked b x
booked-on {b = b} c x is r f h =
    record {
      its = h.its;
      there = ap b is ∙ h.there;
      caller_is = h.caller_is ∙ ap (λ (q : Request). q.caller) (sym r);
      call_is = h.call_is ∙ ap (λ (q : Request). q.call) (sym r);
      op_is = h.op_is ∙ ap (λ (q : Request). q.op) (sym r);
      list_fits = f h.its.list h.list_fits;
    }

its-kept : {b : Book} {n : TxnNumbers} {next : ℕ} (from : ℕ) (c x : OpenCall) → from ≤ n.next → c.txn.number < from → Kept b from n.next c
    → Continues n next c x → Kept b from next x
its-kept {b = b} {next = next} from c x m low (same i k) (goes_on is r f) =
    same (subst (λ (t : Txn). t.number < from) (sym is) low) (booked-on c x is r f k)
its-kept from c x m low (same i k) (anew a) = let high = a.from in fresh (omega (arith, m, high)) a.below a.its a.told
its-kept from c x m low (fresh high i e told) go = absurd (omega (arith, low, high))

its-apart : {n : TxnNumbers} {next : ℕ} (c x : OpenCall) (rest : List OpenCall) → AllByRecursion (OtherAttempt c) rest
    → AllByRecursion (λ (d : OpenCall). d.txn.number < n.next) rest → Continues n next c x → AllByRecursion (OtherAttempt x) rest
its-apart {n = n} {next = next} c x rest apart below go =
    all-map (λ (d : OpenCall). OtherAttempt c d × (d.txn.number < n.next)) (OtherAttempt x) rest
    (λ d k e. numbered c x d.txn.number k.0 k.1 go e) (all-both (OtherAttempt c) (λ (d : OpenCall). d.txn.number < n.next) rest apart below)

-- one call's turn
pub one-lists : (b : Book) (old : LibraryState) (from : NodeNo) (l : Letter) → OneKeepsIf (IsOld old.next) (Listing b old) from l
one-lists b old from l s out place c is low h =
    let rest = remove s.calls place in
    let d = desk_of (record s { calls = rest }) rest in
    let t = call_row d c from l in
    let next = t.desk.numbers.next in
    let g = does-entered d c from l t (call-does d c from l) in
    let step = (call-goes d c from l).next in
    let more = h.more in
    let w = back-with rest place t.went.call in
    let others = others-of OtherAttempt s.calls place c other-sym h.apart is in
    let kept = all-taken (Kept b old.next s.next) s.calls place h.calls in
    let below = all-map (Kept b old.next s.next) (λ (x : OpenCall). x.txn.number < s.next) rest (λ x k. kept-below x more k) kept in
    let own = all-is (Kept b old.next s.next) s.calls place c h.calls is in
    let mine = all-is (λ (x : OpenCall). x.txn.library ≡ s.number) s.calls place c h.libraries is in
    let low_next : c.txn.number < s.next = omega (arith, low, more) in
    let apart = (λ (x : OpenCall) (e : t.went.call ≡ Some x). its-apart c x rest others below (g.call x e)) in
    let ys = put_back rest place t.went.call in
    let as_before = (λ (k : ℕ) (high : old.next ≤ k) (under : k < s.next).
    entry-back rest place t.went.call k (λ x e. numbered c x k (λ f. omega (arith, low, high, f)) under (g.call x e))
    ∙ entry-removed s.calls place c k is (λ f. omega (arith, low, high, f))) in
    let own_entry = (λ (x : OpenCall) (e : t.went.call ≡ Some x).
    subst (λ o. open_entry (put_back rest place o) x.txn.number ≡ tells x.request x.phase) (sym e) (own-put rest place x (apart x e))) in
    record {
      number = h.number;
      more = omega (arith, more, step);
      apart = w.pairs OtherAttempt other-sym (pairs-taken OtherAttempt s.calls place h.apart) apart;
      libraries = w.each (λ (x : OpenCall). x.txn.library ≡ s.number) (all-taken _ s.calls place h.libraries) (λ x e. its-library c x mine (g.call x e));
      calls = w.each (Kept b old.next next) (all-map (Kept b old.next s.next) (Kept b old.next next) rest (λ x k. kept-later x step k) kept)
          (λ x e. its-kept old.next c x more low own (g.call x e));
      letters = all-append _ out.letters t.went.letters
          (all-map (λ (p : NodeNo × Letter). LetterOpened s.number old.next s.next s.calls p.1) (λ p. LetterOpened s.number old.next next ys p.1) out.letters
          (λ p k. opened-later s.number old.next s.next next s.calls ys p.1 step as_before k) h.letters)
          (all-map (λ (p : NodeNo × Letter). LetterBegins d.numbers t.went.call p.1) (λ p. LetterOpened s.number old.next next ys p.1) t.went.letters
          (λ p k. opened-new d.numbers t.went.call s.number old.next next ys p.1 more (λ x e. its-library c x mine (g.call x e))
          (λ x e. its-below c x low_next step (g.call x e))
          own_entry k) g.letters);
    }

-- before the first one
pub listing-first : (b : Book) (z : Sizes) (at : ℕ) (s u : LibraryState) → LibraryOk z at s → AllByRecursion (IsBooked b) s.calls
    → u.calls ≡ s.calls → u.number ≡ s.number → u.next ≡ s.next → Listing b s u no_out
listing-first b z at s u h k calls number next =
    let low = all-map (CallOk z s.number s.next s.known) (λ (c : OpenCall). c.txn.number < s.next) s.calls (λ c o. o.below) h.calls in
    record {
      number = number;
      more = omega (arith, next);
      apart = subst (Pairwise OtherAttempt) (sym calls) h.apart;
      libraries = subst (λ n. AllByRecursion (λ (c : OpenCall). c.txn.library ≡ n) u.calls) (sym number)
          (subst (AllByRecursion (λ (c : OpenCall). c.txn.library ≡ s.number)) (sym calls)
          (all-map (CallOk z s.number s.next s.known) (λ (c : OpenCall). c.txn.library ≡ s.number) s.calls (λ c o. o.library) h.calls));
      calls = subst (λ cs. AllByRecursion (Kept b s.next u.next) cs) (sym calls)
          (all-map (λ (c : OpenCall). IsBooked b c × (c.txn.number < s.next)) (Kept b s.next u.next) s.calls (λ c o. same o.1 o.0)
          (all-both (IsBooked b) (λ (c : OpenCall). c.txn.number < s.next) s.calls k low));
      letters = tt;
    }

-- a call that comes
pub input-lists : (b : Book) (z : Sizes) (at : ℕ) (s : LibraryState) (caller : ℕ) (call : CallNo) (o : Op) → LibraryOk z at s
    → AllByRecursion (IsBooked b) s.calls
    → Listing b s (input_turn s (new_request caller call o) (begin (desk_of s s.calls) (new_request caller call o))).state
    (input_turn s (new_request caller call o) (begin (desk_of s s.calls) (new_request caller call o))).out
input-lists b z at s caller call o h k =
    let r = new_request caller call o in
    let d = desk_of s s.calls in
    let t = begin d r in
    let next = t.desk.numbers.next in
    let g = begun-entered d r t (new-begins d r) in
    let step = (goings.begin {old = None} d r).next in
    let w = end-with s.calls t.went.call in
    let low = all-map (CallOk z s.number s.next s.known) (λ (c : OpenCall). c.txn.number < s.next) s.calls (λ c k. k.below) h.calls in
    let apart = (λ (x : OpenCall) (e : t.went.call ≡ Some x). all-map (λ (c : OpenCall). c.txn.number < s.next) (OtherAttempt x) s.calls
    (λ c under f. let high = (g.call x e).from in omega (arith, under, high, f)) low) in
    let ys = s.calls ++ option_to_list t.went.call in
    let own_entry = (λ (x : OpenCall) (e : t.went.call ≡ Some x).
    subst (λ (q : Option OpenCall). open_entry (s.calls ++ option_to_list q) x.txn.number ≡ tells x.request x.phase) (sym e) (own-end s.calls x (apart x e))) in
    record {
      number = refl;
      more = step;
      apart = w.pairs OtherAttempt other-sym h.apart apart;
      libraries = w.each (λ (x : OpenCall). x.txn.library ≡ s.number)
          (all-map (CallOk z s.number s.next s.known) (λ (c : OpenCall). c.txn.library ≡ s.number) s.calls (λ c q. q.library) h.calls)
          (λ x e. (g.call x e).library);
      calls = w.each (Kept b s.next next) (all-map (λ (c : OpenCall). IsBooked b c × (c.txn.number < s.next)) (Kept b s.next next) s.calls
          (λ c q. same q.1 q.0) (all-both (IsBooked b) (λ (c : OpenCall). c.txn.number < s.next) s.calls k low))
          (λ x e. let a = g.call x e in fresh a.from a.below a.its a.told);
      letters = all-map (λ (p : NodeNo × Letter). LetterBegins d.numbers t.went.call p.1) (λ p. LetterOpened s.number s.next next ys p.1) t.went.letters
          (λ p q. opened-new d.numbers t.went.call s.number s.next next ys p.1 (omega arith) (λ x e. (g.call x e).library)
          (λ x e. (g.call x e).below) own_entry q) g.letters;
    }
