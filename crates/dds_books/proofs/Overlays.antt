use Rattle.std.proofs.Common.{◌≡◌, ℕ, ◌<◌, ◌≤◌, inl, inr, Some, None, List, [], ◌∷◌, refl, sym, ap, ◌∙◌, subst, arith}
use Rattle.std.proofs.lemmas.Bool.{cases_eq, eq-eqb, ne_eqb}
use Rattle.std.specs.List.{AllByRecursion}
use Rattle.std.specs.Prelude.{if◌then◌else◌}
use Rattle.dds_base.specs.Number.{Txn}
use Rattle.dds_base.specs.declared.number.NodeNo.{NodeNo}
use Rattle.dds_core.proofs.Lists.{all-both, all-map}
use Rattle.dds_core.proofs.Tells.{AllSends, Sends, Sent}
use Rattle.dds_letters.specs.declared.letter.Letter.{Letter}
use Rattle.dds_letters.specs.declared.letter.Letter.TheVariants as letter
use Rattle.dds_net.proofs.Carried.{Lands, News}
use Rattle.dds_net.specs.Net.{Sizes}
use Rattle.dds_states.specs.declared.library_state.LibraryState.{LibraryState}
use Rattle.dds_states.specs.declared.library_state.OpenCall.{OpenCall}
use Rattle.dds_states.specs.declared.turn.CoreTurn.{CoreTurn}
use Rattle.dds_books.proofs.Entries.{each-own, none-open, told-again, told-is}
use Rattle.dds_books.proofs.Listing.{IsOpened, Kept, LetterOpened, Listing, fresh, same}
use Rattle.dds_books.specs.Books.{Book, Entry, IsBooked, IsWithin, LetterListed, LibraryListed, open_entry, over, tells}
use Rattle.dds_books.specs.Books.{with_library}

-- The book as a library's turn leaves it: what was there stays, and its open calls and letters are in it.

at-own : (at : ℕ) (s : LibraryState) (b : Book) (t : Txn) → t.library ≡ at → with_library at s b t ≡ over (open_entry s.calls t.number) (b t)
at-own at s b t e = ap (λ c. if c then over (open_entry s.calls t.number) (b t) else b t) (eq-eqb t.library at e)

pub at-other : (at : ℕ) (s : LibraryState) (b : Book) (t : Txn) → (t.library ≡ at → ⊥) → with_library at s b t ≡ b t
at-other at s b t ne = ap (λ c. if c then over (open_entry s.calls t.number) (b t) else b t) (ne_eqb t.library at ne)

txn-is : (t u : Txn) → t.library ≡ u.library → t.number ≡ u.number → t ≡ u
txn-is t u e f = λ i. record { library = e i; number = f i }

-- what the first call with the number tells doesn't change what is there
call-again : (b : Book) (from next : ℕ) (c : OpenCall) (t : Txn) (e : Entry) → c.txn ≡ t → b t ≡ Some e → (from ≤ t.number → b t ≡ None) → Kept b from next c
    → over (tells c.request c.phase) (Some e) ≡ Some e
call-again b from next c t e is h none (same low k) =
    let it : k.its ≡ e = (let both : Some k.its ≡ Some e = sym k.there ∙ ap b is ∙ h in cc) in
    subst (λ x. over (tells c.request c.phase) (Some x) ≡ Some x) it (told-again c.request c.phase k.its k.caller_is k.call_is k.op_is k.list_fits)
call-again b from next c t e is h none (fresh high low x told) =
    let no : None ≡ Some e = sym (none (subst (λ (u : Txn). from ≤ u.number) is high)) ∙ h in
    cc

call-if : (c : OpenCall) (cs : List OpenCall) (t : Txn) (e : Entry) → (c.txn.number ≡ t.number → over (tells c.request c.phase) (Some e) ≡ Some e)
    → over (open_entry cs t.number) (Some e) ≡ Some e → over (open_entry (c ∷ cs) t.number) (Some e) ≡ Some e
call-if c cs t e f h = elim (cases_eq c.txn.number t.number) [
  | inl is ↦ ap (λ b. over (if b then tells c.request c.phase else open_entry cs t.number) (Some e)) (eq-eqb c.txn.number t.number is) ∙ f is
  | inr ne ↦ ap (λ b. over (if b then tells c.request c.phase else open_entry cs t.number) (Some e)) (ne_eqb c.txn.number t.number ne) ∙ h
]

over-grows : (b : Book) (from next at : ℕ) (cs : List OpenCall) (t : Txn) (e : Entry) → t.library ≡ at → b t ≡ Some e → (from ≤ t.number → b t ≡ None)
    → AllByRecursion (λ (c : OpenCall). c.txn.library ≡ at) cs → AllByRecursion (Kept b from next) cs → over (open_entry cs t.number) (Some e) ≡ Some e
over-grows b from next at [] t e home h none l k = refl
over-grows b from next at (c ∷ cs) t e home h none l k =
    call-if c cs t e (λ is. call-again b from next c t e (txn-is c.txn t (l.0 ∙ sym home) is) h none k.0)
    (over-grows b from next at cs t e home h none l.1 k.1)

-- the library's turn
pub grows : (b : Book) (at : ℕ) (old s : LibraryState) (out : CoreTurn) → s.number ≡ at → LibraryListed b old → Listing b old s out
    → IsWithin b (with_library at s b)
grows b at old s out number before k t e h = elim (cases_eq t.library at) [
  | inl home ↦ at-own at s b t home ∙ ap (over (open_entry s.calls t.number)) h
      ∙ over-grows b old.next s.next s.number s.calls t e (home ∙ sym number) h (λ high. before.to_come t
      (home ∙ sym number ∙ k.number) high) k.libraries k.calls
  | inr ne ↦ at-other at s b t ne ∙ h
]

pub booked-within : (b c : Book) (x : OpenCall) → IsWithin b c → IsBooked b x → IsBooked c x
booked-within b c x f h =
    record {
      its = h.its;
      there = f x.txn h.its h.there;
      caller_is = h.caller_is;
      call_is = h.call_is;
      op_is = h.op_is;
      list_fits = h.list_fits;
    }

-- each open call's entry
call-listed : (b : Book) (at : ℕ) (from next : ℕ) (s : LibraryState) (x : OpenCall) → IsWithin b (with_library at s b) → x.txn.library ≡ at
    → open_entry s.calls x.txn.number ≡ tells x.request x.phase → Kept b from next x → IsBooked (with_library at s b) x
call-listed b at from next s x f home own (same low k) = booked-within b (with_library at s b) x f k
call-listed b at from next s x f home own (fresh high low e told) =
    let fits = told-is x.request x.phase e told in
    record {
      its = e;
      there = at-own at s b x.txn home ∙ ap (λ o. over o (b x.txn)) (own ∙ told);
      caller_is = fits.caller_is;
      call_is = fits.call_is;
      op_is = fits.op_is;
      list_fits = fits.fits;
    }

pub library-listed : (b : Book) (at : ℕ) (old s : LibraryState) (out : CoreTurn) → s.number ≡ at → LibraryListed b old → Listing b old s out
    → AllByRecursion (λ (c : OpenCall). c.txn.number < s.next) s.calls → LibraryListed (with_library at s b) s
library-listed b at old s out number before k below =
    let more = k.more in
    record {
      calls = all-map (λ (c : OpenCall). ((c.txn.library ≡ s.number) × (open_entry s.calls c.txn.number ≡ tells c.request c.phase)) × Kept b old.next s.next c)
          (IsBooked (with_library at s b)) s.calls
          (λ c q. call-listed b at old.next s.next s c (grows b at old s out number before k) (q.0.0 ∙ number) q.0.1 q.1)
          (all-both (λ (c : OpenCall). (c.txn.library ≡ s.number) × (open_entry s.calls c.txn.number ≡ tells c.request c.phase))
          (Kept b old.next s.next) s.calls
          (all-both (λ (c : OpenCall). c.txn.library ≡ s.number) (λ (c : OpenCall). open_entry s.calls c.txn.number ≡ tells c.request c.phase) s.calls
          k.libraries (each-own s.calls k.apart)) k.calls);
      to_come = λ t home high.
          at-own at s b t (home ∙ number) ∙ ap (λ o. over o (b t)) (none-open s.calls s.next t.number below high)
          ∙ before.to_come t (home ∙ k.number) (omega (arith, more, high));
    }

-- The letters

pub letter-within : (b c : Book) (from to : ℕ) (l : Letter) → IsWithin b c → LetterListed b from to l → LetterListed c from to l
letter-within b c from to (letter.Get txn caller call key name stamp) f h = f txn _ h
letter-within b c from to (letter.Prepare txn caller call below name stamp list o) f h = f txn _ h
letter-within b c from to other f h = tt

opened-listed : (b : Book) (at from next : ℕ) (s : LibraryState) (txn : Txn) (e : Entry) → s.number ≡ at → IsOpened s.number from next s.calls txn e
    → with_library at s b txn ≡ Some e
opened-listed b at from next s txn e number h = at-own at s b txn (h.library ∙ number) ∙ ap (λ o. over o (b txn)) h.told

letter-listed : (b : Book) (at to from next : ℕ) (s : LibraryState) (l : Letter) → s.number ≡ at → LetterOpened s.number from next s.calls l
    → LetterListed (with_library at s b) at to l
letter-listed b at to from next s (letter.Get txn caller call key name stamp) number h = opened-listed b at from next s txn _ number h
letter-listed b at to from next s (letter.Prepare txn caller call below name stamp list o) number h = opened-listed b at from next s txn _ number h
letter-listed b at to from next s other number h = tt

pub library-news : (b : Book) (z : Sizes) (at : ℕ) (old s : LibraryState) (out : CoreTurn) → s.number ≡ at → Listing b old s out
    → News (LetterListed (with_library at s b)) z at out.letters
library-news b z at old s out number k to inside =
    all-map (λ (p : NodeNo × Letter). LetterOpened s.number old.next s.next s.calls p.1) (Lands (LetterListed (with_library at s b)) z at to) out.letters
    (λ p q comes. letter-listed b at to old.next s.next s p.1 number q) k.letters

-- bricks begin none
brick-letter : (L : Sent) (b : Book) (at to : ℕ) (n : NodeNo) (l : Letter) → Sends L n l → LetterListed b at to l
brick-letter L b at to n (letter.Get txn caller call key name stamp) h = absurd h
brick-letter L b at to n (letter.Prepare txn caller call below name stamp list o) h = absurd h
brick-letter L b at to n other h = tt

pub brick-news : (L : Sent) (b : Book) (z : Sizes) (at : ℕ) (ls : List (NodeNo × Letter)) → AllSends L ls → News (LetterListed b) z at ls
brick-news L b z at ls h to inside =
    all-map (λ (p : NodeNo × Letter). Sends L p.0 p.1) (Lands (LetterListed b) z at to) ls (λ p k comes. brick-letter L b at to p.0 p.1 k) h
