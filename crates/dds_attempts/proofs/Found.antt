use Rattle.std.proofs.Common.{◌≡◌, ℕ, zero, suc, ◌==◌, ◌⊎◌, inl, inr, Bool, true, false, cond, Option, Some, None, List, [], ◌∷◌, refl, sym, ap, ◌∙◌, subst}
use Rattle.std.proofs.lemmas.Bool.{cases_eq, eq-eqb, eqb-true}
use Rattle.std.specs.Prelude.{slice_get, if◌then◌else◌}
use Rattle.dds_base.specs.Number.{Txn, same_txn}
use Rattle.dds_books.proofs.Entries.{told-is}
use Rattle.dds_books.proofs.Overlays.{at-other}
use Rattle.dds_books.specs.Books.{Book, Entry, open_entry, over, tells, with_library}
use Rattle.dds_core.proofs.Lists.{all-is}
use Rattle.dds_net.proofs.Pairwise.{Pairwise}
use Rattle.dds_states.specs.declared.library_state.LibraryState.{LibraryState}
use Rattle.dds_states.specs.declared.library_state.OpenCall.{OpenCall}
use Rattle.dds_talk.proofs.Parts.{is-same}
use Rattle.dds_talk.specs.Seen.{call_of}

-- An entry in the book after a library's turn was there before, or is of an open call.

pub record OpenWith (cs : List OpenCall) (number : ℕ) (f : Entry) : Type 0 where
  pub place : ℕ
  pub call : OpenCall
  pub is : slice_get cs place ≡ Some call
  pub number_is : call.txn.number ≡ number
  pub caller_is : call.request.caller ≡ f.caller
  pub call_is : call.request.call ≡ f.call

pub data Found (a : Book) (at : ℕ) (s : LibraryState) (u : Txn) (f : Entry) : Type 0 where
  before : a u ≡ Some f → Found a at s u f
  opened : u.library ≡ at → OpenWith s.calls u.number f → Found a at s u f

open-later : (c : OpenCall) (cs : List OpenCall) (number : ℕ) (f : Entry) → OpenWith cs number f → OpenWith (c ∷ cs) number f
open-later c cs number f h =
    record { place = suc h.place; call = h.call; is = h.is; number_is = h.number_is; caller_is = h.caller_is; call_is = h.call_is }

open-first : (c : OpenCall) (cs : List OpenCall) (number : ℕ) (f : Entry) → c.txn.number ≡ number → tells c.request c.phase ≡ Some f
    → OpenWith (c ∷ cs) number f
open-first c cs number f e h =
    let k = told-is c.request c.phase f h in
    record { place = 0; call = c; is = refl; number_is = e; caller_is = sym k.caller_is; call_is = sym k.call_is }

open-if : (c : OpenCall) (cs : List OpenCall) (number : ℕ) (f : Entry) (b : Bool) → (c.txn.number == number) ≡ b
    → (open_entry cs number ≡ Some f → OpenWith cs number f) → (if b then tells c.request c.phase else open_entry cs number) ≡ Some f
    → OpenWith (c ∷ cs) number f
open-if c cs number f true e rest h = open-first c cs number f (eqb-true c.txn.number number e) h
open-if c cs number f false e rest h = open-later c cs number f (rest h)

open-found : (cs : List OpenCall) (number : ℕ) (f : Entry) → open_entry cs number ≡ Some f → OpenWith cs number f
open-found [] number f h = cc
open-found (c ∷ cs) number f h = open-if c cs number f (c.txn.number == number) refl (open-found cs number f) h

over-is : (x y : Option Entry) (f : Entry) → over x y ≡ Some f → (x ≡ Some f) ⊎ (y ≡ Some f)
over-is None y f h = inr h
over-is (Some e) y f h = inl h

found-own : (a : Book) (at : ℕ) (s : LibraryState) (u : Txn) (f : Entry) → u.library ≡ at → over (open_entry s.calls u.number) (a u) ≡ Some f
    → Found a at s u f
found-own a at s u f e h = elim (over-is (open_entry s.calls u.number) (a u) f h) [
  | inl k ↦ opened e (open-found s.calls u.number f k)
  | inr k ↦ before k
]

pub found : (a : Book) (at : ℕ) (s : LibraryState) (u : Txn) (f : Entry) → with_library at s a u ≡ Some f → Found a at s u f
found a at s u f h = elim (cases_eq u.library at) [
  | inl e ↦ found-own a at s u f e
      (sym (ap (λ c. if c then over (open_entry s.calls u.number) (a u) else a u) (eq-eqb u.library at e)) ∙ h)
  | inr ne ↦ before (sym (at-other at s a u ne) ∙ h)
]

-- two of a list that aren't apart are one
pub same-item : (R : OpenCall → OpenCall → Type 0) (cs : List OpenCall) (i j : ℕ) (c d : OpenCall) → Pairwise R cs → slice_get cs i ≡ Some c
    → slice_get cs j ≡ Some d → (R c d → ⊥) → (R d c → ⊥) → c ≡ d
same-item R [] i j c d h e f n m = cc
same-item R (x ∷ cs) zero zero c d h e f n m = cc
same-item R (x ∷ cs) zero (suc j) c d h e f n m =
    let is : x ≡ c = cc in
    absurd (n (subst (λ y. R y d) is (all-is (R x) cs j d h.0 f)))
same-item R (x ∷ cs) (suc i) zero c d h e f n m =
    let is : x ≡ d = cc in
    absurd (m (subst (λ y. R y c) is (all-is (R x) cs i c h.0 e)))
same-item R (x ∷ cs) (suc i) (suc j) c d h e f n m = same-item R cs i j c d h.1 e f n m

-- the open call with an attempt
pub record CallAt (cs : List OpenCall) (t : Txn) (c : OpenCall) : Type 0 where
  pub place : ℕ
  pub is : slice_get cs place ≡ Some c
  pub txn_is : c.txn ≡ t

call-at-if : (x : OpenCall) (cs : List OpenCall) (t : Txn) (c : OpenCall) (b : Bool) → same_txn x.txn t ≡ b → (call_of cs t ≡ Some c → CallAt cs t c)
    → cond b (Some x) (call_of cs t) ≡ Some c → CallAt (x ∷ cs) t c
call-at-if x cs t c true e rest h =
    let is : x ≡ c = cc in
    record { place = 0; is = h; txn_is = ap (λ (y : OpenCall). y.txn) (sym is) ∙ is-same x.txn t e }
call-at-if x cs t c false e rest h = let k = rest h in record { place = suc k.place; is = k.is; txn_is = k.txn_is }

pub call-at : (cs : List OpenCall) (t : Txn) (c : OpenCall) → call_of cs t ≡ Some c → CallAt cs t c
call-at [] t c h = cc
call-at (x ∷ cs) t c h = call-at-if x cs t c (same_txn x.txn t) refl (call-at cs t c) h
