use Rattle.std.proofs.Common.{◌≡◌, ℕ, zero, suc, ◌<◌, ◌≤◌, ◌==◌, Bool, Option, Some, None, List, [], ◌∷◌, ◌++◌, refl, sym, ap, ◌∙◌}
use Rattle.std.proofs.Common.{subst, arith}
use Rattle.std.proofs.lemmas.Bool.{eq-eqb, ne_eqb}
use Rattle.std.specs.List.{AllByRecursion, insert, remove}
use Rattle.std.specs.Prelude.{option_to_list, slice_get, if◌then◌else◌}
use Rattle.dds_core.specs.LibraryTurn.{put_back}
use Rattle.dds_net.proofs.Pairwise.{Pairwise}
use Rattle.dds_states.specs.declared.library_state.OpenCall.{OpenCall}
use Rattle.dds_states.specs.declared.library_state.Phase.{Phase}
use Rattle.dds_states.specs.declared.library_state.Phase.TheVariants as phase
use Rattle.dds_states.specs.declared.library_state.Request.{Request}
use Rattle.dds_books.specs.Books.{Entry, ListFits, entry, open_entry, over, tells}
use Rattle.dds_books.specs.Placed.{OtherAttempt}

-- The entry of the open call with an attempt number, as calls leave and come.

abbrev first_entry : Bool → OpenCall → Option Entry → Option Entry
first_entry b c o = if b then tells c.request c.phase else o

-- a call of another number
skipped : (c : OpenCall) (o : Option Entry) (k : ℕ) → (c.txn.number ≡ k → ⊥) → first_entry (c.txn.number == k) c o ≡ o
skipped c o k ne = ap (λ b. first_entry b c o) (ne_eqb c.txn.number k ne)

-- one of this number
met : (c : OpenCall) (o : Option Entry) (k : ℕ) → c.txn.number ≡ k → first_entry (c.txn.number == k) c o ≡ tells c.request c.phase
met c o k e = ap (λ b. first_entry b c o) (eq-eqb c.txn.number k e)

pub entry-removed : (xs : List OpenCall) (i : ℕ) (c : OpenCall) (k : ℕ) → slice_get xs i ≡ Some c → (c.txn.number ≡ k → ⊥)
    → open_entry (remove xs i) k ≡ open_entry xs k
entry-removed [] i c k e ne = cc
entry-removed (y ∷ xs) zero c k e ne =
    let is : c ≡ y = cc in
    sym (skipped y (open_entry xs k) k (subst (λ (x : OpenCall). x.txn.number ≡ k → ⊥) is ne))
entry-removed (y ∷ xs) (suc i) c k e ne = ap (first_entry (y.txn.number == k) y) (entry-removed xs i c k e ne)

pub entry-put : (xs : List OpenCall) (i : ℕ) (x : OpenCall) (k : ℕ) → (x.txn.number ≡ k → ⊥) → open_entry (insert xs i x) k ≡ open_entry xs k
entry-put xs zero x k ne = skipped x (open_entry xs k) k ne
entry-put [] (suc i) x k ne = skipped x None k ne
entry-put (y ∷ xs) (suc i) x k ne = ap (first_entry (y.txn.number == k) y) (entry-put xs i x k ne)

pub own-put : (xs : List OpenCall) (i : ℕ) (x : OpenCall) → AllByRecursion (OtherAttempt x) xs
    → open_entry (insert xs i x) x.txn.number ≡ tells x.request x.phase
own-put xs zero x h = met x (open_entry xs x.txn.number) x.txn.number refl
own-put [] (suc i) x h = met x None x.txn.number refl
own-put (y ∷ xs) (suc i) x h =
    skipped y (open_entry (insert xs i x) x.txn.number) x.txn.number (λ e. h.0 (sym e)) ∙ own-put xs i x h.1

pub entry-back : (xs : List OpenCall) (i : ℕ) (o : Option OpenCall) (k : ℕ) → ((x : OpenCall) → o ≡ Some x → x.txn.number ≡ k → ⊥)
    → open_entry (put_back xs i o) k ≡ open_entry xs k
entry-back xs i None k ne = refl
entry-back xs i (Some x) k ne = entry-put xs i x k (ne x refl)

-- at the end
pub entry-end : (xs : List OpenCall) (o : Option OpenCall) (k : ℕ) → ((x : OpenCall) → o ≡ Some x → x.txn.number ≡ k → ⊥)
    → open_entry (xs ++ option_to_list o) k ≡ open_entry xs k
entry-end [] None k ne = refl
entry-end [] (Some x) k ne = skipped x None k (ne x refl)
entry-end (y ∷ xs) o k ne = ap (first_entry (y.txn.number == k) y) (entry-end xs o k ne)

pub own-end : (xs : List OpenCall) (x : OpenCall) → AllByRecursion (OtherAttempt x) xs
    → open_entry (xs ++ option_to_list (Some x)) x.txn.number ≡ tells x.request x.phase
own-end [] x h = met x None x.txn.number refl
own-end (y ∷ xs) x h =
    skipped y (open_entry (xs ++ option_to_list (Some x)) x.txn.number) x.txn.number (λ e. h.0 (sym e)) ∙ own-end xs x h.1

-- each call's own, where their attempts differ
pub each-own : (xs : List OpenCall) → Pairwise OtherAttempt xs → AllByRecursion (λ (c : OpenCall). open_entry xs c.txn.number ≡ tells c.request c.phase) xs
each-own [] h = tt
each-own (y ∷ xs) h = (met y (open_entry xs y.txn.number) y.txn.number refl, later xs h.0 (each-own xs h.1))
  where
    later : (zs : List OpenCall) → AllByRecursion (OtherAttempt y) zs
        → AllByRecursion (λ (c : OpenCall). open_entry xs c.txn.number ≡ tells c.request c.phase) zs
        → AllByRecursion (λ (c : OpenCall). open_entry (y ∷ xs) c.txn.number ≡ tells c.request c.phase) zs
    later [] a b = tt
    later (c ∷ zs) a b = (skipped y (open_entry xs c.txn.number) c.txn.number a.0 ∙ b.0, later zs a.1 b.1)

-- none of a number that is to come
pub none-open : (xs : List OpenCall) (next k : ℕ) → AllByRecursion (λ (c : OpenCall). c.txn.number < next) xs → next ≤ k → open_entry xs k ≡ None
none-open [] next k h le = refl
none-open (y ∷ xs) next k h le =
    let low = h.0 in
    skipped y (open_entry xs k) k (λ e. omega (arith, low, le, e)) ∙ none-open xs next k h.1 le

-- What a call tells, and its entry in the book

-- what it tells is its request's, and its list fits
pub record Told (r : Request) (p : Phase) (e : Entry) : Type 0 where
  pub caller_is : e.caller ≡ r.caller
  pub call_is : e.call ≡ r.call
  pub op_is : e.op ≡ r.op
  pub fits : ListFits p e.list

told-entry : (r : Request) (p : Phase) (list : Option (List ℕ)) (e : Entry) → ListFits p list → Some (entry r list) ≡ Some e → Told r p e
told-entry r p list e h f =
    let is : entry r list ≡ e = cc in
    subst (Told r p) is (record { caller_is = refl; call_is = refl; op_is = refl; fits = h })

pub told-is : (r : Request) (p : Phase) (e : Entry) → tells r p ≡ Some e → Told r p e
told-is r (phase.Getting leaf brick) e h = told-entry r (phase.Getting leaf brick) None e refl h
told-is r (phase.Preparing leaf list waiting) e h = told-entry r (phase.Preparing leaf list waiting) (Some list) e refl h
told-is r (phase.Committing leaf list waiting was) e h = told-entry r (phase.Committing leaf list waiting was) (Some list) e refl h
told-is r (phase.Aborting waiting why brick) e h = cc
told-is r (phase.Asking waiting newest why) e h = told-entry r (phase.Asking waiting newest why) None e refl h

-- what is told again is the entry
same-entry : (r : Request) (list : Option (List ℕ)) (e : Entry) → e.caller ≡ r.caller → e.call ≡ r.call → e.op ≡ r.op → e.list ≡ list
    → ◌≡◌ {A = Option Entry} (Some (entry r list)) (Some e)
same-entry r list e a b c d = sym (λ i. Some (record { caller = a i; call = b i; op = c i; list = d i }))

pub told-again : (r : Request) (p : Phase) (e : Entry) → e.caller ≡ r.caller → e.call ≡ r.call → e.op ≡ r.op → ListFits p e.list
    → over (tells r p) (Some e) ≡ Some e
told-again r (phase.Getting leaf brick) e a b c d = same-entry r None e a b c d
told-again r (phase.Preparing leaf list waiting) e a b c d = same-entry r (Some list) e a b c d
told-again r (phase.Committing leaf list waiting was) e a b c d = same-entry r (Some list) e a b c d
told-again r (phase.Aborting waiting why brick) e a b c d = refl
told-again r (phase.Asking waiting newest why) e a b c d = same-entry r None e a b c d
