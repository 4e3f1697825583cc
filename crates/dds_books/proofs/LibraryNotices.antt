use Rattle.std.proofs.Common.{◌≡◌, ℕ, zero, suc, ◌+◌, ◌<◌, ◌≤◌, ◌⊎◌, inl, inr, Bool, true, false, cond, Option, Some, None, List, [], ◌∷◌}
use Rattle.std.proofs.Common.{length, refl, sym, ap, ◌∙◌, subst, arith}
use Rattle.std.proofs.lemmas.Bool.{both_ways, cases_lt}
use Rattle.std.proofs.lemmas.Bool.Decides.{nat_tests}
use Rattle.std.proofs.lemmas.List.Quantifiers.{position-Some}
use Rattle.std.specs.List.{AllByRecursion, position, position_or_len, remove}
use Rattle.std.specs.Prelude.{get_or, nat_lt, slice_get}
use Rattle.dds_base.specs.NodeSet.{with_node}
use Rattle.dds_base.specs.Number.{Txn, same_txn}
use Rattle.dds_base.specs.declared.node_set.NodeSet.{NodeSet}
use Rattle.dds_base.specs.declared.number.NodeNo.{NodeNo}
use Rattle.dds_core.proofs.CallTurns.{OneKeeps, both-assoc, both-nothing, one_call, same-is}
use Rattle.dds_core.proofs.Lists.{all-append, all-both, all-is, all-map, all-taken}
use Rattle.dds_core.specs.LibraryTurn.{at_attempt, at_call, at_place, attempts, call_place, call_row, desk_of, learns}
use Rattle.dds_core.specs.LibraryTurn.{notice_calls}
use Rattle.dds_letters.specs.declared.letter.Letter.TheVariants as letter
use Rattle.dds_net.proofs.Pairwise.{Pairwise, others-of, pairs-taken}
use Rattle.dds_net.specs.Net.{Sizes, is_in}
use Rattle.dds_states.specs.Turn.{both, no_out}
use Rattle.dds_states.specs.declared.library_state.Desk.{Desk}
use Rattle.dds_states.specs.declared.library_state.LibraryState.{LibraryState}
use Rattle.dds_states.specs.declared.library_state.OpenCall.{OpenCall}
use Rattle.dds_states.specs.declared.turn.CoreTurn.{CoreTurn}
use Rattle.dds_books.proofs.Fine.{AllSaid}
use Rattle.dds_books.proofs.CallGoes.{call-goes}
use Rattle.dds_books.proofs.CallNotices.{Learnt, learnt, notice-fine, silent-fine}
use Rattle.dds_books.proofs.CallBegins.{DeskOk, FineAt, Own}
use Rattle.dds_books.proofs.Turns.{back-with, still-open}
use Rattle.dds_books.specs.Placed.{CallOk, LeavesOk, LibraryOk, OtherAttempt}
use Rattle.dds_books.proofs.LibraryCalls.{call-later, other-sym, other-than, said-later, same-attempt}

-- A notice at a library treats the calls in order; those that are yet to be treated may wait for the node that stopped.

abbrev pub Awaits : Txn → List Txn → Type 0
Awaits t [] = ⊥
Awaits t (u ∷ ts) = (t ≡ u) ⊎ Awaits t ts

-- a call that has been treated, or is yet to be
pub data Due (z : Sizes) (number next : ℕ) (old known : NodeSet) (txns : List Txn) (c : OpenCall) : Type 0 where
  treated : CallOk z number next known c → Due z number next old known txns c
  waits : CallOk z number next old c → Awaits c.txn txns → Due z number next old known txns c

pub record Noticing (z : Sizes) (at : ℕ) (old : LibraryState) (y : NodeNo) (txns : List Txn) (s : LibraryState) (out : CoreTurn) : Type 0 where
  pub its_number : s.number ≡ at
  pub inside : is_in z at ≡ true
  pub high : 64 ≤ at
  pub its_bricks : s.bricks ≡ z.bricks
  pub leaves : LeavesOk z s.map
  pub apart : Pairwise OtherAttempt s.calls
  pub known : s.known ≡ with_node old.known y
  pub more : old.next ≤ s.next
  pub calls : AllByRecursion (Due z s.number s.next old.known s.known txns) s.calls
  pub letters : AllSaid (Own at s.next) z at out.letters

due-below : {z : Sizes} {number next : ℕ} {old known : NodeSet} {txns : List Txn} (c : OpenCall) → Due z number next old known txns c → c.txn.number < next
due-below c (treated k) = k.below
due-below c (waits k a) = k.below

due-later : {z : Sizes} {number next more : ℕ} {old known : NodeSet} {txns : List Txn} (c : OpenCall) → next ≤ more → Due z number next old known txns c
    → Due z number more old known txns c
due-later c m (treated k) = treated (call-later c m k)
due-later c m (waits k a) = waits (call-later c m k) a

-- the first of them isn't this call's
not-first : (t u : Txn) (ts : List Txn) → Awaits t (u ∷ ts) → (t ≡ u → ⊥) → Awaits t ts
not-first t u ts h ne = elim h [ inl e ↦ absurd (ne e) | inr a ↦ a ]

due-next : {z : Sizes} {number next : ℕ} {old known : NodeSet} {txns : List Txn} (c : OpenCall) (txn : Txn) → (c.txn ≡ txn → ⊥)
    → Due z number next old known (txn ∷ txns) c → Due z number next old known txns c
due-next c txn ne (treated k) = treated k
due-next {txns = txns} c txn ne (waits k a) = waits k (not-first c.txn txn txns a ne)

-- no open call has the attempt
missed-if : {X : Type 0} (p : X → Bool) (t : Bool) (x : X) (xs : List X) → p x ≡ t
    → (position p xs ≡ None → AllByRecursion (λ y. p y ≡ false) xs) → position p (x ∷ xs) ≡ None → AllByRecursion (λ y. p y ≡ false) (x ∷ xs)
missed-if p true x xs e rec none =
    let t : nat_lt 0 (suc (length xs)) ≡ true = grind (arith, nat_tests) in
    let shown : position p (x ∷ xs) ≡ cond (nat_lt 0 (suc (length xs))) (Some 0) None = rw e refl in
    let bad : ◌≡◌ {A = Option ℕ} (Some 0) None = sym (rw t at shown) ∙ none in
    cc
missed-if p false x xs e rec none =
    let n = position_or_len p xs in
    elim (cases_lt n (length xs)) [
      | inl under ↦
          let t : nat_lt (1 + n) (suc (length xs)) ≡ true = grind (arith, nat_tests) in
          let shown : position p (x ∷ xs) ≡ cond (nat_lt (1 + n) (suc (length xs))) (Some (1 + n)) None = rw e refl in
          let bad : ◌≡◌ {A = Option ℕ} (Some (1 + n)) None = sym (rw t at shown) ∙ none in
          cc
      | inr over ↦
          let t : nat_lt n (length xs) ≡ false = grind (arith, nat_tests) in
          let gone : position p xs ≡ None = rw t refl in
          (e, rec gone)
    ]

missed : {X : Type 0} (p : X → Bool) (xs : List X) → position p xs ≡ None → AllByRecursion (λ y. p y ≡ false) xs
missed p [] none = tt
missed p (x ∷ xs) none = missed-if p (p x) x xs refl (λ rest. missed p xs rest) none

get-none : {X : Type 0} (xs : List X) (i : ℕ) → slice_get xs i ≡ None → i < length xs → ⊥
get-none [] i e h = omega (arith, h)
get-none (x ∷ xs) zero e h = cc
get-none (x ∷ xs) (suc i) e h = get-none xs i e (omega (arith, h))

is-missed : {z : Sizes} {at : ℕ} {old : LibraryState} {y : NodeNo} {txns : List Txn} (s : LibraryState) (out : CoreTurn) (txn : Txn)
    → call_place s.calls txn ≡ None → Noticing z at old y (txn ∷ txns) s out → Noticing z at old y txns s out
is-missed {z = z} {old = old} {txns = txns} s out txn e h =
    record {
      its_number = h.its_number;
      inside = h.inside;
      high = h.high;
      its_bricks = h.its_bricks;
      leaves = h.leaves;
      apart = h.apart;
      known = h.known;
      more = h.more;
      calls = all-map (λ (c : OpenCall). (same_txn c.txn txn ≡ false) × Due z s.number s.next old.known s.known (txn ∷ txns) c)
          (Due z s.number s.next old.known s.known txns) s.calls (λ c k. due-next c txn
          (λ same. both_ways (same_txn c.txn txn) k.0 (ap (λ t. same_txn c.txn t) (sym same) ∙ same-attempt c.txn)) k.1)
          (all-both (λ (c : OpenCall). same_txn c.txn txn ≡ false) (Due z s.number s.next old.known s.known (txn ∷ txns)) s.calls
          (missed (λ (c : OpenCall). same_txn c.txn txn) s.calls e) h.calls);
      letters = h.letters;
    }

-- the call with the attempt has its turn
due-fine : {z : Sizes} {old : NodeSet} {txns : List Txn} (d : Desk) (c : OpenCall) (y : NodeNo) → DeskOk z d → Learnt old d.known y
    → Due z d.numbers.library d.numbers.next old d.known txns c → FineAt z d (call_row d c y letter.Notice)
due-fine d c y h l (treated k) = silent-fine d c y h k l.itself
due-fine d c y h l (waits k a) = notice-fine d c y h k l

-- the others stay due, perhaps of fewer attempts
is-treated : {z : Sizes} {at : ℕ} {old : LibraryState} {y : NodeNo} {txns : List Txn} (ts : List Txn) (s : LibraryState) (out : CoreTurn) (place : ℕ)
    (c : OpenCall) → y < 80 → slice_get s.calls place ≡ Some c
    → ((x : OpenCall) → OtherAttempt c x → Due z s.number s.next old.known s.known txns x → Due z s.number s.next old.known s.known ts x)
    → Noticing z at old y txns s out
    → Noticing z at old y ts (one_call s y letter.Notice place c).state (both out (one_call s y letter.Notice place c).out)
is-treated {z = z} {at = at} {old = old} {y = y} {txns = txns} ts s out place c few is fewer h =
    let rest = remove s.calls place in
    let d = desk_of (record s { calls = rest }) rest in
    let l : Learnt old.known d.known y = subst (λ k. Learnt old.known k y) (sym h.known) (learnt old.known y few) in
    let f = due-fine d c y (record { leaves = h.leaves; bricks = h.its_bricks }) l (all-is _ s.calls place c h.calls is) in
    let t = call_row d c y letter.Notice in
    let w = back-with rest place t.went.call in
    let others = others-of OtherAttempt s.calls place c other-sym h.apart is in
    let due = all-taken _ s.calls place h.calls in
    let below = all-map (Due z s.number s.next old.known s.known txns) (λ (x : OpenCall). x.txn.number < s.next) rest (λ x k. due-below x k) due in
    let g = call-goes d c y letter.Notice in
    let more = h.more in
    let step = f.more in
    record {
      its_number = h.its_number;
      inside = h.inside;
      high = h.high;
      its_bricks = h.its_bricks;
      leaves = f.leaves;
      apart = w.pairs OtherAttempt other-sym (pairs-taken OtherAttempt s.calls place h.apart)
          (λ x e. other-than x rest below (λ u same. let it : c.txn ≡ u = cc in
          subst (λ (k : Txn). AllByRecursion (λ (o : OpenCall). k.number ≡ o.txn.number → ⊥) rest) it others) (still-open t.went.call x g.goes e));
      known = h.known;
      more = omega (arith, more, step);
      calls = w.each (Due z s.number t.desk.numbers.next old.known s.known ts)
          (all-map (λ (x : OpenCall). OtherAttempt c x × Due z s.number s.next old.known s.known txns x)
          (Due z s.number t.desk.numbers.next old.known s.known ts) rest (λ x k. due-later x step (fewer x k.0 k.1))
          (all-both (OtherAttempt c) (Due z s.number s.next old.known s.known txns) rest others due)) (λ x e. treated (f.call x e));
      letters = all-append _ out.letters t.went.letters (said-later z at s.next t.desk.numbers.next out.letters step h.letters)
          (subst (λ i. AllSaid (Own i t.desk.numbers.next) z i t.went.letters) h.its_number f.letters);
    }

-- what each call's turn keeps, whichever calls have theirs
pub one-noticed : (z : Sizes) (at : ℕ) (old : LibraryState) (y : NodeNo) (txns : List Txn) → y < 80 → OneKeeps (Noticing z at old y txns) y letter.Notice
one-noticed z at old y txns few s out place c is concerns h = is-treated txns s out place c few is (λ x other k. k) h

-- what stands at a place
get-is : (xs : List OpenCall) (i : ℕ) (x d : OpenCall) → slice_get xs i ≡ Some x → get_or xs i d ≡ x
get-is [] i x d e = cc
get-is (y ∷ xs) zero x d e = cc
get-is (y ∷ xs) (suc i) x d e = get-is xs i x d e

at-call-noticed : {z : Sizes} {at : ℕ} {old : LibraryState} {y : NodeNo} {txns : List Txn} (s : LibraryState) (out : CoreTurn) (txn : Txn) (place : ℕ)
    (o : Option OpenCall) → y < 80 → slice_get s.calls place ≡ o → place < length s.calls → ((c : OpenCall) → o ≡ Some c → c.txn ≡ txn)
    → Noticing z at old y (txn ∷ txns) s out
    → Noticing z at old y txns (at_call s y letter.Notice place o).state (both out (at_call s y letter.Notice place o).out)
at-call-noticed s out txn place None few e inside is h = absurd (get-none s.calls place e inside)
at-call-noticed {txns = txns} s out txn place (Some c) few e inside is h =
    is-treated txns s out place c few e (λ x other k. due-next x txn (λ same. other (ap (λ (u : Txn). u.number) (is c refl ∙ sym same))) k) h

at-place-noticed : {z : Sizes} {at : ℕ} {old : LibraryState} {y : NodeNo} {txns : List Txn} (s : LibraryState) (out : CoreTurn) (txn : Txn) (o : Option ℕ)
    → y < 80 → call_place s.calls txn ≡ o → Noticing z at old y (txn ∷ txns) s out
    → Noticing z at old y txns (at_place s y letter.Notice o).state (both out (at_place s y letter.Notice o).out)
at-place-noticed {z = z} {at = at} {old = old} {y = y} {txns = txns} s out txn None few e h =
    subst (Noticing z at old y txns s) (sym (both-nothing out)) (is-missed s out txn e h)
at-place-noticed s out txn (Some place) few e h =
    at-call-noticed s out txn place (slice_get s.calls place) few refl (inside s.calls e)
    (λ c is. same-is c.txn txn (ap (λ (x : OpenCall). same_txn x.txn txn) (sym (get-is s.calls place c c is))
    ∙ (position-Some (λ (x : OpenCall). same_txn x.txn txn) s.calls place c e).1)) h
  where
    inside : (cs : List OpenCall) → call_place cs txn ≡ Some place → place < length cs
    inside [] g = cc
    inside (c ∷ cs) g = (position-Some (λ (x : OpenCall). same_txn x.txn txn) (c ∷ cs) place c g).0

pub all-noticed : {z : Sizes} {at : ℕ} {old : LibraryState} {y : NodeNo} (s : LibraryState) (out : CoreTurn) (txns : List Txn) → y < 80
    → Noticing z at old y txns s out → Noticing z at old y [] (notice_calls s y txns).state (both out (notice_calls s y txns).out)
all-noticed {z = z} {at = at} {old = old} {y = y} s out [] few h = subst (Noticing z at old y [] s) (sym (both-nothing out)) h
all-noticed {z = z} {at = at} {old = old} {y = y} s out (txn ∷ txns) few h =
    let t = at_attempt s y letter.Notice (Some txn) in
    let u = notice_calls t.state y txns in
    subst (Noticing z at old y [] u.state) (both-assoc out t.out u.out)
    (all-noticed t.state (both out t.out) txns few (at-place-noticed s out txn (call_place s.calls txn) few refl h))

-- before: each call is yet to be treated
awaits-more : (cs : List OpenCall) (u : Txn) (ts : List Txn) → AllByRecursion (λ (c : OpenCall). Awaits c.txn ts) cs
    → AllByRecursion (λ (c : OpenCall). Awaits c.txn (u ∷ ts)) cs
awaits-more cs u ts h = all-map (λ (c : OpenCall). Awaits c.txn ts) (λ (c : OpenCall). Awaits c.txn (u ∷ ts)) cs (λ c k. inr k) h

all-await : (cs : List OpenCall) → AllByRecursion (λ (c : OpenCall). Awaits c.txn (attempts cs)) cs
all-await [] = tt
all-await (c ∷ cs) = (inl refl, awaits-more cs c.txn (attempts cs) (all-await cs))

pub notice-first : {z : Sizes} {at : ℕ} (s : LibraryState) (y : NodeNo) → LibraryOk z at s → Noticing z at s y (attempts s.calls) (learns s y) no_out
notice-first {z = z} s y h =
    record {
      its_number = h.its_number;
      inside = h.inside;
      high = h.high;
      its_bricks = h.its_bricks;
      leaves = h.leaves;
      apart = h.apart;
      known = refl;
      more = omega arith;
      calls = all-map (λ (c : OpenCall). CallOk z s.number s.next s.known c × Awaits c.txn (attempts s.calls))
          (Due z s.number s.next s.known (with_node s.known y) (attempts s.calls)) s.calls (λ c k. waits k.0 k.1)
          (all-both (CallOk z s.number s.next s.known) (λ (c : OpenCall). Awaits c.txn (attempts s.calls)) s.calls h.calls (all-await s.calls));
      letters = tt;
    }

-- after: each call has been
pub none-due : {z : Sizes} {number next : ℕ} {old known : NodeSet} (c : OpenCall) → Due z number next old known [] c → CallOk z number next known c
none-due c (treated k) = k
none-due c (waits k a) = absurd a
