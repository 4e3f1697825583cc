-- The entry of a rank, by its place in the sorted list.
use Rattle.std.proofs.Common.{◌≡◌, ◌≢◌, ℕ, ◌+◌, ◌-◌, ◌<◌, ◌≤◌, Bool, true, false, List, [], ◌∷◌, Some, None, get_or, length, zero, suc}
use Rattle.std.proofs.Common.{refl, ap, subst, ◌∙◌, sym, arith}
use Rattle.std.specs.Prelude.{◌==◌, count_by, nat_lt, slice_get, if◌then◌else◌}
use Rattle.std.specs.List.{AllByRecursion}
use Rattle.std.proofs.lemmas.Bool.Decides.{nat_tests}
use Rattle.std.proofs.lemmas.List.Folds.{find_at}
use Rattle.std.proofs.lemmas.List.Sums.{position_or_len_is}
use Rattle.dds_agenda.proofs.Order.{numbers-rise}
use Rattle.dds_agenda.proofs.Places.{count-cons}
use Rattle.dds_agenda.specs.Agenda.{IsOrdered, precedes, rank_of, ranked}
use Rattle.dds_agenda.specs.declared.entry.Entry.{Entry}

-- how many entries have numbers below one
abbrev below : ℕ → List Entry → ℕ
below n es = count_by (λ x. nat_lt x.number n) es

none-below : (n : ℕ) (e : Entry) (es : List Entry) → n ≤ e.number → AllByRecursion (λ x. precedes x e ≡ false) es → below n es ≡ 0
none-below n e [] h a = refl
none-below n e (x ∷ es) h a =
    let up = numbers-rise e x a.0 in
    let no : nat_lt x.number n ≡ false = grind (arith, nat_tests, up, h) in
    count-cons (λ x. nat_lt x.number n) x es ∙ ap (λ b. (if b then 1 else 0) + below n es) no ∙ omega (arith, none-below n e es h a.1)

number-at : (es : List Entry) (i : ℕ) (e d : Entry) (m : ℕ) → i < length es → m ≤ e.number → AllByRecursion (λ x. precedes x e ≡ false) es →
    m ≤ (get_or es i d).number
number-at [] i e d m l h a = absurd (omega (arith, l))
number-at (x ∷ es) zero e d m l h a = omega (arith, numbers-rise e x a.0, h)
number-at (x ∷ es) (suc i) e d m l h a = number-at es i e d m (omega (arith, l)) h a.1

low-if : (n : ℕ) (e d : Entry) (es : List Entry) (i : ℕ) (b : Bool) → nat_lt e.number n ≡ b → IsOrdered (e ∷ es) → i < length (e ∷ es) →
    ((j : ℕ) → j < length es → nat_lt (get_or es j d).number n ≡ nat_lt j (below n es)) →
    nat_lt (get_or (e ∷ es) i d).number n ≡ nat_lt i ((if b then 1 else 0) + below n es)
low-if n e d es zero true p a l h = grind (arith, nat_tests, p)
low-if n e d es (suc i) true p a l h =
    let r = h i (omega (arith, l)) in
    r ∙ grind (arith, nat_tests)
low-if n e d es zero false p a l h =
    let z = none-below n e es (grind (arith, nat_tests, p)) a.0 in
    grind (arith, nat_tests, p, z)
low-if n e d es (suc i) false p a l h =
    let z = none-below n e es (grind (arith, nat_tests, p)) a.0 in
    let r = number-at es i e d n (omega (arith, l)) (grind (arith, nat_tests, p)) a.0 in
    grind (arith, nat_tests, z, r)

-- an entry's number is below another exactly where its place is among those
pub low : (n : ℕ) (d : Entry) (es : List Entry) (i : ℕ) → IsOrdered es → i < length es → nat_lt (get_or es i d).number n ≡ nat_lt i (below n es)
low n d [] i a l = absurd (omega (arith, l))
low n d (e ∷ es) i a l =
    low-if n e d es i (nat_lt e.number n) refl a l (λ j m. low n d es j a.1 m)
    ∙ ap (nat_lt i) (sym (count-cons (λ x. nat_lt x.number n) e es))

abbrev at_rank : List Entry → ℕ → Entry → Bool
at_rank es rank e = rank_of es e == rank

-- an entry's rank is at most its place
rank-low : (d : Entry) (es : List Entry) (i : ℕ) → IsOrdered es → i < length es → rank_of es (get_or es i d) ≤ i
rank-low d es i a l =
    let n = (get_or es i d).number in
    let h = low n d es i a l in
    let itself : nat_lt n n ≡ false = grind (arith, nat_tests) in
    let no : nat_lt i (below n es) ≡ false = sym h ∙ itself in
    grind (arith, nat_tests, no)

lesser-rank : (d : Entry) (es : List Entry) (i rank : ℕ) → IsOrdered es → i < length es → i < rank → at_rank es rank (get_or es i d) ≡ false
lesser-rank d es i rank a l h =
    let low-here = rank-low d es i a l in
    grind (arith, nat_tests, low-here, h)

-- the numbers of neighbours
neighbours : (d : Entry) (es : List Entry) (i : ℕ) → IsOrdered es → suc i < length es → (get_or es i d).number ≤ (get_or es (suc i) d).number
neighbours d es i a l =
    let n = (get_or es i d).number in
    let h = low n d es (suc i) a l in
    let low-here = rank-low d es i a (omega (arith, l)) in
    let no : nat_lt (suc i) (below n es) ≡ false = grind (arith, nat_tests, low-here) in
    let is : nat_lt (get_or es (suc i) d).number n ≡ false = h ∙ no in
    grind (arith, nat_tests, is)

-- the entry at a place has this for its rank, where its number is not that of the one before it
rank-here : (d : Entry) (es : List Entry) (rank : ℕ) → IsOrdered es → rank < length es →
    (0 < rank → (get_or es (rank - 1) d).number ≢ (get_or es rank d).number) → at_rank es rank (get_or es rank d) ≡ true
rank-here d es zero a l h =
    let low-here = rank-low d es 0 a l in
    grind (arith, nat_tests, low-here)
rank-here d es (suc r) a l h =
    let n = (get_or es (suc r) d).number in
    let low-here = rank-low d es (suc r) a l in
    let back : suc r - 1 ≡ r = omega arith in
    let m : (get_or es r d).number ≢ n = subst (λ j. (get_or es j d).number ≢ n) back (h (omega arith)) in
    let up = neighbours d es r a l in
    let less : nat_lt (get_or es r d).number n ≡ true = grind (arith, nat_tests, m, up) in
    let among : nat_lt r (below n es) ≡ true = sym (low n d es r a (omega (arith, l))) ∙ less in
    grind (arith, nat_tests, low-here, among)

-- no entry has this rank, where two neighbours have a number in common
rank-missed : (d : Entry) (es : List Entry) (r i : ℕ) → IsOrdered es → suc r < length es → (get_or es r d).number ≡ (get_or es (suc r) d).number →
    i < length es → at_rank es (suc r) (get_or es i d) ≡ false
rank-missed d es r i a l e m =
    let n = (get_or es i d).number in
    let first = low n d es r a (omega (arith, l)) in
    let second = low n d es (suc r) a l in
    let same : nat_lt (get_or es r d).number n ≡ nat_lt (get_or es (suc r) d).number n = ap (λ k. nat_lt k n) e in
    let both : nat_lt r (below n es) ≡ nat_lt (suc r) (below n es) = sym first ∙ same ∙ second in
    grind (arith, nat_tests, both)

-- the first entry that passes, by its place
found : (es : List Entry) (rank i : ℕ) (d : Entry) → i ≤ length es → ((k : ℕ) → k < i → at_rank es rank (get_or es k d) ≡ false) →
    (i < length es → at_rank es rank (get_or es i d) ≡ true) → ranked es rank ≡ slice_get es i
found es rank i d l before here =
    find_at (at_rank es rank) es ∙ ap (slice_get es) (position_or_len_is (at_rank es rank) es i d l before here)

get-past : (es : List Entry) (i : ℕ) → length es ≤ i → slice_get es i ≡ None
get-past [] i l = refl
get-past (e ∷ es) zero l = absurd (omega (arith, l))
get-past (e ∷ es) (suc i) l = get-past es i (omega (arith, l))

get-within : (es : List Entry) (i : ℕ) (d : Entry) → i < length es → slice_get es i ≡ Some (get_or es i d)
get-within [] i d l = absurd (omega (arith, l))
get-within (e ∷ es) zero d l = refl
get-within (e ∷ es) (suc i) d l = get-within es i d (omega (arith, l))

pub ranked-past : (d : Entry) (es : List Entry) (rank : ℕ) → IsOrdered es → length es ≤ rank → None ≡ ranked es rank
ranked-past d es rank a l =
    sym (found es rank (length es) d (omega arith) (λ k m. lesser-rank d es k rank a m (omega (arith, m, l))) (λ m. absurd (omega (arith, m)))
    ∙ get-past es (length es) (omega arith))

pub ranked-here : (d : Entry) (es : List Entry) (rank : ℕ) → IsOrdered es → rank < length es →
    (0 < rank → (get_or es (rank - 1) d).number ≢ (get_or es rank d).number) → Some (get_or es rank d) ≡ ranked es rank
ranked-here d es rank a l h =
    sym (found es rank rank d (omega (arith, l)) (λ k m. lesser-rank d es k rank a (omega (arith, m, l)) m) (λ m. rank-here d es rank a l h)
    ∙ get-within es rank d l)

missed : (d : Entry) (es : List Entry) (rank : ℕ) → IsOrdered es → 0 < rank → rank < length es → (get_or es (rank - 1) d).number ≡ (get_or es rank d).number →
    (k : ℕ) → k < length es → at_rank es rank (get_or es k d) ≡ false
missed d es zero a s l e k m = absurd (omega (arith, s))
missed d es (suc r) a s l e k m =
    let back : suc r - 1 ≡ r = omega arith in
    rank-missed d es r k a l (subst (λ j. (get_or es j d).number ≡ (get_or es (suc r) d).number) back e) m

pub ranked-missed : (d : Entry) (es : List Entry) (rank : ℕ) → IsOrdered es → 0 < rank → rank < length es →
    (get_or es (rank - 1) d).number ≡ (get_or es rank d).number → None ≡ ranked es rank
ranked-missed d es rank a s l e =
    sym (found es rank (length es) d (omega arith) (missed d es rank a s l e) (λ m. absurd (omega (arith, m))) ∙ get-past es (length es) (omega arith))
