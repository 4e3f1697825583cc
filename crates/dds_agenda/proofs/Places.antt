-- Putting an entry in and taking one out, at the place that a search finds.
use Rattle.std.proofs.Common.{◌≡◌, ℕ, ◌+◌, ◌<◌, ◌≤◌, Bool, true, false, List, [], ◌∷◌, get_or, length, zero, suc, refl, ap, subst, ◌∙◌, sym, arith}
use Rattle.std.specs.Prelude.{◌&&◌, not, count_by, Result, Ok, Err, OnOk, OnErr, if◌then◌else◌}
use Rattle.dds_base.specs.declared.memory.Memory.{Memory}
use Rattle.std.specs.List.Sorted.{IsPartitionedBy}
use Rattle.std.specs.List.{AllByRecursion, insert, prefix_len, remove, sum_by}
use Rattle.std.proofs.lemmas.List.Sums.{sum_by-cons, sum_by-insert}
use Rattle.dds_agenda.proofs.Order.{behind-both, neither-precedes, precedes-end, precedes-one-way, precedes-over}
use Rattle.dds_agenda.specs.Agenda.{IsOrdered, precedes, put, take_out}
use Rattle.dds_agenda.specs.declared.entry.Entry.{Entry}

-- how many entries precede one
abbrev pub place_of : Entry → List Entry → ℕ
place_of k es = prefix_len (λ x. precedes x k) es

put-if : (k e : Entry) (es : List Entry) (b : Bool) → insert es (place_of k es) k ≡ put k es →
    insert (e ∷ es) (if b then 1 + place_of k es else 0) k ≡ (if b then e ∷ put k es else k ∷ e ∷ es)
put-if k e es true h =
    let n : 1 + place_of k es ≡ suc (place_of k es) = omega arith in
    rw n (ap (λ l. e ∷ l) h)
put-if k e es false h = refl

pub put-there : (k : Entry) (es : List Entry) → insert es (place_of k es) k ≡ put k es
put-there k [] = refl
put-there k (e ∷ es) = put-if k e es (precedes e k) (put-there k es)

out-if : (k e d : Entry) (es : List Entry) (b : Bool) →
    (place_of k es < length es → precedes k (get_or es (place_of k es) d) ≡ false → remove es (place_of k es) ≡ take_out k es) →
    (if b then 1 + place_of k es else 0) < length (e ∷ es) → precedes k (get_or (e ∷ es) (if b then 1 + place_of k es else 0) d) ≡ false →
    remove (e ∷ es) (if b then 1 + place_of k es else 0) ≡ (if b then e ∷ take_out k es else (if precedes k e then e ∷ es else es))
out-if k e d es true h l p =
    let n : 1 + place_of k es ≡ suc (place_of k es) = omega arith in
    rw n (ap (λ x. e ∷ x) (h (omega (arith, l)) (subst (λ i. precedes k (get_or (e ∷ es) i d) ≡ false) n p)))
out-if k e d es false h l p = sym (ap (λ b. if b then e ∷ es else es) p)

-- the entry at its place goes, where it is the one
pub out-there : (k d : Entry) (es : List Entry) → place_of k es < length es → precedes k (get_or es (place_of k es) d) ≡ false →
    remove es (place_of k es) ≡ take_out k es
out-there k d [] l p = absurd (omega (arith, l))
out-there k d (e ∷ es) l p = out-if k e d es (precedes e k) (out-there k d es) l p

in-if : (k e d : Entry) (es : List Entry) (b : Bool) → (place_of k es < length es → precedes k (get_or es (place_of k es) d) ≡ true → es ≡ take_out k es) →
    (if b then 1 + place_of k es else 0) < length (e ∷ es) → precedes k (get_or (e ∷ es) (if b then 1 + place_of k es else 0) d) ≡ true →
    e ∷ es ≡ (if b then e ∷ take_out k es else (if precedes k e then e ∷ es else es))
in-if k e d es true h l p =
    let n : 1 + place_of k es ≡ suc (place_of k es) = omega arith in
    ap (λ x. e ∷ x) (h (omega (arith, l)) (subst (λ i. precedes k (get_or (e ∷ es) i d) ≡ true) n p))
in-if k e d es false h l p = sym (ap (λ b. if b then e ∷ es else es) p)

-- all stay, where it is another or none
pub all-stay : (k d : Entry) (es : List Entry) → place_of k es < length es → precedes k (get_or es (place_of k es) d) ≡ true → es ≡ take_out k es
all-stay k d [] l p = refl
all-stay k d (e ∷ es) l p = in-if k e d es (precedes e k) (all-stay k d es) l p

past-if : (k e : Entry) (es : List Entry) (b : Bool) → (length es ≤ place_of k es → es ≡ take_out k es) →
    length (e ∷ es) ≤ (if b then 1 + place_of k es else 0) → e ∷ es ≡ (if b then e ∷ take_out k es else (if precedes k e then e ∷ es else es))
past-if k e es true h l = ap (λ x. e ∷ x) (h (omega (arith, l)))
past-if k e es false h l = absurd (omega (arith, l))

pub none-stands : (k : Entry) (es : List Entry) → length es ≤ place_of k es → es ≡ take_out k es
none-stands k [] l = refl
none-stands k (e ∷ es) l = past-if k e es (precedes e k) (none-stands k es) l

-- the order is kept
all-if : (P : Entry → Type 0) (k e : Entry) (es : List Entry) (b : Bool) → P k → AllByRecursion P (e ∷ es) → AllByRecursion P (put k es) →
    AllByRecursion P (if b then e ∷ put k es else k ∷ e ∷ es)
all-if P k e es true p a h = (a.0, h)
all-if P k e es false p a h = (p, a)

all-put : (P : Entry → Type 0) (k : Entry) (es : List Entry) → P k → AllByRecursion P es → AllByRecursion P (put k es)
all-put P k [] p a = (p, tt)
all-put P k (e ∷ es) p a = all-if P k e es (precedes e k) p a (all-put P k es p a.1)

all-weaker : (P Q : Entry → Type 0) (es : List Entry) → ((x : Entry) → P x → Q x) → AllByRecursion P es → AllByRecursion Q es
all-weaker P Q [] h a = tt
all-weaker P Q (e ∷ es) h a = (h e a.0, all-weaker P Q es h a.1)

ordered-if : (k e : Entry) (es : List Entry) (b : Bool) → precedes e k ≡ b → IsOrdered (e ∷ es) → IsOrdered (put k es) →
    IsOrdered (if b then e ∷ put k es else k ∷ e ∷ es)
ordered-if k e es true p a h =
    (all-put (λ x. precedes x e ≡ false) k es (precedes-one-way e k p) a.0, h)
ordered-if k e es false p a h =
    ((p, all-weaker (λ x. precedes x e ≡ false) (λ x. precedes x k ≡ false) es (λ x q. behind-both k e x p q) a.0), a)

pub ordered-put : (k : Entry) (es : List Entry) → IsOrdered es → IsOrdered (put k es)
ordered-put k [] a = (tt, tt)
ordered-put k (e ∷ es) a = ordered-if k e es (precedes e k) refl a (ordered-put k es a.1)

all-out-if : (P : Entry → Type 0) (k e : Entry) (es : List Entry) (b c : Bool) → AllByRecursion P (e ∷ es) → AllByRecursion P (take_out k es) →
    AllByRecursion P (if b then e ∷ take_out k es else (if c then e ∷ es else es))
all-out-if P k e es true c a h = (a.0, h)
all-out-if P k e es false true a h = a
all-out-if P k e es false false a h = a.1

all-out : (P : Entry → Type 0) (k : Entry) (es : List Entry) → AllByRecursion P es → AllByRecursion P (take_out k es)
all-out P k [] a = tt
all-out P k (e ∷ es) a = all-out-if P k e es (precedes e k) (precedes k e) a (all-out P k es a.1)

ordered-out-if : (k e : Entry) (es : List Entry) (b c : Bool) → IsOrdered (e ∷ es) → IsOrdered (take_out k es) →
    IsOrdered (if b then e ∷ take_out k es else (if c then e ∷ es else es))
ordered-out-if k e es true c a h = (all-out (λ x. precedes x e ≡ false) k es a.0, h)
ordered-out-if k e es false true a h = a
ordered-out-if k e es false false a h = a.1

pub ordered-out : (k : Entry) (es : List Entry) → IsOrdered es → IsOrdered (take_out k es)
ordered-out k [] a = tt
ordered-out k (e ∷ es) a = ordered-out-if k e es (precedes e k) (precedes k e) a (ordered-out k es a.1)

all-at : (P : Entry → Type 0) (es : List Entry) (i : ℕ) (d : Entry) → AllByRecursion P es → i < length es → P (get_or es i d)
all-at P [] i d a l = absurd (omega (arith, l))
all-at P (e ∷ es) zero d a l = a.0
all-at P (e ∷ es) (suc i) d a l = all-at P es i d a.1 (omega (arith, l))

-- sums over the entries
pub sum-put : (f : Entry → ℕ) (k : Entry) (es : List Entry) → sum_by f (put k es) ≡ sum_by f es + f k
sum-put f k es = ap (sum_by f) (sym (put-there k es)) ∙ sum_by-insert f es (place_of k es) k

-- how often an entry is there
abbrev pub is_same : Entry → Entry → Bool
is_same k x = not (precedes x k) && not (precedes k x)

abbrev pub times : Entry → List Entry → ℕ
times k es = count_by (is_same k) es

pub count-cons : (p : Entry → Bool) (e : Entry) (es : List Entry) → count_by p (e ∷ es) ≡ (if p e then 1 else 0) + count_by p es
count-cons p e es = sum_by-cons (λ x. if p x then 1 else 0) e es

-- an entry that precedes all isn't there
not-there : (k : Entry) (es : List Entry) → AllByRecursion (λ x. precedes k x ≡ true) es → times k es ≡ 0
not-there k [] a = refl
not-there k (e ∷ es) a =
    let one : is_same k e ≡ false = grind (arith, a.0) in
    count-cons (is_same k) e es ∙ ap (λ b. (if b then 1 else 0) + times k es) one ∙ omega (arith, not-there k es a.1)

sum-if : (f : Entry → ℕ) (k e : Entry) (es : List Entry) (b c : Bool) → precedes e k ≡ b → precedes k e ≡ c → IsOrdered (e ∷ es) → 0 < times k (e ∷ es) →
    (0 < times k es → sum_by f (take_out k es) + f k ≡ sum_by f es) →
    sum_by f (if b then e ∷ take_out k es else (if c then e ∷ es else es)) + f k ≡ sum_by f (e ∷ es)
sum-if f k e es true c p q a l h =
    let one : is_same k e ≡ false = grind (arith, p) in
    let t : times k (e ∷ es) ≡ times k es = count-cons (is_same k) e es ∙ ap (λ b. (if b then 1 else 0) + times k es) one ∙ omega arith in
    omega (arith, sum_by-cons f e (take_out k es), sum_by-cons f e es, h (omega (arith, l, t)))
sum-if f k e es false true p q a l h =
    let none = not-there k es (all-weaker (λ x. precedes x e ≡ false) (λ x. precedes k x ≡ true) es (λ x r. precedes-end k e x q r) a.0) in
    let one : is_same k e ≡ false = grind (arith, q) in
    let t : times k (e ∷ es) ≡ times k es = count-cons (is_same k) e es ∙ ap (λ b. (if b then 1 else 0) + times k es) one ∙ omega arith in
    absurd (omega (arith, l, t, none))
sum-if f k e es false false p q a l h =
    omega (arith, sum_by-cons f e es, ap f (neither-precedes e k p q))

pub sum-out : (f : Entry → ℕ) (k : Entry) (es : List Entry) → IsOrdered es → 0 < times k es → sum_by f (take_out k es) + f k ≡ sum_by f es
sum-out f k [] a l = absurd (omega (arith, l))
sum-out f k (e ∷ es) a l = sum-if f k e es (precedes e k) (precedes k e) refl refl a l (sum-out f k es a.1)

-- a search by halves finds an entry's place
parts-if : (k e d : Entry) (es : List Entry) (i j : ℕ) → IsOrdered (e ∷ es) →
    ((a b : ℕ) → a ≤ b → b < length es → precedes (get_or es b d) k ≡ true → precedes (get_or es a d) k ≡ true) → i ≤ j → j < length (e ∷ es) →
    precedes (get_or (e ∷ es) j d) k ≡ true → precedes (get_or (e ∷ es) i d) k ≡ true
parts-if k e d es zero zero a h m l p = p
parts-if k e d es zero (suc j) a h m l p =
    precedes-over e (get_or es j d) k (all-at (λ x. precedes x e ≡ false) es j d a.0 (omega (arith, l))) p
parts-if k e d es (suc i) zero a h m l p = absurd (omega (arith, m))
parts-if k e d es (suc i) (suc j) a h m l p = h i j (omega (arith, m)) (omega (arith, l)) p

parts : (k d : Entry) (es : List Entry) (i j : ℕ) → IsOrdered es → i ≤ j → j < length es → precedes (get_or es j d) k ≡ true → precedes (get_or es i d) k ≡ true
parts k d [] i j a m l p = absurd (omega (arith, l))
parts k d (e ∷ es) i j a m l p =
    parts-if k e d es i j a (λ x y n o q. parts k d es x y a.1 n o q) m l p

pub ordered-parts : (k : Entry) (es : List Entry) → IsOrdered es → IsPartitionedBy (λ x. precedes x k) es
ordered-parts k es a = λ i j d m l p. parts k d es i j a m l p

-- where memory may be missing
pub insert-ordered : (r : Result (Unit {0}) Memory) (k : Entry) (es new : List Entry) (place : ℕ) → place ≡ place_of k es → OnOk r (new ≡ insert es place k) →
    OnErr r (new ≡ es) → IsOrdered es → IsOrdered new
insert-ordered (Ok x) k es new place p o e a =
    subst IsOrdered (sym (o ∙ ap (λ i. insert es i k) p ∙ put-there k es)) (ordered-put k es a)
insert-ordered (Err x) k es new place p o e a = subst IsOrdered (sym e) a

pub inserted : (r : Result (Unit {0}) Memory) (k : Entry) (es new : List Entry) (place : ℕ) → place ≡ place_of k es → OnOk r (new ≡ insert es place k) →
    OnOk r (new ≡ put k es)
inserted (Ok x) k es new place p o = o ∙ ap (λ i. insert es i k) p ∙ put-there k es
inserted (Err x) k es new place p o = tt

-- the entry that stands at the place found
pub taken : (k d : Entry) (es new : List Entry) (place : ℕ) → place ≡ place_of k es → place < length es → d ≡ get_or es place d → precedes k d ≡ false →
    new ≡ remove es place → new ≡ take_out k es
taken k d es new place p l at b is =
    is ∙ ap (remove es) p ∙ out-there k d es (omega (arith, l, p)) (subst (λ i. precedes k (get_or es i d) ≡ false) p (subst (λ x. precedes k x ≡ false) at b))

pub stayed : (k d : Entry) (es : List Entry) (place : ℕ) → place ≡ place_of k es → place < length es → d ≡ get_or es place d → precedes k d ≡ true →
    es ≡ take_out k es
stayed k d es place p l at b =
    all-stay k d es (omega (arith, l, p)) (subst (λ i. precedes k (get_or es i d) ≡ true) p (subst (λ x. precedes k x ≡ true) at b))
