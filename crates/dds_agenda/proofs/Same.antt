-- Lists of the same entries have the same entry of each rank, one sorted by the slots, the other by the numbers first.
use Rattle.std.proofs.Common.{◌≡◌, ℕ, ◌+◌, ◌<◌, ◌≤◌, Bool, true, false, List, [], ◌∷◌, Option, Some, None, length, refl, ap, subst, ◌∙◌, sym, arith}
use Rattle.std.specs.Prelude.{◌==◌, count_by, find, nat_lt, if◌then◌else◌}
use Rattle.std.specs.List.{AllByRecursion, sum_by}
use Rattle.std.proofs.lemmas.Bool.Decides.{nat_tests}
use Rattle.std.proofs.lemmas.List.Sums.{sum_by-cons}
use Rattle.dds_agenda.proofs.Order.{neither-precedes, precedes-itself, same-numbers, slot-precedes-itself}
use Rattle.dds_agenda.proofs.Places.{count-cons, is_same, times}
use Rattle.dds_agenda.specs.Agenda.{AreSame, AreSorted, IsOrdered, IsPlaced, precedes, rank_of, ranked, slot_precedes}
use Rattle.dds_agenda.specs.declared.entry.Entry.{Entry}

abbrev slot_before : Entry → Entry → Bool
slot_before a b = slot_precedes a.slot b.slot

same-is : (k x : Entry) → is_same k x ≡ true → x ≡ k
same-is k x e = neither-precedes x k (grind (arith, e)) (grind (arith, e))

pub is-itself : (k : Entry) → is_same k k ≡ true
is-itself k =
    let p = precedes-itself k in
    grind (arith, p)

-- entries that pass
counts-if : (p : Entry → Bool) (e : Entry) (es : List Entry) (b : Bool) → p e ≡ b → (if b then Some e else find p es) ≡ None →
    (find p es ≡ None → count_by p es ≡ 0) → (if b then 1 else 0) + count_by p es ≡ 0
counts-if p e es true q h r = absurd (cc)
counts-if p e es false q h r = omega (arith, r h)

counts-none : (p : Entry → Bool) (es : List Entry) → find p es ≡ None → count_by p es ≡ 0
counts-none p [] h = refl
counts-none p (e ∷ es) h = count-cons p e es ∙ counts-if p e es (p e) refl h (counts-none p es)

finds-if : (p : Entry → Bool) (e : Entry) (es : List Entry) (b : Bool) → (if b then 1 else 0) + count_by p es ≡ 0 → (count_by p es ≡ 0 → find p es ≡ None) →
    (if b then Some e else find p es) ≡ None
finds-if p e es true h r = absurd (omega (arith, h))
finds-if p e es false h r = r (omega (arith, h))

finds-none : (p : Entry → Bool) (es : List Entry) → count_by p es ≡ 0 → find p es ≡ None
finds-none p [] h = refl
finds-none p (e ∷ es) h = finds-if p e es (p e) (sym (count-cons p e es) ∙ h) (finds-none p es)

-- the one that is found passes, and is there
passes-if : (p : Entry → Bool) (e a : Entry) (es : List Entry) (b : Bool) → p e ≡ b → (if b then Some e else find p es) ≡ Some a →
    (find p es ≡ Some a → p a ≡ true) → p a ≡ true
passes-if p e a es true q h r = let s : e ≡ a = cc in subst (λ x. p x ≡ true) s q
passes-if p e a es false q h r = r h

passes : (p : Entry → Bool) (a : Entry) (es : List Entry) → find p es ≡ Some a → p a ≡ true
passes p a [] h = absurd (cc)
passes p a (e ∷ es) h = passes-if p e a es (p e) refl h (passes p a es)

there-if : (p : Entry → Bool) (e a : Entry) (es : List Entry) (b : Bool) → (if b then Some e else find p es) ≡ Some a →
    (find p es ≡ Some a → 0 < times a es) → 0 < (if is_same a e then 1 else 0) + times a es
there-if p e a es true h r =
    let s : e ≡ a = cc in
    let o : is_same a e ≡ true = subst (λ x. is_same x e ≡ true) s (is-itself e) in
    subst (λ b. 0 < (if b then 1 else 0) + times a es) (sym o) (omega arith)
there-if p e a es false h r = omega (arith, r h)

there : (p : Entry → Bool) (a : Entry) (es : List Entry) → find p es ≡ Some a → 0 < times a es
there p a [] h = absurd (cc)
there p a (e ∷ es) h = subst (λ n. 0 < n) (sym (count-cons (is_same a) e es)) (there-if p e a es (p e) h (there p a es))

-- none that passes goes before it
all-member : (P : Entry → Type 0) (k : Entry) (es : List Entry) → AllByRecursion P es → 0 < times k es → P k
all-member P k [] a l = absurd (omega (arith, l))
all-member P k (e ∷ es) a l =
    let c = count-cons (is_same k) e es in
    elim (is_same k e) as (λ b. is_same k e ≡ b → 0 < (if b then 1 else 0) + times k es → P k) [
      | true ↦ λ q m. subst P (same-is k e q) a.0
      | false ↦ λ q m. all-member P k es a.1 (omega (arith, m))
    ] refl (subst (λ n. 0 < n) c l)

first-if : (before : Entry → Entry → Bool) (p : Entry → Bool) (e a k : Entry) (es : List Entry) (b : Bool) → ((x : Entry) → before x x ≡ false) → p e ≡ b →
    (if b then Some e else find p es) ≡ Some a → AreSorted before (e ∷ es) → 0 < times k (e ∷ es) → p k ≡ true →
    (find p es ≡ Some a → 0 < times k es → before k a ≡ false) → before k a ≡ false
first-if before p e a k es true self q h s l t r =
    let i : e ≡ a = cc in
    subst (λ x. before k x ≡ false) i (all-member (λ x. before x e ≡ false) k (e ∷ es) (self e, s.0) l)
first-if before p e a k es false self q h s l t r =
    let c = count-cons (is_same k) e es in
    elim (is_same k e) as (λ b. is_same k e ≡ b → 0 < (if b then 1 else 0) + times k es → before k a ≡ false) [
      | true ↦
          λ i m.
          let no : p k ≡ false = subst (λ x. p x ≡ false) (same-is k e i) q in
          absurd (cc)
      | false ↦ λ i m. r h (omega (arith, m))
    ] refl (subst (λ n. 0 < n) c l)

first : (before : Entry → Entry → Bool) (p : Entry → Bool) (a k : Entry) (es : List Entry) → ((x : Entry) → before x x ≡ false) → find p es ≡ Some a →
    AreSorted before es → 0 < times k es → p k ≡ true → before k a ≡ false
first before p a k [] self h s l t = absurd (cc)
first before p a k (e ∷ es) self h s l t =
    first-if before p e a k es (p e) self refl h s l t (λ g m. first before p a k es self g s.1 m t)

-- an entry there that has a lesser number has a lesser rank
below : ℕ → List Entry → ℕ
below n es = count_by (λ x. nat_lt x.number n) es

ranks-if : (n m : ℕ) (k e : Entry) (es : List Entry) → k.number ≡ n → n < m →
    (if is_same k e then 1 else 0) + (if nat_lt e.number n then 1 else 0) ≤ (if nat_lt e.number m then 1 else 0)
ranks-if n m k e es i l =
    elim (is_same k e) as (λ b. is_same k e ≡ b → (if b then 1 else 0) + (if nat_lt e.number n then 1 else 0) ≤ (if nat_lt e.number m then 1 else 0)) [
      | true ↦
          λ q.
          let same : e.number ≡ n = ap (λ (x : Entry). x.number) (same-is k e q) ∙ i in
          let no : nat_lt e.number n ≡ false = grind (arith, nat_tests, same) in
          let yes : nat_lt e.number m ≡ true = grind (arith, nat_tests, same, l) in
          rw (no, yes) (omega arith)
      | false ↦
          λ q.
          elim (nat_lt e.number n) as (λ b. nat_lt e.number n ≡ b → 0 + (if b then 1 else 0) ≤ (if nat_lt e.number m then 1 else 0)) [
            | true ↦
                λ r.
                let yes : nat_lt e.number m ≡ true = grind (arith, nat_tests, r, l) in
                rw yes (omega arith)
            | false ↦ λ r. omega arith
          ] refl
    ] refl

ranks : (n m : ℕ) (k : Entry) (es : List Entry) → k.number ≡ n → n < m →
    times k es + count_by (λ x. nat_lt x.number n) es ≤ count_by (λ x. nat_lt x.number m) es
ranks n m k [] i l = omega arith
ranks n m k (e ∷ es) i l =
    let a = count-cons (is_same k) e es in
    let b = count-cons (λ x. nat_lt x.number n) e es in
    let c = count-cons (λ x. nat_lt x.number m) e es in
    let h = ranks-if n m k e es i l in
    let r = ranks n m k es i l in
    omega (arith, a, b, c, h, r)

equal-ranks : (es : List Entry) (a b : Entry) (rank : ℕ) → 0 < times a es → (rank_of es a == rank) ≡ true → (rank_of es b == rank) ≡ true → b.number ≤ a.number
equal-ranks es a b rank l p q =
    elim (nat_lt a.number b.number) as (λ t. nat_lt a.number b.number ≡ t → b.number ≤ a.number) [
      | true ↦
          λ t.
          let r = ranks a.number b.number a es refl (grind (arith, nat_tests, t)) in
          let i : rank_of es a ≡ rank = grind (arith, nat_tests, p) in
          let j : rank_of es b ≡ rank = grind (arith, nat_tests, q) in
          absurd (omega (arith, r, i, j, l))
      | false ↦ λ t. grind (arith, nat_tests, t)
    ] refl

both-found : (es fs : List Entry) (rank : ℕ) (o q : Option Entry) → IsPlaced es → IsOrdered fs → AreSame es fs → find (λ e. rank_of fs e == rank) fs ≡ o →
    find (λ e. rank_of fs e == rank) es ≡ q → o ≡ q
both-found es fs rank None q placed ordered same f g =
    let p = λ (e : Entry). rank_of fs e == rank in
    let n = same (λ x. if p x then 1 else 0) ∙ counts-none p fs f in
    sym (sym g ∙ finds-none p es n)
both-found es fs rank (Some a) None placed ordered same f g =
    let p = λ (e : Entry). rank_of fs e == rank in
    let n = sym (same (λ x. if p x then 1 else 0)) ∙ counts-none p es g in
    sym f ∙ finds-none p fs n
both-found es fs rank (Some a) (Some b) placed ordered same f g =
    let p = λ (e : Entry). rank_of fs e == rank in
    let times-same = λ (k : Entry). same (λ x. if is_same k x then 1 else 0) in
    let a-here = there p a fs f in
    let b-here : 0 < times b fs = subst (λ n. 0 < n) (times-same b) (there p b es g) in
    let a-there : 0 < times a es = subst (λ n. 0 < n) (sym (times-same a)) a-here in
    let a-passes = passes p a fs f in
    let b-passes = passes p b es g in
    let up = equal-ranks fs a b rank a-here a-passes b-passes in
    let down = equal-ranks fs b a rank b-here b-passes a-passes in
    let n : b.number ≡ a.number = omega (arith, up, down) in
    let b-first = first precedes p a b fs precedes-itself f ordered b-here b-passes in
    let a-first = first slot_before p b a es (λ x. slot-precedes-itself x.slot) g placed a-there a-passes in
    ap Some (neither-precedes a b (same-numbers a b (sym n) a-first) b-first)

-- the entry of a rank
pub ranked-same : (es fs : List Entry) (rank : ℕ) → IsPlaced es → IsOrdered fs → AreSame es fs → ranked fs rank ≡ ranked es rank
ranked-same es fs rank placed ordered same =
    let ranks-same = λ (e : Entry). sym (same (λ x. if nat_lt x.number e.number then 1 else 0)) in
    both-found es fs rank (find (λ e. rank_of fs e == rank) fs) (find (λ e. rank_of fs e == rank) es) placed ordered same refl refl
    ∙ ap (λ (p : Entry → Bool). find p es) (λ i e. ranks-same e i == rank)

-- how many there are
sum-ones : (es : List Entry) → sum_by (λ e. 1) es ≡ length es
sum-ones [] = refl
sum-ones (e ∷ es) =
    let c = sum_by-cons (λ (x : Entry). 1) e es in
    let r = sum-ones es in
    omega (arith, c, r)

pub lengths-same : (es fs : List Entry) → AreSame es fs → length es ≡ length fs
lengths-same es fs same = sym (sum-ones es) ∙ same (λ e. 1) ∙ sum-ones fs
