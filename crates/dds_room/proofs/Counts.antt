use Rattle.std.proofs.Common.{◌≡◌, ℕ, ◌+◌, ◌≤◌, ◌==◌, ◌⊎◌, inl, inr, Bool, true, false, T, Option, Some, None, List, [], ◌∷◌, ◌++◌}
use Rattle.std.proofs.Common.{length, map, refl, sym, ◌∙◌, subst, arith}
use Rattle.std.proofs.lemmas.Bool.{and_parts, both_ways, or_left, or_parts, or_right}
use Rattle.std.proofs.lemmas.Bool.Decides.{nat_tests}
use Rattle.std.proofs.lemmas.List.Sums.{length-filter}
use Rattle.std.proofs.lemmas.Map.Made.{length-le_from_is_member}
use Rattle.std.specs.Cmp.{eq_by_cmp_equiv, nat_cmp_total}
use Rattle.std.specs.FinMap.{contains_key, entries, entries_sorted, is_sorted, keys}
use Rattle.std.specs.FinMap.Entries.{below_all}
use Rattle.std.specs.List.{AllByRecursion, IsDistinct, filter, list_any}
use Rattle.std.specs.Ordering.{is_lt, nat_cmp}
use Rattle.std.specs.Prelude.{if◌then◌else◌}
use Rattle.dds_base.specs.Name.{Name, covers}
use Rattle.dds_base.specs.Number.{Txn}
use Rattle.dds_base.specs.Op.{the_key}
use Rattle.dds_base.specs.declared.pending.Pending.{Pending}
use Rattle.dds_brick_rows.specs.Refusal.{is_new_under, pairs_under}
use Rattle.dds_core.proofs.Lists.{all-append, all-filter}
use Rattle.dds_history.specs.Map.{Map}
use Rattle.dds_locks.specs.Pending.{IsApart, holder}
use Rattle.dds_room.proofs.TakenKeys.{Among, all_keys, count-is, count_under, from-all, from-filter, from-new, is_taken, key-bound, new_keys, same, same-self}
use Rattle.dds_room.proofs.TakenKeys.{to-all, to-filter}

-- Each key that is taken stands once. So what changes which keys are taken tells how much is taken.

-- each of them stands once
none-all : (q : ℕ) (ks : List ℕ) → list_any (λ k. same q k) ks ≡ false → AllByRecursion (λ k. same q k ≡ false) ks
none-all q [] h = tt
none-all q (k ∷ ks) h = let r = or_parts (same q k) (list_any (λ i. same q i) ks) h in (r.0, none-all q ks r.1)

distinct-append : (xs ys : List ℕ) → IsDistinct same xs → IsDistinct same ys → ((q : ℕ) → Among q xs → list_any (λ k. same q k) ys ≡ false)
    → IsDistinct same (xs ++ ys)
unfolding IsDistinct
distinct-append [] ys h k f = k
distinct-append (x ∷ xs) ys h k f = (
  all-append (λ y. same x y ≡ false) xs ys h.0 (none-all x ys (f x (or_left (same x x) (list_any (λ i. same x i) xs) (same-self x)))),
  distinct-append xs ys h.1 k (λ q i. f q (or_right (same q x) (list_any (λ j. same q j) xs) i)),
)

distinct-if : (x : ℕ) (xs : List ℕ) (c : Bool) → AllByRecursion (λ y. same x y ≡ false) xs → IsDistinct same xs → IsDistinct same (if c then x ∷ xs else xs)
unfolding IsDistinct
distinct-if x xs true h k = (h, k)
distinct-if x xs false h k = k

distinct-filter : (test : ℕ → Bool) (xs : List ℕ) → IsDistinct same xs → IsDistinct same (filter test xs)
unfolding IsDistinct
distinct-filter test [] h = h
distinct-filter test (x ∷ xs) h =
    distinct-if x (filter test xs) (test x) (all-filter (λ y. same x y ≡ false) test xs h.0) (distinct-filter test xs h.1)

above : (k e : ℕ) → is_lt (nat_cmp k e) ≡ true → same k e ≡ false
above k e h = grind (arith, nat_tests, h)

apart-below : (k : ℕ) (es : List (ℕ × List ℕ)) → below_all nat_cmp k es ≡ true → AllByRecursion (λ y. same k y ≡ false) (map (λ (e : ℕ × List ℕ). e.0) es)
apart-below k [] h = tt
apart-below k (e ∷ es) h =
    let parts = and_parts (is_lt (nat_cmp k e.0)) (below_all nat_cmp k es) h in (above k e.0 parts.0, apart-below k es parts.1)

distinct-of : (es : List (ℕ × List ℕ)) → is_sorted nat_cmp es ≡ true → IsDistinct same (map (λ (e : ℕ × List ℕ). e.0) es)
unfolding IsDistinct
distinct-of [] h = tt
distinct-of (e ∷ es) h =
    let parts = and_parts (below_all nat_cmp e.0 es) (is_sorted nat_cmp es) h in (apart-below e.0 es parts.0, distinct-of es parts.1)

true-of : (b : Bool) → T b → b ≡ true
true-of true h = refl
true-of false h = absurd h

not-same-if : (k x : ℕ) (c : Bool) (t : Txn) (rest : Option Txn) → (x == k) ≡ c → (if c then Some t else rest) ≡ None → (same k x ≡ false) × (rest ≡ None)
not-same-if k x true t rest e h = cc
not-same-if k x false t rest e h = (grind (arith, nat_tests, e), h)

unheld : (ps : List Pending) (k : ℕ) → holder ps k ≡ None → AllByRecursion (λ (p : Pending). same k (the_key p.op) ≡ false) ps
unheld [] k h = tt
unheld (p ∷ ps) k h =
    let r = not-same-if k (the_key p.op) (the_key p.op == k) p.txn (holder ps k) refl h in (r.0, unheld ps k r.1)

all-mapped : (P : ℕ → Type 0) (ps : List Pending) → AllByRecursion (λ (p : Pending). P (the_key p.op)) ps
    → AllByRecursion P (map (λ (p : Pending). the_key p.op) ps)
all-mapped P [] h = tt
all-mapped P (p ∷ ps) h = (h.0, all-mapped P ps h.1)

new-distinct-if : (p : Pending) (qs : List Pending) (c : Bool) → AllByRecursion (λ (x : Pending). same (the_key p.op) (the_key x.op) ≡ false) qs
    → IsDistinct same (map (λ (x : Pending). the_key x.op) qs) → IsDistinct same (map (λ (x : Pending). the_key x.op) (if c then p ∷ qs else qs))
unfolding IsDistinct
new-distinct-if p qs true h k = (all-mapped (λ y. same (the_key p.op) y ≡ false) qs h, k)
new-distinct-if p qs false h k = k

new-distinct : (m : Map) (name : Name) (ps : List Pending) → IsApart ps → IsDistinct same (new_keys m name ps)
unfolding IsDistinct
new-distinct m name [] h = tt
new-distinct m name (p ∷ ps) h =
    new-distinct-if p (filter (λ x. is_new_under m name x) ps) (is_new_under m name p)
    (all-filter (λ (x : Pending). same (the_key p.op) (the_key x.op) ≡ false) (λ x. is_new_under m name x) ps (unheld ps (the_key p.op) h.0))
    (new-distinct m name ps h.1)

false-of : (b : Bool) → (b ≡ true → ⊥) → b ≡ false
false-of true f = absurd (f refl)
false-of false f = refl

all-distinct : (m : Map) (name : Name) (ps : List Pending) → IsApart ps → IsDistinct same (all_keys m name ps)
all-distinct m name ps h =
    distinct-append (filter (λ key. covers name key) (keys m)) (new_keys m name ps)
    (distinct-filter (λ key. covers name key) (keys m) (distinct-of (entries m) (true-of _ (entries_sorted m)))) (new-distinct m name ps h)
    (λ q i. false-of (list_any (λ k. same q k) (new_keys m name ps))
    (λ j. both_ways (contains_key m q) (from-new m name ps q j).free (key-bound m q ∙ (from-filter (λ key. covers name key) q (keys m) i).0)))

-- so no more is taken than the keys of a list, where each key that is taken is one of them
pub few-of : (m : Map) (name : Name) (ps : List Pending) (ks : List ℕ) → IsApart ps
    → ((q : ℕ) → covers name q ≡ true → is_taken m ps q ≡ true → list_any (λ k. same q k) ks ≡ true) → count_under m name ps ≤ length ks
few-of m name ps ks apart f =
    subst (λ k. k ≤ length ks) (count-is m name ps)
    (length-le_from_is_member (eq_by_cmp_equiv nat_cmp_total) (all_keys m name ps) ks (all-distinct m name ps apart)
    (λ q i. let r = from-all m name ps q i in f q r.0 r.1))

-- no more is taken under a name than was under another one, where what is taken under it was so under that one
pub fewer : (m was : Map) (name top : Name) (ps before : List Pending) → IsApart ps
    → ((q : ℕ) → covers name q ≡ true → is_taken m ps q ≡ true → (covers top q ≡ true) × (is_taken was before q ≡ true))
    → count_under m name ps ≤ count_under was top before
fewer m was name top ps before apart f =
    subst (λ k. count_under m name ps ≤ k) (count-is was top before)
    (few-of m name ps (all_keys was top before) apart (λ q over h. let r = f q over h in to-all was top before q r.0 r.1))

-- one more at most, where one key more is taken
pub one-more : (m : Map) (name : Name) (ps before : List Pending) (key : ℕ) → IsApart ps
    → ((q : ℕ) → covers name q ≡ true → is_taken m ps q ≡ true → (same q key ≡ true) ⊎ (is_taken m before q ≡ true))
    → count_under m name ps ≤ count_under m name before + 1
one-more m name ps before key apart f =
    let le = few-of m name ps (key ∷ all_keys m name before) apart
    (λ q over h. elim (f q over h) [
      | inl i ↦ or_left (same q key) (list_any (λ k. same q k) (all_keys m name before)) i
      | inr i ↦ or_right (same q key) (list_any (λ k. same q k) (all_keys m name before)) (to-all m name before q over i)
    ]) in
    let is = count-is m name before in
    omega (arith, le, is)

-- keys that stand once, each bound and under a name, are at most as many as the pairs there
pub few-pairs : (m : Map) (name : Name) (ks : List ℕ) → IsDistinct same ks
    → ((q : ℕ) → list_any (λ k. same q k) ks ≡ true → (covers name q ≡ true) × (contains_key m q ≡ true)) → length ks ≤ pairs_under m name
few-pairs m name ks distinct f =
    subst (λ k. length ks ≤ k) (length-filter (λ key. covers name key) (keys m))
    (length-le_from_is_member (eq_by_cmp_equiv nat_cmp_total) ks (filter (λ key. covers name key) (keys m)) distinct
    (λ q i. let r = f q i in to-filter (λ key. covers name key) q (keys m) (sym (key-bound m q) ∙ r.1) r.0))
