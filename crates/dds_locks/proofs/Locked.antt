-- Which keys are locked, and how often a transaction is pending, with one more and without one.
use Rattle.std.proofs.Common.{◌≡◌, ℕ, ◌+◌, ◌-◌, ◌==◌, ◌<◌, ◌⊎◌, inl, inr, Bool, true, false, cond, eqb, List, [], ◌∷◌, ◌++◌, Option, Some}
use Rattle.std.proofs.Common.{None, is_some, refl, ap, sym, ◌∙◌, subst, arith}
use Rattle.std.proofs.lemmas.Bool.{false≢true}
use Rattle.std.proofs.lemmas.Bool.Decides.{nat_tests}
use Rattle.std.specs.List.{find}
use Rattle.std.specs.Ordering.{nat_cmp}
use Rattle.std.specs.BTreeMap.{BTreeMap, is_at}
use Rattle.std.specs.BTreeMap as tree
use Rattle.dds_base.specs.Number.{Txn, same_txn}
use Rattle.dds_base.specs.Op.{the_key}
use Rattle.dds_locks.specs.First.{without_first}
use Rattle.dds_base.specs.declared.pending.Pending.{Pending}
use Rattle.dds_locks.specs.Pending.{holder, IsApart, times, is_numbered, count_at, IsIndexed}

-- a key that isn't the first one's is free in a list only where it is free in the rest
tail-free : (b : Bool) (t : Txn) (rest : Option Txn) → cond b (Some t) rest ≡ None → rest ≡ None
tail-free true t rest h = cc
tail-free false t rest h = h

head-free : (b : Bool) (t : Txn) (rest : Option Txn) → cond b (Some t) rest ≡ None → b ≡ false
head-free true t rest h = cc
head-free false t rest h = refl

both : (b s : Bool) (n : ℕ) → cond b (cond s (n + 1) n + 1) (cond s (n + 1) n) ≡ cond s (cond b (n + 1) n + 1) (cond b (n + 1) n)
both true true n = refl
both true false n = refl
both false true n = refl
both false false n = refl

-- two tests of one number for two keys that differ
swap-keys : {A : Type 0} (a k q : ℕ) (v w z : A) → (a == k) ≡ false → cond (a == q) v (cond (k == q) w z) ≡ cond (k == q) w (cond (a == q) v z)
swap-keys a k q v w z h =
    elim (eqb a q) as (λ b. eqb a q ≡ b → cond b v (cond (k == q) w z) ≡ cond (k == q) w (cond b v z))
    [ true ↦ λ e. let ne : (k == q) ≡ false = grind (arith, nat_tests, h, e) in rw ne refl | false ↦ λ e. refl ] refl

pub holder-push : (ps : List Pending) (p : Pending) (q : ℕ) → holder ps (the_key p.op) ≡ None →
    holder (ps ++ p ∷ []) q ≡ cond (the_key p.op == q) (Some p.txn) (holder ps q)
holder-push [] p q h = refl
holder-push (x ∷ ps) p q h =
    let rest : holder ps (the_key p.op) ≡ None = tail-free (the_key x.op == the_key p.op) x.txn (holder ps (the_key p.op)) h in
    let apart : (the_key x.op == the_key p.op) ≡ false = head-free (the_key x.op == the_key p.op) x.txn (holder ps (the_key p.op)) h in
    ap (λ v. cond (the_key x.op == q) (Some x.txn) v) (holder-push ps p q rest)
    ∙ swap-keys (the_key x.op) (the_key p.op) q (Some x.txn) (Some p.txn) (holder ps q) apart

apart-other : (k x : ℕ) (t : Txn) (rest : Option Txn) → (x == k) ≡ false → rest ≡ None → cond (k == x) (Some t) rest ≡ None
apart-other k x t rest h r = let ne : (k == x) ≡ false = grind (arith, nat_tests, h) in rw ne r

pub apart-push : (ps : List Pending) (p : Pending) → IsApart ps → holder ps (the_key p.op) ≡ None → IsApart (ps ++ p ∷ [])
apart-push [] p a h = (refl, tt)
apart-push (x ∷ ps) p a h =
    let rest : holder ps (the_key p.op) ≡ None = tail-free (the_key x.op == the_key p.op) x.txn (holder ps (the_key p.op)) h in
    let apart : (the_key x.op == the_key p.op) ≡ false = head-free (the_key x.op == the_key p.op) x.txn (holder ps (the_key p.op)) h in
    (holder-push ps p (the_key x.op) rest ∙ apart-other (the_key p.op) (the_key x.op) p.txn (holder ps (the_key x.op)) apart a.0, apart-push ps p a.1 rest)

-- a key that is free stays free without one
pub free-without : (test : Pending → Bool) (ps : List Pending) (k : ℕ) → holder ps k ≡ None → holder (without_first test ps) k ≡ None
free-without test [] k h = h
free-without test (x ∷ ps) k h =
    let rest : holder ps k ≡ None = tail-free (the_key x.op == k) x.txn (holder ps k) h in
    let apart : (the_key x.op == k) ≡ false = head-free (the_key x.op == k) x.txn (holder ps k) h in
    elim (test x) as (λ b. holder (cond b ps (x ∷ without_first test ps)) k ≡ None) [ true ↦ rest | false ↦ rw apart (free-without test ps k rest) ]

pub apart-without : (test : Pending → Bool) (ps : List Pending) → IsApart ps → IsApart (without_first test ps)
apart-without test [] a = a
apart-without test (x ∷ ps) a =
    elim (test x) as (λ b. IsApart (cond b ps (x ∷ without_first test ps)))
    [ true ↦ a.1 | false ↦ (free-without test ps (the_key x.op) a.0, apart-without test ps a.1) ]

-- the first that passes is the head, or is found behind it
found-head : (test : Pending → Bool) (b : Bool) (x : Pending) (ps : List Pending) (p : Pending) → test x ≡ b → cond b (Some x) (find test ps) ≡ Some p →
    ((test x ≡ true) × (x ≡ p)) ⊎ ((test x ≡ false) × (find test ps ≡ Some p))
found-head test true x ps p e h = inl (e, cc)
found-head test false x ps p e h = inr (e, h)

self-key : (k : ℕ) → (k == k) ≡ true
self-key k = grind (arith, nat_tests)

held-more : (b : Bool) (t : Txn) (rest : Option Txn) → is_some rest ≡ true → is_some (cond b (Some t) rest) ≡ true
held-more true t rest h = refl
held-more false t rest h = h

-- the key of one that is found is locked
found-held : (test : Pending → Bool) (ps : List Pending) (p : Pending) → find test ps ≡ Some p → is_some (holder ps (the_key p.op)) ≡ true
found-held test [] p h = cc
found-held test (x ∷ ps) p h =
    elim (found-head test (test x) x ps p refl h) [
      | inl w ↦ subst (λ (y : Pending). is_some (cond (the_key x.op == the_key y.op) (Some x.txn) (holder ps (the_key y.op))) ≡ true) w.1
          (rw (self-key (the_key x.op)) refl)
      | inr w ↦ held-more (the_key x.op == the_key p.op) x.txn (holder ps (the_key p.op)) (found-held test ps p w.1)
    ]

other-key : (ps : List Pending) (x k : ℕ) → holder ps x ≡ None → is_some (holder ps k) ≡ true → (x == k) ≡ false
other-key ps x k free held =
    elim (eqb x k) as (λ b. eqb x k ≡ b → b ≡ false) [
      | true ↦ λ e. let same : x ≡ k = grind (arith, nat_tests, e) in
          absurd (false≢true (sym (ap is_some free) ∙ ap (λ q. is_some (holder ps q)) same ∙ held))
      | false ↦ λ e. refl
    ] refl

freed-head : (ps : List Pending) (x q : ℕ) (t : Txn) → holder ps x ≡ None → holder ps q ≡ cond (x == q) None (cond (x == q) (Some t) (holder ps q))
freed-head ps x q t free =
    elim (eqb x q) as (λ b. eqb x q ≡ b → holder ps q ≡ cond b None (cond b (Some t) (holder ps q)))
    [ true ↦ λ e. let same : x ≡ q = grind (arith, nat_tests, e) in ap (holder ps) (sym same) ∙ free | false ↦ λ e. refl ] refl

-- without the first that passes its key is free, and no other key changes
pub holder-without : (test : Pending → Bool) (ps : List Pending) (p : Pending) (q : ℕ) → IsApart ps → find test ps ≡ Some p →
    holder (without_first test ps) q ≡ cond (the_key p.op == q) None (holder ps q)
holder-without test [] p q a h = cc
holder-without test (x ∷ ps) p q a h =
    elim (found-head test (test x) x ps p refl h) [
      | inl w ↦ subst (λ (y : Pending). holder (without_first test (x ∷ ps)) q ≡ cond (the_key y.op == q) None (holder (x ∷ ps) q)) w.1
          (rw w.0 (freed-head ps (the_key x.op) q x.txn a.0))
      | inr w ↦ rw w.0 (ap (λ v. cond (the_key x.op == q) (Some x.txn) v) (holder-without test ps p q a.1 w.1)
          ∙ swap-keys (the_key x.op) (the_key p.op) q (Some x.txn) None (holder ps q)
          (other-key ps (the_key x.op) (the_key p.op) a.0 (found-held test ps p w.1)))
    ]

pub times-push : (ps : List Pending) (p : Pending) (t : Txn) → times (ps ++ p ∷ []) t ≡ cond (same_txn p.txn t) (times ps t + 1) (times ps t)
times-push [] p t = refl
times-push (x ∷ ps) p t =
    ap (λ n. cond (same_txn x.txn t) (n + 1) n) (times-push ps p t) ∙ both (same_txn x.txn t) (same_txn p.txn t) (times ps t)

times-more : (b : Bool) (n : ℕ) → 0 < n → 0 < cond b (n + 1) n
times-more true n h = omega (arith, h)
times-more false n h = h

found-times : (test : Pending → Bool) (ps : List Pending) (p : Pending) (t : Txn) → find test ps ≡ Some p → same_txn p.txn t ≡ true → 0 < times ps t
found-times test [] p t h s = cc
found-times test (x ∷ ps) p t h s =
    elim (found-head test (test x) x ps p refl h) [
      | inl w ↦ let k : same_txn x.txn t ≡ true = ap (λ (y : Pending). same_txn y.txn t) w.1 ∙ s in rw k (omega arith)
      | inr w ↦ times-more (same_txn x.txn t) (times ps t) (found-times test ps p t w.1 s)
    ]

less-head : (b : Bool) (n : ℕ) → n ≡ cond b (cond b (n + 1) n - 1) (cond b (n + 1) n)
less-head true n = omega arith
less-head false n = refl

less-rest : (b s : Bool) (n : ℕ) → (s ≡ true → 0 < n) → cond b (cond s (n - 1) n + 1) (cond s (n - 1) n) ≡ cond s (cond b (n + 1) n - 1) (cond b (n + 1) n)
less-rest true true n h = omega (arith, h refl)
less-rest true false n h = refl
less-rest false true n h = refl
less-rest false false n h = refl

-- without the first that passes it is counted once less
pub times-without : (test : Pending → Bool) (ps : List Pending) (p : Pending) (t : Txn) → find test ps ≡ Some p →
    times (without_first test ps) t ≡ cond (same_txn p.txn t) (times ps t - 1) (times ps t)
times-without test [] p t h = cc
times-without test (x ∷ ps) p t h =
    elim (found-head test (test x) x ps p refl h) [
      | inl w ↦ subst (λ (y : Pending). times (without_first test (x ∷ ps)) t ≡ cond (same_txn y.txn t) (times (x ∷ ps) t - 1) (times (x ∷ ps) t)) w.1
          (rw w.0 (less-head (same_txn x.txn t) (times ps t)))
      | inr w ↦ rw w.0 (ap (λ n. cond (same_txn x.txn t) (n + 1) n) (times-without test ps p t w.1)
          ∙ less-rest (same_txn x.txn t) (same_txn p.txn t) (times ps t) (found-times test ps p t w.1))
    ]

-- one that is found has the number that was looked for
pub found-numbered : (ps : List Pending) (p : Pending) (txn : Txn) → find (is_numbered txn) ps ≡ Some p → same_txn p.txn txn ≡ true
found-numbered [] p txn h = cc
found-numbered (x ∷ ps) p txn h =
    elim (found-head (is_numbered txn) (is_numbered txn x) x ps p refl h)
    [ inl w ↦ ap (λ (y : Pending). same_txn y.txn txn) (sym w.1) ∙ w.0 | inr w ↦ found-numbered ps p txn w.1 ]

same-as : (a b t : Txn) → same_txn a b ≡ true → same_txn a t ≡ same_txn b t
same-as a b t h = grind (arith, nat_tests, h)

alike : (k q : ℕ) → is_at (nat_cmp k) q ≡ (k == q)
alike k q = grind (arith, nat_tests)

-- the index of the list with one more
pub indexed-push : (ps : List Pending) (p : Pending) (k : ℕ) (t : Txn) (keys keys' : BTreeMap ℕ Txn) (counts counts' : BTreeMap Txn ℕ) →
    IsIndexed ps keys counts → k ≡ the_key p.op → t ≡ p.txn → holder ps (the_key p.op) ≡ None →
    ((q : ℕ) → tree.get nat_cmp keys' q ≡ cond (is_at (nat_cmp k) q) (Some t) (tree.get nat_cmp keys q)) →
    ((q : Txn) → count_at counts' q ≡ cond (same_txn t q) (count_at counts q + 1) (count_at counts q)) → IsIndexed (ps ++ p ∷ []) keys' counts'
indexed-push ps p k t keys keys' counts counts' h ke te free added raised =
    record {
      apart = apart-push ps p h.apart free;
      held = λ q. added q ∙ ap (λ b. cond b (Some t) (tree.get nat_cmp keys q)) (alike k q) ∙ ap (λ v. cond (k == q) (Some t) v) (h.held q)
          ∙ ap (λ n. cond (n == q) (Some t) (holder ps q)) ke ∙ ap (λ y. cond (the_key p.op == q) (Some y) (holder ps q)) te ∙ sym (holder-push ps p q free);
      counted = λ q. raised q ∙ ap (λ n. cond (same_txn t q) (n + 1) n) (h.counted q) ∙ ap (λ y. cond (same_txn y q) (times ps q + 1) (times ps q)) te
          ∙ sym (times-push ps p q);
    }

-- the index of the list without the first of a number
pub indexed-without : (ps qs : List Pending) (p : Pending) (k : ℕ) (t : Txn) (keys keys' : BTreeMap ℕ Txn) (counts counts' : BTreeMap Txn ℕ) →
    IsIndexed ps keys counts → find (is_numbered t) ps ≡ Some p → qs ≡ without_first (is_numbered t) ps → k ≡ the_key p.op →
    ((q : ℕ) → tree.get nat_cmp keys' q ≡ cond (is_at (nat_cmp k) q) None (tree.get nat_cmp keys q)) →
    ((q : Txn) → count_at counts' q ≡ cond (same_txn t q) (count_at counts q - 1) (count_at counts q)) → IsIndexed qs keys' counts'
indexed-without ps qs p k t keys keys' counts counts' h found left ke removed lowered =
    record {
      apart = rw left (apart-without (is_numbered t) ps h.apart);
      held = λ q. removed q ∙ ap (λ b. cond b None (tree.get nat_cmp keys q)) (alike k q) ∙ ap (λ v. cond (k == q) None v) (h.held q)
          ∙ ap (λ n. cond (n == q) None (holder ps q)) ke ∙ sym (holder-without (is_numbered t) ps p q h.apart found) ∙ ap (λ xs. holder xs q) (sym left);
      counted = λ q. lowered q ∙ ap (λ n. cond (same_txn t q) (n - 1) n) (h.counted q)
          ∙ ap (λ b. cond b (times ps q - 1) (times ps q)) (sym (same-as p.txn t q (found-numbered ps p t found)))
          ∙ sym (times-without (is_numbered t) ps p q found) ∙ ap (λ xs. times xs q) (sym left);
    }
