-- Laws of `trimmed`, and which transactions lie between two in their order.
use Rattle.std.proofs.Common.{◌≡◌, ℕ, ◌-◌, ◌<◌, ◌≤◌, Bool, true, false, not, cond, ltb, Option, Some, None, IsTrue, refl, ap, sym, ◌∙◌}
use Rattle.std.proofs.Common.{is_some, List, ◌∷◌, IfSome, slice_get, subst, arith}
use Rattle.std.proofs.lemmas.Bool.Decides.{nat_tests}
use Rattle.std.proofs.lemmas.Bool.{false≢true}
use Rattle.std.specs.Ordering.{nat_cmp, ordering_then, eq_by_cmp, is_gt}
use Rattle.std.specs.declared.cmp.Ordering.TheVariants.{Less, Equal, Greater}
use Rattle.std.specs.Cmp.{nat_cmp_is, Equal-is}
use Rattle.std.specs.FinMap.{get, remove, contains_key, len, empty, from_entries, get-remove, get-retain_keys, get-empty, len-remove, empty_of_len, same_map}
use Rattle.dds_base.specs.Number.{Txn}
use Rattle.dds_locks.specs.Outcomes.{txn_cmp, OutcomeMap, is_below, trimmed, IsOfLibraries}
use Rattle.std.specs.BTreeMap.{BTreeMap, is_at}
use Rattle.std.specs.BTreeMap as tree
use Rattle.std.specs.BTreeMap.Range.{IsInRange}
use Rattle.std.specs.declared.ops.Bound.TheVariants.{Included, Excluded}
use Rattle.dds_locks.proofs.Seen.{get-seen}
use Rattle.dds_locks.proofs.Txns.{txn_total, txn_antisymmetric}

-- what is bound after trimming
pub get-trimmed : (m : OutcomeMap) (library below : ℕ) (q : Txn) → get (trimmed m library below) q ≡ cond (not (is_below library below q)) (get m q) None
get-trimmed m library below q =
    get-retain_keys m (λ t. not (is_below library below t)) q (λ x e. ap (λ t. not (is_below library below t)) (sym (txn_antisymmetric q x e)))

tied : (q t : Txn) → eq_by_cmp txn_cmp q t ≡ true → q ≡ t
tied q t h = txn_antisymmetric q t ((Equal-is (txn_cmp q t)).0 h)

forgotten : (b e : Bool) (library below : ℕ) (m : OutcomeMap) (q t : Txn) → is_below library below t ≡ true → (e ≡ true → q ≡ t) →
    cond (not (is_below library below q)) (cond e None (get m q)) None ≡ cond (not (is_below library below q)) (get m q) None
forgotten b true library below m q t h same = let k : is_below library below q ≡ true = ap (is_below library below) (same refl) ∙ h in rw k refl
forgotten b false library below m q t h same = refl

-- forgetting one that is trimmed anyway changes nothing
pub trimmed-forget : (m : OutcomeMap) (library below : ℕ) (t : Txn) → is_below library below t ≡ true →
    trimmed (remove m t) library below ≡ trimmed m library below
trimmed-forget m library below t h =
    same_map txn_total txn_antisymmetric _ _ (λ q. get-trimmed (remove m t) library below q
    ∙ ap (λ v. cond (not (is_below library below q)) v None) (get-remove txn_total m t q)
    ∙ forgotten true (eq_by_cmp txn_cmp q t) library below m q t h (tied q t) ∙ sym (get-trimmed m library below q))

kept : (b : Bool) (library below : ℕ) (m : OutcomeMap) (q : Txn) → (b ≡ true → get m q ≡ None) → cond (not b) (get m q) None ≡ get m q
kept true library below m q h = sym (h refl)
kept false library below m q h = refl

-- where none of them is bound, trimming changes nothing
pub trimmed-done : (m : OutcomeMap) (library below : ℕ) → ((t : Txn) → IsTrue (is_below library below t) → get m t ≡ None) → trimmed m library below ≡ m
trimmed-done m library below h =
    same_map txn_total txn_antisymmetric _ _ (λ q. get-trimmed m library below q ∙ kept (is_below library below q) library below m q (h q))

-- one bound transaction less
pub len-forget : (m : OutcomeMap) (t : Txn) → contains_key m t ≡ true → len (remove m t) < len m
len-forget m t h =
    let none : OutcomeMap = empty in
    let bound : contains_key none t ≡ false = ap is_some (get-empty txn_cmp t) in
    let some : (len m ≡ 0) → ⊥ = λ e. false≢true (sym bound ∙ ap (λ (n : OutcomeMap). contains_key n t) (sym (empty_of_len m e)) ∙ h) in
    let less : len (remove m t) ≡ len m - 1 = len-remove txn_total m t ∙ rw h refl in
    rw less (omega (arith, some))

equal-is : (x y : ℕ) → x ≡ y → nat_cmp x y ≡ Equal
equal-is x y h = sym (nat_cmp_is x y Equal h)

greater-is : (x y : ℕ) → y < x → nat_cmp x y ≡ Greater
greater-is x y h = sym (nat_cmp_is x y Greater h)

less-is : (x y : ℕ) → x < y → nat_cmp x y ≡ Less
less-is x y h = sym (nat_cmp_is x y Less h)

-- a transaction of the library below the bound lies between the library's first and its one of the bound
from-below : (library below : ℕ) (t : Txn) → is_below library below t ≡ true → is_gt (ordering_then (nat_cmp library t.library) (nat_cmp 0 t.number)) ≡ false
from-below library below t h =
    let same : library ≡ t.library = grind (arith, nat_tests, h) in
    ap (λ o. is_gt (ordering_then o (nat_cmp 0 t.number))) (equal-is _ _ same)
    ∙ elim (ltb 0 t.number) as (λ b. ltb 0 t.number ≡ b → is_gt (nat_cmp 0 t.number) ≡ false) [
      | true ↦ λ e. ap is_gt (less-is 0 t.number (grind (arith, nat_tests, e)))
      | false ↦ λ e. ap is_gt (equal-is 0 t.number (grind (arith, nat_tests, e)))
    ] refl

before-below : (library below : ℕ) (t : Txn) → is_below library below t ≡ true → ordering_then (nat_cmp t.library library) (nat_cmp t.number below) ≡ Less
before-below library below t h =
    let same : t.library ≡ library = grind (arith, nat_tests, h) in
    let lt : t.number < below = grind (arith, nat_tests, h) in
    ap (λ o. ordering_then o (nat_cmp t.number below)) (equal-is _ _ same) ∙ less-is _ _ lt

-- a bound transaction of a tree is one of its map
pub bound-seen : (m : BTreeMap Txn Bool) (t : Txn) (v : Bool) → tree.get txn_cmp m t ≡ Some v → contains_key (from_entries {R = txn_cmp} m.entries) t ≡ true
bound-seen m t v h = ap is_some (get-seen txn_total m t ∙ h)

-- what holds of the first of a list that isn't empty
pub of-first : {X : Type 0} (P : X → Type 0) (r rest : List X) (x : X) → r ≡ x ∷ rest → IfSome (slice_get r 0) P → P x
of-first P r rest x is h = subst (λ xs. IfSome (slice_get xs 0) P) is h

-- no transaction of the library below the bound is in a tree's map where none is between the two
pub none-seen : (m : BTreeMap Txn Bool) (lo hi : Txn) (library below : ℕ) → lo.library ≡ library → lo.number ≡ 0 → hi.library ≡ library → hi.number ≡ below →
    ((q : Txn) → IsInRange txn_cmp (Included lo) (Excluded hi) q → tree.get txn_cmp m q ≡ None) →
    (t : Txn) → IsTrue (is_below library below t) → get (from_entries {R = txn_cmp} m.entries) t ≡ None
none-seen m lo hi library below ll ln hl hn h t b =
    let from : is_gt (ordering_then (nat_cmp lo.library t.library) (nat_cmp lo.number t.number)) ≡ false = rw (ll, ln) (from-below library below t b) in
    let before : ordering_then (nat_cmp t.library hi.library) (nat_cmp t.number hi.number) ≡ Less = rw (hl, hn) (before-below library below t b) in
    get-seen txn_total m t ∙ h t (from, before)

-- a brick has no transaction to drop
pub none-of-brick : (m : BTreeMap Txn Bool) (library below : ℕ) → IsOfLibraries m → library < 64 → (t : Txn) → IsTrue (is_below library below t) →
    get (from_entries {R = txn_cmp} m.entries) t ≡ None
none-of-brick m library below h brick t b =
    let same : t.library ≡ library = grind (arith, nat_tests, b) in
    get-seen txn_total m t ∙ h t (rw same brick)

unbound : (b : Bool) (v : Option Bool) → v ≡ None → cond b None v ≡ None
unbound true v h = refl
unbound false v h = h

pub libraries-forget : (m n : BTreeMap Txn Bool) (k : Txn) → IsOfLibraries m →
    ((q : Txn) → tree.get txn_cmp n q ≡ cond (is_at (txn_cmp k) q) None (tree.get txn_cmp m q)) → IsOfLibraries n
libraries-forget m n k h updated t brick = updated t ∙ unbound (is_at (txn_cmp k) t) (tree.get txn_cmp m t) (h t brick)

bound : (b : Bool) (v : Bool) (rest : Option Bool) → b ≡ false → rest ≡ None → cond b (Some v) rest ≡ None
bound true v rest h r = cc
bound false v rest h r = r

apart : (k t : Txn) → 64 ≤ k.library → t.library < 64 → is_at (txn_cmp k) t ≡ false
apart k t lib brick =
    let e : nat_cmp k.library t.library ≡ Greater = greater-is k.library t.library (omega (arith, lib, brick)) in
    rw e refl

pub libraries-note : (m n : BTreeMap Txn Bool) (k : Txn) (v : Bool) → IsOfLibraries m → 64 ≤ k.library →
    ((q : Txn) → tree.get txn_cmp n q ≡ cond (is_at (txn_cmp k) q) (Some v) (tree.get txn_cmp m q)) → IsOfLibraries n
libraries-note m n k v h lib updated t brick = updated t ∙ bound (is_at (txn_cmp k) t) v (tree.get txn_cmp m t) (apart k t lib brick) (h t brick)
