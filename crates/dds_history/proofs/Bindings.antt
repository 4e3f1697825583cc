use Rattle.std.proofs.Common.{◌≡◌, ℕ, ◌==◌, Bool, true, false, cond, eqb, Some, None, List, ap, refl, ◌∙◌, arith}
use Rattle.std.proofs.lemmas.Bool.Decides.{nat_tests}
use Rattle.std.specs.Ordering.{nat_cmp, eq_by_cmp}
use Rattle.std.specs.Cmp.{nat_cmp_total}
use Rattle.std.specs.FinMap.{get, insert, remove, get-insert, get-remove}
use Rattle.dds_base.specs.declared.op.Op.{Op}
use Rattle.dds_base.specs.declared.op.Op.TheVariants.{Get, Put, Remove, Swap}
use Rattle.dds_history.specs.Map.{Map, after, bound_by, is_bound_to}

-- the two tests for equal keys
pub alike : (q k : ℕ) → eq_by_cmp nat_cmp q k ≡ (k == q)
alike q k = grind (arith, nat_tests)

pub get-bound : (m : Map) (k : ℕ) (v : List ℕ) (q : ℕ) → get (insert m k v) q ≡ cond (k == q) (Some v) (get m q)
get-bound m k v q = get-insert nat_cmp_total m k v q ∙ ap (λ b. cond b (Some v) (get m q)) (alike q k)

pub get-unbound : (m : Map) (k q : ℕ) → get (remove m k) q ≡ cond (k == q) None (get m q)
get-unbound m k q = get-remove nat_cmp_total m k q ∙ ap (λ b. cond b None (get m q)) (alike q k)

same-key : (k q : ℕ) → eqb k q ≡ true → k ≡ q
same-key k q e = grind (arith, nat_tests, e)

get-swapped : (m : Map) (k : ℕ) (x v : List ℕ) (q : ℕ) (b : Bool) → is_bound_to (get m k) x ≡ b →
    get (cond b (insert m k v) m) q ≡ cond (k == q) (cond (is_bound_to (get m q) x) (Some v) (get m q)) (get m q)
get-swapped m k x v q true e = get-bound m k v q
    ∙ elim (eqb k q) as (λ t. eqb k q ≡ t → cond t (Some v) (get m q) ≡ cond t (cond (is_bound_to (get m q) x) (Some v) (get m q)) (get m q))
    [ true ↦ λ t. let s : k ≡ q = same-key k q t in let f : is_bound_to (get m q) x ≡ true = rw s at e in rw f refl | false ↦ λ t. refl ] refl
get-swapped m k x v q false e = elim (eqb k q) as (λ t. eqb k q ≡ t → get m q ≡ cond t (cond (is_bound_to (get m q) x) (Some v) (get m q)) (get m q))
    [ true ↦ λ t. let s : k ≡ q = same-key k q t in let f : is_bound_to (get m q) x ≡ false = rw s at e in rw f refl | false ↦ λ t. refl ] refl

-- what an operation leaves each key bound to
pub get-after : (m : Map) (op : Op) (q : ℕ) → get (after m op) q ≡ bound_by (get m q) op q
get-after m (Get key) q = elim (eqb key q) as (λ t. get m q ≡ cond t (get m q) (get m q)) [ true ↦ refl | false ↦ refl ]
get-after m (Put key value) q = get-bound m key value q
get-after m (Remove key) q = get-unbound m key q
get-after m (Swap key expected value) q = get-swapped m key expected value q (is_bound_to (get m key) expected) refl
