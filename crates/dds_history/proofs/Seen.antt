use Rattle.std.proofs.Common.{◌≡◌, ℕ, cond, List, [], ◌∷◌, Some, None, sym, ap, ◌∙◌, refl}
use Rattle.std.specs.Ordering.{nat_cmp, eq_by_cmp}
use Rattle.std.specs.Cmp.{nat_cmp_total, eq_by_cmp_equiv}
use Rattle.std.specs.Map.{lookup}
use Rattle.std.specs.BTreeMap.{BTreeMap, get_by, is_at}
use Rattle.std.specs.BTreeMap as tree
use Rattle.std.specs.FinMap.{find, get, insert, remove, from_entries, get-from_entries, get-insert, get-remove, same_map, nat_cmp-IsAntisymmetric}

-- a `BTreeMap` and the finite map of its entries answer alike

find-lookup : {X : Type 0} (q : ℕ) (es : List (ℕ × X)) → find nat_cmp q es ≡ lookup (is_at (nat_cmp q)) es
find-lookup q [] = refl
find-lookup q (e ∷ es) = ap (cond (eq_by_cmp nat_cmp q e.0) (Some e.1)) (find-lookup q es)

pub get-seen : {X : Type 0} (m : BTreeMap ℕ X) (q : ℕ) → get (from_entries {R = nat_cmp} m.entries) q ≡ get_by (nat_cmp q) m
get-seen m q = get-from_entries nat_cmp_total m.entries q ∙ find-lookup q m.entries

pub insert-seen : {X : Type 0} (m n : BTreeMap ℕ X) (k : ℕ) (v : X) →
    ((q : ℕ) → tree.get nat_cmp n q ≡ cond (is_at (nat_cmp k) q) (Some v) (tree.get nat_cmp m q)) →
    from_entries {R = nat_cmp} n.entries ≡ insert (from_entries m.entries) k v
insert-seen m n k v h =
    same_map nat_cmp_total nat_cmp-IsAntisymmetric _ _
    (λ q. get-seen n q ∙ h q ∙ ap (λ b. cond b (Some v) (tree.get nat_cmp m q)) ((eq_by_cmp_equiv nat_cmp_total).symm k q)
    ∙ ap (cond (eq_by_cmp nat_cmp q k) (Some v)) (sym (get-seen m q)) ∙ sym (get-insert nat_cmp_total (from_entries m.entries) k v q))

pub remove-seen : {X : Type 0} (m n : BTreeMap ℕ X) (k : ℕ) → ((q : ℕ) → tree.get nat_cmp n q ≡ cond (is_at (nat_cmp k) q) None (tree.get nat_cmp m q)) →
    from_entries {R = nat_cmp} n.entries ≡ remove (from_entries m.entries) k
remove-seen m n k h =
    same_map nat_cmp_total nat_cmp-IsAntisymmetric _ _
    (λ q. get-seen n q ∙ h q ∙ ap (λ b. cond b None (tree.get nat_cmp m q)) ((eq_by_cmp_equiv nat_cmp_total).symm k q)
    ∙ ap (cond (eq_by_cmp nat_cmp q k) None) (sym (get-seen m q)) ∙ sym (get-remove nat_cmp_total (from_entries m.entries) k q))
