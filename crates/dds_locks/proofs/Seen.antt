-- A `BTreeMap` and the finite map of its entries answer alike.
use Rattle.std.proofs.Common.{◌≡◌, cond, List, [], ◌∷◌, Some, None, sym, ap, ◌∙◌, refl}
use Rattle.std.specs.Ordering.{eq_by_cmp}
use Rattle.std.specs.declared.cmp.Ordering.{Ordering}
use Rattle.std.specs.Cmp.{IsTotalOrder, eq_by_cmp_equiv}
use Rattle.std.specs.Map.{lookup}
use Rattle.std.specs.BTreeMap.{BTreeMap, get_by, is_at}
use Rattle.std.specs.BTreeMap as tree
use Rattle.std.specs.FinMap.{find, get, insert, remove, from_entries, get-from_entries, get-insert, get-remove, same_map, IsAntisymmetric}

module _ {K X : Type 0} {R : K → K → Ordering} (total : IsTotalOrder R) where
  find-lookup : (q : K) (es : List (K × X)) → find R q es ≡ lookup (is_at (R q)) es
  find-lookup q [] = refl
  find-lookup q (e ∷ es) = ap (cond (eq_by_cmp R q e.0) (Some e.1)) (find-lookup q es)

  pub get-seen : (m : BTreeMap K X) (q : K) → get (from_entries {R = R} m.entries) q ≡ get_by (R q) m
  get-seen m q = get-from_entries total m.entries q ∙ find-lookup q m.entries

  pub insert-seen : IsAntisymmetric R → (m n : BTreeMap K X) (k : K) (v : X) → ((q : K) → tree.get R n q ≡ cond (is_at (R k) q) (Some v) (tree.get R m q)) →
      from_entries {R = R} n.entries ≡ insert (from_entries m.entries) k v
  insert-seen anti m n k v h =
      same_map total anti _ _ (λ q. get-seen n q ∙ h q ∙ ap (λ b. cond b (Some v) (tree.get R m q)) ((eq_by_cmp_equiv total).symm k q)
      ∙ ap (cond (eq_by_cmp R q k) (Some v)) (sym (get-seen m q)) ∙ sym (get-insert total (from_entries m.entries) k v q))

  pub remove-seen : IsAntisymmetric R → (m n : BTreeMap K X) (k : K) → ((q : K) → tree.get R n q ≡ cond (is_at (R k) q) None (tree.get R m q)) →
      from_entries {R = R} n.entries ≡ remove (from_entries m.entries) k
  remove-seen anti m n k h =
      same_map total anti _ _ (λ q. get-seen n q ∙ h q ∙ ap (λ b. cond b None (tree.get R m q)) ((eq_by_cmp_equiv total).symm k q)
      ∙ ap (cond (eq_by_cmp R q k) None) (sym (get-seen m q)) ∙ sym (get-remove total (from_entries m.entries) k q))
