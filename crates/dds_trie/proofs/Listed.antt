-- The entries of a `BTreeMap` are those of its finite map.
use Rattle.std.proofs.Common.{◌≡◌, ℕ, true, List, [], ◌∷◌, ◌++◌, map, refl, sym, ap, ◌∙◌, subst, T, append-nil}
use Rattle.std.specs.Ordering.{is_lt}
use Rattle.std.specs.declared.cmp.Ordering.{Ordering}
use Rattle.std.specs.declared.cmp.Ordering.TheVariants.{Less}
use Rattle.std.specs.Cmp.{IsTotalOrder}
use Rattle.std.specs.List.{AllByRecursion}
use Rattle.std.specs.List.Sorted.{IsStrictlySortedBy}
use Rattle.std.specs.FinMap.{FinMap, is_sorted, entries, entries_sorted, get-entries, from_entries, get-from_entries, IsAntisymmetric}
use Rattle.std.specs.FinMap.Entries.{below_all, same_entries}
use Rattle.std.proofs.lemmas.Bool.{and_from}

module _ {K X : Type 0} {R : K → K → Ordering} (total : IsTotalOrder R) where
  below : (k : K) (es : List (K × X)) → AllByRecursion (λ y. R k y ≡ Less) (map (λ e. e.0) es) → below_all R k es ≡ true
  below k [] h = refl
  below k (e ∷ es) h = and_from (is_lt (R k e.0)) (below_all R k es) (ap is_lt h.0) (below k es h.1)

  rising : (es : List (K × X)) → IsStrictlySortedBy R (map (λ e. e.0) es) → is_sorted R es ≡ true
  unfolding IsStrictlySortedBy
  rising [] h = refl
  rising (e ∷ es) h = and_from (below_all R e.0 es) (is_sorted R es) (below e.0 es h.0) (rising es h.1)

  pub entries-seen : IsAntisymmetric R → (es : List (K × X)) → IsStrictlySortedBy R (map (λ e. e.0) es) → entries (from_entries {R = R} es) ≡ es
  entries-seen anti es h =
      same_entries R total anti _ es (entries_sorted _) (subst T (sym (rising es h)) tt) (λ q. sym (get-entries _ q) ∙ get-from_entries total es q)

  -- a copy of all that is bound
  pub values-all : IsAntisymmetric R → (list : List X) (left all es : List (K × X)) (m : FinMap R X) → list ++ map (λ e. e.1) left ≡ map (λ e. e.1) all →
      left ≡ [] → all ≡ es → IsStrictlySortedBy R (map (λ e. e.0) es) → from_entries {R = R} es ≡ m → list ≡ map (λ e. e.1) (entries m)
  values-all anti list left all es m sum none is sorted seen =
      let c : list ++ [] ≡ map (λ (e : K × X). e.1) all = subst (λ (l : List (K × X)). list ++ map (λ e. e.1) l ≡ map (λ e. e.1) all) none sum in
      sym (append-nil list) ∙ c ∙ ap (map (λ (e : K × X). e.1)) (is ∙ sym (entries-seen anti es sorted))
      ∙ ap (λ (n : FinMap R X). map (λ (e : K × X). e.1) (entries n)) seen
