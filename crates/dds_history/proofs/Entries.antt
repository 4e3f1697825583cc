-- The entries of a `BTreeMap` are those of its finite map.
use Rattle.std.proofs.Common.{◌≡◌, ℕ, ◌+◌, true, List, [], ◌∷◌, ◌++◌, map, refl, sym, ap, ◌∙◌, subst, T, arith, append-nil}
use Rattle.std.specs.Prelude.{count_by}
use Rattle.std.specs.Ordering.{nat_cmp, is_lt}
use Rattle.std.specs.declared.cmp.Ordering.TheVariants.{Less}
use Rattle.std.specs.Cmp.{nat_cmp_total}
use Rattle.std.specs.List.{AllByRecursion}
use Rattle.std.specs.List.Sorted.{IsStrictlySortedBy}
use Rattle.dds_base.specs.Name.{Name, covers}
use Rattle.dds_base.specs.declared.pair.Pair.{Pair}
use Rattle.dds_history.specs.Map.{Map, pairs_of}
use Rattle.std.specs.FinMap.{keys, is_sorted, entries, entries_sorted, get-entries, from_entries, get-from_entries, nat_cmp-IsAntisymmetric}
use Rattle.std.specs.FinMap.Entries.{below_all, same_entries}
use Rattle.std.proofs.lemmas.Bool.{and_from}

below : {X : Type 0} (k : ℕ) (es : List (ℕ × X)) → AllByRecursion (λ y. nat_cmp k y ≡ Less) (map (λ e. e.0) es) → below_all nat_cmp k es ≡ true
below k [] h = refl
below k (e ∷ es) h = and_from (is_lt (nat_cmp k e.0)) (below_all nat_cmp k es) (ap is_lt h.0) (below k es h.1)

rising : {X : Type 0} (es : List (ℕ × X)) → IsStrictlySortedBy nat_cmp (map (λ e. e.0) es) → is_sorted nat_cmp es ≡ true
unfolding IsStrictlySortedBy
rising [] h = refl
rising (e ∷ es) h = and_from (below_all nat_cmp e.0 es) (is_sorted nat_cmp es) (below e.0 es h.0) (rising es h.1)

pub entries-seen : {X : Type 0} (es : List (ℕ × X)) → IsStrictlySortedBy nat_cmp (map (λ e. e.0) es) → entries (from_entries {R = nat_cmp} es) ≡ es
entries-seen es h =
    same_entries nat_cmp nat_cmp_total nat_cmp-IsAntisymmetric _ es (entries_sorted _) (subst T (sym (rising es h)) tt) (λ q. sym (get-entries _ q)
    ∙ get-from_entries nat_cmp_total es q)

-- a count over all keys
pub count-all : (count : ℕ) (name : Name) (left all : List ℕ) (es : List (ℕ × List ℕ)) (m : Map) →
    count + count_by (λ key. covers name key) left ≡ count_by (λ key. covers name key) all → left ≡ [] → all ≡ map (λ e. e.0) es →
    IsStrictlySortedBy nat_cmp (map (λ e. e.0) es) → from_entries {R = nat_cmp} es ≡ m → count ≡ count_by (λ key. covers name key) (keys m)
count-all count name left all es m sum none is sorted seen =
    let c : count + 0 ≡ count_by (λ key. covers name key) all =
    subst (λ (l : List ℕ). count + count_by (λ key. covers name key) l ≡ count_by (λ key. covers name key) all) none sum in
    let e : count ≡ count_by (λ key. covers name key) all = omega (arith, c) in
    e ∙ ap (count_by (λ key. covers name key)) (is ∙ ap (map (λ (e : ℕ × List ℕ). e.0)) (sym (entries-seen es sorted)))
    ∙ ap (λ (n : Map). count_by (λ key. covers name key) (keys n)) seen

-- a copy of all pairs
pub pairs-all : (pairs : List Pair) (left all es : List (ℕ × List ℕ)) (m : Map) → pairs ++ pairs_of left ≡ pairs_of all → left ≡ [] → all ≡ es →
    IsStrictlySortedBy nat_cmp (map (λ e. e.0) es) → from_entries {R = nat_cmp} es ≡ m → pairs ≡ pairs_of (entries m)
pairs-all pairs left all es m sum none is sorted seen =
    let c : pairs ++ [] ≡ pairs_of all = subst (λ (l : List (ℕ × List ℕ)). pairs ++ pairs_of l ≡ pairs_of all) none sum in
    sym (append-nil pairs) ∙ c ∙ ap pairs_of (is ∙ sym (entries-seen es sorted)) ∙ ap (λ (n : Map). pairs_of (entries n)) seen
