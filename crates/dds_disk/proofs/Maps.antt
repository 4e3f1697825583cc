-- A tree map of std, seen as a finite map.
use Rattle.std.proofs.Common.{ℕ, ◌≡◌, cond, List, [], ◌∷◌, Some, refl, sym, ◌∙◌, ap}
use Rattle.std.specs.Ordering.{nat_cmp, eq_by_cmp}
use Rattle.std.proofs.lemmas.Cmp.{nat_cmp_total, eq_by_cmp_equiv}
use Rattle.std.specs.FinMap.{from_entries, get, insert, get-from_entries, get-insert, same_map, nat_cmp-IsAntisymmetric}
use Rattle.std.specs.FinMap.Entries.{find}
use Rattle.std.specs.Map.{lookup}

find-lookup : {X : Type 0} (es : List (ℕ × X)) (q : ℕ) → find nat_cmp q es ≡ lookup (eq_by_cmp nat_cmp q) es
find-lookup [] q = refl
find-lookup (e ∷ es) q = ap (cond (eq_by_cmp nat_cmp q e.0) (Some e.1)) (find-lookup es q)

-- a look-up in the tree's entries is one in the map
pub get-seen : {X : Type 0} (es : List (ℕ × X)) (q : ℕ) → get (from_entries {R = nat_cmp} es) q ≡ lookup (eq_by_cmp nat_cmp q) es
get-seen es q = get-from_entries nat_cmp_total es q ∙ find-lookup es q

-- entries that answer as after an update are the map with the entry inserted
pub insert-seen : {X : Type 0} (es fs : List (ℕ × X)) (k : ℕ) (v w : X) → w ≡ v →
    ((q : ℕ) → lookup (eq_by_cmp nat_cmp q) fs ≡ cond (eq_by_cmp nat_cmp k q) (Some w) (lookup (eq_by_cmp nat_cmp q) es)) →
    from_entries {R = nat_cmp} fs ≡ insert (from_entries es) k v
insert-seen es fs k v w same h =
    same_map nat_cmp_total nat_cmp-IsAntisymmetric _ _
    (λ q. get-seen fs q ∙ h q ∙ ap (λ x. cond (eq_by_cmp nat_cmp k q) (Some x) (lookup (eq_by_cmp nat_cmp q) es)) same
    ∙ sym (get-insert nat_cmp_total (from_entries es) k v q
    ∙ ap (λ b. cond b (Some v) (get (from_entries {R = nat_cmp} es) q)) ((eq_by_cmp_equiv nat_cmp_total).symm q k)
    ∙ ap (cond (eq_by_cmp nat_cmp k q) (Some v)) (get-seen es q)))
