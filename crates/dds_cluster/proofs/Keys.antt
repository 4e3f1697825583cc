-- The keys of a list with one item more.
use Rattle.std.proofs.Common.{◌≡◌, Bool, true, false, ◌||◌, List, [], ◌∷◌, ◌++◌, Option, Result, Ok, Err, OnOk, OnErr, refl, ap, sym}
use Rattle.std.proofs.Common.{◌∙◌}
use Rattle.std.proofs.lemmas.List.Folds.{list_any-append}
use Rattle.std.specs.BTreeSet.{BTreeSet}
use Rattle.std.specs.List.{list_any}
use Rattle.std.specs.List.Sorted.{IsSorted}
use Rattle.std.specs.declared.cmp.Ordering.{Ordering}
use Rattle.dds_cluster.specs.Keyed.{AreKeys, has, is_key}

-- no item has a key
pub keys-none : {K X : Type 0} (cmp : K → K → Ordering) (test : K → X → Bool) (xs : List X) (rising : List K) (others : BTreeSet K) → xs ≡ [] →
    IsSorted cmp rising → ((q : K) → has cmp rising others q ≡ false) → AreKeys cmp test xs rising others
keys-none cmp test xs rising others none sorted empty = (sorted, λ q. empty q ∙ ap (list_any (test q)) (sym none))

last-first : (a b : Bool) → (a || b) ≡ (b || (a || false))
last-first true true = refl
last-first true false = refl
last-first false true = refl
last-first false false = refl

keys-push : {K X : Type 0} (cmp : K → K → Ordering) (test : K → X → Bool) (xs ys : List X) (x : X) (key : Option K) (old new : K → Bool) →
    ((q : K) → old q ≡ list_any (test q) xs) → ((q : K) → is_key cmp key q ≡ test q x) → ys ≡ xs ++ x ∷ [] →
    ((q : K) → new q ≡ (is_key cmp key q || old q)) → (q : K) → new q ≡ list_any (test q) ys
keys-push cmp test xs ys x key old new had its pushed added q =
    added q ∙ ap (λ b. b || old q) (its q) ∙ ap (λ b. test q x || b) (had q) ∙ last-first (test q x) (list_any (test q) xs)
    ∙ sym (list_any-append (test q) xs (x ∷ [])) ∙ ap (list_any (test q)) (sym pushed)

-- one more item brings its own key, where there was memory
pub keys-after : {K X U E : Type 0} (cmp : K → K → Ordering) (test : K → X → Bool) (xs ys : List X) (x : X) (key : Option K) (rising : List K)
    (others : BTreeSet K) (risen : List K) (more : BTreeSet K) (r : Result U E) → AreKeys cmp test xs rising others →
    ((q : K) → is_key cmp key q ≡ test q x) → IsSorted cmp risen → OnOk r (ys ≡ xs ++ x ∷ []) →
    OnOk r ((q : K) → has cmp risen more q ≡ (is_key cmp key q || has cmp rising others q)) → OnErr r (ys ≡ xs) →
    OnErr r ((q : K) → has cmp risen more q ≡ has cmp rising others q) → AreKeys cmp test ys risen more
keys-after cmp test xs ys x key rising others risen more (Ok u) old its sorted pushed added same kept =
    (sorted, keys-push cmp test xs ys x key (has cmp rising others) (has cmp risen more) old.1 its pushed added)
keys-after cmp test xs ys x key rising others risen more (Err e) old its sorted pushed added same kept =
    (sorted, λ q. kept q ∙ old.1 q ∙ ap (list_any (test q)) (sym same))
