-- Some node of a trie, and some key of a map, passes a test where some bound name does.
use Rattle.std.proofs.Common.{◌≡◌, ℕ, ◌<◌, suc, length, get_or, arith, Bool, true, false, ◌||◌, ◌&&◌, cond, List, [], ◌∷◌, is_some, IsTrue}
use Rattle.std.proofs.Common.{refl, ap, sym, ◌∙◌, ◌↔◌}
use Rattle.std.proofs.lemmas.Bool.{false≢true}
use Rattle.std.specs.List.{list_any}
use Rattle.std.specs.Cmp.{Equal-is}
use Rattle.std.specs.FinMap.{get, keys, contains_key-keys}
use Rattle.std.specs.Ordering.{eq_by_cmp}
use Rattle.dds_base.specs.Name.{Name, overlaps}
use Rattle.dds_trie.specs.Trie.{name_cmp, LeafMap, OverlapsSome}
use Rattle.dds_trie.specs.declared.nodes.Node.{Node}
use Rattle.dds_trie.specs.Nodes.{seen, blank, bound_overlaps, IsTrie}
use Rattle.dds_trie.proofs.Sightings.{same, same-is, get-seen-more, get-seen-none, seen-node}
use Rattle.dds_trie.proofs.Cuts.{name_antisymmetric, names-alike, self-test}

self-at : (k : Name) → eq_by_cmp name_cmp k k ≡ true
self-at k = names-alike k k ∙ self-test k

or-true : (b : Bool) → (b || true) ≡ true
or-true true = refl
or-true false = refl

-- the first node that passes
record Passing (ns : List Node) (name : Name) : Type 0 where
  pub at : ℕ
  pub there : at < length ns
  pub bound : is_some (get_or ns at blank).leaf ≡ true
  pub passes : overlaps (get_or ns at blank).name name ≡ true

both-true : (a b : Bool) → (a && b) ≡ true → (a ≡ true) × (b ≡ true)
both-true true b h = (refl, h)
both-true false b h = cc

passing : (ns : List Node) (name : Name) → list_any (bound_overlaps name) ns ≡ true → Passing ns name
passing [] name h = absurd (false≢true h)
passing (n ∷ ns) name h =
    elim (bound_overlaps name n) as (λ b. bound_overlaps name n ≡ b → (b || list_any (bound_overlaps name) ns) ≡ true → Passing (n ∷ ns) name) [
      | true ↦ λ t k. let w = both-true _ _ t in record { at = 0; there = omega arith; bound = w.0; passes = w.1 }
      | false ↦ λ t k. let r = passing ns name k in record { at = suc r.at; there = omega (arith, r.there); bound = r.bound; passes = r.passes }
    ] refl h

any-seen : (ns : List Node) (name other : Name) → is_some (get (seen ns) other) ≡ true → overlaps other name ≡ true → list_any (bound_overlaps name) ns ≡ true
any-seen [] name other h t = absurd (false≢true (sym (ap is_some (get-seen-none other)) ∙ h))
any-seen (n ∷ ns) name other h t =
    elim (same other n.name) as (λ b. same other n.name ≡ b → is_some (cond b n.leaf (get (seen ns) other)) ≡ true →
    (bound_overlaps name n || list_any (bound_overlaps name) ns) ≡ true) [
      | true ↦ λ e k. ap (λ u. (u && overlaps n.name name) || list_any (bound_overlaps name) ns) k
          ∙ ap (λ u. u || list_any (bound_overlaps name) ns) (ap (λ (x : Name). overlaps x name) (sym (same-is other n.name e)) ∙ t)
      | false ↦ λ e k. ap (λ u. bound_overlaps name n || u) (any-seen ns name other k t) ∙ or-true (bound_overlaps name n)
    ] refl (sym (ap is_some (get-seen-more n ns other)) ∙ h)

pub overlaps-seen : (ns : List Node) (name : Name) (b : Bool) → IsTrie ns → b ≡ list_any (bound_overlaps name) ns → IsTrue b ↔ OverlapsSome (seen ns) name
overlaps-seen ns name b h e = (
  λ t. let r = passing ns name (sym e ∙ t) in
      record { other = (get_or ns r.at blank).name; bound = ap is_some (seen-node ns r.at h r.there) ∙ r.bound; overlaps = r.passes },
  λ o. e ∙ any-seen ns name o.other o.bound o.overlaps,
)

any-with : (test : Name → Bool) (ks : List Name) (k : Name) → list_any (eq_by_cmp name_cmp k) ks ≡ true → test k ≡ true → list_any test ks ≡ true
any-with test [] k h t = absurd (false≢true h)
any-with test (x ∷ ks) k h t =
    elim (eq_by_cmp name_cmp k x) as (λ b. eq_by_cmp name_cmp k x ≡ b → (b || list_any (eq_by_cmp name_cmp k) ks) ≡ true →
    (test x || list_any test ks) ≡ true) [
      | true ↦ λ b g. let same : k ≡ x = name_antisymmetric k x ((Equal-is (name_cmp k x)).0 b) in
          ap (λ u. u || list_any test ks) (ap test (sym same) ∙ t)
      | false ↦ λ b g. ap (λ u. test x || u) (any-with test ks k g t) ∙ or-true (test x)
    ] refl h

record Among (test : Name → Bool) (ks : List Name) : Type 0 where
  pub key : Name
  pub there : list_any (eq_by_cmp name_cmp key) ks ≡ true
  pub passes : test key ≡ true

among : (test : Name → Bool) (ks : List Name) → list_any test ks ≡ true → Among test ks
among test [] h = absurd (false≢true h)
among test (x ∷ ks) h =
    elim (test x) as (λ b. test x ≡ b → (b || list_any test ks) ≡ true → Among test (x ∷ ks)) [
      | true ↦ λ t g. record { key = x; there = ap (λ b. b || list_any (eq_by_cmp name_cmp x) ks) (self-at x); passes = t }
      | false ↦ λ t g. let r = among test ks g in
          record { key = r.key; there = ap (λ u. eq_by_cmp name_cmp r.key x || u) r.there ∙ or-true (eq_by_cmp name_cmp r.key x); passes = r.passes }
    ] refl h

-- a test of the names of a map is the relation of some name that overlaps
pub overlaps-any : (m : LeafMap) (name : Name) (b : Bool) → IsTrue b ↔ OverlapsSome m name → b ≡ list_any (λ other. overlaps other name) (keys m)
overlaps-any m name b h =
    let test : Name → Bool = λ other. overlaps other name in
    elim b as (λ u. IsTrue u ↔ OverlapsSome m name → u ≡ list_any test (keys m)) [
      | true ↦ λ k. let o = k.0 refl in sym (any-with test (keys m) o.other (sym (contains_key-keys m o.other) ∙ o.bound) o.overlaps)
      | false ↦ λ k. elim (list_any test (keys m)) as (λ v. list_any test (keys m) ≡ v → false ≡ v) [
        | true ↦ λ t. let a = among test (keys m) t in k.1 record { other = a.key; bound = contains_key-keys m a.key ∙ a.there; overlaps = a.passes }
        | false ↦ λ t. refl
      ] refl
    ] h
