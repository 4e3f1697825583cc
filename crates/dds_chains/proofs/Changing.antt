-- A key of a table is bound or unbound.
use Rattle.std.proofs.Common.{ℕ, zero, suc, ◌∷◌, ◌≡◌, ◌+◌, ◌==◌, cond, true, false, List, [], get_or, Option, Some, None, is_some, refl}
use Rattle.std.proofs.Common.{sym, ap, subst, ◌∙◌, arith}
use Rattle.std.specs.FinMap.{get, insert, contains_key, remove as without}
use Rattle.dds_disk.specs.Pages.{Pages}
use Rattle.dds_chains.specs.Content.{Map, content}
use Rattle.dds_base.specs.Place.{bucket as bucket_no}
use Rattle.dds_chains.specs.Index.{table_uses, vacant, place_of, found, Misses, IsIndex, IsTable}
use Rattle.dds_chains.specs.Answers.{Changed}
use Rattle.dds_chains.specs.declared.table.Slot.{Slot}
use Rattle.dds_chains.specs.declared.table.Chains.{Chains}
use Rattle.dds_chains.proofs.Slots.{get-none, found-some}
use Rattle.dds_chains.proofs.Contents.{content-found}
use Rattle.dds_chains.proofs.Adding.{same-content, is-at, get-added}
use Rattle.dds_chains.proofs.Removing.{get-without, misses-none}

default-same : (slots : List Slot) (i : ℕ) (d : Slot) → get_or slots i d ≡ get_or slots i (get_or slots i d)
default-same [] i d = refl
default-same (s ∷ ss) zero d = refl
default-same (s ∷ ss) (suc i) d = default-same ss i d

pub was-none : (a : Pages) (t : Chains) (slots : List Slot) (key : ℕ) → IsIndex t → IsTable a t → slots ≡ get_or t.buckets.items (bucket_no key) [] →
    place_of slots key ≡ None → false ≡ contains_key (content a t.root) key
was-none a t slots key x tab e p = ap is_some (get-none a t slots key x tab e p)

pub was-some : (a : Pages) (t : Chains) (slots : List Slot) (key place : ℕ) → IsIndex t → IsTable a t → slots ≡ get_or t.buckets.items (bucket_no key) [] →
    place_of slots key ≡ Some place → true ≡ contains_key (content a t.root) key
was-some a t [] key place x tab e p = cc
was-some a t (s ∷ ss) key place x tab e p =
    let slot : Slot = get_or (s ∷ ss) place s in
    sym (ap is_some (content-found a t key x tab ∙ ap (λ (xs : List Slot). found a xs key) (sym e)
    ∙ found-some a (s ∷ ss) key place (get_or (s ∷ ss) place s) p (default-same (s ∷ ss) place s)))

pub none-new : (t : Chains) (slots : List Slot) (key : ℕ) → slots ≡ get_or t.buckets.items (bucket_no key) [] → place_of slots key ≡ None →
    Misses key (get_or t.buckets.items (bucket_no key) [])
none-new t slots key e p = subst (Misses key) e (misses-none slots key p)

without-none : (m : Map) (key : ℕ) → get m key ≡ None → m ≡ without m key
without-none m key h = same-content m (without m key)
    (λ q. sym (get-without m key q (get m q) refl ∙ (elim (key == q) as (λ t. (key == q) ≡ t → cond t None (get m q) ≡ get m q)
    [ true ↦ λ t. sym (ap (get m) (sym (is-at key q t)) ∙ h) | false ↦ λ t. refl ]) refl))

-- a key that isn't bound is unbound
pub unchanged : (a : Pages) (free : List ℕ) (fresh : ℕ) (t : Chains) (slots : List Slot) (key : ℕ) (told : Option Pages) → told ≡ Some a → IsIndex t →
    IsTable a t → slots ≡ get_or t.buckets.items (bucket_no key) [] → place_of slots key ≡ None →
    Changed a free fresh t told t (without (content a t.root) key)
unchanged a free fresh t slots key told is x tab e p = record {
  b = a;
  is_told = is;
  table = tab;
  kept = λ n v u. refl;
  binds = without-none (content a t.root) key (sym (get-none a t slots key x tab e p));
}

insert-without : (m : Map) (key : ℕ) (value : List ℕ) → insert (without m key) key value ≡ insert m key value
insert-without m key value = same-content _ _
    (λ q. get-added (without m key) key value q (cond (key == q) None (get m q)) (get-without m key q (get m q) refl)
    ∙ (elim (key == q) as (λ t. cond t (Some value) (cond t None (get m q)) ≡ cond t (Some value) (get m q)) [ true ↦ refl | false ↦ refl ])
    ∙ sym (get-added m key value q (get m q) refl))

-- a pair was taken out, and then another of its key was added
pub changed-twice : (a : Pages) (free0 free1 : List ℕ) (fresh0 fresh1 : ℕ) (t t1 t2 : Chains) (key : ℕ) (value : List ℕ) (told1 told2 : Option Pages) →
    ((n : ℕ) → vacant n free1 fresh1 + table_uses n t1 ≡ vacant n free0 fresh0 + table_uses n t) →
    (w : Changed a free0 fresh0 t told1 t1 (without (content a t.root) key)) → Changed w.b free1 fresh1 t1 told2 t2 (insert (content w.b t1.root) key value) →
    Changed a free0 fresh0 t told2 t2 (insert (content a t.root) key value)
changed-twice a free0 free1 fresh0 fresh1 t t1 t2 key value told1 told2 number w v = record {
  b = v.b;
  is_told = v.is_told;
  table = v.table;
  kept = λ n e u. v.kept n (omega (arith, number n, e, u)) (omega (arith, number n, e, u)) ∙ w.kept n e u;
  binds = v.binds ∙ ap (λ (m : Map). insert m key value) w.binds ∙ insert-without (content a t.root) key value;
}
