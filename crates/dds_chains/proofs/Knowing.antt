-- What a table in memory knows of its keys, over any disk.
use Rattle.std.proofs.Common.{ℕ, ◌≡◌, ◌<◌, ◌==◌, ◌||◌, ◌&&◌, not, cond, Bool, true, false, List, [], ◌∷◌, length, get_or, set, Option, Some}
use Rattle.std.proofs.Common.{None, is_some, Result, Ok, Err, IfOk, refl, sym, ap, ◌∙◌, arith}
use Rattle.std.specs.List.{remove}
use Rattle.std.specs.FinMap.{empty}
use Rattle.dds_disk.specs.Pages.{Pages}
use Rattle.dds_base.specs.Place.{bucket as bucket_no}
use Rattle.dds_chains.specs.Index.{found, place_of, slot_value, IsIndex}
use Rattle.dds_chains.specs.Part.{has_key}
use Rattle.dds_chains.specs.declared.fault.TableFault.{TableFault}
use Rattle.dds_chains.specs.declared.table.Slot.{Slot}
use Rattle.dds_chains.specs.declared.table.Chains.{Chains}
use Rattle.dds_chains.proofs.Adding.{bucket-below, found-set, is-at, not-key}
use Rattle.dds_chains.proofs.Parts.{found-in}
use Rattle.dds_chains.proofs.Removing.{found-out}

-- whether a key is found depends on no page
no_pages : Pages
no_pages = empty

some-put : (u : Bool) (v : List ℕ) (o : Option (List ℕ)) → is_some (cond u (Some v) o) ≡ (u || is_some o)
some-put true v o = refl
some-put false v o = refl

some-out : (u : Bool) (o : Option (List ℕ)) → is_some (cond u None o) ≡ (not u && is_some o)
some-out true o = refl
some-out false o = refl

-- a slot was put first in its bucket's chain
pub has-added : (t now : Chains) (slot : Slot) → length t.buckets.items ≡ 256 →
    now.buckets.items ≡ set t.buckets.items (bucket_no slot.key) (slot ∷ get_or t.buckets.items (bucket_no slot.key) []) → (q : ℕ) →
    has_key now q ≡ (slot.key == q || has_key t q)
has-added t now slot long buckets q =
    let old : List Slot = get_or t.buckets.items (bucket_no slot.key) [] in
    let within : bucket_no slot.key < length t.buckets.items = let k = bucket-below slot.key in omega (arith, k, long) in
    let f = found-set no_pages t.buckets.items now.buckets.items (bucket_no slot.key) (slot ∷ old) q
    (cond (slot.key == q) (Some (slot_value no_pages slot)) (found no_pages (get_or t.buckets.items (bucket_no q) []) q)) buckets within
    (λ here. ap (λ (j : ℕ). cond (slot.key == q) (Some (slot_value no_pages slot)) (found no_pages (get_or t.buckets.items j []) q)) (sym here))
    (λ other. sym (ap (λ (u : Bool). cond u (Some (slot_value no_pages slot)) (found no_pages (get_or t.buckets.items (bucket_no q) []) q))
    (not-key slot.key q other))) in
    sym (found-in no_pages (get_or now.buckets.items (bucket_no q) []) q) ∙ ap is_some f
    ∙ some-put (slot.key == q) (slot_value no_pages slot) (found no_pages (get_or t.buckets.items (bucket_no q) []) q)
    ∙ ap (λ (b : Bool). slot.key == q || b) (found-in no_pages (get_or t.buckets.items (bucket_no q) []) q)

-- the slot of a key was taken out of its bucket's chain
pub has-removed : (t now : Chains) (key place : ℕ) → IsIndex t → place_of (get_or t.buckets.items (bucket_no key) []) key ≡ Some place →
    now.buckets.items ≡ set t.buckets.items (bucket_no key) (remove (get_or t.buckets.items (bucket_no key) []) place) → (q : ℕ) →
    has_key now q ≡ (not (key == q) && has_key t q)
has-removed t now key place x p buckets q =
    let old : List Slot = get_or t.buckets.items (bucket_no key) [] in
    let within : bucket_no key < length t.buckets.items = let k = bucket-below key in omega (arith, k, x.long) in
    let f = found-set no_pages t.buckets.items now.buckets.items (bucket_no key) (remove old place) q
    (cond (key == q) None (found no_pages (get_or t.buckets.items (bucket_no q) []) q)) buckets within
    (λ here. found-out no_pages t.name (bucket_no key) key q old place (x.keys (bucket_no key)) p
    ∙ ap (λ (j : ℕ). cond (key == q) None (found no_pages (get_or t.buckets.items j []) q)) (sym here))
    (λ other. sym (ap (λ (u : Bool). cond u None (found no_pages (get_or t.buckets.items (bucket_no q) []) q)) (not-key key q other))) in
    sym (found-in no_pages (get_or now.buckets.items (bucket_no q) []) q) ∙ ap is_some f
    ∙ some-out (key == q) (found no_pages (get_or t.buckets.items (bucket_no q) []) q)
    ∙ ap (λ (b : Bool). not (key == q) && b) (found-in no_pages (get_or t.buckets.items (bucket_no q) []) q)

pub none-known : (t : Chains) (slots : List Slot) (key : ℕ) → slots ≡ get_or t.buckets.items (bucket_no key) [] → place_of slots key ≡ None →
    false ≡ has_key t key
none-known t slots key e p = sym (ap is_some (ap (λ (ss : List Slot). place_of ss key) (sym e) ∙ p))

pub some-known : (t : Chains) (slots : List Slot) (key place : ℕ) → slots ≡ get_or t.buckets.items (bucket_no key) [] → place_of slots key ≡ Some place →
    true ≡ has_key t key
some-known t slots key place e p = sym (ap is_some (ap (λ (ss : List Slot). place_of ss key) (sym e) ∙ p))

-- a value was read of a key that is known
pub ok-known : {X : Type 0} (r : Result (Option X) TableFault) (b : Bool) → IfOk r (λ value. is_some value ≡ true) → true ≡ b →
    IfOk r (λ value. is_some value ≡ b)
ok-known (Ok value) b h e = h ∙ e
ok-known (Err fault) b h e = tt

-- a key that wasn't there is taken out
pub none-out : (t : Chains) (key : ℕ) → false ≡ has_key t key → (q : ℕ) → has_key t q ≡ (not (key == q) && has_key t q)
none-out t key no_key q = (elim (key == q) as (λ u. (key == q) ≡ u → has_key t q ≡ (not u && has_key t q))
    [ true ↦ λ u. ap (has_key t) (sym (is-at key q u)) ∙ sym no_key | false ↦ λ u. refl ]) refl

-- a key was taken out and put again
again : (u h : Bool) → (u || (not u && h)) ≡ (u || h)
again true h = refl
again false h = refl

pub put-again : (was mid now : Chains) (key : ℕ) → ((q : ℕ) → has_key mid q ≡ (not (key == q) && has_key was q)) →
    ((q : ℕ) → has_key now q ≡ (key == q || has_key mid q)) → (q : ℕ) → has_key now q ≡ (key == q || has_key was q)
put-again was mid now key out put q = put q ∙ ap (λ (b : Bool). key == q || b) (out q) ∙ again (key == q) (has_key was q)
