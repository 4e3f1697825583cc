-- A pair is added to a table.
use Rattle.std.proofs.Common.{ℕ, zero, suc, ◌≡◌, ◌≢◌, ◌+◌, ◌-◌, ◌^◌, ◌<◌, ◌≤◌, ◌==◌, if◌then◌else◌, cond, Bool, true, false, List, [], ◌∷◌}
use Rattle.std.proofs.Common.{◌++◌, length, map, get_or, set, replicate, nat_lt, Option, Some, None, Result, Ok, Err, OnOk, IsTrue, refl}
use Rattle.std.proofs.Common.{sym, ap, subst, ◌∙◌, arith}
use Rattle.std.proofs.Math.ListN.{length-set}
use Rattle.std.proofs.lemmas.List.{get_or-set_same, get_or-set_other, length-replicate}
use Rattle.std.proofs.lemmas.Bool.Decides.{nat_tests}
use Rattle.std.specs.Ordering.{nat_cmp}
use Rattle.std.specs.Cmp.{nat_cmp_total}
use Rattle.std.specs.FinMap.{get, insert, get-insert, get-empty, same_map, nat_cmp-IsAntisymmetric}
use Rattle.dds_disk.specs.Pages.{Pages, page_at}
use Rattle.dds_disk.proofs.Pages.{alike}
use Rattle.dds_pages.specs.Root.{root_bytes}
use Rattle.dds_pages.specs.Bucket.{IsHeld, FitsAPage, pair_bytes, held_bytes, bucket_bytes}
use Rattle.dds_pages.specs.declared.bucket.Held.{Held}
use Rattle.dds_pages.specs.declared.bucket.PagePair.{PagePair}
use Rattle.dds_chains.specs.Content.{Map, content}
use Rattle.dds_base.specs.Place.{bucket as bucket_no}
use Rattle.dds_chains.specs.Index.{same, times, chain_uses, buckets_use, table_uses, vacant, first_page, found, total, slot_value, IsStored}
use Rattle.dds_chains.specs.Index.{IsChain, IsIndex, IsTable, AreKeysOf, Misses}
use Rattle.dds_base.specs.Name.{Name, covers}
use Rattle.dds_chains.specs.Answers.{WroteValue, Changed, Made}
use Rattle.dds_chains.specs.declared.table.Slot.{Slot}
use Rattle.dds_chains.specs.declared.table.Chains.{Chains}
use Rattle.dds_chains.proofs.Uses.{same-self, buckets-set, bucket-within}
use Rattle.dds_pages.proofs.ReadBack.{width-of, held-width}
use Rattle.dds_chains.proofs.Chains.{Kept, placed-kept, chain-kept, found-kept, stored-value, first-page-small}
use Rattle.dds_chains.proofs.Contents.{content-found}
use Rattle.dds_chains.proofs.Writing.{page-new, page-other, other-zero}

pub then-ok : {X E : Type 0} {P Q : Type 0} (r : Result X E) → OnOk r P → (P → Q) → OnOk r Q
then-ok (Ok x) h f = f h
then-ok (Err e) h f = tt

pub ok-of : {X E : Type 0} {Q : Type 0} (r : Result X E) → Q → OnOk r Q
ok-of (Ok x) q = q
ok-of (Err e) q = tt

-- a page has room for one pair
pub one-fits : (key : ℕ) (held : Held) (pairs : List PagePair) → pairs ≡ record { key = key; held = held } ∷ [] → IsHeld held → FitsAPage pairs
one-fits key held pairs e h =
    let w : length ((pair_bytes (record { key = key; held = held })) ++ []) ≡ 8 + length (held_bytes held) = width-of key (held_bytes held) in
    let m = held-width held h in
    rw e record { held = (h, tt); room = omega (arith, w, m) }

pub same-content : (m n : Map) → ((q : ℕ) → get m q ≡ get n q) → m ≡ n
same-content m n h = same_map nat_cmp_total nat_cmp-IsAntisymmetric m n h

pub total-set : (buckets : List (List Slot)) (b : ℕ) (slots : List Slot) → b < length buckets →
    total (set buckets b slots) + length (get_or buckets b []) ≡ total buckets + length slots
total-set [] b slots h = absurd (omega arith)
total-set (x ∷ xs) zero slots h = omega arith
total-set (x ∷ xs) (suc b) slots h = let r = total-set xs b slots (omega arith) in omega arith

-- two pages were written that aren't used
pub kept-twice : (a b : Pages) (p q : ℕ) (x y : List ℕ) (uses : ℕ → ℕ) → Kept a b uses → uses p ≡ 0 → uses q ≡ 0 → Kept a (insert (insert b p x) q y) uses
kept-twice a b p q x y uses k e f = λ n used. page-other (insert b p x) q y n (other-zero uses n q used f) ∙ page-other b p x n (other-zero uses n p used e)
    ∙ k n used

-- what a page isn't that no bucket uses
pub chain-none : (n : ℕ) (buckets : List (List Slot)) (b : ℕ) → buckets_use n buckets ≡ 0 → chain_uses n (get_or buckets b []) ≡ 0
chain-none n buckets b h = let w = bucket-within n buckets b in omega arith

pub is-at : (i at : ℕ) → (i == at) ≡ true → i ≡ at
is-at i at t = grind (arith, nat_tests)

pub not-at : (i at : ℕ) → (i == at) ≡ false → i ≢ at
not-at i at t = grind (arith, nat_tests)

-- what is true of every bucket after one became another
pub each-set : (P : ℕ → List Slot → Type 0) (buckets now : List (List Slot)) (at : ℕ) (slots : List Slot) → now ≡ set buckets at slots → at < length buckets →
    P at slots → ((i : ℕ) → i ≢ at → P i (get_or buckets i [])) → (i : ℕ) → P i (get_or now i [])
each-set P buckets now at slots e below h rest i =
    subst (λ (bs : List (List Slot)). P i (get_or bs i [])) (sym e)
    ((elim (i == at) as (λ t. (i == at) ≡ t → P i (get_or (set buckets at slots) i [])) [
      | true ↦ λ t. let is : i ≡ at = is-at i at t in
          subst (λ (j : ℕ). P j (get_or (set buckets at slots) j [])) (sym is) (subst (P at) (sym (get_or-set_same buckets at slots [] below)) h)
      | false ↦ λ t. let other : i ≢ at = not-at i at t in subst (P i) (sym (get_or-set_other buckets at i slots [] other)) (rest i other)
    ]) refl)

-- what a key is bound to after one bucket's chain became another
pub found-set : (b : Pages) (buckets now : List (List Slot)) (at : ℕ) (slots : List Slot) (q : ℕ) (bound : Option (List ℕ)) → now ≡ set buckets at slots →
    at < length buckets →
    (bucket_no q ≡ at → found b slots q ≡ bound) → (bucket_no q ≢ at → found b (get_or buckets (bucket_no q) []) q ≡ bound) →
    found b (get_or now (bucket_no q) []) q ≡ bound
found-set b buckets now at slots q bound e below h rest =
    ap (λ (bs : List (List Slot)). found b (get_or bs (bucket_no q) []) q) e
    ∙ (elim (bucket_no q == at) as (λ t. (bucket_no q == at) ≡ t → found b (get_or (set buckets at slots) (bucket_no q) []) q ≡ bound) [
      | true ↦ λ t. let is : bucket_no q ≡ at = is-at (bucket_no q) at t in
          ap (λ (ss : List Slot). found b ss q) (ap (λ (j : ℕ). get_or (set buckets at slots) j []) is ∙ get_or-set_same buckets at slots [] below) ∙ h is
      | false ↦ λ t. let other : bucket_no q ≢ at = not-at (bucket_no q) at t in
          ap (λ (ss : List Slot). found b ss q) (get_or-set_other buckets at (bucket_no q) slots [] other) ∙ rest other
    ]) refl

pub bucket-below : (key : ℕ) → bucket_no key < 256
unfolding bucket_no
bucket-below key = omega arith

few-more : (len now : ℕ) → len ≤ 16384 → now ≡ (if nat_lt len 16384 then len + 1 else len) → now ≤ 16384
few-more len now few e = grind (arith, nat_tests)

one-longer : (len now all all_now old : ℕ) → len < 16384 → now ≡ (if nat_lt len 16384 then len + 1 else len) → len ≡ all → all_now + old ≡ all + suc old →
    now ≡ all_now
one-longer len now all all_now old room e f g = let t : nat_lt len 16384 ≡ true = grind (arith, nat_tests) in
    let k : now ≡ len + 1 = e ∙ ap (λ (b : Bool). cond b (len + 1) len) t in omega arith

pub not-key : (key q : ℕ) → bucket_no q ≢ bucket_no key → (key == q) ≡ false
not-key key q h = (elim (key == q) as (λ t. (key == q) ≡ t → t ≡ false)
    [ true ↦ λ t. absurd (h (sym (ap bucket_no (is-at key q t)))) | false ↦ λ t. refl ]) refl

pub get-added : (m : Map) (k : ℕ) (v : List ℕ) (q : ℕ) (was : Option (List ℕ)) → get m q ≡ was → get (insert m k v) q ≡ cond (k == q) (Some v) was
get-added m k v q was e = get-insert nat_cmp_total m k v q ∙ ap (λ (b : Bool). cond b (Some v) (get m q)) (alike q k)
    ∙ ap (λ (o : Option (List ℕ)). cond (k == q) (Some v) o) e

-- a pair of a new key was written, and is in the table
pub pair-added : (a : Pages) (free0 free1 free2 : List ℕ) (fresh0 fresh1 fresh2 : ℕ) (t now : Chains) (slot : Slot) (held : Held) (value bytes : List ℕ)
    (told1 told3 : Option Pages) →
    (w : WroteValue a free0 fresh0 told1 held slot.overflow value) → IsHeld held →
    ((n : ℕ) → vacant n free1 fresh1 + times n slot.overflow ≡ vacant n free0 fresh0) →
    ((n : ℕ) → vacant n free2 fresh2 + same n slot.page ≡ vacant n free1 fresh1) →
    slot.page < 2 ^ 64 - 1 → slot.key < 2 ^ 64 → slot.len ≡ length value → ((n : ℕ) → vacant n free0 fresh0 + table_uses n t ≤ 1) → IsIndex t → IsTable a t →
    t.len < 16384 → IsIndex now →
    now.root ≡ t.root → now.len ≡ (if nat_lt t.len 16384 then t.len + 1 else t.len) →
    now.buckets.items ≡ set t.buckets.items (bucket_no slot.key) (slot ∷ get_or t.buckets.items (bucket_no slot.key) []) →
    bytes ≡ bucket_bytes (record { pairs = record { key = slot.key; held = held } ∷ []; next = first_page (get_or t.buckets.items (bucket_no slot.key) []) }) →
    told3 ≡ Some (insert (insert w.b slot.page bytes) now.root (root_bytes 2 (record { pairs = now.len; firsts = map first_page now.buckets.items }))) →
    Changed a free0 fresh0 t told3 now (insert (content a t.root) slot.key value)
pair-added a free0 free1 free2 fresh0 fresh1 fresh2 t now slot held value bytes told1 told3 w lawful n1 n2 below key long single x tab room xnow root len
    buckets page_is is =
    let at : ℕ = bucket_no slot.key in
    let old : List Slot = get_or t.buckets.items (bucket_no slot.key) [] in
    let new_root : List ℕ = root_bytes 2 (record { pairs = now.len; firsts = map first_page now.buckets.items }) in
    let b3 : Pages = insert w.b slot.page bytes in
    let b : Pages = insert (insert w.b slot.page bytes) now.root new_root in
    let within : bucket_no slot.key < length t.buckets.items = let k = bucket-below slot.key in omega (arith, k, x.long) in
    let page_vacant : 0 < vacant slot.page free0 fresh0 = omega (arith, n1 slot.page, n2 slot.page, same-self slot.page) in
    let page_unused : table_uses slot.page t ≡ 0 = omega (arith, single slot.page, page_vacant) in
    let page_other : same slot.page now.root ≡ 0 = rw root (omega (arith, page_unused)) in
    let over_page : times slot.page slot.overflow ≡ 0 = omega (arith, n1 slot.page, n2 slot.page, same-self slot.page, single slot.page) in
    let root_used : vacant t.root free0 fresh0 ≡ 0 = omega (arith, single t.root, same-self t.root) in
    let over_root : times now.root slot.overflow ≡ 0 = rw root (omega (arith, n1 t.root, root_used)) in
    let root_alone : buckets_use now.root t.buckets.items ≡ 0 = rw root (omega (arith, single t.root, same-self t.root)) in
    let page_alone : buckets_use slot.page t.buckets.items ≡ 0 = omega (arith, page_unused) in
    let kept_old : (i : ℕ) → Kept a b (λ n. chain_uses n (get_or t.buckets.items i [])) =
    λ i. kept-twice a w.b slot.page now.root bytes new_root (λ n. chain_uses n (get_or t.buckets.items i []))
    (λ n used. w.kept n (let c = bucket-within n t.buckets.items i in omega (arith, single n, used, c)))
    (chain-none slot.page t.buckets.items i page_alone) (chain-none now.root t.buckets.items i root_alone) in
    let kept_over : Kept w.b b (λ n. times n slot.overflow) =
    kept-twice w.b w.b slot.page now.root bytes new_root (λ n. times n slot.overflow) (λ n used. refl) over_page over_root in
    let page_new : page_at b slot.page ≡ bucket_bytes (record { pairs = record { key = slot.key; held = held } ∷ []; next = first_page old }) =
    page-other b3 now.root new_root slot.page page_other ∙ page-new w.b slot.page bytes ∙ page_is in
    let stored : IsStored b slot (first_page old) =
    record {
      value = value;
      held = held;
      page = page_new;
      placed = placed-kept w.b b held slot.overflow value w.placed kept_over;
      lawful = lawful;
      len = long;
      key = key;
      number = below;
    } in
    let chain_old : IsChain b old = chain-kept a b old (tab.chains (bucket_no slot.key)) (kept_old (bucket_no slot.key)) in
    let value_is : slot_value b slot ≡ value = stored-value b slot (first_page old) stored (first-page-small b old chain_old) in
    let chains : (i : ℕ) → IsChain b (get_or now.buckets.items i []) =
    each-set (λ i. IsChain b) t.buckets.items now.buckets.items (bucket_no slot.key) (slot ∷ old) buckets within (stored, chain_old)
    (λ i other. chain-kept a b (get_or t.buckets.items i []) (tab.chains i) (kept_old i)) in
    let grown = ap total buckets in
    let more = total-set t.buckets.items (bucket_no slot.key) (slot ∷ old) within in
    let table : IsTable b now = record {
      root = page-new b3 now.root new_root;
      chains = chains;
      len = one-longer t.len now.len (total t.buckets.items) (total now.buckets.items) (length old) room len tab.len (omega (arith, grown, more));
    } in
    let found_q : (q : ℕ) → found b (get_or now.buckets.items (bucket_no q) []) q
    ≡ cond (slot.key == q) (Some value) (found a (get_or t.buckets.items (bucket_no q) []) q) =
    λ q. found-set b t.buckets.items now.buckets.items (bucket_no slot.key) (slot ∷ old) q _ buckets within
    (λ here. λ i. cond (slot.key == q) (Some (value_is i))
    ((found-kept a b old q (tab.chains (bucket_no slot.key)) (kept_old (bucket_no slot.key))
    ∙ ap (λ (j : ℕ). found a (get_or t.buckets.items j []) q) (sym here)) i))
    (λ other. found-kept a b (get_or t.buckets.items (bucket_no q) []) q (tab.chains (bucket_no q)) (kept_old (bucket_no q))
    ∙ sym (ap (λ (u : Bool). cond u (Some value) (found a (get_or t.buckets.items (bucket_no q) []) q)) (not-key slot.key q other))) in
    record {
      b = b;
      is_told = is;
      table = table;
      kept = λ n v u. page-other b3 now.root new_root n (rw root (omega arith)) ∙ page-other w.b slot.page bytes n (omega (arith, n1 n, n2 n, v)) ∙ w.kept n v;
      binds = same-content _ _ (λ q. content-found b now q xnow table ∙ found_q q
          ∙ sym (get-added (content a t.root) slot.key value q (found a (get_or t.buckets.items (bucket_no q) []) q) (content-found a t q x tab)));
    }

pub index-added : (t now : Chains) (slot : Slot) → IsIndex t → IsTrue (covers t.name slot.key) →
    Misses slot.key (get_or t.buckets.items (bucket_no slot.key) []) → now.name ≡ t.name → now.len ≡ (if nat_lt t.len 16384 then t.len + 1 else t.len) →
    now.buckets.items ≡ set t.buckets.items (bucket_no slot.key) (slot ∷ get_or t.buckets.items (bucket_no slot.key) []) → IsIndex now
index-added t now slot x covered new name len buckets =
    let within : bucket_no slot.key < length t.buckets.items = let k = bucket-below slot.key in omega (arith, k, x.long) in
    let l : length (set t.buckets.items (bucket_no slot.key) (slot ∷ get_or t.buckets.items (bucket_no slot.key) [])) ≡ length t.buckets.items =
    length-set {A = List Slot} _ _ _ in
    record {
      long = ap length buckets ∙ l ∙ x.long;
      few = few-more t.len now.len x.few len;
      keys = λ i. subst (λ (n : Name). AreKeysOf n i (get_or now.buckets.items i [])) (sym name)
          (each-set (AreKeysOf t.name) t.buckets.items now.buckets.items (bucket_no slot.key) (slot ∷ get_or t.buckets.items (bucket_no slot.key) []) buckets
          within (refl, covered, new, x.keys (bucket_no slot.key)) (λ j other. x.keys j) i);
    }

pub moved : (free now : List ℕ) (fresh fresh_now : ℕ) (u k : ℕ → ℕ) → now ≡ free → fresh_now ≡ fresh → ((n : ℕ) → vacant n free fresh + u n ≡ k n) → (n : ℕ) →
    vacant n now fresh_now + u n ≡ k n
moved free now fresh fresh_now u k e f h n = rw (e, f) (h n)

-- how often a page stands as vacant or in the table is as before
pub number-added : (free0 free1 free2 : List ℕ) (fresh0 fresh1 fresh2 : ℕ) (t now : Chains) (slot : Slot) →
    ((n : ℕ) → vacant n free1 fresh1 + times n slot.overflow ≡ vacant n free0 fresh0) →
    ((n : ℕ) → vacant n free2 fresh2 + same n slot.page ≡ vacant n free1 fresh1) → length t.buckets.items ≡ 256 →
    now.root ≡ t.root → now.buckets.items ≡ set t.buckets.items (bucket_no slot.key) (slot ∷ get_or t.buckets.items (bucket_no slot.key) []) → (n : ℕ) →
    vacant n free2 fresh2 + table_uses n now ≡ vacant n free0 fresh0 + table_uses n t
number-added free0 free1 free2 fresh0 fresh1 fresh2 t now slot n1 n2 long root buckets n =
    let within : bucket_no slot.key < length t.buckets.items = let k = bucket-below slot.key in omega (arith, k, long) in
    let s = buckets-set n t.buckets.items (bucket_no slot.key) (slot ∷ get_or t.buckets.items (bucket_no slot.key) []) within in
    rw (root, buckets) (omega (arith, n1 n, n2 n, s))

get-empty-found : (b : Pages) (q i : ℕ) (k : ℕ) → found b (get_or (replicate k []) i []) q ≡ None
get-empty-found b q i zero = refl
get-empty-found b q zero (suc k) = refl
get-empty-found b q (suc i) (suc k) = get-empty-found b q i k

chains-none : (b : Pages) (i : ℕ) (k : ℕ) → IsChain b (get_or (replicate k []) i [])
chains-none b i zero = tt
chains-none b zero (suc k) = tt
chains-none b (suc i) (suc k) = chains-none b i k

keys-none : (name : Name) (i j : ℕ) (k : ℕ) → AreKeysOf name j (get_or (replicate k []) i [])
keys-none name i j zero = tt
keys-none name zero j (suc k) = tt
keys-none name (suc i) j (suc k) = keys-none name i j k

total-none : (k : ℕ) → total (replicate k []) ≡ 0
total-none zero = refl
total-none (suc k) = let h = total-none k in omega arith

uses-none : (n k : ℕ) → buckets_use n (replicate k []) ≡ 0
uses-none n zero = refl
uses-none n (suc k) = let h = uses-none n k in omega arith

pub made-index : (t : Chains) → t.buckets.items ≡ replicate 256 [] → t.len ≡ 0 → IsIndex t
made-index t e z = record {
  long = ap length e ∙ length-replicate {A = List Slot} 256 [];
  few = omega arith;
  keys = λ i. subst (λ (bs : List (List Slot)). AreKeysOf t.name i (get_or bs i [])) (sym e) (keys-none t.name i i 256);
}

pub made-number : (free0 free1 : List ℕ) (fresh0 fresh1 : ℕ) (t : Chains) → t.buckets.items ≡ replicate 256 [] →
    ((n : ℕ) → vacant n free1 fresh1 + same n t.root ≡ vacant n free0 fresh0) → (n : ℕ) → vacant n free1 fresh1 + table_uses n t ≡ vacant n free0 fresh0
made-number free0 free1 fresh0 fresh1 t e h n = let u : buckets_use n t.buckets.items ≡ 0 = ap (buckets_use n) e ∙ uses-none n 256 in omega (arith, h n, u)

-- an empty table was made
pub table-made : (a : Pages) (free0 free1 : List ℕ) (fresh0 fresh1 : ℕ) (t : Chains) (told : Option Pages) → t.buckets.items ≡ replicate 256 [] → t.len ≡ 0 →
    ((n : ℕ) → vacant n free1 fresh1 + same n t.root ≡ vacant n free0 fresh0) →
    told ≡ Some (insert a t.root (root_bytes 2 (record { pairs = t.len; firsts = map first_page t.buckets.items }))) → Made a free0 fresh0 told t
table-made a free0 free1 fresh0 fresh1 t told e z number is =
    let new_root : List ℕ = root_bytes 2 (record { pairs = t.len; firsts = map first_page t.buckets.items }) in
    let b : Pages = insert a t.root new_root in
    let sum : total t.buckets.items ≡ 0 = ap total e ∙ total-none 256 in
    let table : IsTable b t = record {
      root = page-new a t.root new_root;
      chains = λ i. subst (λ (bs : List (List Slot)). IsChain b (get_or bs i [])) (sym e) (chains-none b i 256);
      len = z ∙ sym sum;
    } in
    record {
      b = b;
      is_told = is;
      table = table;
      kept = λ n v. page-other a t.root new_root n (omega (arith, number n, v));
      binds = same-content _ _ (λ q. content-found b t q (made-index t e z) table ∙ ap (λ (bs : List (List Slot)). found b (get_or bs (bucket_no q) []) q) e
          ∙ get-empty-found b q (bucket_no q) 256 ∙ sym (get-empty nat_cmp q));
    }
