-- A pair is taken out of a table.
use Rattle.std.proofs.Common.{ℕ, zero, suc, ◌≡◌, ◌≢◌, ◌+◌, ◌-◌, ◌^◌, ◌<◌, ◌≤◌, ◌==◌, cond, Bool, true, false, List, [], ◌∷◌, length, map}
use Rattle.std.proofs.Common.{take, drop, get_or, set, Option, Some, None, refl, sym, ap, subst, ◌∙◌, arith}
use Rattle.std.specs.List.{remove}
use Rattle.std.specs.Option.{option_map}
use Rattle.std.proofs.Math.ListN.{length-set}
use Rattle.std.proofs.lemmas.List.{get_or-set_same, take_more, take_all, length-drop}
use Rattle.std.specs.Cmp.{nat_cmp_total}
use Rattle.std.specs.FinMap.{get, insert, get-remove, remove as without}
use Rattle.dds_disk.specs.Pages.{Pages}
use Rattle.dds_disk.proofs.Pages.{alike}
use Rattle.dds_base.specs.Name.{Name}
use Rattle.dds_pages.specs.Root.{root_bytes}
use Rattle.dds_pages.specs.Bucket.{bucket_bytes}
use Rattle.dds_chains.specs.Content.{Map, content}
use Rattle.dds_base.specs.Place.{bucket as bucket_no}
use Rattle.dds_chains.specs.Index.{same, times, slot_uses, chain_uses, buckets_use, table_uses, vacant, first_page, found, total}
use Rattle.dds_chains.specs.Index.{slot_value, place_of, IsStored, IsChain, IsIndex, IsTable, AreKeysOf, Misses}
use Rattle.dds_chains.specs.Answers.{Bridged, Changed}
use Rattle.dds_chains.specs.declared.table.Slot.{Slot}
use Rattle.dds_chains.specs.declared.table.Chains.{Chains}
use Rattle.dds_chains.proofs.Uses.{same-self, buckets-set, bucket-within, times-append}
use Rattle.dds_chains.proofs.Chains.{Kept, placed-kept, stored-kept, chain-kept, found-kept, value-kept, stored-value, first-page-small}
use Rattle.dds_chains.proofs.Slots.{later, before, first-not, none-before}
use Rattle.dds_chains.proofs.Contents.{content-found}
use Rattle.dds_chains.proofs.Writing.{page-new, page-other, kept-insert, other-zero}
use Rattle.dds_chains.proofs.Adding.{same-content, total-set, chain-none, is-at, each-set, found-set, not-key, bucket-below}

rest-chain : (a : Pages) (slots : List Slot) → IsChain a slots → IsChain a (drop 1 slots)
rest-chain a [] h = tt
rest-chain a (s ∷ ss) h = h.1

-- the first slot is left out
pub bridge-first : (a : Pages) (slots : List Slot) (place : ℕ) (told : Option Pages) → told ≡ Some a → place ≡ 0 → IsChain a slots → Bridged a slots place told
bridge-first a slots place told is e h =
    subst (λ (p : ℕ). Bridged a slots p told) (sym e) (record { b = a; is_told = is; chain = rest-chain a slots h; values = λ q. refl; kept = λ n u. refl })

pub used-in : (slots : List Slot) (i : ℕ) (slot : Slot) → i < length slots → slot ≡ get_or slots i slot → 1 ≤ chain_uses slot.page slots
used-in [] i slot below e = absurd (omega arith)
used-in (s ∷ ss) zero slot below e = let k : same slot.page s.page ≡ 1 = ap (λ (x : Slot). same slot.page x.page) (sym e) ∙ same-self slot.page in omega arith
used-in (s ∷ ss) (suc i) slot below e = let k = used-in ss i slot (omega arith) e in omega arith

swap-cond : (k key q : ℕ) (v : List ℕ) (o : Option (List ℕ)) → (k == key) ≡ false →
    cond (k == q) (Some v) (cond (key == q) None o) ≡ cond (key == q) None (cond (k == q) (Some v) o)
swap-cond k key q v o t = (elim (key == q) as (λ u. (key == q) ≡ u → cond (k == q) (Some v) (cond u None o) ≡ cond u None (cond (k == q) (Some v) o)) [
  | true ↦ λ u. let e : key ≡ q = is-at key q u in let f : (k == q) ≡ false = ap (λ (n : ℕ). k == n) (sym e) ∙ t in ap (λ (b : Bool). cond b (Some v) None) f
  | false ↦ λ u. refl
]) refl

-- a chain without a slot, where the slot before it leads past it
record Past (a b : Pages) (slots : List Slot) : Type 0 where
  pub chain : IsChain b slots
  pub values : (q : ℕ) → found b slots q ≡ found a slots q

past-here : (a : Pages) (pred : Slot) (more : List Slot) (next : ℕ) (h : IsStored a pred next) → next < 2 ^ 64 → IsChain a more →
    chain_uses pred.page (pred ∷ more) ≤ 1 →
    Past a (insert a pred.page (bucket_bytes (record { pairs = record { key = pred.key; held = h.held } ∷ []; next = first_page more }))) (pred ∷ more)
past-here a pred more next h n c single =
    let x : List ℕ = bucket_bytes (record { pairs = record { key = pred.key; held = h.held } ∷ []; next = first_page more }) in
    let b : Pages = insert a pred.page x in
    let s = same-self pred.page in
    let kept : Kept a b (λ n. chain_uses n more) = kept-insert a pred.page x (λ n. chain_uses n more) (omega arith) in
    let chain : IsChain b more = chain-kept a b more c kept in
    let stored : IsStored b pred (first_page more) = record {
      value = h.value;
      held = h.held;
      page = page-new a pred.page x;
      placed = placed-kept a b h.held pred.overflow h.value h.placed (kept-insert a pred.page x (λ n. times n pred.overflow) (omega arith));
      lawful = h.lawful;
      len = h.len;
      key = h.key;
      number = h.number;
    } in
    let value : slot_value b pred ≡ slot_value a pred = stored-value b pred (first_page more) stored (first-page-small a more c)
    ∙ sym (stored-value a pred next h n) in
    record { chain = (stored, chain); values = λ q. λ i. cond (pred.key == q) (Some (value i)) (found-kept a b more q c kept i) }

past-later : (a : Pages) (slots : List Slot) (i : ℕ) (pred : Slot) (next : ℕ) (h : IsStored a pred next) → next < 2 ^ 64 → IsChain a slots →
    chain_uses pred.page slots ≤ 1 → suc i < length slots → pred ≡ get_or slots i pred →
    Past a (insert a pred.page (bucket_bytes
    (record { pairs = record { key = pred.key; held = h.held } ∷ []; next = first_page (drop (suc (suc i)) slots) }))) (remove slots (suc i))
past-later a [] i pred next h n c single below e = absurd (omega arith)
past-later a (s ∷ []) i pred next h n c single below e = absurd (omega arith)
past-later a (s ∷ t ∷ more) zero pred next h n c single below e =
    subst (λ (x : Slot). Past a (insert a pred.page (bucket_bytes (record { pairs = record { key = pred.key; held = h.held } ∷ []; next = first_page more })))
    (x ∷ more)) e
    (past-here a pred more next h n c.1.1 (let k : chain_uses pred.page (pred ∷ more) ≡ chain_uses pred.page (s ∷ more) =
    ap (λ (x : Slot). chain_uses pred.page (x ∷ more)) e in omega arith))
past-later a (s ∷ t ∷ more) (suc i) pred next h n c single below e =
    let x : List ℕ = bucket_bytes (record { pairs = record { key = pred.key; held = h.held } ∷ []; next = first_page (drop (suc (suc i)) (t ∷ more)) }) in
    let b : Pages = insert a pred.page x in
    let u = used-in (t ∷ more) i pred (omega arith) e in
    let r = past-later a (t ∷ more) i pred next h n c.1 (omega arith) (omega arith) e in
    let kept : Kept a b (λ n. slot_uses n s) = kept-insert a pred.page x (λ n. slot_uses n s) (omega arith) in
    let small = first-page-small a (t ∷ more) c.1 in
    record {
      chain = (stored-kept a b s (first_page (t ∷ more)) c.0 kept, r.chain);
      values = λ q. λ j. cond (s.key == q) (Some (value-kept a b s (first_page (t ∷ more)) c.0 small kept j)) (r.values q j);
    }

unused-other : (slots : List Slot) (pred : Slot) (q : ℕ) → 1 ≤ chain_uses pred.page slots → chain_uses q slots ≡ 0 → same q pred.page ≡ 0
unused-other slots pred q u v = (elim (q == pred.page) as (λ t. (q == pred.page) ≡ t → same q pred.page ≡ 0) [
  | true ↦ λ t. let e : q ≡ pred.page = is-at q pred.page t in
      let f : chain_uses q slots ≡ chain_uses pred.page slots = ap (λ (n : ℕ). chain_uses n slots) e in absurd (omega arith)
  | false ↦ λ t. rw t refl
]) refl

-- a slot that isn't the first is left out
pub bridge-later : (a : Pages) (slots : List Slot) (place : ℕ) (pred : Slot) (next after : ℕ) (h : IsStored a pred next) (told : Option Pages) →
    next < 2 ^ 64 → IsChain a slots → ((n : ℕ) → chain_uses n slots ≤ 1) → place ≢ 0 → place < length slots → pred ≡ get_or slots (place - 1) pred →
    after ≡ first_page (drop (place + 1) slots) →
    told ≡ Some (insert a pred.page (bucket_bytes (record { pairs = record { key = pred.key; held = h.held } ∷ []; next = after }))) →
    Bridged a slots place told
bridge-later a slots zero pred next after h told n c single some below e f is = absurd (some refl)
bridge-later a slots (suc i) pred next after h told n c single some below e f is =
    let j : suc i - 1 ≡ i = omega arith in
    let k : suc i + 1 ≡ suc (suc i) = omega arith in
    let x : List ℕ = bucket_bytes (record { pairs = record { key = pred.key; held = h.held } ∷ []; next = after }) in
    let g : bucket_bytes (record { pairs = record { key = pred.key; held = h.held } ∷ []; next = first_page (drop (suc (suc i)) slots) }) ≡ x =
    ap (λ (m : ℕ). bucket_bytes (record { pairs = record { key = pred.key; held = h.held } ∷ []; next = m }))
    (sym (f ∙ ap (λ (m : ℕ). first_page (drop m slots)) k)) in
    let at : pred ≡ get_or slots i pred = e ∙ ap (λ (m : ℕ). get_or slots m pred) j in
    let p = past-later a slots i pred next h n c (single pred.page) below at in
    let p2 : Past a (insert a pred.page x) (remove slots (suc i)) = subst (λ (y : List ℕ). Past a (insert a pred.page y) (remove slots (suc i))) g p in
    let u = used-in slots i pred (omega arith) at in
    record {
      b = insert a pred.page x;
      is_told = is;
      chain = p2.chain;
      values = p2.values;
      kept = λ q v. page-other a pred.page x q (unused-other slots pred q u v);
    }

pub times-more : (n : ℕ) (items pages : List ℕ) (i : ℕ) → items ≡ pages → i < length items →
    times n (take (i + 1) pages) ≡ times n (take i pages) + same n (get_or items i 0)
times-more n items pages i e below =
    let a = times-append n (take i items) (get_or items i 0 ∷ []) in
    let m : times n (take (i + 1) items) ≡ times n (take i items) + same n (get_or items i 0) = ap (times n) (take_more items i 0 below) ∙ omega (arith, a) in
    ap (λ (ps : List ℕ). times n (take (i + 1) ps)) (sym e) ∙ m ∙ ap (λ (ps : List ℕ). times n (take i ps) + same n (get_or items i 0)) e

-- the chain's page behind a place
pub after-is : (slots : List Slot) (place after : ℕ) → after ≡ first_page (take (length slots - (place + 1)) (drop (place + 1) slots)) →
    after ≡ first_page (drop (place + 1) slots)
after-is slots place after e = let l = length-drop (place + 1) slots in
    e ∙ ap first_page (take_all (length slots - (place + 1)) (drop (place + 1) slots) (omega arith))

-- the counts after a slot was taken out
chain-out : (n : ℕ) (slots : List Slot) (place : ℕ) (slot : Slot) → place < length slots → slot ≡ get_or slots place slot →
    chain_uses n (remove slots place) + slot_uses n slot ≡ chain_uses n slots
chain-out n [] place slot below e = absurd (omega arith)
chain-out n (s ∷ ss) zero slot below e = let k : slot_uses n slot ≡ slot_uses n s = ap (slot_uses n) e in omega arith
chain-out n (s ∷ ss) (suc i) slot below e = let r = chain-out n ss i slot (omega arith) e in omega arith

length-out : (slots : List Slot) (place : ℕ) → place < length slots → length (remove slots place) + 1 ≡ length slots
length-out [] place below = absurd (omega arith)
length-out (s ∷ ss) zero below = omega arith
length-out (s ∷ ss) (suc i) below = let r = length-out ss i (omega arith) in omega arith

misses-out : (key : ℕ) (slots : List Slot) (place : ℕ) → Misses key slots → Misses key (remove slots place)
misses-out key [] zero h = tt
misses-out key [] (suc i) h = tt
misses-out key (s ∷ ss) zero h = h.1
misses-out key (s ∷ ss) (suc i) h = (h.0, misses-out key ss i h.1)

keys-out : (name : Name) (b : ℕ) (slots : List Slot) (place : ℕ) → AreKeysOf name b slots → AreKeysOf name b (remove slots place)
keys-out name b [] zero h = tt
keys-out name b [] (suc i) h = tt
keys-out name b (s ∷ ss) zero h = h.3
keys-out name b (s ∷ ss) (suc i) h = (h.0, h.1, misses-out s.key ss i h.2, keys-out name b ss i h.3)

misses-found : (a : Pages) (key q : ℕ) (slots : List Slot) → Misses key slots → (key == q) ≡ true → found a slots q ≡ None
misses-found a key q [] h t = refl
misses-found a key q (s ∷ ss) h t =
    let e : key ≡ q = is-at key q t in
    let f : (s.key == q) ≡ false = ap (λ (k : ℕ). s.key == k) (sym e) ∙ h.0 in
    ap (λ (u : Bool). cond u (Some (slot_value a s)) (found a ss q)) f ∙ misses-found a key q ss h.1 t

none-cond : (a : Pages) (key q : ℕ) (slots : List Slot) → Misses key slots → found a slots q ≡ cond (key == q) None (found a slots q)
none-cond a key q slots h = (elim (key == q) as (λ t. (key == q) ≡ t → found a slots q ≡ cond t None (found a slots q))
    [ true ↦ λ t. misses-found a key q slots h t | false ↦ λ t. refl ]) refl

pub found-out : (a : Pages) (name : Name) (b key q : ℕ) (slots : List Slot) (place : ℕ) → AreKeysOf name b slots → place_of slots key ≡ Some place →
    found a (remove slots place) q ≡ cond (key == q) None (found a slots q)
found-out a name b key q [] place h p = cc
found-out a name b key q (s ∷ ss) zero h p =
    (elim (s.key == key) as (λ t. (s.key == key) ≡ t → cond t (Some 0) (option_map suc (place_of ss key)) ≡ Some 0 →
    found a ss q ≡ cond (key == q) None (found a (s ∷ ss) q)) [
      | true ↦ λ t p.
          let e : s.key ≡ key = is-at s.key key t in
          (elim (key == q) as (λ u. (key == q) ≡ u → found a ss q ≡ cond u None (found a (s ∷ ss) q)) [
            | true ↦ λ u. misses-found a s.key q ss h.2 (ap (λ (k : ℕ). k == q) e ∙ u)
            | false ↦ λ u. sym (ap (λ (v : Bool). cond v (Some (slot_value a s)) (found a ss q)) (ap (λ (k : ℕ). k == q) e ∙ u))
          ]) refl
      | false ↦ λ t p. absurd (later (place_of ss key) p)
    ]) refl p
found-out a name b key q (s ∷ ss) (suc i) h p =
    (elim (s.key == key) as (λ t. (s.key == key) ≡ t → cond t (Some 0) (option_map suc (place_of ss key)) ≡ Some (suc i) →
    cond (s.key == q) (Some (slot_value a s)) (found a (remove ss i) q) ≡ cond (key == q) None (cond (s.key == q) (Some (slot_value a s)) (found a ss q))) [
      | true ↦ λ t p. absurd (first-not p)
      | false ↦ λ t p. let r = found-out a name b key q ss i h.3 (before (place_of ss key) i p) in
          ap (λ (o : Option (List ℕ)). cond (s.key == q) (Some (slot_value a s)) o) r ∙ swap-cond s.key key q (slot_value a s) (found a ss q) t
    ]) refl p

two-buckets : (n : ℕ) (buckets : List (List Slot)) (i j : ℕ) → i ≢ j →
    chain_uses n (get_or buckets i []) + chain_uses n (get_or buckets j []) ≤ buckets_use n buckets
two-buckets n [] i j d = omega arith
two-buckets n (x ∷ xs) zero zero d = absurd (d refl)
two-buckets n (x ∷ xs) zero (suc j) d = let k = bucket-within n xs j in omega arith
two-buckets n (x ∷ xs) (suc i) zero d = let k = bucket-within n xs i in omega arith
two-buckets n (x ∷ xs) (suc i) (suc j) d = let k = two-buckets n xs i j (λ e. d (ap suc e)) in omega arith

pub index-out : (t now : Chains) (key place : ℕ) → IsIndex t → now.name ≡ t.name → now.len ≡ t.len - 1 →
    now.buckets.items ≡ set t.buckets.items (bucket_no key) (remove (get_or t.buckets.items (bucket_no key) []) place) → IsIndex now
index-out t now key place x name len buckets =
    let within : bucket_no key < length t.buckets.items = let k = bucket-below key in omega (arith, k, x.long) in
    let l : length (set t.buckets.items (bucket_no key) (remove (get_or t.buckets.items (bucket_no key) []) place)) ≡ length t.buckets.items =
    length-set {A = List Slot} _ _ _ in
    record {
      long = ap length buckets ∙ l ∙ x.long;
      few = omega (arith, len, x.few);
      keys = λ i. subst (λ (n : Name). AreKeysOf n i (get_or now.buckets.items i [])) (sym name)
          (each-set (AreKeysOf t.name) t.buckets.items now.buckets.items (bucket_no key) (remove (get_or t.buckets.items (bucket_no key) []) place) buckets
          within (keys-out t.name (bucket_no key) (get_or t.buckets.items (bucket_no key) []) place (x.keys (bucket_no key))) (λ j other. x.keys j) i);
    }

pub number-out : (free0 free1 free2 : List ℕ) (fresh0 fresh1 fresh2 : ℕ) (t now : Chains) (key place : ℕ) (slot : Slot) → length t.buckets.items ≡ 256 →
    place < length (get_or t.buckets.items (bucket_no key) []) → slot ≡ get_or (get_or t.buckets.items (bucket_no key) []) place slot → free1 ≡ free0 →
    fresh1 ≡ fresh0 →
    ((n : ℕ) → vacant n free2 fresh2 ≡ vacant n free1 fresh1 + slot_uses n slot) → now.root ≡ t.root →
    now.buckets.items ≡ set t.buckets.items (bucket_no key) (remove (get_or t.buckets.items (bucket_no key) []) place) → (n : ℕ) →
    vacant n free2 fresh2 + table_uses n now ≡ vacant n free0 fresh0 + table_uses n t
number-out free0 free1 free2 fresh0 fresh1 fresh2 t now key place slot long below is e f number root buckets n =
    let within : bucket_no key < length t.buckets.items = let k = bucket-below key in omega (arith, k, long) in
    let s = buckets-set n t.buckets.items (bucket_no key) (remove (get_or t.buckets.items (bucket_no key) []) place) within in
    let o = chain-out n (get_or t.buckets.items (bucket_no key) []) place slot below is in
    let v : vacant n free2 fresh2 ≡ vacant n free0 fresh0 + slot_uses n slot = number n ∙ ap (λ (fs : List ℕ). vacant n fs fresh1 + slot_uses n slot) e
    ∙ ap (λ (x : ℕ). vacant n free0 x + slot_uses n slot) f in
    rw (root, buckets) (omega (arith, v, s, o))

pub get-without : (m : Map) (k : ℕ) (q : ℕ) (was : Option (List ℕ)) → get m q ≡ was → get (without m k) q ≡ cond (k == q) None was
get-without m k q was e = get-remove nat_cmp_total m k q ∙ ap (λ (b : Bool). cond b None (get m q)) (alike q k)
    ∙ ap (λ (o : Option (List ℕ)). cond (k == q) None o) e

-- the sums of a table that has a pair less
sums-out : (t now : Chains) (key place : ℕ) → IsIndex t → place < length (get_or t.buckets.items (bucket_no key) []) →
    now.buckets.items ≡ set t.buckets.items (bucket_no key) (remove (get_or t.buckets.items (bucket_no key) []) place) →
    total now.buckets.items + 1 ≡ total t.buckets.items
sums-out t now key place x below buckets =
    let within : bucket_no key < length t.buckets.items = let k = bucket-below key in omega (arith, k, x.long) in
    let g = ap total buckets in
    let m = total-set t.buckets.items (bucket_no key) (remove (get_or t.buckets.items (bucket_no key) []) place) within in
    let l = length-out (get_or t.buckets.items (bucket_no key) []) place below in
    omega (arith, g, m, l)

pub less-out : (a : Pages) (t now : Chains) (key place : ℕ) → IsIndex t → IsTable a t → place < length (get_or t.buckets.items (bucket_no key) []) →
    now.len ≡ t.len - 1 → now.buckets.items ≡ set t.buckets.items (bucket_no key) (remove (get_or t.buckets.items (bucket_no key) []) place) → now.len < t.len
less-out a t now key place x tab below len buckets = let s = sums-out t now key place x below buckets in omega (arith, s, tab.len)

-- a pair was taken out, and the table's pages say so
pub pair-removed : (a : Pages) (free0 : List ℕ) (fresh0 : ℕ) (t now : Chains) (key place : ℕ) (slot : Slot) (told1 told2 : Option Pages) →
    (w : Bridged a (get_or t.buckets.items (bucket_no key) []) place told1) → IsIndex t → IsIndex now → IsTable a t →
    place_of (get_or t.buckets.items (bucket_no key) []) key ≡ Some place →
    place < length (get_or t.buckets.items (bucket_no key) []) → slot ≡ get_or (get_or t.buckets.items (bucket_no key) []) place slot →
    ((n : ℕ) → vacant n free0 fresh0 + table_uses n t ≤ 1) → now.root ≡ t.root → now.len ≡ t.len - 1 →
    now.buckets.items ≡ set t.buckets.items (bucket_no key) (remove (get_or t.buckets.items (bucket_no key) []) place) →
    told2 ≡ Some (insert w.b now.root (root_bytes 2 (record { pairs = now.len; firsts = map first_page now.buckets.items }))) →
    Changed a free0 fresh0 t told2 now (without (content a t.root) key)
pair-removed a free0 fresh0 t now key place slot told1 told2 w x xnow tab there below slot_is single root len buckets is =
    let ss : List Slot = get_or t.buckets.items (bucket_no key) [] in
    let new_root : List ℕ = root_bytes 2 (record { pairs = now.len; firsts = map first_page now.buckets.items }) in
    let b : Pages = insert w.b now.root new_root in
    let within : bucket_no key < length t.buckets.items = let k = bucket-below key in omega (arith, k, x.long) in
    let root_alone : buckets_use now.root t.buckets.items ≡ 0 = rw root (omega (arith, single t.root, same-self t.root)) in
    let root_ss : chain_uses now.root (get_or t.buckets.items (bucket_no key) []) ≡ 0 = chain-none now.root t.buckets.items (bucket_no key) root_alone in
    let root_out : chain_uses now.root (remove (get_or t.buckets.items (bucket_no key) []) place) ≡ 0 = let o =
    chain-out now.root (get_or t.buckets.items (bucket_no key) []) place slot below slot_is in omega (arith, o, root_ss) in
    let kept_out : Kept w.b b (λ n. chain_uses n (remove (get_or t.buckets.items (bucket_no key) []) place)) =
    kept-insert w.b now.root new_root (λ n. chain_uses n (remove (get_or t.buckets.items (bucket_no key) []) place)) root_out in
    let kept_other : (i : ℕ) → i ≢ bucket_no key → Kept a b (λ n. chain_uses n (get_or t.buckets.items i [])) =
    λ i other n used.
    page-other w.b now.root new_root n (other-zero (λ m. chain_uses m (get_or t.buckets.items i [])) n now.root used
    (chain-none now.root t.buckets.items i root_alone))
    ∙ w.kept n (let k = two-buckets n t.buckets.items i (bucket_no key) other in omega (arith, k, used, single n)) in
    let chain : IsChain b (remove (get_or t.buckets.items (bucket_no key) []) place) =
    chain-kept w.b b (remove (get_or t.buckets.items (bucket_no key) []) place) w.chain kept_out in
    let chains : (i : ℕ) → IsChain b (get_or now.buckets.items i []) =
    each-set (λ i. IsChain b) t.buckets.items now.buckets.items (bucket_no key) (remove (get_or t.buckets.items (bucket_no key) []) place) buckets within
    chain (λ i other. chain-kept a b (get_or t.buckets.items i []) (tab.chains i) (kept_other i other)) in
    let s = sums-out t now key place x below buckets in
    let table : IsTable b now = record { root = page-new w.b now.root new_root; chains = chains; len = omega (arith, s, tab.len, len) } in
    let found_q : (q : ℕ) → found b (get_or now.buckets.items (bucket_no q) []) q ≡ cond (key == q) None (found a (get_or t.buckets.items (bucket_no q) []) q) =
    λ q. found-set b t.buckets.items now.buckets.items (bucket_no key) (remove (get_or t.buckets.items (bucket_no key) []) place) q _ buckets within
    (λ here. found-kept w.b b (remove (get_or t.buckets.items (bucket_no key) []) place) q w.chain kept_out ∙ w.values q
    ∙ found-out a t.name (bucket_no key) key q (get_or t.buckets.items (bucket_no key) []) place (x.keys (bucket_no key)) there
    ∙ ap (λ (j : ℕ). cond (key == q) None (found a (get_or t.buckets.items j []) q)) (sym here))
    (λ other. found-kept a b (get_or t.buckets.items (bucket_no q) []) q (tab.chains (bucket_no q)) (kept_other (bucket_no q) other)
    ∙ sym (ap (λ (u : Bool). cond u None (found a (get_or t.buckets.items (bucket_no q) []) q)) (not-key key q other))) in
    record {
      b = b;
      is_told = is;
      table = table;
      kept = λ n v u. page-other w.b now.root new_root n (rw root (omega arith)) ∙ w.kept n (chain-none n t.buckets.items (bucket_no key) (omega arith));
      binds = same-content _ _ (λ q. content-found b now q xnow table ∙ found_q q
          ∙ sym (get-without (content a t.root) key q (found a (get_or t.buckets.items (bucket_no q) []) q) (content-found a t q x tab)));
    }

pub misses-none : (slots : List Slot) (key : ℕ) → place_of slots key ≡ None → Misses key slots
misses-none [] key h = tt
misses-none (s ∷ ss) key h = (elim (s.key == key) as (λ t. (s.key == key) ≡ t → cond t (Some 0) (option_map suc (place_of ss key)) ≡ None →
    ((s.key == key) ≡ false) × Misses key ss) [
      | true ↦ λ t e. cc
      | false ↦ λ t e. (t, misses-none ss key (none-before (place_of ss key) e))
    ]) refl h

misses-as : (k key : ℕ) (slots : List Slot) → k ≡ key → Misses k slots → Misses key slots
misses-as k key slots e h = subst (λ (n : ℕ). Misses n slots) e h

misses-place : (name : Name) (b key : ℕ) (slots : List Slot) (place : ℕ) → AreKeysOf name b slots → place_of slots key ≡ Some place →
    Misses key (remove slots place)
misses-place name b key [] place h p = cc
misses-place name b key (s ∷ ss) zero h p =
    (elim (s.key == key) as (λ t. (s.key == key) ≡ t → cond t (Some 0) (option_map suc (place_of ss key)) ≡ Some 0 → Misses key ss) [
      | true ↦ λ t p. misses-as s.key key ss (is-at s.key key t) h.2
      | false ↦ λ t p. absurd (later (place_of ss key) p)
    ]) refl p
misses-place name b key (s ∷ ss) (suc i) h p =
    (elim (s.key == key) as (λ t. (s.key == key) ≡ t → cond t (Some 0) (option_map suc (place_of ss key)) ≡ Some (suc i) →
    ((s.key == key) ≡ false) × Misses key (remove ss i)) [
      | true ↦ λ t p. absurd (first-not p)
      | false ↦ λ t p. (t, misses-place name b key ss i h.3 (before (place_of ss key) i p))
    ]) refl p

pub gone-out : (t now : Chains) (key place : ℕ) → IsIndex t → place_of (get_or t.buckets.items (bucket_no key) []) key ≡ Some place →
    now.buckets.items ≡ set t.buckets.items (bucket_no key) (remove (get_or t.buckets.items (bucket_no key) []) place) →
    Misses key (get_or now.buckets.items (bucket_no key) [])
gone-out t now key place x there buckets =
    let within : bucket_no key < length t.buckets.items = let k = bucket-below key in omega (arith, k, x.long) in
    subst (Misses key) (sym (ap (λ (bs : List (List Slot)). get_or bs (bucket_no key) []) buckets
    ∙ get_or-set_same t.buckets.items (bucket_no key) (remove (get_or t.buckets.items (bucket_no key) []) place) [] within))
    (misses-place t.name (bucket_no key) key (get_or t.buckets.items (bucket_no key) []) place (x.keys (bucket_no key)) there)
