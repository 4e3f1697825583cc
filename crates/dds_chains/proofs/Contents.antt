-- The content of a table's pages.
use Rattle.std.proofs.Common.{ℕ, zero, suc, ◌≡◌, ◌≢◌, ◌+◌, ◌<◌, ◌≤◌, ◌==◌, cond, Bool, true, false, List, [], ◌∷◌, ◌++◌, length, map}
use Rattle.std.proofs.Common.{get_or, Option, Some, None, is_some, refl, sym, ap, subst, ◌∙◌, arith}
use Rattle.std.specs.List.{flat_map}
use Rattle.std.specs.Ordering.{nat_cmp}
use Rattle.std.specs.Cmp.{nat_cmp_total}
use Rattle.std.specs.FinMap.{find, get, insert, len, len-insert, len-empty, from_entries, get-from_entries}
use Rattle.std.proofs.lemmas.List.{length-map}
use Rattle.std.proofs.lemmas.Bool.Decides.{nat_tests}
use Rattle.dds_disk.specs.Pages.{Pages, page_at}
use Rattle.dds_disk.proofs.Pages.{alike}
use Rattle.dds_base.specs.Name.{Name}
use Rattle.dds_pages.specs.Root.{Root}
use Rattle.dds_chains.specs.Content.{firsts_in, chain_pairs, content}
use Rattle.dds_pages.specs.Said.{root_in}
use Rattle.dds_base.specs.Place.{bucket as bucket_no}
use Rattle.dds_chains.specs.Index.{first_page, IsChain, found, AreKeysOf, total, IsIndex, IsTable, Misses, slot_value}
use Rattle.dds_chains.specs.declared.table.Slot.{Slot}
use Rattle.dds_chains.specs.declared.table.Chains.{Chains}
use Rattle.dds_pages.proofs.ReadBack.{AreSmall, root-back}
use Rattle.dds_chains.proofs.Chains.{slot_pairs, chain-pairs, first-page-small}

abbrev or_later : Option (List ℕ) → Option (List ℕ) → Option (List ℕ)
or_later None later = later
or_later (Some v) later = Some v

pub find-behind : (a : Pages) (slots : List Slot) (rest : List (ℕ × List ℕ)) (q : ℕ) →
    find nat_cmp q (slot_pairs a slots ++ rest) ≡ or_later (found a slots q) (find nat_cmp q rest)
find-behind a [] rest q = refl
find-behind a (s ∷ ss) rest q =
    let r = find-behind a ss rest q in
    ap (λ (t : Bool). cond t (Some (slot_value a s)) (find nat_cmp q (slot_pairs a ss ++ rest))) (alike q s.key)
    ∙ elim (s.key == q) as (λ t. cond t (Some (slot_value a s)) (find nat_cmp q (slot_pairs a ss ++ rest))
    ≡ or_later (cond t (Some (slot_value a s)) (found a ss q)) (find nat_cmp q rest)) [ true ↦ refl | false ↦ r ]

other-key : (k q : ℕ) → k ≢ q → (k == q) ≡ false
other-key k q h = grind (arith, nat_tests)

found-other : (a : Pages) (name : Name) (b : ℕ) (slots : List Slot) (q : ℕ) → AreKeysOf name b slots → bucket_no q ≢ b → found a slots q ≡ None
found-other a name b [] q h d = refl
found-other a name b (s ∷ ss) q h d =
    let t = other-key s.key q (λ e. d (ap bucket_no (sym e) ∙ h.0)) in
    ap (λ (t : Bool). cond t (Some (slot_value a s)) (found a ss q)) t ∙ found-other a name b ss q h.3 d

pub rest-misses : (a : Pages) (name : Name) (o : ℕ) (buckets : List (List Slot)) (q : ℕ) → ((b : ℕ) → AreKeysOf name (o + b) (get_or buckets b [])) →
    bucket_no q < o → find nat_cmp q (flat_map (slot_pairs a) buckets) ≡ None
rest-misses a name o [] q h d = refl
rest-misses a name o (ss ∷ rest) q h d =
    let f = found-other a name (o + 0) ss q (h 0) (omega arith) in
    let r = rest-misses a name (o + 1) rest q (λ b. subst (λ (n : ℕ). AreKeysOf name n (get_or rest b [])) (omega arith) (h (suc b))) (omega arith) in
    find-behind a ss (flat_map (slot_pairs a) rest) q ∙ rw f r

pub find-in : (a : Pages) (name : Name) (o : ℕ) (buckets : List (List Slot)) (q i : ℕ) → ((b : ℕ) → AreKeysOf name (o + b) (get_or buckets b [])) →
    bucket_no q ≡ o + i → find nat_cmp q (flat_map (slot_pairs a) buckets) ≡ found a (get_or buckets i []) q
find-in a name o [] q i h e = refl
find-in a name o (ss ∷ rest) q zero h e =
    let r = rest-misses a name (o + 1) rest q (λ b. subst (λ (n : ℕ). AreKeysOf name n (get_or rest b [])) (omega arith) (h (suc b))) (omega arith) in
    find-behind a ss (flat_map (slot_pairs a) rest) q ∙ rw r (elim (found a ss q) as (λ x. or_later x None ≡ x) [ None ↦ refl | Some v ↦ refl ])
find-in a name o (ss ∷ rest) q (suc i) h e =
    let f = found-other a name (o + 0) ss q (h 0) (omega arith) in
    let r = find-in a name (o + 1) rest q i (λ b. subst (λ (n : ℕ). AreKeysOf name n (get_or rest b [])) (omega arith) (h (suc b))) (omega arith) in
    find-behind a ss (flat_map (slot_pairs a) rest) q ∙ rw f r

pub all-pairs : (a : Pages) (buckets : List (List Slot)) (k : ℕ) → ((b : ℕ) → IsChain a (get_or buckets b [])) → total buckets ≤ k →
    flat_map (chain_pairs k a) (map first_page buckets) ≡ flat_map (slot_pairs a) buckets
all-pairs a [] k h l = refl
all-pairs a (ss ∷ rest) k h l =
    let c = chain-pairs a ss k (h 0) (omega arith) in
    let r = all-pairs a rest k (λ b. h (suc b)) (omega arith) in
    λ i. c i ++ r i

pub firsts-small : (a : Pages) (buckets : List (List Slot)) → ((b : ℕ) → IsChain a (get_or buckets b [])) → AreSmall (map first_page buckets)
firsts-small a [] h = tt
firsts-small a (ss ∷ rest) h = (first-page-small a ss (h 0), firsts-small a rest (λ b. h (suc b)))

-- what a table's pages bind a key to
pub content-found : (a : Pages) (table : Chains) (q : ℕ) → IsIndex table → IsTable a table →
    get (content a table.root) q ≡ found a (get_or table.buckets.items (bucket_no q) []) q
unfolding content
content-found a table q x t =
    let firsts : List ℕ = map first_page table.buckets.items in
    let l : length (map first_page table.buckets.items) ≡ 256 = length-map table.buckets.items first_page ∙ x.long in
    let back = root-back (map first_page table.buckets.items) table.len x.few l (firsts-small a table.buckets.items t.chains) in
    let root : root_in (page_at a table.root) ≡ Some (record { pairs = table.len; firsts = map first_page table.buckets.items }) = ap root_in t.root ∙ back in
    let pairs = all-pairs a table.buckets.items 16384 t.chains (omega (arith, x.few, t.len)) in
    ap (λ (r : Option Root). get (from_entries {R = nat_cmp} (flat_map (chain_pairs 16384 a) (firsts_in r))) q) root
    ∙ ap (λ (es : List (ℕ × List ℕ)). get (from_entries {R = nat_cmp} es) q) pairs
    ∙ get-from_entries nat_cmp_total (flat_map (slot_pairs a) table.buckets.items) q
    ∙ find-in a table.name 0 table.buckets.items q (bucket_no q)
    (λ b. subst (λ (n : ℕ). AreKeysOf table.name n (get_or table.buckets.items b [])) (omega arith) (x.keys b)) (omega arith)

misses-all : (a : Pages) (key : ℕ) (slots : List Slot) → Misses key slots → found a slots key ≡ None
misses-all a key [] h = refl
misses-all a key (s ∷ ss) h = ap (λ (u : Bool). cond u (Some (slot_value a s)) (found a ss key)) h.0 ∙ misses-all a key ss h.1

-- how many pairs a table's pages have
len-chain : (a : Pages) (name : Name) (b : ℕ) (slots : List Slot) (rest : List (ℕ × List ℕ)) → AreKeysOf name b slots →
    ((q : ℕ) → bucket_no q ≡ b → find nat_cmp q rest ≡ None) →
    len (from_entries {R = nat_cmp} (slot_pairs a slots ++ rest)) ≡ length slots + len (from_entries {R = nat_cmp} rest)
len-chain a name b [] rest h r = omega arith
len-chain a name b (s ∷ ss) rest h r =
    let i = len-chain a name b ss rest h.3 r in
    let none : get (from_entries {R = nat_cmp} (slot_pairs a ss ++ rest)) s.key ≡ None =
    get-from_entries nat_cmp_total (slot_pairs a ss ++ rest) s.key ∙ find-behind a ss rest s.key
    ∙ ap (λ (o : Option (List ℕ)). or_later o (find nat_cmp s.key rest)) (misses-all a s.key ss h.2) ∙ r s.key h.0 in
    let l = len-insert nat_cmp_total (from_entries {R = nat_cmp} (slot_pairs a ss ++ rest)) s.key (slot_value a s) in
    let t : len (insert (from_entries {R = nat_cmp} (slot_pairs a ss ++ rest)) s.key (slot_value a s))
    ≡ len (from_entries {R = nat_cmp} (slot_pairs a ss ++ rest)) + 1 = l
    ∙ ap (λ (o : Option (List ℕ)). cond (is_some o) (len (from_entries {R = nat_cmp} (slot_pairs a ss ++ rest)))
    (len (from_entries {R = nat_cmp} (slot_pairs a ss ++ rest)) + 1)) none in
    omega (arith, t, i)

len-all : (a : Pages) (name : Name) (o : ℕ) (buckets : List (List Slot)) → ((b : ℕ) → AreKeysOf name (o + b) (get_or buckets b [])) →
    len (from_entries {R = nat_cmp} (flat_map (slot_pairs a) buckets)) ≡ total buckets
len-all a name o [] h = len-empty nat_cmp (List ℕ)
len-all a name o (ss ∷ rest) h =
    let later : (b : ℕ) → AreKeysOf name (o + 1 + b) (get_or rest b []) = λ b.
    subst (λ (n : ℕ). AreKeysOf name n (get_or rest b [])) (omega arith) (h (suc b)) in
    let r = len-all a name (o + 1) rest later in
    let c = len-chain a name (o + 0) ss (flat_map (slot_pairs a) rest) (h 0) (λ q e. rest-misses a name (o + 1) rest q later (omega arith)) in
    omega (arith, r, c)

pub content-len : (a : Pages) (table : Chains) → IsIndex table → IsTable a table → len (content a table.root) ≡ table.len
unfolding content
content-len a table x t =
    let firsts : List ℕ = map first_page table.buckets.items in
    let l : length (map first_page table.buckets.items) ≡ 256 = length-map table.buckets.items first_page ∙ x.long in
    let back = root-back (map first_page table.buckets.items) table.len x.few l (firsts-small a table.buckets.items t.chains) in
    let root : root_in (page_at a table.root) ≡ Some (record { pairs = table.len; firsts = map first_page table.buckets.items }) = ap root_in t.root ∙ back in
    let pairs = all-pairs a table.buckets.items 16384 t.chains (omega (arith, x.few, t.len)) in
    ap (λ (r : Option Root). len (from_entries {R = nat_cmp} (flat_map (chain_pairs 16384 a) (firsts_in r)))) root
    ∙ ap (λ (es : List (ℕ × List ℕ)). len (from_entries {R = nat_cmp} es)) pairs
    ∙ len-all a table.name 0 table.buckets.items (λ b. subst (λ (n : ℕ). AreKeysOf table.name n (get_or table.buckets.items b [])) (omega arith) (x.keys b))
    ∙ sym t.len
