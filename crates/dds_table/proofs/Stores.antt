-- The tables of a store.
use Rattle.std.proofs.Common.{ℕ, zero, suc, ◌≡◌, ◌+◌, ◌<◌, ◌≤◌, cond, Bool, true, false, List, [], ◌∷◌, ◌++◌, length, get_or, set, Option}
use Rattle.std.proofs.Common.{Some, None, refl, sym, ap, subst, ◌∙◌, arith}
use Rattle.std.proofs.Math.ListN.{length-set}
use Rattle.std.proofs.Common.{length-append}
use Rattle.std.specs.List.{remove}
use Rattle.std.specs.Option.{option_map}
use Rattle.std.proofs.lemmas.Bool.Decides.{nat_tests}
use Rattle.std.specs.FinMap.{empty, contains_key, len}
use Rattle.dds_disk.specs.Pages.{Pages, page_at}
use Rattle.dds_base.specs.Name.{Name, same_name}
use Rattle.dds_chains.specs.Content.{Map, content}
use Rattle.dds_base.specs.Place.{bucket as bucket_no}
use Rattle.dds_chains.specs.Index.{vacant, table_uses, tables_use, IsIndex, IsTable}
use Rattle.dds_chains.specs.Answers.{Changed, Made, KeepsUsed}
use Rattle.dds_table.specs.Store.{Named, named, names, maps_of, place_named, map_named, with_map, without_table, AllIndex, AllTables, IsStore, Unless, Holds}
use Rattle.dds_chains.specs.declared.table.Chains.{Chains}
use Rattle.dds_chains.proofs.Releasing.{uses-push}
use Rattle.dds_chains.proofs.Uses.{same-self, bucket-within}
use Rattle.dds_chains.proofs.Chains.{Kept, chain-kept, found-kept}
use Rattle.dds_chains.proofs.Contents.{content-found, content-len}
use Rattle.dds_chains.proofs.Adding.{same-content}
use Rattle.dds_chains.proofs.Slots.{later, before, first-not}

pub unless-false : (b : Bool) (P : Type 0) → b ≡ false → Unless b P → P
unless-false true P e u = cc
unless-false false P e u = u

-- a table whose pages didn't change
pub table-kept : (a b : Pages) (t : Chains) → IsTable a t → Kept a b (λ n. table_uses n t) → IsTable b t
table-kept a b t h k = record {
  root = let s = same-self t.root in k t.root (omega (arith, s)) ∙ h.root;
  chains = λ i. chain-kept a b (get_or t.buckets.items i []) (h.chains i) (λ n used. k n (let w = bucket-within n t.buckets.items i in omega (arith, w, used)));
  len = h.len;
}

pub content-kept : (a b : Pages) (t : Chains) → IsIndex t → IsTable a t → Kept a b (λ n. table_uses n t) → content b t.root ≡ content a t.root
content-kept a b t x h k = same-content _ _ (λ q.
    content-found b t q x (table-kept a b t h k)
    ∙ found-kept a b (get_or t.buckets.items (bucket_no q) []) q (h.chains (bucket_no q))
    (λ n used. k n (let w = bucket-within n t.buckets.items (bucket_no q) in omega (arith, w, used)))
    ∙ sym (content-found a t q x h))

pub index-at : (tables : List Chains) (i : ℕ) (t : Chains) → AllIndex tables → i < length tables → t ≡ get_or tables i t → IsIndex t
index-at [] i t h below e = absurd (omega arith)
index-at (x ∷ xs) zero t h below e = subst IsIndex (sym e) h.0
index-at (x ∷ xs) (suc i) t h below e = index-at xs i t h.1 (omega arith) e

pub table-at : (a : Pages) (tables : List Chains) (i : ℕ) (t : Chains) → AllTables a tables → i < length tables → t ≡ get_or tables i t → IsTable a t
table-at a [] i t h below e = absurd (omega arith)
table-at a (x ∷ xs) zero t h below e = subst (IsTable a) (sym e) h.0
table-at a (x ∷ xs) (suc i) t h below e = table-at a xs i t h.1 (omega arith) e

pub uses-at : (n : ℕ) (tables : List Chains) (i : ℕ) (t : Chains) → i < length tables → t ≡ get_or tables i t → table_uses n t ≤ tables_use n tables
uses-at n [] i t below e = absurd (omega arith)
uses-at n (x ∷ xs) zero t below e = let k = ap (table_uses n) e in omega arith
uses-at n (x ∷ xs) (suc i) t below e = let k = uses-at n xs i t (omega arith) e in omega arith

pub uses-set : (n : ℕ) (tables : List Chains) (i : ℕ) (t now : Chains) → i < length tables → t ≡ get_or tables i t →
    tables_use n (set tables i now) + table_uses n t ≡ tables_use n tables + table_uses n now
uses-set n [] i t now below e = absurd (omega arith)
uses-set n (x ∷ xs) zero t now below e = let k = ap (table_uses n) e in omega arith
uses-set n (x ∷ xs) (suc i) t now below e = let k = uses-set n xs i t now (omega arith) e in omega arith

pub index-set : (tables : List Chains) (i : ℕ) (now : Chains) → AllIndex tables → IsIndex now → AllIndex (set tables i now)
index-set [] i now h x = tt
index-set (y ∷ ys) zero now h x = (x, h.1)
index-set (y ∷ ys) (suc i) now h x = (h.0, index-set ys i now h.1 x)

-- tables whose pages didn't change
pub all-kept : (a b : Pages) (tables : List Chains) → AllIndex tables → AllTables a tables → Kept a b (λ n. tables_use n tables) →
    AllTables b tables × (maps_of b (named tables) ≡ maps_of a (named tables))
all-kept a b [] x h k = (tt, refl)
all-kept a b (t ∷ ts) x h k =
    let kt : Kept a b (λ n. table_uses n t) = λ n used. k n (omega arith) in
    let r = all-kept a b ts x.1 h.1 (λ n used. k n (omega arith)) in
    let c = content-kept a b t x.0 h.0 kt in
    ((table-kept a b t h.0 kt, r.0), λ i. (t.name, c i) ∷ r.1 i)

names-are : (a b : Name) → same_name a b ≡ true → (a.bits ≡ b.bits) × (a.depth ≡ b.depth)
names-are a b h = (grind (arith, nat_tests), grind (arith, nat_tests))

pub is-name : (a b : Name) → same_name a b ≡ true → a ≡ b
is-name a b h = let e = names-are a b h in λ i. record { bits = e.0 i; depth = e.1 i }

-- the table of a name, and its map
pub name-at : (tables : List Chains) (name : Name) (i : ℕ) (t : Chains) → place_named (named tables) name ≡ Some i → t ≡ get_or tables i t → t.name ≡ name
name-at [] name i t h e = cc
name-at (x ∷ xs) name zero t h e = (elim (same_name x.name name) as (λ u. same_name x.name name ≡ u →
    cond u (Some 0) (option_map suc (place_named (named xs) name)) ≡ Some 0 → t.name ≡ name) [
      | true ↦ λ u h. ap (λ (y : Chains). y.name) e ∙ is-name x.name name u
      | false ↦ λ u h. absurd (later (place_named (named xs) name) h)
    ]) refl h
name-at (x ∷ xs) name (suc i) t h e = (elim (same_name x.name name) as (λ u. same_name x.name name ≡ u →
    cond u (Some 0) (option_map suc (place_named (named xs) name)) ≡ Some (suc i) → t.name ≡ name) [
      | true ↦ λ u h. absurd (first-not h)
      | false ↦ λ u h. name-at xs name i t (before (place_named (named xs) name) i h) e
    ]) refl h

pub map-at : (a : Pages) (tables : List Chains) (name : Name) (i : ℕ) (t : Chains) → place_named (named tables) name ≡ Some i → t ≡ get_or tables i t →
    map_named (maps_of a (named tables)) name ≡ content a t.root
map-at a [] name i t h e = cc
map-at a (x ∷ xs) name zero t h e = (elim (same_name x.name name) as (λ u. same_name x.name name ≡ u →
    cond u (Some 0) (option_map suc (place_named (named xs) name)) ≡ Some 0 →
    cond u (content a x.root) (map_named (maps_of a (named xs)) name) ≡ content a t.root) [
      | true ↦ λ u h. ap (λ (y : Chains). content a y.root) (sym e)
      | false ↦ λ u h. absurd (later (place_named (named xs) name) h)
    ]) refl h
map-at a (x ∷ xs) name (suc i) t h e = (elim (same_name x.name name) as (λ u. same_name x.name name ≡ u →
    cond u (Some 0) (option_map suc (place_named (named xs) name)) ≡ Some (suc i) →
    cond u (content a x.root) (map_named (maps_of a (named xs)) name) ≡ content a t.root) [
      | true ↦ λ u h. absurd (first-not h)
      | false ↦ λ u h. map-at a xs name i t (before (place_named (named xs) name) i h) e
    ]) refl h

-- one table was changed, and no page of the others
record SetAt (a b : Pages) (tables : List Chains) (name : Name) (i : ℕ) (now : Chains) (m : Map) : Type 0 where
  pub all : AllTables b (set tables i now)
  pub maps : maps_of b (named (set tables i now)) ≡ with_map (maps_of a (named tables)) name m

set-at : (a b : Pages) (free : List ℕ) (fresh : ℕ) (tables : List Chains) (name : Name) (i : ℕ) (t now : Chains) (m : Map) → AllIndex tables →
    AllTables a tables → i < length tables → t ≡ get_or tables i t → place_named (named tables) name ≡ Some i → now.name ≡ t.name → IsTable b now →
    content b now.root ≡ m →
    ((n : ℕ) → vacant n free fresh + tables_use n tables ≤ 1) → ((n : ℕ) → vacant n free fresh ≡ 0 → table_uses n t ≡ 0 → page_at b n ≡ page_at a n) →
    SetAt a b tables name i now m
set-at a b free fresh [] name i t now m x h below e p nm tab c single kept = absurd (omega arith)
set-at a b free fresh (y ∷ ys) name zero t now m x h below e p nm tab c single kept =
    let r = all-kept a b ys x.1 h.1 (λ n used. kept n (omega (arith, single n, used)) (let k = ap (table_uses n) e in omega (arith, k, single n, used))) in
    record {
      all = (tab, r.0);
      maps = (elim (same_name y.name name) as (λ u. same_name y.name name ≡ u → cond u (Some 0) (option_map suc (place_named (named ys) name)) ≡ Some 0 →
          (now.name, content b now.root) ∷ maps_of b (named ys)
          ≡ cond u ((y.name, m) ∷ maps_of a (named ys)) ((y.name, content a y.root) ∷ with_map (maps_of a (named ys)) name m)) [
            | true ↦ λ u p. let same_names : now.name ≡ y.name = nm ∙ ap (λ (z : Chains). z.name) e in λ j. (same_names j, c j) ∷ r.1 j
            | false ↦ λ u p. absurd (later (place_named (named ys) name) p)
          ]) refl p;
    }
set-at a b free fresh (y ∷ ys) name (suc i) t now m x h below e p nm tab c single kept =
    let used_t : (n : ℕ) → table_uses n t ≤ tables_use n ys = λ n. uses-at n ys i t (omega arith) e in
    let ky : Kept a b (λ n. table_uses n y) = λ n used. kept n (omega (arith, single n, used)) (let k = used_t n in omega (arith, k, single n, used)) in
    let cy = content-kept a b y x.0 h.0 ky in
    (elim (same_name y.name name) as (λ u. same_name y.name name ≡ u → cond u (Some 0) (option_map suc (place_named (named ys) name)) ≡ Some (suc i) →
    SetAt a b (y ∷ ys) name (suc i) now m) [
      | true ↦ λ u p. absurd (first-not p)
      | false ↦ λ u p.
          let r = set-at a b free fresh ys name i t now m x.1 h.1 (omega arith) e (before (place_named (named ys) name) i p) nm tab c
          (λ n. omega (arith, single n)) kept in
          record {
            all = (table-kept a b y h.0 ky, r.all);
            maps = (λ j. (y.name, cy j) ∷ r.maps j) ∙
                sym (ap (λ (v : Bool). cond v ((y.name, m) ∷ maps_of a (named ys)) ((y.name, content a y.root) ∷ with_map (maps_of a (named ys)) name m)) u);
          }
    ]) refl p

pub same-pages : (o : Option Pages) (x y : Pages) → o ≡ Some x → o ≡ Some y → x ≡ y
same-pages o x y e f = cc

none-some : (o : Option Pages) (b : Pages) → o ≡ None → o ≡ Some b → ⊥
none-some o b e f = cc

pub told-back : (o now : Option Pages) → (o ≡ None → now ≡ None) → (b : Pages) → now ≡ Some b → (a : Pages) × (o ≡ Some a)
told-back None now h b is = let e = h refl in absurd (none-some now b e is)
told-back (Some a) now h b is = (a, refl)

-- and it is a store
pub store-after : {dropped : List Chains} {room : ℕ} (told0 told1 : Option Pages) (free0 free1 : List ℕ) (fresh0 fresh1 : ℕ) (tables new : List Chains)
    (name : Name) (i : ℕ) (t now : Chains) (change : Pages → Map) → IsStore told0 free0 fresh0 tables dropped room → i < length tables →
    t ≡ get_or tables i t → place_named (named tables) name ≡ Some i → new ≡ set tables i now → now.name ≡ t.name → IsIndex now →
    ((n : ℕ) → vacant n free1 fresh1 + table_uses n now ≡ vacant n free0 fresh0 + table_uses n t) →
    ((a : Pages) → told0 ≡ Some a → IsTable a t → Changed a free0 fresh0 t told1 now (change a)) → (told0 ≡ None → told1 ≡ None) →
    IsStore told1 free1 fresh1 new dropped room
store-after told0 told1 free0 free1 fresh0 fresh1 tables new name i t now change s below e p n nm x number changed back = record {
  room = let l : length (set tables i now) ≡ length tables = length-set {A = Chains} _ _ _ in let k = ap length n in omega (arith, l, k, s.room);
  balance = λ q. let u = uses-set q tables i t now below e in let k = s.balance q in
      let m : tables_use q new ≡ tables_use q (set tables i now) = ap (tables_use q) n in omega (arith, u, k, number q, m);
  index = subst AllIndex (sym n) (index-set tables i now s.index x);
  stored = λ b is.
      let o = told-back told0 told1 back b is in
      let h = s.stored o.0 o.1 in
      let w = changed o.0 o.1 (table-at o.0 tables i t h below e) in
      let r = set-at o.0 w.b free0 fresh0 tables name i t now (change o.0) s.index h below e p nm w.table w.binds (λ q. let k = s.balance q in
      omega (arith, k)) w.kept in
      subst (λ (z : Pages). AllTables z new) (same-pages told1 w.b b w.is_told is) (subst (AllTables w.b) (sym n) r.all);
}

pub changed-named : (a : Pages) (free : List ℕ) (fresh : ℕ) (t : Chains) (told : Option Pages) (now : Chains) (tables : List Chains) (name : Name) (i : ℕ)
    (f : Map → Map) → place_named (named tables) name ≡ Some i → t ≡ get_or tables i t → Changed a free fresh t told now (f (content a t.root)) →
    Changed a free fresh t told now (f (map_named (maps_of a (named tables)) name))
changed-named a free fresh t told now tables name i f p e w = subst (λ (m : Map). Changed a free fresh t told now (f m)) (sym (map-at a tables name i t p e)) w

pub room-named : (a : Pages) (tables : List Chains) (name : Name) (i : ℕ) (t : Chains) (key : ℕ) → place_named (named tables) name ≡ Some i →
    t ≡ get_or tables i t → IsIndex t → IsTable a t →
    (contains_key (map_named (maps_of a (named tables)) name) key ≡ false → len (map_named (maps_of a (named tables)) name) < 16384) →
    contains_key (content a t.root) key ≡ false → t.len < 16384
room-named a tables name i t key p e x tab room new =
    let m = map-at a tables name i t p e in
    let r : len (map_named (maps_of a (named tables)) name) < 16384 = room (ap (λ (m : Map). contains_key m key) m ∙ new) in
    let l = content-len a t x tab in
    let k : len (map_named (maps_of a (named tables)) name) ≡ len (content a t.root) = ap (λ (m : Map). len m) m in
    omega (arith, r, l, k)

-- the store's pages after one table was changed
pub holds-after : {dropped : List Chains} {room : ℕ} (told0 told1 : Option Pages) (free0 free1 : List ℕ) (fresh0 fresh1 : ℕ) (tables : List Chains)
    (name : Name) (i : ℕ) (t now : Chains) (m : Map) → IsStore told0 free0 fresh0 tables dropped room → i < length tables → t ≡ get_or tables i t →
    place_named (named tables) name ≡ Some i → now.name ≡ t.name →
    (a : Pages) → told0 ≡ Some a → Changed a free0 fresh0 t told1 now m → Holds told1 (named (set tables i now)) (with_map (maps_of a (named tables)) name m)
holds-after told0 told1 free0 free1 fresh0 fresh1 tables name i t now m s below e p nm a is w =
    let r = set-at a w.b free0 fresh0 tables name i t now m s.index (s.stored a is) below e p nm w.table w.binds (λ q. let k = s.balance q in
    omega (arith, k)) w.kept in
    record { pages = w.b; is_told = w.is_told; are = r.maps }

-- a table was added behind the others
names-push : (tables : List Chains) (t : Chains) → named (tables ++ t ∷ []) ≡ named tables ++ (t.name, t.root) ∷ []
names-push [] t = refl
names-push (x ∷ xs) t = ap (λ (ns : List Named). (x.name, x.root) ∷ ns) (names-push xs t)

maps-push : (a : Pages) (ns : List Named) (n : Named) → maps_of a (ns ++ n ∷ []) ≡ maps_of a ns ++ (n.0, content a n.1) ∷ []
maps-push a [] n = refl
maps-push a (x ∷ xs) n = ap (λ (ms : List (Name × Map)). (x.0, content a x.1) ∷ ms) (maps-push a xs n)

index-push : (tables : List Chains) (t : Chains) → AllIndex tables → IsIndex t → AllIndex (tables ++ t ∷ [])
index-push [] t h x = (x, tt)
index-push (y ∷ ys) t h x = (h.0, index-push ys t h.1 x)

all-push : (a : Pages) (tables : List Chains) (t : Chains) → AllTables a tables → IsTable a t → AllTables a (tables ++ t ∷ [])
all-push a [] t h x = (x, tt)
all-push a (y ∷ ys) t h x = (h.0, all-push a ys t h.1 x)

kept-made : {dropped : List Chains} {room : ℕ} (a b : Pages) (told : Option Pages) (free : List ℕ) (fresh : ℕ) (tables : List Chains) →
    IsStore told free fresh tables dropped room → KeepsUsed a b free fresh → Kept a b (λ n. tables_use n tables)
kept-made a b told free fresh tables s k = λ n used. k n (let q = s.balance n in omega (arith, q, used))

pub store-made : {dropped : List Chains} {room0 : ℕ} (room : ℕ) (told0 told1 : Option Pages) (free0 free1 : List ℕ) (fresh0 fresh1 : ℕ)
    (tables new : List Chains) (t : Chains) → IsStore told0 free0 fresh0 tables dropped room0 → new ≡ tables ++ t ∷ [] → IsIndex t →
    ((n : ℕ) → vacant n free1 fresh1 + table_uses n t ≡ vacant n free0 fresh0) →
    ((a : Pages) → told0 ≡ Some a → Made a free0 fresh0 told1 t) → (told0 ≡ None → told1 ≡ None) → length tables + 1 + length dropped ≤ room →
    IsStore told1 free1 fresh1 new dropped room
store-made room told0 told1 free0 free1 fresh0 fresh1 tables new t s e x number made hidden fits = record {
  room = let l = ap length e in let k = length-append tables (t ∷ []) in omega (arith, l, k, fits);
  balance = λ n. let u = uses-push n tables t in let k = s.balance n in let m = ap (tables_use n) e in omega (arith, u, k, number n, m);
  index = subst AllIndex (sym e) (index-push tables t s.index x);
  stored = λ b is.
      let o = told-back told0 told1 hidden b is in
      let w = made o.0 o.1 in
      let r = all-kept o.0 w.b tables s.index (s.stored o.0 o.1) (kept-made o.0 w.b told0 free0 fresh0 tables s w.kept) in
      subst (λ (z : Pages). AllTables z new) (same-pages told1 w.b b w.is_told is) (subst (AllTables w.b) (sym e) (all-push w.b tables t r.0 w.table));
}

pub holds-made : {dropped : List Chains} {room : ℕ} (told0 told1 : Option Pages) (free0 : List ℕ) (fresh0 : ℕ) (tables new : List Chains) (t : Chains)
    (name : Name) → IsStore told0 free0 fresh0 tables dropped room → new ≡ tables ++ t ∷ [] → t.name ≡ name → (a : Pages) → told0 ≡ Some a →
    Made a free0 fresh0 told1 t → Holds told1 (named new) (maps_of a (named tables) ++ (name, empty) ∷ [])
holds-made told0 told1 free0 fresh0 tables new t name s e nm a is w =
    let r = all-kept a w.b tables s.index (s.stored a is) (kept-made a w.b told0 free0 fresh0 tables s w.kept) in
    record {
      pages = w.b;
      is_told = w.is_told;
      are = ap (λ (ts : List Chains). maps_of w.b (named ts)) e ∙ ap (maps_of w.b) (names-push tables t) ∙ maps-push w.b (named tables) (t.name, t.root)
          ∙ (λ j. r.1 j ++ (nm j, w.binds j) ∷ []);
    }

pub named-set : (tables : List Chains) (i : ℕ) (t now : Chains) → i < length tables → t ≡ get_or tables i t → now.name ≡ t.name → now.root ≡ t.root →
    named (set tables i now) ≡ named tables
named-set [] i t now below e nm r = absurd (omega arith)
named-set (x ∷ xs) zero t now below e nm r =
    let n : now.name ≡ x.name = nm ∙ ap (λ (z : Chains). z.name) e in
    let k : now.root ≡ x.root = r ∙ ap (λ (z : Chains). z.root) e in
    λ j. (n j, k j) ∷ named xs
named-set (x ∷ xs) (suc i) t now below e nm r = ap (λ (ns : List Named). (x.name, x.root) ∷ ns) (named-set xs i t now (omega arith) e nm r)

names-all : (tables : List Chains) (t : Chains) → names (named (tables ++ t ∷ [])) ≡ names (named tables) ++ t.name ∷ []
names-all [] t = refl
names-all (x ∷ xs) t = ap (λ (ns : List Name). x.name ∷ ns) (names-all xs t)

pub names-more : (tables new : List Chains) (t : Chains) (name : Name) → new ≡ tables ++ t ∷ [] → t.name ≡ name →
    names (named new) ≡ names (named tables) ++ name ∷ []
names-more tables new t name e nm = ap (λ (ts : List Chains). names (named ts)) e ∙ names-all tables t ∙ ap (λ (n : Name). names (named tables) ++ n ∷ []) nm

-- a dropped table's pages were taken back
pub store-reclaimed : {told0 : Option Pages} {free0 : List ℕ} {fresh0 : ℕ} {tables dropped : List Chains} {room : ℕ} (told : Option Pages) (free : List ℕ)
    (fresh : ℕ) (now : List Chains) (room_now : ℕ) → IsStore told0 free0 fresh0 tables dropped room → told ≡ told0 →
    ((n : ℕ) → vacant n free fresh + tables_use n now ≡ vacant n free0 fresh0 + tables_use n dropped) → length now ≤ length dropped → room ≤ room_now →
    IsStore told free fresh tables now room_now
store-reclaimed told free fresh now room_now s e number shorter roomy = record {
  balance = λ n. let k = s.balance n in omega (arith, k, number n);
  index = s.index;
  stored = λ a is. s.stored a (sym e ∙ is);
  room = omega (arith, s.room, shorter, roomy);
}

-- a table was dropped
uses-out : (n : ℕ) (tables : List Chains) (i : ℕ) (t : Chains) → i < length tables → t ≡ get_or tables i t →
    tables_use n (remove tables i) + table_uses n t ≡ tables_use n tables
uses-out n [] i t below e = absurd (omega arith)
uses-out n (x ∷ xs) zero t below e = let k = ap (table_uses n) e in omega arith
uses-out n (x ∷ xs) (suc i) t below e = let k = uses-out n xs i t (omega arith) e in omega arith

length-less : (tables : List Chains) (i : ℕ) → i < length tables → length (remove tables i) + 1 ≡ length tables
length-less [] i below = absurd (omega arith)
length-less (x ∷ xs) zero below = omega arith
length-less (x ∷ xs) (suc i) below = let r = length-less xs i (omega arith) in omega arith

index-less : (tables : List Chains) (i : ℕ) → AllIndex tables → AllIndex (remove tables i)
index-less [] zero h = tt
index-less [] (suc i) h = tt
index-less (x ∷ xs) zero h = h.1
index-less (x ∷ xs) (suc i) h = (h.0, index-less xs i h.1)

tables-less : (a : Pages) (tables : List Chains) (i : ℕ) → AllTables a tables → AllTables a (remove tables i)
tables-less a [] zero h = tt
tables-less a [] (suc i) h = tt
tables-less a (x ∷ xs) zero h = h.1
tables-less a (x ∷ xs) (suc i) h = (h.0, tables-less a xs i h.1)

pub store-dropped : {told : Option Pages} {free : List ℕ} {fresh : ℕ} {tables dropped : List Chains} {room : ℕ} (i : ℕ) (t : Chains) (new now : List Chains)
    (room_now : ℕ) → IsStore told free fresh tables dropped room → i < length tables → t ≡ get_or tables i t → new ≡ remove tables i →
    now ≡ dropped ++ t ∷ [] → room ≤ room_now → IsStore told free fresh new now room_now
store-dropped {tables = tables} {dropped = dropped} i t new now room_now s below e n m roomy = record {
  balance = λ q. let k = s.balance q in let u = uses-out q tables i t below e in let v = uses-push q dropped t in let x = ap (tables_use q) n in
      let y = ap (tables_use q) m in omega (arith, k, u, v, x, y);
  index = subst AllIndex (sym n) (index-less tables i s.index);
  stored = λ a is. subst (AllTables a) (sym n) (tables-less a tables i (s.stored a is));
  room = let l = length-less tables i below in let x = ap length n in let y = ap length m in let z = length-append dropped (t ∷ []) in
      omega (arith, l, x, y, z, s.room, roomy);
}

pub named-less : (tables : List Chains) (name : Name) (i : ℕ) → place_named (named tables) name ≡ Some i →
    named (remove tables i) ≡ without_table (named tables) name
named-less [] name i h = cc
named-less (x ∷ xs) name zero h = (elim (same_name x.name name) as (λ u. same_name x.name name ≡ u →
    cond u (Some 0) (option_map suc (place_named (named xs) name)) ≡ Some 0 →
    named xs ≡ cond u (named xs) ((x.name, x.root) ∷ without_table (named xs) name)) [
      | true ↦ λ u h. refl
      | false ↦ λ u h. absurd (later (place_named (named xs) name) h)
    ]) refl h
named-less (x ∷ xs) name (suc i) h = (elim (same_name x.name name) as (λ u. same_name x.name name ≡ u →
    cond u (Some 0) (option_map suc (place_named (named xs) name)) ≡ Some (suc i) →
    (x.name, x.root) ∷ named (remove xs i) ≡ cond u (named xs) ((x.name, x.root) ∷ without_table (named xs) name)) [
      | true ↦ λ u h. absurd (first-not h)
      | false ↦ λ u h. ap (λ (ns : List Named). (x.name, x.root) ∷ ns) (named-less xs name i (before (place_named (named xs) name) i h))
    ]) refl h

pub unless : (b : Bool) (P : Type 0) → P → Unless b P
unless true P h = tt
unless false P h = h
