-- A store while the pairs of an old table are put into an empty one.
use Rattle.std.proofs.Common.{ℕ, ◌≡◌, ◌+◌, ◌<◌, ◌≤◌, Bool, true, false, cond, List, [], ◌∷◌, ◌++◌, Option, Some, IsTrue, length, get_or}
use Rattle.std.proofs.Common.{take, suc, refl, sym, ap, ◌∙◌, subst, arith}
use Rattle.std.proofs.lemmas.Grind.{common_steps}
use Rattle.std.proofs.Math.Seq.{take-suc}
use Rattle.std.specs.Cmp.{nat_cmp_total}
use Rattle.std.specs.Ordering.{nat_cmp}
use Rattle.std.specs.FinMap.{empty, insert, contains_key, len, len-insert, len-empty, empty_of_len}
use Rattle.dds_disk.specs.Pages.{Pages}
use Rattle.dds_base.specs.Name.{Name}
use Rattle.dds_base.specs.declared.pair.Pair.{Pair}
use Rattle.dds_chains.specs.Content.{Map}
use Rattle.dds_table.specs.Store.{Named, has_table, maps_of, map_named, with_map, Holds}
use Rattle.dds_table.specs.Lift.{bind_all, map_of}
use Rattle.dds_table.proofs.NamedMaps.{has-maps, map-with, with-with, with-self}
use Rattle.dds_table.proofs.Stores.{same-pages}

bind-more : (m : Map) (xs : List Pair) (pair : Pair) → bind_all m (xs ++ pair ∷ []) ≡ insert (bind_all m xs) pair.key pair.value
bind-more m [] pair = refl
bind-more m (x ∷ xs) pair = bind-more (insert m x.key x.value) xs pair

take-next : (pairs : List Pair) (i : ℕ) (pair : Pair) → i < length pairs → pair ≡ get_or pairs i pair → take (i + 1) pairs ≡ take i pairs ++ pair ∷ []
take-next pairs i pair lt e =
    let one : i + 1 ≡ suc i = omega arith in
    ap (λ n. take n pairs) one ∙ take-suc pairs i pair lt ∙ ap (λ (p : Pair). take i pairs ++ p ∷ []) (sym e)

bind-next : (pairs : List Pair) (i : ℕ) (pair : Pair) → i < length pairs → pair ≡ get_or pairs i pair →
    map_of (take (i + 1) pairs) ≡ insert (map_of (take i pairs)) pair.key pair.value
bind-next pairs i pair lt e = ap map_of (take-next pairs i pair lt e) ∙ bind-more empty (take i pairs) pair

one-more : (b : Bool) (n k : ℕ) → n ≤ k → cond b n (n + 1) ≤ k + 1
one-more true n k h = omega (arith, h)
one-more false n k h = omega (arith, h)

bound-len : (m : Map) (k : ℕ) (xs : List Pair) → len m ≤ k → len (bind_all m xs) ≤ k + length xs
bound-len m k [] h = omega (arith, h)
bound-len m k (x ∷ xs) h =
    let more : len (insert m x.key x.value) ≤ k + 1 =
    subst (λ n. n ≤ k + 1) (sym (len-insert nat_cmp_total m x.key x.value)) (one-more (contains_key m x.key) (len m) k h) in
    let rest = bound-len (insert m x.key x.value) (k + 1) xs more in
    omega (arith, rest)

-- before the first pair
pub lift-start : (told : Option Pages) (a : Pages) (ts : List Named) (name : Name) → told ≡ Some a → len (map_named (maps_of a ts) name) ≡ 0 →
    Holds told ts (with_map (maps_of a ts) name (map_of []))
lift-start told a ts name is none = record {
  pages = a;
  is_told = is;
  are = sym (ap (with_map (maps_of a ts) name) (sym (empty_of_len (map_named (maps_of a ts) name) none)) ∙ with-self (maps_of a ts) name);
}

-- there is room for a pair more
pub lift-room : (told : Option Pages) (a b : Pages) (ts us : List Named) (name : Name) (pairs : List Pair) (i : ℕ) → IsTrue (has_table ts name) →
    Holds told us (with_map (maps_of a ts) name (map_of (take i pairs))) → told ≡ Some b → i < length pairs → length pairs ≤ 16384 →
    len (map_named (maps_of b us) name) < 16384
lift-room told a b ts us name pairs i there h is lt few =
    let same : b ≡ h.pages = same-pages told b h.pages is h.is_told in
    let map : map_named (maps_of b us) name ≡ map_of (take i pairs) = ap (λ (x : Pages). map_named (maps_of x us) name) same
    ∙ ap (λ (x : List (Name × Map)). map_named x name) h.are ∙ map-with (maps_of a ts) name (map_of (take i pairs)) (has-maps a ts name ∙ there) in
    let none : len (map_of []) ≡ 0 = len-empty nat_cmp (List ℕ) in
    let empty_len : len (map_of []) ≤ 0 = omega (arith, none) in
    let size = bound-len empty 0 (take i pairs) empty_len in
    let short : length (take i pairs) ≤ i = grind (arith, common_steps) in
    let e = ap len map in
    omega (arith, size, short, e, lt, few)

-- after a pair more
pub lift-next : (told now : Option Pages) (a : Pages) (ts us vs : List Named) (name : Name) (pairs : List Pair) (i : ℕ) (pair : Pair) →
    IsTrue (has_table ts name) → i < length pairs → pair ≡ get_or pairs i pair →
    (h : Holds told us (with_map (maps_of a ts) name (map_of (take i pairs)))) →
    Holds now vs (with_map (maps_of h.pages us) name (insert (map_named (maps_of h.pages us) name) pair.key pair.value)) →
    Holds now vs (with_map (maps_of a ts) name (map_of (take (i + 1) pairs)))
lift-next told now a ts us vs name pairs i pair there lt e h k =
    let xs : List (Name × Map) = maps_of a ts in
    let m : Map = map_of (take i pairs) in
    record {
      pages = k.pages;
      is_told = k.is_told;
      are = k.are ∙ ap (λ (x : List (Name × Map)). with_map x name (insert (map_named x name) pair.key pair.value)) h.are
          ∙ with-with xs name m (insert (map_named (with_map xs name m) name) pair.key pair.value)
          ∙ ap (λ (x : Map). with_map xs name (insert x pair.key pair.value)) (map-with xs name m (has-maps a ts name ∙ there))
          ∙ ap (with_map xs name) (sym (bind-next pairs i pair lt e));
    }
