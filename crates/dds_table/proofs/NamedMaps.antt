-- The tables of a store by their names: of names in front and behind.
use Rattle.std.proofs.Common.{ℕ, suc, ◌≡◌, ◌<◌, ◌^◌, cond, Bool, true, false, List, [], ◌∷◌, ◌++◌, Option, Some, None, is_some, IsTrue}
use Rattle.std.proofs.Common.{refl, sym, ap, ◌∙◌, arith}
use Rattle.std.specs.Option.{option_map}
use Rattle.std.proofs.lemmas.Bool.Decides.{nat_tests}
use Rattle.std.proofs.lemmas.Nat.{pow_pos}
use Rattle.dds_disk.specs.Pages.{Pages}
use Rattle.dds_base.specs.Name.{Name, same_name}
use Rattle.dds_groups.specs.Names.{low_half, high_half}
use Rattle.dds_chains.specs.Content.{Map, content}
use Rattle.dds_table.specs.Store.{Named, names, maps_of, place_named, has_table, map_named, with_map, without_table}
use Rattle.dds_table.specs.Split.{is_among}

-- whether a table of the name is among these
abbrev pub has_map : List (Name × Map) → Name → Bool
has_map [] name = false
has_map (t ∷ ts) name = cond (same_name t.0 name) true (has_map ts name)

-- the tables without the first of a name
abbrev pub without_map : List (Name × Map) → Name → List (Name × Map)
without_map [] name = []
without_map (t ∷ ts) name = cond (same_name t.0 name) ts (t ∷ without_map ts name)

some-map : (o : Option ℕ) → is_some (option_map suc o) ≡ is_some o
some-map None = refl
some-map (Some n) = refl

has-among : (ts : List Named) (n : Name) → has_table ts n ≡ is_among (names ts) n
has-among [] n = refl
has-among (t ∷ ts) n = elim (same_name t.0 n) as (λ u. is_some (cond u (Some 0) (option_map suc (place_named ts n))) ≡ cond u true (is_among (names ts) n)) [
  | true ↦ refl
  | false ↦ some-map (place_named ts n) ∙ has-among ts n
]

pub has-maps : (a : Pages) (ts : List Named) (n : Name) → has_map (maps_of a ts) n ≡ has_table ts n
has-maps a [] n = refl
has-maps a (t ∷ ts) n = elim (same_name t.0 n)
    as (λ u. cond u true (has_map (maps_of a ts) n) ≡ is_some (cond u (Some 0) (option_map suc (place_named ts n)))) [
      | true ↦ refl
      | false ↦ has-maps a ts n ∙ sym (some-map (place_named ts n))
    ]

among-behind : (xs ys : List Name) (n : Name) → is_among ys n ≡ true → is_among (xs ++ ys) n ≡ true
among-behind [] ys n h = h
among-behind (x ∷ xs) ys n h = elim (same_name x n) as (λ u. cond u true (is_among (xs ++ ys) n) ≡ true) [ true ↦ refl | false ↦ among-behind xs ys n h ]

among-front : (xs ys : List Name) (n : Name) → is_among xs n ≡ true → is_among (xs ++ ys) n ≡ true
among-front [] ys n h = cc
among-front (x ∷ xs) ys n h = (elim (same_name x n) as (λ u. cond u true (is_among xs n) ≡ true → cond u true (is_among (xs ++ ys) n) ≡ true)
    [ true ↦ λ h. refl | false ↦ λ h. among-front xs ys n h ]) h

pub same-self : (n : Name) → same_name n n ≡ true
same-self n = grind (arith, nat_tests)

pub halves-differ : (n : Name) → same_name (low_half n) (high_half n) ≡ false
halves-differ n = let some : 0 < 2 ^ n.depth = pow_pos n.depth in grind (arith, nat_tests, some)

-- maps of names in front and behind
pub map-front : (xs ys : List (Name × Map)) (n : Name) → has_map xs n ≡ true → map_named (xs ++ ys) n ≡ map_named xs n
map-front [] ys n h = cc
map-front (x ∷ xs) ys n h = (elim (same_name x.0 n) as (λ u. cond u true (has_map xs n) ≡ true →
    cond u x.1 (map_named (xs ++ ys) n) ≡ cond u x.1 (map_named xs n)) [ true ↦ λ h. refl | false ↦ λ h. map-front xs ys n h ]) h

pub with-front : (xs ys : List (Name × Map)) (n : Name) (m : Map) → has_map xs n ≡ true → with_map (xs ++ ys) n m ≡ with_map xs n m ++ ys
with-front [] ys n m h = cc
with-front (x ∷ xs) ys n m h = (elim (same_name x.0 n) as (λ u. cond u true (has_map xs n) ≡ true →
    cond u ((x.0, m) ∷ (xs ++ ys)) (x ∷ with_map (xs ++ ys) n m) ≡ cond u ((x.0, m) ∷ xs) (x ∷ with_map xs n m) ++ ys) [
      | true ↦ λ h. refl
      | false ↦ λ h. ap (λ (ts : List (Name × Map)). x ∷ ts) (with-front xs ys n m h)
    ]) h

pub map-behind : (xs ys : List (Name × Map)) (n : Name) → has_map xs n ≡ false → map_named (xs ++ ys) n ≡ map_named ys n
map-behind [] ys n h = refl
map-behind (x ∷ xs) ys n h = (elim (same_name x.0 n) as (λ u. cond u true (has_map xs n) ≡ false → cond u x.1 (map_named (xs ++ ys) n) ≡ map_named ys n)
    [ true ↦ λ h. cc | false ↦ λ h. map-behind xs ys n h ]) h

pub with-behind : (xs ys : List (Name × Map)) (n : Name) (m : Map) → has_map xs n ≡ false → with_map (xs ++ ys) n m ≡ xs ++ with_map ys n m
with-behind [] ys n m h = refl
with-behind (x ∷ xs) ys n m h = (elim (same_name x.0 n) as (λ u. cond u true (has_map xs n) ≡ false →
    cond u ((x.0, m) ∷ (xs ++ ys)) (x ∷ with_map (xs ++ ys) n m) ≡ x ∷ (xs ++ with_map ys n m)) [
      | true ↦ λ h. cc
      | false ↦ λ h. ap (λ (ts : List (Name × Map)). x ∷ ts) (with-behind xs ys n m h)
    ]) h

pub has-with : (xs : List (Name × Map)) (n : Name) (m : Map) (q : Name) → has_map (with_map xs n m) q ≡ has_map xs q
has-with [] n m q = refl
has-with (x ∷ xs) n m q = elim (same_name x.0 n)
    as (λ u. has_map (cond u ((x.0, m) ∷ xs) (x ∷ with_map xs n m)) q ≡ cond (same_name x.0 q) true (has_map xs q)) [
      | true ↦ refl
      | false ↦ ap (cond (same_name x.0 q) true) (has-with xs n m q)
    ]

pub map-with : (xs : List (Name × Map)) (n : Name) (m : Map) → has_map xs n ≡ true → map_named (with_map xs n m) n ≡ m
map-with [] n m h = cc
map-with (x ∷ xs) n m h = (elim (same_name x.0 n) as (λ u. same_name x.0 n ≡ u → cond u true (has_map xs n) ≡ true →
    map_named (cond u ((x.0, m) ∷ xs) (x ∷ with_map xs n m)) n ≡ m) [
      | true ↦ λ u h. rw u refl
      | false ↦ λ u h. rw u (map-with xs n m h)
    ]) refl h

pub with-with : (xs : List (Name × Map)) (n : Name) (m k : Map) → with_map (with_map xs n m) n k ≡ with_map xs n k
with-with [] n m k = refl
with-with (x ∷ xs) n m k = (elim (same_name x.0 n) as (λ u. same_name x.0 n ≡ u →
    with_map (cond u ((x.0, m) ∷ xs) (x ∷ with_map xs n m)) n k ≡ cond u ((x.0, k) ∷ xs) (x ∷ with_map xs n k)) [
      | true ↦ λ u. rw u refl
      | false ↦ λ u. rw u (ap (λ (ts : List (Name × Map)). x ∷ ts) (with-with xs n m k))
    ]) refl

pub with-self : (xs : List (Name × Map)) (n : Name) → with_map xs n (map_named xs n) ≡ xs
with-self [] n = refl
with-self (x ∷ xs) n = elim (same_name x.0 n) as (λ u. cond u ((x.0, cond u x.1 (map_named xs n)) ∷ xs) (x ∷ with_map xs n (cond u x.1 (map_named xs n))) ≡ x
    ∷ xs) [
      | true ↦ refl
      | false ↦ ap (λ (ts : List (Name × Map)). x ∷ ts) (with-self xs n)
    ]

pub maps-without : (a : Pages) (ts : List Named) (n : Name) → maps_of a (without_table ts n) ≡ without_map (maps_of a ts) n
maps-without a [] n = refl
maps-without a (t ∷ ts) n = elim (same_name t.0 n)
    as (λ u. maps_of a (cond u ts (t ∷ without_table ts n)) ≡ cond u (maps_of a ts) ((t.0, content a t.1) ∷ without_map (maps_of a ts) n)) [
      | true ↦ refl
      | false ↦ ap (λ (ms : List (Name × Map)). (t.0, content a t.1) ∷ ms) (maps-without a ts n)
    ]

pub without-with : (xs ys : List (Name × Map)) (n : Name) (m : Map) → has_map xs n ≡ true → without_map (with_map xs n m ++ ys) n ≡ without_map xs n ++ ys
without-with [] ys n m h = cc
without-with (x ∷ xs) ys n m h = (elim (same_name x.0 n) as (λ u. same_name x.0 n ≡ u → cond u true (has_map xs n) ≡ true →
    without_map (cond u ((x.0, m) ∷ xs) (x ∷ with_map xs n m) ++ ys) n ≡ cond u xs (x ∷ without_map xs n) ++ ys) [
      | true ↦ λ u h. rw u refl
      | false ↦ λ u h. rw u (ap (λ (ts : List (Name × Map)). x ∷ ts) (without-with xs ys n m h))
    ]) refl h

-- the names without the first that is this one
abbrev without_name : List Name → Name → List Name
without_name [] n = []
without_name (x ∷ xs) n = cond (same_name x n) xs (x ∷ without_name xs n)

names-less : (ts : List Named) (n : Name) → names (without_table ts n) ≡ without_name (names ts) n
names-less [] n = refl
names-less (t ∷ ts) n = elim (same_name t.0 n) as (λ u. names (cond u ts (t ∷ without_table ts n)) ≡ cond u (names ts) (t.0 ∷ without_name (names ts) n)) [
  | true ↦ refl
  | false ↦ ap (λ (ns : List Name). t.0 ∷ ns) (names-less ts n)
]

without-front : (xs ys : List Name) (n : Name) → is_among xs n ≡ true → without_name (xs ++ ys) n ≡ without_name xs n ++ ys
without-front [] ys n h = cc
without-front (x ∷ xs) ys n h = (elim (same_name x n) as (λ u. cond u true (is_among xs n) ≡ true →
    cond u (xs ++ ys) (x ∷ without_name (xs ++ ys) n) ≡ cond u xs (x ∷ without_name xs n) ++ ys) [
      | true ↦ λ h. refl
      | false ↦ λ h. ap (λ (ns : List Name). x ∷ ns) (without-front xs ys n h)
    ]) h

pub names-without : (ts us : List Named) (n : Name) (more : List Name) → names us ≡ names ts ++ more → IsTrue (has_table ts n) →
    names (without_table us n) ≡ names (without_table ts n) ++ more
names-without ts us n more e h =
    names-less us n ∙ ap (λ (ns : List Name). without_name ns n) e ∙ without-front (names ts) more n (sym (has-among ts n) ∙ h)
    ∙ ap (λ (ns : List Name). ns ++ more) (sym (names-less ts n))

-- which tables are there after those of two names were added
pub there-still : (ts us : List Named) (n : Name) (more : List Name) → names us ≡ names ts ++ more → IsTrue (has_table ts n) → IsTrue (has_table us n)
there-still ts us n more e h = has-among us n ∙ ap (λ (ns : List Name). is_among ns n) e ∙ among-front (names ts) more n (sym (has-among ts n) ∙ h)

pub there-now : (ts us : List Named) (n : Name) (more : List Name) → names us ≡ names ts ++ more → is_among more n ≡ true → IsTrue (has_table us n)
there-now ts us n more e h = has-among us n ∙ ap (λ (ns : List Name). is_among ns n) e ∙ among-behind (names ts) more n h

differs : (x n q : Name) → same_name x n ≡ true → same_name n q ≡ false → same_name x q ≡ false
differs x n q h k = grind (arith, nat_tests)

pub whole-low : (n : Name) → same_name n (low_half n) ≡ false
whole-low n = grind (arith, nat_tests)

pub whole-high : (n : Name) → same_name n (high_half n) ≡ false
whole-high n = grind (arith, nat_tests)

-- the map of another name
pub map-other : (xs : List (Name × Map)) (n q : Name) (m : Map) → same_name n q ≡ false → map_named (with_map xs n m) q ≡ map_named xs q
map-other [] n q m h = refl
map-other (x ∷ xs) n q m h = (elim (same_name x.0 n) as (λ u. same_name x.0 n ≡ u →
    map_named (cond u ((x.0, m) ∷ xs) (x ∷ with_map xs n m)) q ≡ cond (same_name x.0 q) x.1 (map_named xs q)) [
      | true ↦ λ u. let d = differs x.0 n q u h in rw d refl
      | false ↦ λ u. ap (cond (same_name x.0 q) x.1) (map-other xs n q m h)
    ]) refl

pub there-low : (ts us : List Named) (n : Name) → names us ≡ names ts ++ low_half n ∷ high_half n ∷ [] → IsTrue (has_table us (low_half n))
there-low ts us n e = there-now ts us (low_half n) (low_half n ∷ high_half n ∷ []) e
    (ap (λ (b : Bool). cond b true (is_among (high_half n ∷ []) (low_half n))) (same-self (low_half n)))

pub there-high : (ts us : List Named) (n : Name) → names us ≡ names ts ++ low_half n ∷ high_half n ∷ [] → IsTrue (has_table us (high_half n))
there-high ts us n e =
    there-now ts us (high_half n) (low_half n ∷ high_half n ∷ []) e
    (ap (λ (b : Bool). cond b true (is_among (high_half n ∷ []) (high_half n))) (halves-differ n)
    ∙ ap (λ (b : Bool). cond b true false) (same-self (high_half n)))
