-- A table's pairs are moved to the tables of its name's halves.
use Rattle.std.proofs.Common.{ℕ, ◌≡◌, ◌+◌, ◌-◌, ◌<◌, ◌≤◌, ◌==◌, inl, inr, cond, Bool, true, false, List, ◌++◌, Option, Some, None, is_some}
use Rattle.std.proofs.Common.{IsTrue, refl, sym, ap, subst, ◌∙◌, arith}
use Rattle.std.specs.Ordering.{nat_cmp, eq_by_cmp}
use Rattle.std.specs.Cmp.{nat_cmp_total}
use Rattle.std.proofs.lemmas.Bool.Decides.{nat_tests}
use Rattle.std.specs.FinMap.{nat_cmp-IsAntisymmetric, get, insert, remove, empty, contains_key, len, get-insert, get-remove}
use Rattle.std.specs.FinMap.{get-retain_keys, get-empty, len-insert, len-remove, len-empty, empty_of_len}
use Rattle.dds_disk.specs.Pages.{Pages}
use Rattle.dds_base.specs.Name.{Name, covers}
use Rattle.dds_groups.specs.Names.{low_half, high_half}
use Rattle.dds_chains.specs.Content.{Map}
use Rattle.dds_table.specs.Store.{Named, maps_of, has_table, map_named, with_map, without_table, Holds}
use Rattle.dds_table.specs.Split.{covered, halves_of, put_covered, moved, if_covered, either_of, IsParting, IsMoving, Moves, IsTurn}
use Rattle.dds_chains.proofs.Adding.{same-content, is-at}
use Rattle.dds_table.proofs.NamedMaps.{has_map, without_map, has-maps, same-self, halves-differ, map-front, with-front, map-behind}
use Rattle.dds_table.proofs.NamedMaps.{with-behind, has-with, map-with, with-with, with-self, maps-without, without-with}

-- a key that is bound again in one half, or that the half doesn't cover
abbrev half_after : Name → Map → ℕ → List ℕ → Map
half_after half m key value = cond (covers half key) (insert m key value) m

-- the laws of the map of a half while a pair is moved
parting-law : (c e : Bool) (value : List ℕ) (rest got whole : Option (List ℕ)) → (e ≡ true → rest ≡ Some value) →
    either_of (cond c rest None) got ≡ cond c whole None →
    either_of (cond c (cond e None rest) None) (cond c (cond e (Some value) got) got) ≡ cond c whole None
parting-law true true value rest got whole v h = sym (ap (λ (o : Option (List ℕ)). either_of o got) (v refl)) ∙ h
parting-law true false value rest got whole v h = h
parting-law false e value rest got whole v h = h

get-half : (half : Name) (m : Map) (key : ℕ) (value : List ℕ) (q : ℕ) →
    get (half_after half m key value) q ≡ cond (covers half key) (cond (eq_by_cmp nat_cmp q key) (Some value) (get m q)) (get m q)
get-half half m key value q = elim (covers half key)
    as (λ u. get (cond u (insert m key value) m) q ≡ cond u (cond (eq_by_cmp nat_cmp q key) (Some value) (get m q)) (get m q))
    [ true ↦ get-insert nat_cmp_total m key value q | false ↦ refl ]

alike : (q k : ℕ) → eq_by_cmp nat_cmp q k ≡ (k == q)
alike q k = grind (arith, nat_tests)

no-change : (c : Bool) (got : Option (List ℕ)) → cond c got got ≡ got
no-change true got = refl
no-change false got = refl

same-covers : (half : Name) (q k : ℕ) (value : List ℕ) (rest got whole : Option (List ℕ)) → (eq_by_cmp nat_cmp q k ≡ true → rest ≡ Some value) →
    either_of (cond (covers half q) rest None) got ≡ cond (covers half q) whole None →
    either_of (cond (covers half q) (cond (eq_by_cmp nat_cmp q k) None rest) None) (cond (covers half k) (cond (eq_by_cmp nat_cmp q k) (Some value) got) got)
    ≡ cond (covers half q) whole None
same-covers half q k value rest got whole v h =
    (elim (eq_by_cmp nat_cmp q k) as (λ u. eq_by_cmp nat_cmp q k ≡ u →
    either_of (cond (covers half q) (cond u None rest) None) (cond (covers half k) (cond u (Some value) got) got) ≡ cond (covers half q) whole None) [
      | true ↦ λ u.
          let e : k ≡ q = is-at k q (sym (alike q k) ∙ u) in
          subst (λ (b : Bool). either_of (cond (covers half q) None None) (cond b (Some value) got)
          ≡ cond (covers half q) whole None) (sym (ap (covers half) e))
          (parting-law (covers half q) true value rest got whole (λ t. v u) h)
      | false ↦ λ u. subst (λ (o : Option (List ℕ)). either_of (cond (covers half q) rest None) o ≡ cond (covers half q) whole None)
          (sym (no-change (covers half k) got)) h
    ]) refl

parting-after : (whole rest m : Map) (half : Name) (key : ℕ) (value : List ℕ) → get rest key ≡ Some value → IsParting whole rest half m →
    IsParting whole (remove rest key) half (half_after half m key value)
parting-after whole rest m half key value v h q =
    ap (λ (o : Option (List ℕ)). either_of (cond (covers half q) o None) (get (half_after half m key value) q)) (get-remove nat_cmp_total rest key q)
    ∙ ap (λ (o : Option (List ℕ)). either_of (cond (covers half q) (cond (eq_by_cmp nat_cmp q key) None (get rest q)) None) o) (get-half half m key value q)
    ∙ same-covers half q key value (get rest q) (get m q) (get whole q) (λ u. ap (get rest) (sym (is-at key q (sym (alike q key) ∙ u))) ∙ v) (h q)

-- the counts of pairs
one-less : (c : Bool) (l n : ℕ) → c ≡ true → n ≡ cond c (l - 1) l → n ≡ l - 1
one-less true l n h e = e
one-less false l n h e = cc

one-more : (c : Bool) (l n : ℕ) → n ≡ cond c l (l + 1) → n ≤ l + 1
one-more true l n e = omega arith
one-more false l n e = omega arith

pub some-len : (m : Map) (key : ℕ) → contains_key m key ≡ true → 0 < len m
some-len m key h = (elim (len m == 0) as (λ u. (len m == 0) ≡ u → 0 < len m) [
  | true ↦ λ u. let z : m ≡ empty = empty_of_len m (is-at (len m) 0 u) in let k : contains_key m key ≡ false = ap (λ (x : Map). contains_key x key) z
      ∙ ap is_some (get-empty nat_cmp key) in cc
  | false ↦ λ u. grind (arith, nat_tests, u)
]) refl

len-removed : (m : Map) (key : ℕ) (value : List ℕ) → get m key ≡ Some value → len (remove m key) + 1 ≡ len m
len-removed m key value h =
    let c : contains_key m key ≡ true = ap is_some h in
    let l = one-less (contains_key m key) (len m) _ c (len-remove nat_cmp_total m key) in
    let s = some-len m key c in
    omega (arith, l, s)

len-half : (half : Name) (m : Map) (key : ℕ) (value : List ℕ) → len (half_after half m key value) ≤ len m + 1
len-half half m key value = elim (covers half key) as (λ u. len (cond u (insert m key value) m) ≤ len m + 1) [
  | true ↦ one-more (contains_key m key) (len m) _ (len-insert nat_cmp_total m key value)
  | false ↦ omega arith
]

-- the halves' tables behind the others
pub at-low : (name : Name) (low high : Map) → map_named (halves_of name low high) (low_half name) ≡ low
at-low name low high = rw (same-self (low_half name)) refl

set-low : (name : Name) (low high m : Map) → with_map (halves_of name low high) (low_half name) m ≡ halves_of name m high
set-low name low high m = rw (same-self (low_half name)) refl

pub at-high : (name : Name) (low high : Map) → map_named (halves_of name low high) (high_half name) ≡ high
at-high name low high = rw (halves-differ name) (rw (same-self (high_half name)) refl)

set-high : (name : Name) (low high m : Map) → with_map (halves_of name low high) (high_half name) m ≡ halves_of name low m
set-high name low high m = rw (halves-differ name) (rw (same-self (high_half name)) refl)

put-low : (xs : List (Name × Map)) (name : Name) (low high : Map) (key : ℕ) (value : List ℕ) → has_map xs (low_half name) ≡ false →
    put_covered (xs ++ halves_of name low high) (low_half name) key value ≡ xs ++ halves_of name (half_after (low_half name) low key value) high
put-low xs name low high key value h = elim (covers (low_half name) key)
    as (λ u. cond u (with_map (xs ++ halves_of name low high) (low_half name) (insert (map_named (xs ++ halves_of name low high) (low_half name)) key value))
    (xs ++ halves_of name low high) ≡ xs ++ halves_of name (cond u (insert low key value) low) high) [
      | true ↦
          with-behind xs (halves_of name low high) (low_half name) _ h
          ∙ ap (λ (ms : List (Name × Map)). xs ++ ms) (set-low name low high (insert (map_named (xs ++ halves_of name low high) (low_half name)) key value))
          ∙ ap (λ (m : Map). xs ++ halves_of name (insert m key value) high) (map-behind xs (halves_of name low high) (low_half name) h ∙ at-low name low high)
      | false ↦ refl
    ]

put-high : (xs : List (Name × Map)) (name : Name) (low high : Map) (key : ℕ) (value : List ℕ) → has_map xs (high_half name) ≡ false →
    put_covered (xs ++ halves_of name low high) (high_half name) key value ≡ xs ++ halves_of name low (half_after (high_half name) high key value)
put-high xs name low high key value h = elim (covers (high_half name) key)
    as (λ u. cond u (with_map (xs ++ halves_of name low high) (high_half name)
    (insert (map_named (xs ++ halves_of name low high) (high_half name)) key value)) (xs ++ halves_of name low high) ≡ xs
    ++ halves_of name low (cond u (insert high key value) high)) [
      | true ↦
          with-behind xs (halves_of name low high) (high_half name) _ h
          ∙ ap (λ (ms : List (Name × Map)). xs ++ ms) (set-high name low high (insert (map_named (xs ++ halves_of name low high) (high_half name)) key value))
          ∙ ap (λ (m : Map). xs ++ halves_of name low (insert m key value)) (map-behind xs (halves_of name low high) (high_half name) h ∙ at-high name low high)
      | false ↦ refl
    ]

pub moved-map : (maps : List (Name × Map)) (name : Name) (left : ℕ) (now : List (Name × Map)) (h : IsMoving maps name left now) → has_map maps name ≡ true →
    map_named now name ≡ h.rest
moved-map maps name left now h there =
    ap (λ (ms : List (Name × Map)). map_named ms name) h.are
    ∙ map-front (with_map maps name h.rest) (halves_of name h.low h.high) name (has-with maps name h.rest name ∙ there) ∙ map-with maps name h.rest there

moved-with : (maps : List (Name × Map)) (name : Name) (left : ℕ) (now : List (Name × Map)) (h : IsMoving maps name left now) (m : Map) →
    has_map maps name ≡ true → with_map now name m ≡ with_map maps name m ++ halves_of name h.low h.high
moved-with maps name left now h m there =
    ap (λ (ms : List (Name × Map)). with_map ms name m) h.are
    ∙ with-front (with_map maps name h.rest) (halves_of name h.low h.high) name m (has-with maps name h.rest name ∙ there)
    ∙ ap (λ (ms : List (Name × Map)). ms ++ halves_of name h.low h.high) (with-with maps name h.rest m)

moving-after : (maps : List (Name × Map)) (name : Name) (left : ℕ) (now : List (Name × Map)) (key : ℕ) (value : List ℕ) → has_map maps name ≡ true →
    has_map maps (low_half name) ≡ false → has_map maps (high_half name) ≡ false → IsMoving maps name left now → get (map_named now name) key ≡ Some value →
    IsMoving maps name (left - 1) (moved now name key value)
moving-after maps name left now key value there no-low no-high h bound =
    let v : get h.rest key ≡ Some value = ap (λ (m : Map). get m key) (sym (moved-map maps name left now h there)) ∙ bound in
    let l = len-removed h.rest key value v in
    let low = len-half (low_half name) h.low key value in
    let high = len-half (high_half name) h.high key value in
    let w : List (Name × Map) = with_map maps name (remove h.rest key) in
    record {
      rest = remove h.rest key;
      low = half_after (low_half name) h.low key value;
      high = half_after (high_half name) h.high key value;
      are =
          ap (λ (ms : List (Name × Map)). put_covered (put_covered ms (low_half name) key value) (high_half name) key value)
          (ap (λ (m : Map). with_map now name (remove m key)) (moved-map maps name left now h there)
          ∙ moved-with maps name left now h (remove h.rest key) there)
          ∙ ap (λ (ms : List (Name × Map)). put_covered ms (high_half name) key value)
          (put-low w name h.low h.high key value (has-with maps name (remove h.rest key) (low_half name) ∙ no-low))
          ∙ put-high w name (half_after (low_half name) h.low key value) h.high key value (has-with maps name (remove h.rest key) (high_half name) ∙ no-high);
      of_low = parting-after (map_named maps name) h.rest h.low (low_half name) key value v h.of_low;
      of_high = parting-after (map_named maps name) h.rest h.high (high_half name) key value v h.of_high;
      few_low = omega (arith, l, low, h.few_low);
      few_high = omega (arith, l, high, h.few_high);
      few = omega (arith, l, h.few);
    }

moving-none : (maps : List (Name × Map)) (name : Name) (left : ℕ) (now : List (Name × Map)) → has_map maps name ≡ true → IsMoving maps name left now →
    ((key : ℕ) → get (map_named now name) key ≡ None) → IsMoving maps name (left - 1) now
moving-none maps name left now there h none =
    let e : h.rest ≡ empty = same-content _ _ (λ q. ap (λ (m : Map). get m q) (sym (moved-map maps name left now h there)) ∙ none q
    ∙ sym (get-empty nat_cmp q)) in
    let l : len h.rest ≡ 0 = ap (λ (m : Map). len m) e ∙ len-empty nat_cmp (List ℕ) in
    record {
      rest = h.rest;
      low = h.low;
      high = h.high;
      are = h.are;
      of_low = h.of_low;
      of_high = h.of_high;
      few_low = h.few_low;
      few_high = h.few_high;
      few = omega (arith, l);
    }

held : (told : Option Pages) (tables : List Named) (maps : List (Name × Map)) (name : Name) (left : ℕ) (now : List (Name × Map)) → Holds told tables now →
    IsMoving maps name left now → Moves told tables maps name left
held told tables maps name left now h m = record {
  pages = h.pages;
  is_told = h.is_told;
  moving = subst (IsMoving maps name left) (sym h.are) m;
}

-- one turn
pub turn-moving : (told : Option Pages) (tables : List Named) (maps : List (Name × Map)) (name : Name) (left : ℕ) (now : List (Name × Map)) →
    has_map maps name ≡ true → has_map maps (low_half name) ≡ false → has_map maps (high_half name) ≡ false → IsMoving maps name left now →
    IsTurn told tables now name → Moves told tables maps name (left - 1)
turn-moving told tables maps name left now there no-low no-high h (inl t) =
    held told tables maps name (left - 1) now t.1 (moving-none maps name left now there h t.0)
turn-moving told tables maps name left now there no-low no-high h (inr t) =
    held told tables maps name (left - 1) (moved now name t.key t.value) t.after
    (moving-after maps name left now t.key t.value there no-low no-high h t.bound)

either-none : (o : Option (List ℕ)) → either_of o None ≡ o
either-none None = refl
either-none (Some v) = refl

-- before the first turn
parting-start : (m : Map) (half : Name) → IsParting m m half empty
parting-start m half q = ap (either_of (if_covered half q (get m q))) (get-empty nat_cmp q) ∙ either-none (if_covered half q (get m q))

pub moving-start : (maps : List (Name × Map)) (name : Name) (left : ℕ) (now : List (Name × Map)) → has_map maps name ≡ true →
    now ≡ maps ++ halves_of name empty empty → left ≡ len (map_named now name) → left ≤ 16384 → IsMoving maps name left now
moving-start maps name left now there e l few =
    let z = len-empty nat_cmp (List ℕ) in
    let k : left ≡ len (map_named maps name) = l ∙ ap (λ (ms : List (Name × Map)). len (map_named ms name)) e
    ∙ ap (λ (m : Map). len m) (map-front maps (halves_of name empty empty) name there) in
    record {
      rest = map_named maps name;
      low = empty;
      high = empty;
      are = e ∙ ap (λ (ms : List (Name × Map)). ms ++ halves_of name empty empty) (sym (with-self maps name));
      of_low = parting-start (map_named maps name) (low_half name);
      of_high = parting-start (map_named maps name) (high_half name);
      few_low = omega (arith, z, k, few);
      few_high = omega (arith, z, k, few);
      few = omega (arith, k);
    }

-- after the last turn
none-covered : (c : Bool) (o : Option (List ℕ)) → o ≡ None → cond c o None ≡ None
none-covered true o e = e
none-covered false o e = refl

parting-end : (whole rest m : Map) (half : Name) → rest ≡ empty → IsParting whole rest half m → m ≡ covered whole half
parting-end whole rest m half e h = same-content _ _ (λ q.
    sym (ap (λ (o : Option (List ℕ)). either_of o (get m q)) (none-covered (covers half q) (get rest q) (ap (λ (r : Map). get r q) e ∙ get-empty nat_cmp q)))
    ∙ h q ∙ sym (get-retain_keys whole (covers half) q (λ x t. ap (covers half) (sym (nat_cmp-IsAntisymmetric q x t)))))

pub holds-split : (told : Option Pages) (a : Pages) (ts us : List Named) (name : Name) → IsTrue (has_table ts name) → (left : ℕ) → left ≡ 0 →
    Moves told us (maps_of a ts) name left →
    Holds told (without_table us name) (maps_of a (without_table ts name)
    ++ halves_of name (covered (map_named (maps_of a ts) name) (low_half name)) (covered (map_named (maps_of a ts) name) (high_half name)))
holds-split told a ts us name there left none m =
    let h = m.moving in
    let e : h.rest ≡ empty = empty_of_len h.rest (let k = h.few in omega (arith, k, none)) in
    let low = parting-end (map_named (maps_of a ts) name) h.rest h.low (low_half name) e h.of_low in
    let high = parting-end (map_named (maps_of a ts) name) h.rest h.high (high_half name) e h.of_high in
    record {
      pages = m.pages;
      is_told = m.is_told;
      are =
          maps-without m.pages us name ∙ ap (λ (ms : List (Name × Map)). without_map ms name) h.are
          ∙ without-with (maps_of a ts) (halves_of name h.low h.high) name h.rest (has-maps a ts name ∙ there)
          ∙ ap (λ (ms : List (Name × Map)). ms ++ halves_of name h.low h.high) (sym (maps-without a ts name))
          ∙ (λ j. maps_of a (without_table ts name) ++ halves_of name (low j) (high j));
    }
