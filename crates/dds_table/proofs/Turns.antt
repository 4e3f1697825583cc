-- The turns in which a table's pairs are moved to the tables of its name's halves.
use Rattle.std.proofs.Common.{ℕ, zero, suc, ◌≡◌, ◌-◌, ◌<◌, ◌≤◌, ◌==◌, inl, inr, cond, Bool, true, false, List, [], ◌∷◌, ◌++◌, Option, Some}
use Rattle.std.proofs.Common.{None, is_some, IsTrue, length, get_or, refl, sym, ap, subst, ◌∙◌, arith, append_assoc}
use Rattle.std.proofs.lemmas.Bool.Decides.{nat_tests}
use Rattle.std.specs.FinMap.{get, insert, empty, len}
use Rattle.dds_disk.specs.Pages.{Pages}
use Rattle.dds_base.specs.Name.{Name, covers, same_name}
use Rattle.dds_groups.specs.Names.{low_half, high_half}
use Rattle.dds_chains.specs.Content.{Map}
use Rattle.dds_table.specs.Store.{Named, names, maps_of, has_table, map_named, with_map, Holds}
use Rattle.dds_chains.specs.Part.{IsPart}
use Rattle.dds_base.specs.declared.pair.Pair.{Pair}
use Rattle.dds_table.proofs.Stores.{same-pages}
use Rattle.dds_table.specs.Split.{halves_of, put_covered, moved, Moves, HasRoom, IsTurn}
use Rattle.dds_chains.proofs.Adding.{is-at}
use Rattle.dds_table.proofs.NamedMaps.{has-maps, halves-differ, map-behind, has-with, map-other, whole-low, whole-high}
use Rattle.dds_table.proofs.Splits.{some-len, moved-map, at-low, at-high, moving-start, turn-moving}

-- what a key's binding under a name makes of the tables
pub covered-yes : (told : Option Pages) (tables : List Named) (maps : List (Name × Map)) (name : Name) (key : ℕ) (value : List ℕ) → covers name key ≡ true →
    Holds told tables (with_map maps name (insert (map_named maps name) key value)) → Holds told tables (put_covered maps name key value)
covered-yes told tables maps name key value c h =
    subst (λ (b : Bool). Holds told tables (cond b (with_map maps name (insert (map_named maps name) key value)) maps)) (sym c) h

pub covered-no : (told : Option Pages) (a : Pages) (tables : List Named) (name : Name) (key : ℕ) (value : List ℕ) → covers name key ≡ false → told ≡ Some a →
    Holds told tables (put_covered (maps_of a tables) name key value)
covered-no told a tables name key value c is =
    subst (λ (b : Bool). Holds told tables (cond b (with_map (maps_of a tables) name (insert (map_named (maps_of a tables) name) key value))
    (maps_of a tables))) (sym c) (record { pages = a; is_told = is; are = refl })

-- the halves' tables have room for a pair of the whole
held-map : (told : Option Pages) (tables : List Named) (maps : List (Name × Map)) (b : Pages) (name : Name) → Holds told tables maps → told ≡ Some b →
    map_named (maps_of b tables) name ≡ map_named maps name
held-map told tables maps b name h is = ap (λ (p : Pages). map_named (maps_of p tables) name) (sym (same-pages told h.pages b h.is_told is))
    ∙ ap (λ (ms : List (Name × Map)). map_named ms name) h.are

pub room-low : (told : Option Pages) (tables : List Named) (maps : List (Name × Map)) (b : Pages) (name half : Name) (m : Map) (key : ℕ) (value : List ℕ) →
    half ≡ low_half name → HasRoom maps name → get (map_named maps name) key ≡ Some value → Holds told tables (with_map maps name m) → told ≡ Some b →
    len (map_named (maps_of b tables) half) < 16384
room-low told tables maps b name half m key value e r bound h is =
    let k = ap (λ (x : Map). len x) (ap (map_named (maps_of b tables)) e ∙ held-map told tables (with_map maps name m) b (low_half name) h is
    ∙ map-other maps name (low_half name) m (whole-low name)) in
    let some = some-len (map_named maps name) key (ap is_some bound) in
    omega (arith, k, some, r.low)

put-other : (maps : List (Name × Map)) (n q : Name) (key : ℕ) (value : List ℕ) → same_name n q ≡ false →
    map_named (put_covered maps n key value) q ≡ map_named maps q
put-other maps n q key value h = elim (covers n key)
    as (λ u. map_named (cond u (with_map maps n (insert (map_named maps n) key value)) maps) q ≡ map_named maps q)
    [ true ↦ map-other maps n q (insert (map_named maps n) key value) h | false ↦ refl ]

pub room-high : (told : Option Pages) (tables : List Named) (maps : List (Name × Map)) (b : Pages) (name low half : Name) (m : Map) (key : ℕ)
    (value : List ℕ) → low ≡ low_half name → half ≡ high_half name → HasRoom maps name → get (map_named maps name) key ≡ Some value →
    Holds told tables (put_covered (with_map maps name m) low key value) → told ≡ Some b → len (map_named (maps_of b tables) half) < 16384
room-high told tables maps b name low half m key value l e r bound h is =
    let hs = subst (λ (n : Name). Holds told tables (put_covered (with_map maps name m) n key value)) l h in
    let k = ap (λ (x : Map). len x) (ap (map_named (maps_of b tables)) e
    ∙ held-map told tables (put_covered (with_map maps name m) (low_half name) key value) b (high_half name) hs is
    ∙ put-other (with_map maps name m) (low_half name) (high_half name) key value (halves-differ name)
    ∙ map-other maps name (high_half name) m (whole-high name)) in
    let some = some-len (map_named maps name) key (ap is_some bound) in
    omega (arith, k, some, r.high)

-- the first pair of a part
pub first-bound : (m : Map) (after : Option ℕ) (n : ℕ) (pairs : List Pair) (last : Bool) (pair : Pair) → IsPart m after n pairs last → 0 < length pairs →
    pair ≡ get_or pairs 0 pair → get m pair.key ≡ Some pair.value
first-bound m after n [] last pair h some e = absurd (omega arith)
first-bound m after zero (p ∷ ps) last pair h some e = absurd h
first-bound m after (suc n) (p ∷ ps) last pair h some e = subst (λ (x : Pair). get m x.key ≡ Some x.value) (sym e) h.1

pub first-none : (m : Map) (pairs : List Pair) (last : Bool) (key : ℕ) → IsPart m None 1 pairs last → length pairs ≡ 0 → get m key ≡ None
first-none m [] true key h none = (elim (get m key) as (λ o. get m key ≡ o → o ≡ None) [
  | None ↦ λ o. refl
  | Some v ↦ λ o. let k = h key (ap is_some o) in cc
]) refl
first-none m [] false key h none = absurd h
first-none m (p ∷ ps) last key h none = absurd (omega arith)

-- what was told before a call that didn't change it
pub nothing-moved : (told : Option Pages) (a : Pages) (tables ts : List Named) (name : Name) (pairs : List Pair) (last : Bool) →
    IsPart (map_named (maps_of a ts) name) None 1 pairs last → length pairs ≡ 0 → told ≡ Some a → tables ≡ ts → IsTurn told tables (maps_of a ts) name
nothing-moved told a tables ts name pairs last h none is e =
    inl (λ key. first-none (map_named (maps_of a ts) name) pairs last key h none, record { pages = a; is_told = is; are = ap (maps_of a) e })

maps-held : (told : Option Pages) (tables : List Named) (maps : List (Name × Map)) (b : Pages) → Holds told tables maps → told ≡ Some b →
    maps_of b tables ≡ maps
maps-held told tables maps b h is = ap (λ (p : Pages). maps_of p tables) (sym (same-pages told h.pages b h.is_told is)) ∙ h.are

pub held-covered : (told now : Option Pages) (tables us : List Named) (maps : List (Name × Map)) (b : Pages) (name : Name) (key : ℕ) (value : List ℕ) →
    Holds told tables maps → told ≡ Some b → Holds now us (put_covered (maps_of b tables) name key value) → Holds now us (put_covered maps name key value)
held-covered told now tables us maps b name key value h is k =
    subst (λ (ms : List (Name × Map)). Holds now us (put_covered ms name key value)) (maps-held told tables maps b h is) k

-- the store after both halves' tables were added
pub names-two : (ts us vs : List Named) (name l h : Name) → l ≡ low_half name → h ≡ high_half name → names us ≡ names ts ++ l ∷ [] →
    names vs ≡ names us ++ h ∷ [] → names vs ≡ names ts ++ low_half name ∷ high_half name ∷ []
names-two ts us vs name l h el eh e1 e2 = e2 ∙ ap (λ (ns : List Name). ns ++ h ∷ []) e1 ∙ append_assoc (names ts) (l ∷ []) (h ∷ [])
    ∙ (λ j. names ts ++ el j ∷ eh j ∷ [])

pub moves-start : (told1 told2 : Option Pages) (a : Pages) (ts us vs : List Named) (name l h : Name) (most left : ℕ) → l ≡ low_half name →
    h ≡ high_half name → IsTrue (has_table ts name) →
    (h1 : Holds told1 us (maps_of a ts ++ (l, empty) ∷ [])) (h2 : Holds told2 vs (maps_of h1.pages us ++ (h, empty) ∷ [])) →
    most ≡ len (map_named (maps_of h2.pages vs) name) → most ≤ 16384 → left ≡ most → Moves told2 vs (maps_of a ts) name left
moves-start told1 told2 a ts us vs name l h most left el eh there h1 h2 e few same =
    let is : maps_of h2.pages vs ≡ maps_of a ts ++ halves_of name empty empty =
    h2.are ∙ ap (λ (ms : List (Name × Map)). ms ++ (h, empty) ∷ []) h1.are ∙ append_assoc (maps_of a ts) ((l, empty) ∷ []) ((h, empty) ∷ [])
    ∙ (λ j. maps_of a ts ++ (el j, empty) ∷ (eh j, empty) ∷ []) in
    record {
      pages = h2.pages;
      is_told = h2.is_told;
      moving = moving-start (maps_of a ts) name left (maps_of h2.pages vs) (has-maps a ts name ∙ there) is (same ∙ e) (omega (arith, same, few));
    }

-- each turn finds room
pub moves-room : (told : Option Pages) (a b : Pages) (ts us : List Named) (name : Name) (left : ℕ) → IsTrue (has_table ts name) →
    has_table ts (low_half name) ≡ false → has_table ts (high_half name) ≡ false → Moves told us (maps_of a ts) name left → told ≡ Some b →
    HasRoom (maps_of b us) name
moves-room told a b ts us name left there no-low no-high m is =
    let h = m.moving in
    let maps : List (Name × Map) = maps_of a ts in
    let rest = ap (λ (x : Map). len x) (moved-map maps name left (maps_of m.pages us) h (has-maps a ts name ∙ there)) in
    let low = ap (λ (x : Map). len x) (ap (λ (ms : List (Name × Map)). map_named ms (low_half name)) h.are
    ∙ map-behind (with_map maps name h.rest) (halves_of name h.low h.high) (low_half name) (has-with maps name h.rest (low_half name)
    ∙ has-maps a ts (low_half name) ∙ no-low) ∙ at-low name h.low h.high) in
    let high = ap (λ (x : Map). len x) (ap (λ (ms : List (Name × Map)). map_named ms (high_half name)) h.are
    ∙ map-behind (with_map maps name h.rest) (halves_of name h.low h.high) (high_half name) (has-with maps name h.rest (high_half name)
    ∙ has-maps a ts (high_half name) ∙ no-high) ∙ at-high name h.low h.high) in
    subst (λ (p : Pages). HasRoom (maps_of p us) name) (same-pages told m.pages b m.is_told is)
    (record { low = omega (arith, rest, low, h.few_low); high = omega (arith, rest, high, h.few_high) })

pub moves-turn : (told now : Option Pages) (a : Pages) (ts us vs : List Named) (name : Name) (left less : ℕ) → IsTrue (has_table ts name) →
    has_table ts (low_half name) ≡ false → has_table ts (high_half name) ≡ false → (m : Moves told us (maps_of a ts) name left) →
    IsTurn now vs (maps_of m.pages us) name → less ≡ left - 1 → Moves now vs (maps_of a ts) name less
moves-turn told now a ts us vs name left less there no-low no-high m t e =
    subst (Moves now vs (maps_of a ts) name) (sym e)
    (turn-moving now vs (maps_of a ts) name left (maps_of m.pages us) (has-maps a ts name ∙ there) (has-maps a ts (low_half name) ∙ no-low)
    (has-maps a ts (high_half name) ∙ no-high) m.moving t)

pub pair-moved : (told : Option Pages) (tables : List Named) (a : Pages) (ts us : List Named) (name : Name) (key : ℕ) (value : List ℕ) → us ≡ ts →
    get (map_named (maps_of a us) name) key ≡ Some value → Holds told tables (moved (maps_of a us) name key value) → IsTurn told tables (maps_of a ts) name
pair-moved told tables a ts us name key value e bound h =
    subst (λ (ns : List Named). IsTurn told tables (maps_of a ns) name) e (inr (record { key = key; value = value; bound = bound; after = h }))

pub no-length : (n : ℕ) → (n == 0) ≡ true → n ≡ 0
no-length n h = is-at n 0 h

pub some-length : (n : ℕ) → (n == 0) ≡ false → 0 < n
some-length n h = grind (arith, nat_tests)
