-- The places of a store's tables, when a table comes behind the others and when one is taken out.
use Rattle.std.proofs.Common.{ℕ, zero, suc, ◌≡◌, ◌+◌, ◌<◌, ◌≤◌, ◌==◌, ◌&&◌, Bool, true, false, not, cond, List, [], ◌∷◌, ◌++◌, length, take}
use Rattle.std.proofs.Common.{drop, slice_get, get_or, Option, Some, None, is_some, refl, sym, ap, ◌∙◌, subst, arith}
use Rattle.std.specs.Option.{option_map}
use Rattle.std.proofs.lemmas.Bool.{false≢true}
use Rattle.std.proofs.lemmas.Bool.Decides.{nat_tests}
use Rattle.std.proofs.lemmas.Grind.{common_steps}
use Rattle.std.proofs.lemmas.List.{drop_all, take-append-drop}
use Rattle.dds_base.specs.Name.{Name, same_name}
use Rattle.dds_chains.specs.declared.table.Chains.{Chains}
use Rattle.dds_table.specs.Store.{Named, named, place_named}
use Rattle.std.specs.Ordering.{nat_cmp, is_eq}
use Rattle.std.specs.Cmp.{tied_then}
use Rattle.std.specs.BTreeMap.{BTreeMap, is_at}
use Rattle.std.specs.BTreeMap as tree
use Rattle.std.specs.List.{remove}
use Rattle.dds_table.specs.Places.{name_cmp, IsPlaced, old_place, moved_place, is_from, is_of, stands_at, or_else}
use Rattle.dds_table.proofs.Stores.{is-name}

map-zero : (o : Option ℕ) → option_map (λ k. 0 + k) o ≡ o
map-zero None = refl
map-zero (Some k) = ap Some (omega arith)

map-or : (a b : Option ℕ) (n : ℕ) → option_map suc (or_else a (option_map (λ k. n + k) b)) ≡ or_else (option_map suc a) (option_map (λ k. suc n + k) b)
map-or None None n = refl
map-or None (Some k) n = ap Some (omega arith)
map-or (Some i) b n = refl

-- the place in two lists behind one another
pub place-append : (xs ys : List Named) (n : Name) → place_named (xs ++ ys) n ≡ or_else (place_named xs n) (option_map (λ k. length xs + k) (place_named ys n))
place-append [] ys n = sym (map-zero (place_named ys n))
place-append (x ∷ xs) ys n =
    elim (same_name x.0 n) as (λ b. cond b (Some 0) (option_map suc (place_named (xs ++ ys) n))
    ≡ or_else (cond b (Some 0) (option_map suc (place_named xs n))) (option_map (λ k. suc (length xs) + k) (place_named ys n))) [
      | true ↦ refl
      | false ↦ ap (option_map suc) (place-append xs ys n) ∙ map-or (place_named xs n) (place_named ys n) (length xs)
    ]

before : (o : Option ℕ) (n i : ℕ) → ((k : ℕ) → o ≡ Some k → k < n) → option_map suc o ≡ Some i → i < suc n
before None n i h e = cc
before (Some k) n i h e = let lt = h k refl in let eq : suc k ≡ i = cc in omega (arith, lt, eq)

pub place-within : (ts : List Named) (n : Name) (i : ℕ) → place_named ts n ≡ Some i → i < length ts
place-within [] n i h = cc
place-within (t ∷ ts) n i h =
    (elim (same_name t.0 n) as (λ b. cond b (Some 0) (option_map suc (place_named ts n)) ≡ Some i → i < suc (length ts)) [
      | true ↦ λ e. (let eq : 0 ≡ i = cc in omega (arith, eq))
      | false ↦ λ e. before (place_named ts n) (length ts) i (λ k at. place-within ts n k at) e
    ]) h

or-none : (a : Option ℕ) → or_else a None ≡ a
or-none None = refl
or-none (Some k) = refl

or-some : (a b : Option ℕ) → is_some a ≡ true → or_else a b ≡ a
or-some None b h = cc
or-some (Some k) b h = refl

-- a further table of a name
pub note-there : (ts : List Named) (name n : Name) (root : ℕ) → is_some (place_named ts name) ≡ true →
    place_named ts n ≡ place_named (ts ++ (name, root) ∷ []) n
note-there ts name n root h =
    sym (place-append ts ((name, root) ∷ []) n
    ∙ (elim (same_name name n) as (λ b. same_name name n ≡ b →
    or_else (place_named ts n) (option_map (λ k. length ts + k) (cond b (Some 0) None)) ≡ place_named ts n) [
      | true ↦ λ e. or-some (place_named ts n) _ (ap (λ m. is_some (place_named ts m)) (sym (is-name name n e)) ∙ h)
      | false ↦ λ e. or-none (place_named ts n)
    ]) refl)

-- the first table of a name
pub note-new : (ts : List Named) (name n : Name) (root : ℕ) → place_named ts name ≡ None →
    cond (same_name name n) (Some (length ts)) (place_named ts n) ≡ place_named (ts ++ (name, root) ∷ []) n
note-new ts name n root h =
    sym (place-append ts ((name, root) ∷ []) n
    ∙ (elim (same_name name n) as (λ b. same_name name n ≡ b →
    or_else (place_named ts n) (option_map (λ k. length ts + k) (cond b (Some 0) None)) ≡ cond b (Some (length ts)) (place_named ts n)) [
      | true ↦ λ e. (let none : place_named ts n ≡ None = ap (place_named ts) (sym (is-name name n e)) ∙ h in
          ap (λ o. or_else o (Some (length ts + 0))) none ∙ ap Some (omega arith))
      | false ↦ λ e. or-none (place_named ts n)
    ]) refl)

-- a name that stands from a place on stands from each place before it on
some-tail : (ts : List Named) (n : Name) (p : ℕ) → is_some (place_named (drop p ts) n) ≡ true → is_some (place_named ts n) ≡ true
some-tail ts n zero h = h
some-tail [] n (suc p) h = h
some-tail (t ∷ ts) n (suc p) h =
    elim (same_name t.0 n) as (λ b. is_some (cond b (Some 0) (option_map suc (place_named ts n))) ≡ true)
    [ true ↦ refl | false ↦ some-map (place_named ts n) ∙ some-tail ts n p h ]
  where
    some-map : (o : Option ℕ) → is_some (option_map suc o) ≡ is_some o
    some-map None = refl
    some-map (Some k) = refl

some-drop : (ts : List Named) (n : Name) (at p : ℕ) → at ≤ p → is_some (place_named (drop p ts) n) ≡ true → is_some (place_named (drop at ts) n) ≡ true
some-drop ts n zero p le h = some-tail ts n p h
some-drop [] n (suc at) zero le h = absurd (omega (arith, le))
some-drop [] n (suc at) (suc p) le h = h
some-drop (t ∷ ts) n (suc at) zero le h = absurd (omega (arith, le))
some-drop (t ∷ ts) n (suc at) (suc p) le h = some-drop ts n at p (omega (arith, le)) h

take-len : (ts : List Named) (at : ℕ) → at ≤ length ts → length (take at ts) ≡ at
take-len ts at le = grind (arith, common_steps)

-- where the old place is, if no table before the place is of the name
old-behind : (ts : List Named) (at : ℕ) (name n : Name) → at ≤ length ts →
    old_place ts at name n ≡ or_else (place_named (take at ts) n)
    (option_map (λ k. at + k) (cond (same_name name n) (Some 0) (option_map suc (place_named (drop at ts) n))))
old-behind ts at name n le =
    place-append (take at ts) ((name, 0) ∷ drop at ts) n
    ∙ ap (λ m. or_else (place_named (take at ts) n)
    (option_map (λ k. m + k) (cond (same_name name n) (Some 0) (option_map suc (place_named (drop at ts) n))))) (take-len ts at le)

or-twice : (a b : Option ℕ) → or_else a b ≡ or_else a (or_else a b)
or-twice None b = refl
or-twice (Some k) b = refl

or-three : (a b c : Option ℕ) → or_else a (or_else b c) ≡ or_else (or_else a b) c
or-three None b c = refl
or-three (Some k) b c = refl

pub moved-init : (ts : List Named) (at : ℕ) (name n : Name) (place : ℕ) → at ≤ length ts → length ts ≤ place →
    old_place ts at name n ≡ moved_place ts at name place n
moved-init ts at name n place le past =
    let none : drop place ts ≡ [] = drop_all place ts past in
    let x : Option ℕ = place_named (take at ts) n in
    let o : Option ℕ = old_place ts at name n in
    let twice : o ≡ or_else x o = old-behind ts at name n le ∙ or-twice x _ ∙ ap (or_else x) (sym (old-behind ts at name n le)) in
    twice ∙ ap (λ ys. or_else x (or_else (option_map (λ k. place + k) (place_named ys n)) o)) (sym none)

pub length-named : (tables : List Chains) → length (named tables) ≡ length tables
length-named tables = grind (arith, common_steps)

number-alike : (x y : ℕ) → is_eq (nat_cmp x y) ≡ (x == y)
number-alike x y = grind (arith, nat_tests)

-- names tie where they are the same
pub names-alike : (a b : Name) → is_at (name_cmp a) b ≡ same_name a b
names-alike a b =
    sym (tied_then (nat_cmp a.bits b.bits) (nat_cmp a.depth b.depth)) ∙ ap (λ t. t && is_eq (nat_cmp a.depth b.depth)) (number-alike a.bits b.bits)
    ∙ ap (λ t. a.bits == b.bits && t) (number-alike a.depth b.depth)

pub is-none : (o : Option ℕ) → is_some o ≡ false → o ≡ None
is-none None h = refl
is-none (Some k) h = cc

-- one name's place moves up
from-plus : (at place k : ℕ) → at ≤ place → is_from at (Some (place + k)) ≡ true
from-plus at place k le = grind (arith, nat_tests, le)

from-more : (at place : ℕ) (y o : Option ℕ) → at ≤ place → is_from at o ≡ true → is_from at (or_else (option_map (λ k. place + k) y) o) ≡ true
from-more at place None o le h = h
from-more at place (Some k) o le h = from-plus at place k le

from-old : (at : ℕ) (b : Bool) (z : Option ℕ) → is_some z ≡ true → is_from at (option_map (λ k. at + k) (cond b (Some 0) (option_map suc z))) ≡ true
from-old at true z h = from-plus at at 0 (omega arith)
from-old at false None h = cc
from-old at false (Some k) h = from-plus at at (suc k) (omega arith)

shift-one : (p : ℕ) (y : Option ℕ) → option_map (λ k. suc p + k) y ≡ option_map (λ k. p + k) (option_map suc y)
shift-one p None = refl
shift-one p (Some k) = ap Some (omega arith)

-- the moved name itself
step-same : (at p : ℕ) (x y o : Option ℕ) → at ≤ p → ((q : ℕ) → x ≡ Some q → q < at) → (x ≡ None → is_from at o ≡ true) →
    cond (is_from at (or_else x (or_else (option_map (λ k. suc p + k) y) o))) (Some p) (or_else x (or_else (option_map (λ k. suc p + k) y) o))
    ≡ or_else x (Some p)
step-same at p (Some q) y o le below old = let lt = below q refl in let no : is_from at (Some q) ≡ false = grind (arith, nat_tests, lt) in rw no refl
step-same at p None y o le below old = rw (from-more at (suc p) y o (omega (arith, le)) (old refl)) refl

-- the name's first place is before a place that has not moved, or from it on
take-below : (ts : List Named) (at : ℕ) (n : Name) (q : ℕ) → at ≤ length ts → place_named (take at ts) n ≡ Some q → q < at
take-below ts at n q le h = let lt = place-within (take at ts) n q h in let l = take-len ts at le in omega (arith, lt, l)

front : (x : Option ℕ) (w : Option ℕ) → x ≡ None → or_else x w ≡ w
front x w h = ap (λ o. or_else o w) h

old-from : (ts : List Named) (at : ℕ) (name n : Name) (p : ℕ) → at ≤ p → at ≤ length ts → is_some (place_named (drop p ts) n) ≡ true →
    place_named (take at ts) n ≡ None → is_from at (old_place ts at name n) ≡ true
old-from ts at name n p le within there none =
    ap (is_from at) (old-behind ts at name n within ∙ front (place_named (take at ts) n) _ none)
    ∙ from-old at (same_name name n) (place_named (drop at ts) n) (some-drop ts n at p le there)

pub moved-step : (ts : List Named) (at : ℕ) (name n m : Name) (root p : ℕ) (was : Option ℕ) → at ≤ p → p < length ts →
    drop p ts ≡ (m, root) ∷ drop (suc p) ts → was ≡ moved_place ts at name (suc p) n →
    cond (same_name m n && is_from at was) (Some p) was ≡ moved_place ts at name p n
moved-step ts at name n m root p was le lt split inv =
    let x : Option ℕ = place_named (take at ts) n in
    let y : Option ℕ = place_named (drop (suc p) ts) n in
    let o : Option ℕ = old_place ts at name n in
    let here : place_named (drop p ts) n ≡ cond (same_name m n) (Some 0) (option_map suc y) = ap (λ (rest : List Named). place_named rest n) split in
    let goal : moved_place ts at name p n ≡ or_else x (or_else (option_map (λ k. p + k) (cond (same_name m n) (Some 0) (option_map suc y))) o) =
    ap (λ z. or_else x (or_else (option_map (λ k. p + k) z) o)) here in
    ap (λ w. cond (same_name m n && is_from at w) (Some p) w) inv
    ∙ (elim (same_name m n) as (λ b. place_named (drop p ts) n ≡ cond b (Some 0) (option_map suc y) →
    cond (b && is_from at (or_else x (or_else (option_map (λ k. suc p + k) y) o))) (Some p) (or_else x (or_else (option_map (λ k. suc p + k) y) o))
    ≡ or_else x (or_else (option_map (λ k. p + k) (cond b (Some 0) (option_map suc y))) o)) [
      | true ↦ λ e. step-same at p x y o le (λ q is. take-below ts at n q (omega (arith, le, lt)) is)
          (λ none. old-from ts at name n p le (omega (arith, le, lt)) (ap is_some e) none) ∙ ap (λ k. or_else x (Some k)) (omega arith)
      | false ↦ λ e. ap (λ z. or_else x (or_else z o)) (shift-one p y)
    ]) here ∙ sym goal

-- when all have moved
stands-later : (t : Named) (ts : List Named) (n : Name) (o : Option ℕ) (i : ℕ) → ((k : ℕ) → o ≡ Some k → is_of n (slice_get ts k) ≡ true) →
    option_map suc o ≡ Some i → is_of n (slice_get (t ∷ ts) i) ≡ true
stands-later t ts n None i f e = cc
stands-later t ts n (Some k) i f e = let eq : suc k ≡ i = cc in subst (λ j. is_of n (slice_get (t ∷ ts) j) ≡ true) eq (f k refl)

stands-here : (t : Named) (ts : List Named) (n : Name) (i : ℕ) (b : Bool) → same_name t.0 n ≡ b →
    ((k : ℕ) → place_named ts n ≡ Some k → is_of n (slice_get ts k) ≡ true) → cond b (Some 0) (option_map suc (place_named ts n)) ≡ Some i →
    is_of n (slice_get (t ∷ ts) i) ≡ true
stands-here t ts n i true s f e = let eq : 0 ≡ i = cc in subst (λ j. is_of n (slice_get (t ∷ ts) j) ≡ true) eq s
stands-here t ts n i false s f e = stands-later t ts n (place_named ts n) i f e

pub place-stands : (ts : List Named) (n : Name) (i : ℕ) → place_named ts n ≡ Some i → is_of n (slice_get ts i) ≡ true
place-stands [] n i h = cc
place-stands (t ∷ ts) n i h = stands-here t ts n i (same_name t.0 n) refl (λ k is. place-stands ts n k is) h

pub stands-there : (ts : List Named) (n : Name) (i : ℕ) → is_of n (slice_get ts i) ≡ true → is_some (place_named ts n) ≡ true
stands-there [] n i h = absurd (false≢true h)
stands-there (t ∷ ts) n zero h = ap (λ b. is_some (cond b (Some 0) (option_map suc (place_named ts n)))) h
stands-there (t ∷ ts) n (suc i) h =
    elim (same_name t.0 n) as (λ b. is_some (cond b (Some 0) (option_map suc (place_named ts n))) ≡ true)
    [ true ↦ refl | false ↦ some-map (place_named ts n) ∙ stands-there ts n i h ]
  where
    some-map : (o : Option ℕ) → is_some (option_map suc o) ≡ is_some o
    some-map None = refl
    some-map (Some k) = refl

moved-all : (ts : List Named) (at : ℕ) (name n : Name) → at ≤ length ts → moved_place ts at name at n ≡ or_else (place_named ts n) (old_place ts at name n)
moved-all ts at name n le =
    let x : Option ℕ = place_named (take at ts) n in
    let y : Option ℕ = place_named (drop at ts) n in
    let whole : place_named ts n ≡ or_else x (option_map (λ k. at + k) y) = ap (λ (l : List Named). place_named l n) (sym (take-append-drop at ts))
    ∙ place-append (take at ts) (drop at ts) n ∙ ap (λ m. or_else x (option_map (λ k. m + k) y)) (take-len ts at le) in
    or-three x (option_map (λ k. at + k) y) (old_place ts at name n) ∙ ap (λ o. or_else o (old_place ts at name n)) (sym whole)

none-both : (a b : Option ℕ) → or_else a b ≡ None → (a ≡ None) × (b ≡ None)
none-both None b h = (refl, h)
none-both (Some k) b h = cc

none-map : (o : Option ℕ) (m : ℕ) → option_map (λ k. m + k) o ≡ None → o ≡ None
none-map None m h = refl
none-map (Some k) m h = cc

-- a name that is not there was at no place, unless it is the one that was taken out
old-other : (ts : List Named) (at : ℕ) (name n : Name) → at ≤ length ts → place_named ts n ≡ None → same_name name n ≡ false → old_place ts at name n ≡ None
old-other ts at name n le none other =
    let x : Option ℕ = place_named (take at ts) n in
    let y : Option ℕ = place_named (drop at ts) n in
    let whole : or_else x (option_map (λ k. at + k) y) ≡ None =
    sym (ap (λ (l : List Named). place_named l n) (sym (take-append-drop at ts)) ∙ place-append (take at ts) (drop at ts) n
    ∙ ap (λ m. or_else x (option_map (λ k. m + k) y)) (take-len ts at le)) ∙ none in
    let both = none-both x (option_map (λ k. at + k) y) whole in
    old-behind ts at name n le ∙ front x _ both.0 ∙ ap (λ b. option_map (λ k. at + k) (cond b (Some 0) (option_map suc y))) other
    ∙ ap (λ o. option_map (λ k. at + k) (option_map suc o)) (none-map y at both.1)

end-there : (ts : List Named) (name n : Name) (r : ℕ) (mine its : Option ℕ) → place_named ts n ≡ Some r → its ≡ Some r → (name ≡ n → mine ≡ its) →
    cond (same_name name n && not (stands_at ts name mine)) None its ≡ Some r
end-there ts name n r mine its there e same =
    (elim (same_name name n) as (λ b. same_name name n ≡ b → cond (b && not (stands_at ts name mine)) None its ≡ Some r) [
      | true ↦ λ s. (let eq = is-name name n s in let at : mine ≡ Some r = same eq ∙ e in let st : stands_at ts name mine ≡ true = ap (stands_at ts name) at
          ∙ ap (λ m. is_of m (slice_get ts r)) eq ∙ place-stands ts n r there in rw st e)
      | false ↦ λ s. e
    ]) refl

end-gone : (ts : List Named) (name n : Name) (mine its : Option ℕ) → place_named ts n ≡ None → (same_name name n ≡ false → its ≡ None) →
    cond (same_name name n && not (stands_at ts name mine)) None its ≡ None
end-gone ts name n mine its none other =
    (elim (same_name name n) as (λ b. same_name name n ≡ b → cond (b && not (stands_at ts name mine)) None its ≡ None) [
      | true ↦ λ s. gone mine (is-name name n s)
      | false ↦ λ s. other s
    ]) refl
  where
    gone : (m : Option ℕ) → name ≡ n → cond (not (stands_at ts name m)) None its ≡ None
    gone None eq = refl
    gone (Some j) eq =
        (elim (is_of name (slice_get ts j)) as (λ b. is_of name (slice_get ts j) ≡ b → cond (not b) None its ≡ None) [
          | true ↦ λ st. absurd (false≢true (sym (ap is_some (ap (place_named ts) eq ∙ none)) ∙ stands-there ts name j st))
          | false ↦ λ st. refl
        ]) refl

pub moved-end : (ts : List Named) (at : ℕ) (name n : Name) (mine its : Option ℕ) → at ≤ length ts → mine ≡ moved_place ts at name at name →
    its ≡ moved_place ts at name at n → cond (same_name name n && not (stands_at ts name mine)) None its ≡ place_named ts n
moved-end ts at name n mine its le m i = by-place (place_named ts n) refl
  where
    by-place : (o : Option ℕ) → place_named ts n ≡ o → cond (same_name name n && not (stands_at ts name mine)) None its ≡ place_named ts n
    by-place (Some r) e = end-there ts name n r mine its e (i ∙ moved-all ts at name n le ∙ ap (λ o. or_else o (old_place ts at name n)) e)
        (λ eq. m ∙ ap (moved_place ts at name at) eq ∙ sym i) ∙ sym e
    by-place None e = end-gone ts name n mine its e (λ other. i ∙ moved-all ts at name n le ∙ ap (λ o. or_else o (old_place ts at name n)) e
        ∙ old-other ts at name n le e other) ∙ sym e

pub split-named : (tables : List Chains) (p : ℕ) (t : Chains) → p < length tables → t ≡ get_or tables p t →
    drop p (named tables) ≡ (t.name, t.root) ∷ drop (suc p) (named tables)
split-named [] p t lt e = absurd (omega (arith, lt))
split-named (x ∷ xs) zero t lt e = ap (λ (y : Chains). (y.name, y.root) ∷ named xs) (sym e)
split-named (x ∷ xs) (suc p) t lt e = split-named xs p t (omega (arith, lt)) e

named-more : (tables : List Chains) (t : Chains) → named (tables ++ t ∷ []) ≡ named tables ++ (t.name, t.root) ∷ []
named-more [] t = refl
named-more (x ∷ xs) t = ap (λ (ns : List Named). (x.name, x.root) ∷ ns) (named-more xs t)

pub placed-more : (places : BTreeMap Name ℕ) (tables new : List Chains) (t : Chains) (name : Name) →
    ((root : ℕ) → IsPlaced places (named tables ++ (name, root) ∷ [])) → new ≡ tables ++ t ∷ [] → t.name ≡ name → IsPlaced places (named new)
placed-more places tables new t name h e same =
    subst (IsPlaced places) (sym (ap named e ∙ named-more tables t ∙ ap (λ (m : Name). named tables ++ (m, t.root) ∷ []) same)) (h t.root)

pub placed-kept : (places : BTreeMap Name ℕ) (now was : List Named) → now ≡ was → IsPlaced places was → IsPlaced places now
placed-kept places now was e h = subst (IsPlaced places) (sym e) h

removed-place : (tables : List Chains) (i : ℕ) (t : Chains) (n : Name) → i < length tables → t ≡ get_or tables i t →
    place_named (named tables) n ≡ old_place (named (remove tables i)) i t.name n
removed-place [] i t n lt e = absurd (omega (arith, lt))
removed-place (x ∷ xs) zero t n lt e = ap (λ (y : Chains). cond (same_name y.name n) (Some 0) (option_map suc (place_named (named xs) n))) (sym e)
removed-place (x ∷ xs) (suc i) t n lt e = ap (λ o. cond (same_name x.name n) (Some 0) (option_map suc o)) (removed-place xs i t n (omega (arith, lt)) e)

pub placed-less : (places : BTreeMap Name ℕ) (tables now : List Chains) (i : ℕ) (t : Chains) (name : Name) → IsPlaced places (named tables) →
    now ≡ remove tables i → i < length tables → t ≡ get_or tables i t → t.name ≡ name → (n : Name) →
    tree.get name_cmp places n ≡ old_place (named now) i name n
placed-less places tables now i t name h e lt at same n =
    h n ∙ removed-place tables i t n lt at ∙ ap (λ (ts : List Chains). old_place (named ts) i t.name n) (sym e)
    ∙ ap (λ (m : Name). old_place (named now) i m n) same

prior : (o : Option ℕ) (i : ℕ) → option_map suc o ≡ Some (suc i) → o ≡ Some i
prior None i h = cc
prior (Some k) i h = cc

first-free : (tables : List Chains) (i : ℕ) (name : Name) → place_named (named tables) name ≡ Some i →
    place_named (take i (named (remove tables i))) name ≡ None
first-free [] i name h = cc
first-free (x ∷ xs) zero name h = refl
first-free (x ∷ xs) (suc i) name h =
    (elim (same_name x.name name) as (λ b. cond b (Some 0) (option_map suc (place_named (named xs) name)) ≡ Some (suc i) →
    cond b (Some 0) (option_map suc (place_named (take i (named (remove xs i))) name)) ≡ None) [
      | true ↦ λ e. cc
      | false ↦ λ e. ap (option_map suc) (first-free xs i name (prior (place_named (named xs) name) i e))
    ]) h

pub first-less : (tables now : List Chains) (i : ℕ) (name : Name) → now ≡ remove tables i → place_named (named tables) name ≡ Some i →
    place_named (take i (named now)) name ≡ None
first-less tables now i name e h = ap (λ (ts : List Chains). place_named (take i (named ts)) name) e ∙ first-free tables i name h

removed-long : (tables : List Chains) (i : ℕ) → i < length tables → i ≤ length (remove tables i)
removed-long [] i lt = absurd (omega (arith, lt))
removed-long (x ∷ xs) zero lt = omega arith
removed-long (x ∷ xs) (suc i) lt = let r = removed-long xs i (omega (arith, lt)) in omega (arith, r)

pub long-less : (tables now : List Chains) (i : ℕ) → now ≡ remove tables i → i < length tables → i ≤ length now
long-less tables now i e lt = subst (λ (ts : List Chains). i ≤ length ts) (sym e) (removed-long tables i lt)
