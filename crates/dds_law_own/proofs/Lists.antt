use Rattle.std.proofs.Common.{◌≡◌, ℕ, zero, suc, ◌+◌, ◌<◌, ◌==◌, ◌&&◌, ◌||◌, ◌++◌, Bool, true, false, not, cond, Option, Some, None, List, []}
use Rattle.std.proofs.Common.{◌∷◌, refl, sym, ap, ◌∙◌, subst, arith}
use Rattle.std.proofs.lemmas.Bool.{eq-eqb, eqb-true}
use Rattle.std.proofs.lemmas.Bool.Decides.{nat_tests}
use Rattle.std.specs.FinMap.{empty, get, get-empty, remove}
use Rattle.std.specs.List.{AllByRecursion, list_any}
use Rattle.std.specs.Prelude.{filter, slice_get, if◌then◌else◌}
use Rattle.dds_base.specs.BrickList.{has}
use Rattle.dds_base.specs.Name.{Name}
use Rattle.dds_base.specs.declared.leaf.Leaf.{Leaf}
use Rattle.dds_core.proofs.Lists.{all-is}
use Rattle.dds_locks.specs.First.{without_first}
use Rattle.dds_locks.specs.Leases.{released_all}
use Rattle.dds_locks.specs.declared.leases.Lease.{Lease}
use Rattle.dds_maps.specs.Judge.{put_all}
use Rattle.dds_net.proofs.Pairwise.{Pairwise}
use Rattle.dds_trie.proofs.Cuts.{get-cut, get-with, get-without}
use Rattle.dds_trie.specs.Trie.{LeafMap, cut, is_under, name_cmp, put}

-- What is so of a list's items, and of a map's leaves by the names under which they stand.

-- a list without one
all-first-if : {X : Type 0} (P : X → Type 0) (test : X → Bool) (c : Bool) (x : X) (xs : List X) → P x → AllByRecursion P xs
    → AllByRecursion P (without_first test xs) → AllByRecursion P (if c then xs else x ∷ without_first test xs)
all-first-if P test true x xs h k j = k
all-first-if P test false x xs h k j = (h, j)

pub all-first : {X : Type 0} (P : X → Type 0) (test : X → Bool) (xs : List X) → AllByRecursion P xs → AllByRecursion P (without_first test xs)
all-first P test [] h = tt
all-first P test (x ∷ xs) h = all-first-if P test (test x) x xs h.0 h.1 (all-first P test xs h.1)

pairs-first-if : {X : Type 0} (R : X → X → Type 0) (test : X → Bool) (c : Bool) (x : X) (xs : List X) → AllByRecursion (R x) xs → Pairwise R xs
    → Pairwise R (without_first test xs) → Pairwise R (if c then xs else x ∷ without_first test xs)
pairs-first-if R test true x xs h k j = k
pairs-first-if R test false x xs h k j = (all-first (R x) test xs h, j)

pub pairs-first : {X : Type 0} (R : X → X → Type 0) (test : X → Bool) (xs : List X) → Pairwise R xs → Pairwise R (without_first test xs)
pairs-first R test [] h = tt
pairs-first R test (x ∷ xs) h = pairs-first-if R test (test x) x xs h.0 h.1 (pairs-first R test xs h.1)

all-released-if : (P : Lease → Type 0) (c : Bool) (x : Lease) (xs : List Lease) → P x → AllByRecursion P xs → AllByRecursion P (if c then xs else x ∷ xs)
all-released-if P true x xs h k = k
all-released-if P false x xs h k = (h, k)

pub all-released : (P : Lease → Type 0) (ls : List Lease) (y : ℕ) → AllByRecursion P ls → AllByRecursion P (released_all ls y)
all-released P [] y h = tt
all-released P (l ∷ ls) y h = all-released-if P (l.holder == y) l (released_all ls y) h.0 (all-released P ls y h.1)

others-if : (P : Lease → Type 0) (c : Bool) (x : Lease) (xs : List Lease) (y : ℕ) → (x.holder == y) ≡ c → P x
    → AllByRecursion (λ (l : Lease). P l × ((l.holder == y) ≡ false)) xs
    → AllByRecursion (λ (l : Lease). P l × ((l.holder == y) ≡ false)) (if c then xs else x ∷ xs)
others-if P true x xs y e h k = k
others-if P false x xs y e h k = ((h, e), k)

-- those of other holders
pub others-released : (P : Lease → Type 0) (ls : List Lease) (y : ℕ) → AllByRecursion P ls
    → AllByRecursion (λ (l : Lease). P l × ((l.holder == y) ≡ false)) (released_all ls y)
others-released P [] y h = tt
others-released P (l ∷ ls) y h = others-if P (l.holder == y) l (released_all ls y) y refl h.0 (others-released P ls y h.1)

pairs-released-if : (R : Lease → Lease → Type 0) (c : Bool) (x : Lease) (xs : List Lease) → AllByRecursion (R x) xs → Pairwise R xs
    → Pairwise R (if c then xs else x ∷ xs)
pairs-released-if R true x xs h k = k
pairs-released-if R false x xs h k = (h, k)

pub pairs-released : (R : Lease → Lease → Type 0) (ls : List Lease) (y : ℕ) → Pairwise R ls → Pairwise R (released_all ls y)
pairs-released R [] y h = tt
pairs-released R (l ∷ ls) y h = pairs-released-if R (l.holder == y) l (released_all ls y) (all-released (R l) ls y h.0) (pairs-released R ls y h.1)

pub pair-at : {X : Type 0} (R : X → X → Type 0) (xs : List X) (at also : ℕ) (a b : X) → Pairwise R xs → at < also → slice_get xs at ≡ Some a
    → slice_get xs also ≡ Some b → R a b
pair-at R [] at also a b h lt e f = cc
pair-at R (x ∷ xs) at zero a b h lt e f = absurd (omega (arith, lt))
pair-at R (x ∷ xs) zero (suc also) a b h lt e f = let is : x ≡ a = cc in subst (λ y. R y b) is (all-is (R x) xs also b h.0 f)
pair-at R (x ∷ xs) (suc at) (suc also) a b h lt e f = pair-at R xs at also a b h.1 (omega (arith, lt)) e f

-- a test that no item passes
pub none-passes : {X : Type 0} (test : X → Bool) (xs : List X) → list_any test xs ≡ false → AllByRecursion (λ x. test x ≡ false) xs
none-passes test [] h = tt
none-passes test (x ∷ xs) h = (first (test x) (list_any test xs) h, none-passes test xs (rest (test x) (list_any test xs) h))
  where
    first : (a b : Bool) → (a || b) ≡ false → a ≡ false
    first true b h = h
    first false b h = refl

    rest : (a b : Bool) → (a || b) ≡ false → b ≡ false
    rest true b h = cc
    rest false b h = h

pub passes-none : {X : Type 0} (test : X → Bool) (xs : List X) → AllByRecursion (λ x. test x ≡ false) xs → list_any test xs ≡ false
passes-none test [] h = refl
passes-none test (x ∷ xs) h = ap (λ c. c || list_any test xs) h.0 ∙ passes-none test xs h.1

-- members
pub has-last : (ns : List ℕ) (n : ℕ) → has (ns ++ n ∷ []) n ≡ true
has-last [] n = ap (λ c. c || false) (eq-eqb n n refl)
has-last (x ∷ ns) n = ap (λ c. x == n || c) (has-last ns n) ∙ or-true (x == n)
  where
    or-true : (a : Bool) → (a || true) ≡ true
    or-true true = refl
    or-true false = refl

has-if : (p : ℕ → Bool) (n m : ℕ) (ns : List ℕ) (c : Bool) → (n ≡ m → c ≡ true) → (n == m || has ns m) ≡ true → (has ns m ≡ true → has (filter p ns) m ≡ true)
    → has (if c then n ∷ filter p ns else filter p ns) m ≡ true
has-if p n m ns true k h f = elim (n == m) as (λ t. (t || has ns m) ≡ true → (t || has (filter p ns) m) ≡ true) [ true ↦ λ e. refl | false ↦ f ] h
has-if p n m ns false k h f = f (elim (n == m) as (λ t. (n == m) ≡ t → (t || has ns m) ≡ true → has ns m ≡ true) [
  | true ↦ λ e g. (let no = k (eqb-true n m e) in cc)
  | false ↦ λ e g. g
] refl h)

pub has-kept : (p : ℕ → Bool) (ns : List ℕ) (m : ℕ) → p m ≡ true → has ns m ≡ true → has (filter p ns) m ≡ true
has-kept p [] m k h = h
has-kept p (n ∷ ns) m k h = has-if p n m ns (p n) (λ e. ap p e ∙ k) h (has-kept p ns m k)

-- leaves by the names under which they stand
abbrev pub Each : (Leaf → Type 0) → Option Leaf → Type 0
Each P None = Unit {0}
Each P (Some leaf) = P leaf

pub each-is : (P : Leaf → Type 0) (x : Option Leaf) (leaf : Leaf) → x ≡ Some leaf → Each P x → P leaf
each-is P None leaf e h = cc
each-is P (Some l) leaf e h = let is : l ≡ leaf = cc in subst P is h

abbrev pub ByName : (Name → Leaf → Type 0) → LeafMap → Type 0
ByName P m = (name : Name) → Each (P name) (get m name)

each-if : (P : Leaf → Type 0) (c : Bool) (x y : Option Leaf) → (c ≡ true → Each P x) → Each P y → Each P (cond c x y)
each-if P true x y f k = f refl
each-if P false x y f k = k

pub name-is : (a b : Name) → (a.bits == b.bits && a.depth == b.depth) ≡ true → a ≡ b
name-is a b e =
    let p : (a.bits ≡ b.bits) × (a.depth ≡ b.depth) = parts (a.bits) (b.bits) (a.depth) (b.depth) e in
    λ i. record { bits = p.0 i; depth = p.1 i }
  where
    parts : (x y u v : ℕ) → (x == y && u == v) ≡ true → (x ≡ y) × (u ≡ v)
    parts x y u v e = (grind (arith, nat_tests, e), grind (arith, nat_tests, e))

pub in-put : (P : Name → Leaf → Type 0) (m : LeafMap) (leaf : Leaf) → P leaf.name leaf → ByName P m → ByName P (put m leaf)
in-put P m leaf h k q =
    subst (Each (P q)) (sym (get-with (cut m leaf.name) leaf.name leaf q))
    (each-if (P q) (q.bits == leaf.name.bits && q.depth == leaf.name.depth) (Some leaf) (get (cut m leaf.name) q)
    (λ e. subst (λ n. P n leaf) (sym (name-is q leaf.name e)) h)
    (subst (Each (P q)) (sym (get-cut m leaf.name q)) (each-if (P q) (not (is_under leaf.name q)) (get m q) None (λ e. k q) tt)))

pub in-remove : (P : Name → Leaf → Type 0) (m : LeafMap) (name : Name) → ByName P m → ByName P (remove m name)
in-remove P m name k q =
    subst (Each (P q)) (sym (get-without m name q)) (each-if (P q) (q.bits == name.bits && q.depth == name.depth) None (get m q) (λ e. tt) (k q))

pub in-empty : (P : Name → Leaf → Type 0) → ByName P empty
in-empty P q = subst (Each (P q)) (sym (get-empty name_cmp q)) tt

pub in-all : (P : Name → Leaf → Type 0) (m : LeafMap) (ls : List Leaf) → AllByRecursion (λ (l : Leaf). P l.name l) ls → ByName P m → ByName P (put_all m ls)
in-all P m [] h k = k
in-all P m (l ∷ ls) h k = in-all P (put m l) ls h.1 (in-put P m l h.0 k)
