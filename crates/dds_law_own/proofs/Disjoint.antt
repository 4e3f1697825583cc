use Rattle.std.proofs.Common.{◌≡◌, ◌-◌, ◌==◌, ◌&&◌, ◌⊎◌, inl, inr, ◌≤◌, Bool, true, false, not, cond, Option, Some, None, refl, sym, ap, ◌∙◌, subst, arith}
use Rattle.std.proofs.lemmas.Bool.{both_ways, eq-eqb, ne_eqb}
use Rattle.std.proofs.lemmas.Bool.Decides.{nat_tests}
use Rattle.std.specs.FinMap.{get, remove}
use Rattle.std.specs.Prelude.{is_some, if◌then◌else◌}
use Rattle.dds_base.specs.Name.{Name, overlaps}
use Rattle.dds_base.specs.declared.leaf.Leaf.{Leaf}
use Rattle.dds_brick_rows.specs.Take.{high_of, is_low, low_of, replaced}
use Rattle.dds_groups.specs.Leaves.{sibling}
use Rattle.dds_groups.specs.Names.{other_half}
use Rattle.dds_maps.specs.Own.{own_leaf, whole}
use Rattle.dds_trie.proofs.Cuts.{get-cut, get-with, get-without}
use Rattle.dds_trie.specs.Trie.{LeafMap, cut, is_under, or_else, put}
use Rattle.dds_law_own.proofs.Halves.{halves-apart, over-other, over-whole, overlap-sym}
use Rattle.dds_law_own.proofs.Lists.{name-is}

-- A map in which no two leaves' names overlap, as leaves are put into it.

abbrev pub Has : LeafMap → Name → Type 0
Has m q = is_some (get m q) ≡ true

abbrev pub Disjoint : LeafMap → Type 0
Disjoint m = (a b : Name) → Has m a → Has m b → overlaps a b ≡ true → a ≡ b

put-if : (c u : Bool) (leaf : Leaf) (x : Option Leaf) → is_some (cond c (Some leaf) (cond (not u) x None)) ≡ true
    → (c ≡ true) ⊎ ((is_some x ≡ true) × (u ≡ false))
put-if true u leaf x h = inl refl
put-if false true leaf x h = cc
put-if false false leaf x h = inr (h, refl)

pub has-put : (m : LeafMap) (leaf : Leaf) (q : Name) → Has (put m leaf) q → (q ≡ leaf.name) ⊎ (Has m q × (is_under leaf.name q ≡ false))
has-put m leaf q h =
    let same = q.bits == leaf.name.bits && q.depth == leaf.name.depth in
    let e : get (put m leaf) q ≡ cond same (Some leaf) (cond (not (is_under leaf.name q)) (get m q) None) =
    get-with (cut m leaf.name) leaf.name leaf q ∙ ap (λ x. cond same (Some leaf) x) (get-cut m leaf.name q) in
    elim (put-if same (is_under leaf.name q) leaf (get m q) (sym (ap is_some e) ∙ h)) [ inl k ↦ inl (name-is q leaf.name k) | inr k ↦ inr k ]

gone-if : (c : Bool) (x : Option Leaf) → is_some (cond c None x) ≡ true → (is_some x ≡ true) × (c ≡ false)
gone-if true x h = cc
gone-if false x h = (h, refl)

same-self : (q : Name) → (q.bits == q.bits && q.depth == q.depth) ≡ true
same-self q = grind (arith, nat_tests)

pub has-removed : (m : LeafMap) (n q : Name) → Has (remove m n) q → Has m q × (q ≡ n → ⊥)
has-removed m n q h =
    let k = gone-if (q.bits == n.bits && q.depth == n.depth) (get m q) (sym (ap is_some (get-without m n q)) ∙ h) in
    (k.0, λ e. both_ways (q.bits == n.bits && q.depth == n.depth) k.1 (subst (λ x. (q.bits == x.bits && q.depth == x.depth) ≡ true) e (same-self q)))

-- a leaf is put where what overlaps it is replaced
abbrev pub Fits : LeafMap → Name → Type 0
Fits m n = (q : Name) → Has m q → overlaps q n ≡ true → (q ≡ n) ⊎ (is_under n q ≡ true)

fits-is : (m : LeafMap) (n q : Name) → Fits m n → Has m q → is_under n q ≡ false → overlaps q n ≡ true → q ≡ n
fits-is m n q f h out e = elim (f q h e) [ inl k ↦ k | inr k ↦ absurd (both_ways (is_under n q) out k) ]

pub disjoint-put : (m : LeafMap) (leaf : Leaf) → Disjoint m → Fits m leaf.name → Disjoint (put m leaf)
disjoint-put m leaf d f a b ha hb e = elim (has-put m leaf a ha) [
  | inl i ↦ elim (has-put m leaf b hb) [
    | inl j ↦ i ∙ sym j
    | inr j ↦ i ∙ sym (fits-is m leaf.name b f j.0 j.1 (overlap-sym leaf.name b (subst (λ x. overlaps x b ≡ true) i e)))
  ]
  | inr i ↦ elim (has-put m leaf b hb) [
    | inl j ↦ fits-is m leaf.name a f i.0 i.1 (subst (λ x. overlaps a x ≡ true) j e) ∙ sym j
    | inr j ↦ d a b i.0 j.0 e
  ]
]

pub disjoint-removed : (m : LeafMap) (n : Name) → Disjoint m → Disjoint (remove m n)
disjoint-removed m n d a b ha hb e = d a b (has-removed m n a ha).0 (has-removed m n b hb).0 e

-- two halves in the place of what overlapped them
abbrev pub Covered : LeafMap → Name → Type 0
Covered m n = (q : Name) → Has m q → overlaps q n ≡ true → is_under n q ≡ true

pub disjoint-halves : (m : LeafMap) (x y : Leaf) → Disjoint m → Covered m x.name → Covered m y.name → overlaps x.name y.name ≡ false
    → Disjoint (put (put m x) y)
disjoint-halves m x y d cx cy ne =
    disjoint-put (put m x) y (disjoint-put m x d (λ q h e. inr (cx q h e)))
    (λ q h e. elim (has-put m x q h) [
      | inl i ↦ absurd (both_ways (overlaps x.name y.name) ne (subst (λ n. overlaps n y.name ≡ true) i e))
      | inr i ↦ inr (cy q i.0 e)
    ])

-- a leaf that replaces an own one, of the same name or of the name's halves
pub data Replaces (m : LeafMap) (mine leaf : Leaf) : Type 0 where
  same_name : Has m leaf.name → mine.name ≡ leaf.name → Replaces m mine leaf
  half : Has m (whole leaf.name) → mine.name ≡ whole leaf.name → 1 ≤ leaf.name.depth → Replaces m mine leaf

some-is : (x : Option Leaf) (l : Leaf) → x ≡ Some l → is_some x ≡ true
some-is x l e = ap is_some e

replaces-if : (m : LeafMap) (mine leaf : Leaf) (x : Option Leaf) (c : Bool) → ((n : Name) → get m n ≡ Some mine → mine.name ≡ n)
    → get m leaf.name ≡ x → (leaf.name.depth == 0) ≡ c → or_else x (if c then None else get m (whole leaf.name)) ≡ Some mine → Replaces m mine leaf
replaces-if m mine leaf (Some l) c keyed e t h =
    let is : get m leaf.name ≡ Some mine = e ∙ h in same_name (some-is (get m leaf.name) mine is) (keyed leaf.name is)
replaces-if m mine leaf None true keyed e t h = cc
replaces-if m mine leaf None false keyed e t h =
    half (some-is (get m (whole leaf.name)) mine h) (keyed (whole leaf.name) h) (grind (arith, nat_tests, t))

pub replaces : (m : LeafMap) (mine leaf : Leaf) → ((n : Name) → get m n ≡ Some mine → mine.name ≡ n) → own_leaf m leaf.name ≡ Some mine → Replaces m mine leaf
replaces m mine leaf keyed h = replaces-if m mine leaf (get m leaf.name) (leaf.name.depth == 0) keyed refl refl h

-- the map after it
replaced-same : (m : LeafMap) (mine leaf : Leaf) (c : Bool) → c ≡ true → Disjoint (put m leaf)
    → Disjoint (if c then put m leaf else put (put (remove m mine.name) (low_of leaf)) (high_of leaf))
replaced-same m mine leaf true e d = d
replaced-same m mine leaf false e d = cc

replaced-half : (m : LeafMap) (mine leaf : Leaf) (c : Bool) → c ≡ false → Disjoint (put (put (remove m mine.name) (low_of leaf)) (high_of leaf))
    → Disjoint (if c then put m leaf else put (put (remove m mine.name) (low_of leaf)) (high_of leaf))
replaced-half m mine leaf true e d = cc
replaced-half m mine leaf false e d = d

low-apart : (c : Bool) (leaf : Leaf) → overlaps leaf.name (other_half leaf.name) ≡ false
    → overlaps (if c then leaf else sibling leaf).name (if c then sibling leaf else leaf).name ≡ false
low-apart true leaf e = e
low-apart false leaf e = sym-false (overlaps leaf.name (other_half leaf.name)) (overlaps (other_half leaf.name) leaf.name) e
    (overlap-sym (other_half leaf.name) leaf.name)
  where
    sym-false : (x y : Bool) → x ≡ false → (y ≡ true → x ≡ true) → y ≡ false
    sym-false x true e f = sym (f refl) ∙ e
    sym-false x false e f = refl

covered-if : (m : LeafMap) (c : Bool) (x y : Leaf) → Covered m x.name → Covered m y.name → Covered m (if c then x else y).name
covered-if m true x y h k = h
covered-if m false x y h k = k

pub disjoint-replaced : (m : LeafMap) (mine leaf : Leaf) → Disjoint m → Replaces m mine leaf → Disjoint (replaced m mine leaf)
disjoint-replaced m mine leaf d (same_name there is) =
    replaced-same m mine leaf (mine.name.depth == leaf.name.depth) (eq-eqb mine.name.depth leaf.name.depth (ap (λ (n : Name). n.depth) is))
    (disjoint-put m leaf d (λ q h e. inl (d q leaf.name h there e)))
disjoint-replaced m mine leaf d (half there is deep) =
    let w = whole leaf.name in
    let rest = remove m mine.name in
    let none : (q : Name) → Has rest q → overlaps q w ≡ true → ⊥ =
    (λ q h e. let k = has-removed m mine.name q h in k.1 (d q w k.0 there e ∙ sym is)) in
    let mine-is : Covered rest leaf.name = (λ q h e. absurd (none q h (over-whole q leaf.name e))) in
    let other : Covered rest (other_half leaf.name) = (λ q h e. absurd (none q h (over-other q leaf.name e))) in
    let apart : mine.name.depth ≡ leaf.name.depth → ⊥ = (λ e. let k : mine.name.depth ≡ leaf.name.depth - 1 = ap (λ (n : Name). n.depth) is in
    omega (arith, deep, e, k)) in
    replaced-half m mine leaf (mine.name.depth == leaf.name.depth) (ne_eqb mine.name.depth leaf.name.depth apart)
    (disjoint-halves rest (low_of leaf) (high_of leaf) (disjoint-removed m mine.name d)
    (covered-if rest (is_low leaf.name) leaf (sibling leaf) mine-is other) (covered-if rest (is_low leaf.name) (sibling leaf) leaf other mine-is)
    (low-apart (is_low leaf.name) leaf (halves-apart leaf.name deep)))

-- a name that stands after it stood before, or is one of the two halves
pub data Stands (m : LeafMap) (mine leaf : Leaf) (q : Name) : Type 0 where
  before : Has m q → Stands m mine leaf q
  halved : Has m (whole leaf.name) → q.depth ≡ leaf.name.depth → 1 ≤ leaf.name.depth → ((n : Name) → overlaps n q ≡ true → overlaps n (whole leaf.name) ≡ true)
      → Stands m mine leaf q

stands-if : (m : LeafMap) (mine leaf : Leaf) (c : Bool) (q : Name) → (c ≡ true → Has (put m leaf) q → Stands m mine leaf q)
    → (c ≡ false → Has (put (put (remove m mine.name) (low_of leaf)) (high_of leaf)) q → Stands m mine leaf q)
    → Has (if c then put m leaf else put (put (remove m mine.name) (low_of leaf)) (high_of leaf)) q → Stands m mine leaf q
stands-if m mine leaf true q f g h = f refl h
stands-if m mine leaf false q f g h = g refl h

of-half : (m : LeafMap) (mine leaf : Leaf) (c : Bool) (q : Name) → Has m (whole leaf.name) → 1 ≤ leaf.name.depth
    → q ≡ (if c then leaf else sibling leaf).name → Stands m mine leaf q
of-half m mine leaf true q there deep e =
    halved there (ap (λ (n : Name). n.depth) e) deep (λ n k. over-whole n leaf.name (subst (λ x. overlaps n x ≡ true) e k))
of-half m mine leaf false q there deep e =
    halved there (ap (λ (n : Name). n.depth) e) deep (λ n k. over-other n leaf.name (subst (λ x. overlaps n x ≡ true) e k))

flipped : (c : Bool) (leaf : Leaf) (q : Name) → q ≡ (if c then sibling leaf else leaf).name → q ≡ (if not c then leaf else sibling leaf).name
flipped true leaf q e = e
flipped false leaf q e = e

pub stands : (m : LeafMap) (mine leaf : Leaf) (q : Name) → Replaces m mine leaf → Has (replaced m mine leaf) q → Stands m mine leaf q
stands m mine leaf q (same_name there is) h =
    stands-if m mine leaf (mine.name.depth == leaf.name.depth) q
    (λ t k. elim (has-put m leaf q k) [ inl i ↦ before (subst (Has m) (sym i) there) | inr i ↦ before i.0 ])
    (λ t k. absurd (both_ways (mine.name.depth == leaf.name.depth) t (eq-eqb mine.name.depth leaf.name.depth (ap (λ (n : Name). n.depth) is)))) h
stands m mine leaf q (half there is deep) h =
    stands-if m mine leaf (mine.name.depth == leaf.name.depth) q
    (λ t k. elim (has-put m leaf q k) [ inl i ↦ of-half m mine leaf true q there deep i | inr i ↦ before i.0 ])
    (λ t k. elim (has-put (put (remove m mine.name) (low_of leaf)) (high_of leaf) q k) [
      | inl i ↦ of-half m mine leaf (not (is_low leaf.name)) q there deep (flipped (is_low leaf.name) leaf q i)
      | inr i ↦ elim (has-put (remove m mine.name) (low_of leaf) q i.0) [
        | inl j ↦ of-half m mine leaf (is_low leaf.name) q there deep j
        | inr j ↦ before (has-removed m mine.name q j.0).0
      ]
    ]) h
