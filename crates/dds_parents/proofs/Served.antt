use Rattle.std.proofs.Common.{◌≡◌, ℕ, zero, suc, ◌-◌, ◌%◌, ◌^◌, ◌≤◌, ◌==◌, ◌&&◌, ◌⊎◌, inl, inr, Bool, true, false, not, cond, min, Option, Some, None, refl}
use Rattle.std.proofs.Common.{sym, ap, ◌∙◌, subst, arith}
use Rattle.std.proofs.lemmas.Bool.{both_ways, eq-eqb, eqb-true, ne_eqb}
use Rattle.std.proofs.lemmas.Bool.Decides.{nat_tests}
use Rattle.std.specs.FinMap.{get, remove}
use Rattle.std.specs.Prelude.{is_some, if◌then◌else◌}
use Rattle.dds_base.proofs.Names.{mod-mod-le}
use Rattle.dds_base.specs.Name.{Name, covers, overlaps}
use Rattle.dds_base.specs.declared.leaf.Leaf.{Leaf}
use Rattle.dds_base.specs.declared.name.TheConstants.{DEPTH}
use Rattle.dds_brick_rows.specs.Refusal.{is_join}
use Rattle.dds_brick_rows.specs.Take.{high_of, is_low, low_of, replaced}
use Rattle.dds_groups.specs.Leaves.{sibling}
use Rattle.dds_groups.specs.Names.{low_half, other_half}
use Rattle.dds_law_own.proofs.Changes.{served}
use Rattle.dds_law_own.proofs.Disjoint.{Disjoint}
use Rattle.dds_law_own.proofs.Halves.{over-high, over-low, over-other, over-whole}
use Rattle.dds_law_own.proofs.Parted.{OrderParted}
use Rattle.dds_maps.specs.Own.{own_leaf, whole}
use Rattle.dds_orders.proofs.Over.{name-is}
use Rattle.dds_states.specs.Leaf.{leaf_for}
use Rattle.dds_states.specs.declared.brick_state.OpenOrder.{OpenOrder}
use Rattle.dds_states.specs.declared.brick_state.Task.TheVariants.{Join, Split}
use Rattle.dds_trie.proofs.Cuts.{get-cut, get-with, get-without}
use Rattle.dds_trie.proofs.Lookups.{within-more, within-none}
use Rattle.dds_trie.specs.Trie.{LeafMap, cut, is_under, leaf_within, name_at, or_else, put}

-- Which leaf covers a key after a leaf of a map was replaced, and after an order's leaf is served.

-- a leaf of the map covers the key
pub record CoveredBy (m : LeafMap) (key : ℕ) (leaf : Leaf) : Type 0 where
  pub name : Name
  pub there : get m name ≡ Some leaf
  pub over : covers name key ≡ true

self-covers : (key depth : ℕ) → covers (name_at key depth) key ≡ true
self-covers key depth = eq-eqb (key % 2 ^ depth) (key % 2 ^ depth) refl

within-if : (m : LeafMap) (n key : ℕ) (leaf : Leaf) (x y : Option Leaf) → get m (name_at key (suc n)) ≡ x → (y ≡ Some leaf → CoveredBy m key leaf)
    → or_else x y ≡ Some leaf → CoveredBy m key leaf
within-if m n key leaf None y e f h = f h
within-if m n key leaf (Some l) y e f h = record { name = name_at key (suc n); there = e ∙ h; over = self-covers key (suc n) }

covered-within : (m : LeafMap) (n key : ℕ) (leaf : Leaf) → leaf_within m n key ≡ Some leaf → CoveredBy m key leaf
covered-within m zero key leaf h = record { name = name_at key 0; there = sym (within-none m key) ∙ h; over = self-covers key 0 }
covered-within m (suc n) key leaf h =
    within-if m n key leaf (get m (name_at key (suc n))) (leaf_within m n key) refl (covered-within m n key leaf) (sym (within-more m n key) ∙ h)

pub covered-by : (m : LeafMap) (key : ℕ) (leaf : Leaf) → leaf_for m key ≡ Some leaf → CoveredBy m key leaf
covered-by m key leaf h = covered-within m DEPTH key leaf h

-- two names of a key have it in common
pub share-key : (a b : Name) (key : ℕ) → covers a key ≡ true → covers b key ≡ true → overlaps a b ≡ true
share-key a b key h k =
    let j = min a.depth b.depth in
    let ja : j ≤ a.depth = omega arith in
    let jb : j ≤ b.depth = omega arith in
    let first : a.bits % 2 ^ j ≡ key % 2 ^ j =
    ap (λ x. x % 2 ^ j) (sym (eqb-true (key % 2 ^ a.depth) a.bits h)) ∙ mod-mod-le key j a.depth ja in
    let second : b.bits % 2 ^ j ≡ key % 2 ^ j =
    ap (λ x. x % 2 ^ j) (sym (eqb-true (key % 2 ^ b.depth) b.bits k)) ∙ mod-mod-le key j b.depth jb in
    eq-eqb (a.bits % 2 ^ j) (b.bits % 2 ^ j) (first ∙ sym second)

-- so there is one leaf over a key
same-some : (q : Option Leaf) (a b : Leaf) → q ≡ Some a → q ≡ Some b → a ≡ b
same-some q a b e f = let g : Some a ≡ Some b = sym e ∙ f in cc

same-leaf : (m : LeafMap) (n p : Name) (a b : Leaf) → Disjoint m → get m n ≡ Some a → get m p ≡ Some b → overlaps n p ≡ true → a ≡ b
same-leaf m n p a b d e f over =
    let is : n ≡ p = d n p (ap is_some e) (ap is_some f) over in same-some (get m n) a b e (ap (get m) is ∙ f)

-- what is put or removed
put-if : (c u : Bool) (leaf new : Leaf) (x : Option Leaf) → cond c (Some leaf) (cond (not u) x None) ≡ Some new → ((c ≡ true) × (new ≡ leaf)) ⊎ (x ≡ Some new)
put-if true u leaf new x h = inl (refl, same-some (Some leaf) new leaf h refl)
put-if false true leaf new x h = cc
put-if false false leaf new x h = inr h

pub put-is : (m : LeafMap) (leaf new : Leaf) (q : Name) → get (put m leaf) q ≡ Some new → ((q ≡ leaf.name) × (new ≡ leaf)) ⊎ (get m q ≡ Some new)
put-is m leaf new q h =
    let same = q.bits == leaf.name.bits && q.depth == leaf.name.depth in
    let e : get (put m leaf) q ≡ cond same (Some leaf) (cond (not (is_under leaf.name q)) (get m q) None) =
    get-with (cut m leaf.name) leaf.name leaf q ∙ ap (λ x. cond same (Some leaf) x) (get-cut m leaf.name q) in
    elim (put-if same (is_under leaf.name q) leaf new (get m q) (sym e ∙ h)) [ inl k ↦ inl (name-is q leaf.name k.0, k.1) | inr k ↦ inr k ]

left-if : (c : Bool) (x : Option Leaf) (new : Leaf) → cond c None x ≡ Some new → x ≡ Some new
left-if true x new h = cc
left-if false x new h = h

pub left-is : (m : LeafMap) (n q : Name) (new : Leaf) → get (remove m n) q ≡ Some new → get m q ≡ Some new
left-is m n q new h = left-if (q.bits == n.bits && q.depth == n.depth) (get m q) new (sym (get-without m n q) ∙ h)

-- the leaf over a key is as before, or it was this one, and is the other one or the other half's
pub data Became (mine leaf old new : Leaf) : Type 0 where
  stayed : new ≡ old → Became mine leaf old new
  changed : old ≡ mine → record leaf { name = new.name } ≡ new → Became mine leaf old new

-- one of two halves
pub record HalfOf (leaf : Leaf) (q : Name) (new : Leaf) : Type 0 where
  pub same : record leaf { name = new.name } ≡ new
  pub is : (q ≡ leaf.name) ⊎ (q ≡ other_half leaf.name)

half-is : (leaf new : Leaf) (q : Name) (c : Bool) → q ≡ (if c then leaf else sibling leaf).name → new ≡ (if c then leaf else sibling leaf) → HalfOf leaf q new
half-is leaf new q true e f = record { same = subst (λ (l : Leaf). record leaf { name = l.name } ≡ l) (sym f) refl; is = inl e }
half-is leaf new q false e f = record { same = subst (λ (l : Leaf). record leaf { name = l.name } ≡ l) (sym f) refl; is = inr e }

half-of : (leaf new : Leaf) (q : Name) (c : Bool) → q ≡ (if c then sibling leaf else leaf).name → new ≡ (if c then sibling leaf else leaf) → HalfOf leaf q new
half-of leaf new q true e f = half-is leaf new q false e f
half-of leaf new q false e f = half-is leaf new q true e f

pub halves-are : (m : LeafMap) (n : Name) (leaf new : Leaf) (q : Name) → get (put (put (remove m n) (low_of leaf)) (high_of leaf)) q ≡ Some new
    → HalfOf leaf q new ⊎ (get m q ≡ Some new)
halves-are m n leaf new q h = elim (put-is (put (remove m n) (low_of leaf)) (high_of leaf) new q h) [
  | inl k ↦ inl (half-of leaf new q (is_low leaf.name) k.0 k.1)
  | inr k ↦ elim (put-is (remove m n) (low_of leaf) new q k) [
    | inl j ↦ inl (half-is leaf new q (is_low leaf.name) j.0 j.1)
    | inr j ↦ inr (left-is m n q new j)
  ]
]

-- where the replaced leaf stands
mine-if : (m : LeafMap) (mine leaf : Leaf) (x : Option Leaf) (c : Bool) → get m leaf.name ≡ x → (leaf.name.depth == 0) ≡ c
    → or_else x (if c then None else get m (whole leaf.name)) ≡ Some mine
    → (get m leaf.name ≡ Some mine) ⊎ ((get m (whole leaf.name) ≡ Some mine) × ((leaf.name.depth == 0) ≡ false))
mine-if m mine leaf (Some l) c e t h = inl (e ∙ h)
mine-if m mine leaf None true e t h = cc
mine-if m mine leaf None false e t h = inr (h, t)

case-is : (m k : LeafMap) (c d : Bool) (q : Name) (new : Leaf) → c ≡ d → get (if c then m else k) q ≡ Some new → get (if d then m else k) q ≡ Some new
case-is m k c d q new e h = subst (λ b. get (if b then m else k) q ≡ Some new) e h

module _ (m : LeafMap) (d : Disjoint m) (keyed : (n : Name) (l : Leaf) → get m n ≡ Some l → l.name ≡ n) (key : ℕ) (old new : Leaf)
    (before : CoveredBy m key old) where
  -- a leaf that was there
  still : (mine leaf : Leaf) (q : Name) → get m q ≡ Some new → covers q key ≡ true → Became mine leaf old new
  still mine leaf q e h = stayed (same-leaf m q before.name new old d e before.there (share-key q before.name key h before.over))

  pub after-replaced : (mine leaf : Leaf) → own_leaf m leaf.name ≡ Some mine → CoveredBy (replaced m mine leaf) key new → Became mine leaf old new
  after-replaced mine leaf own after = by (mine-if m mine leaf (get m leaf.name) (leaf.name.depth == 0) refl refl own)
    where
      q : Name
      q = after.name

      over : overlaps before.name q ≡ true
      over = share-key before.name q key before.over after.over

      by : (get m leaf.name ≡ Some mine) ⊎ ((get m (whole leaf.name) ≡ Some mine) × ((leaf.name.depth == 0) ≡ false)) → Became mine leaf old new
      by (inl there) =
          let same : (mine.name.depth == leaf.name.depth) ≡ true =
          eq-eqb mine.name.depth leaf.name.depth (ap (λ (n : Name). n.depth) (keyed leaf.name mine there)) in
          let h = case-is (put m leaf) _ (mine.name.depth == leaf.name.depth) true q new same after.there in
          elim (put-is m leaf new q h) [
            | inl k ↦ changed (same-leaf m before.name leaf.name old mine d before.there there (subst (λ n. overlaps before.name n ≡ true) k.0 over))
                (subst (λ (l : Leaf). record leaf { name = l.name } ≡ l) (sym k.1) refl)
            | inr k ↦ still mine leaf q k after.over
          ]
      by (inr there) =
          let is : mine.name.depth ≡ leaf.name.depth - 1 = ap (λ (n : Name). n.depth) (keyed (whole leaf.name) mine there.0) in
          let deep : 1 ≤ leaf.name.depth = grind (arith, nat_tests, there.1) in
          let other : (mine.name.depth == leaf.name.depth) ≡ false =
          ne_eqb mine.name.depth leaf.name.depth (λ e. omega (arith, deep, e, is)) in
          let h = case-is _ (put (put (remove m mine.name) (low_of leaf)) (high_of leaf)) (mine.name.depth == leaf.name.depth) false q new other after.there in
          elim (halves-are m mine.name leaf new q h) [
            | inl k ↦ changed (same-leaf m before.name (whole leaf.name) old mine d before.there there.0 (elim k.is [
              | inl e ↦ over-whole before.name leaf.name (subst (λ n. overlaps before.name n ≡ true) e over)
              | inr e ↦ over-other before.name leaf.name (subst (λ n. overlaps before.name n ≡ true) e over)
            ])) k.same
            | inr k ↦ still mine leaf q k after.over
          ]

  -- an order's leaf: a split's in the place of the order's own; a join's is of keys that the brick doesn't serve
  pub after-split : (o : OpenOrder) (mine made : Leaf) → made.name ≡ low_half o.name → get m o.name ≡ Some mine
      → CoveredBy (served m o made Split) key new → Became mine made old new
  after-split o mine made name there after =
      let q = after.name in
      let over = share-key before.name q key before.over after.over in
      elim (put-is (put (remove m o.name) made) (sibling made) new q after.there) [
        | inl k ↦ changed (same-leaf m before.name o.name old mine d before.there there (over-high before.name o.name
            (subst (λ n. overlaps before.name (other_half n) ≡ true) name (subst (λ n. overlaps before.name n ≡ true) k.0 over))))
            (subst (λ (l : Leaf). record made { name = l.name } ≡ l) (sym k.1) refl)
        | inr k ↦ elim (put-is (remove m o.name) made new q k) [
          | inl j ↦ changed (same-leaf m before.name o.name old mine d before.there there (over-low before.name o.name
              (subst (λ n. overlaps before.name n ≡ true) (j.0 ∙ name) over))) (subst (λ (l : Leaf). record made { name = l.name } ≡ l) (sym j.1) refl)
          | inr j ↦ still mine made q (left-is m o.name q new j) after.over
        ]
      ]

  pub after-join : (o : OpenOrder) (made : Leaf) (via : ℕ) → made.name ≡ o.name → is_join o.task ≡ true → OrderParted m (Some o)
      → CoveredBy (served m o made (Join via)) key new → new ≡ old
  after-join o made via name join parted after =
      let q = after.name in
      let over = share-key before.name q key before.over after.over in
      elim (put-is m made new q after.there) [
        | inl k ↦ absurd (both_ways (is_join o.task)
            (parted before.name (ap is_some before.there) (subst (λ n. overlaps before.name n ≡ true) (k.0 ∙ name) over)).0 join)
        | inr k ↦ same-leaf m q before.name new old d k before.there (share-key q before.name key after.over before.over)
      ]
