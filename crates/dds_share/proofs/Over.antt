use Rattle.std.proofs.Common.{◌≡◌, ℕ, ◌%◌, ◌^◌, ◌≤◌, ◌==◌, ◌⊎◌, inl, inr, Bool, true, false, min, Option, Some, None, refl, sym, ap, ◌∙◌, subst}
use Rattle.std.proofs.Common.{arith}
use Rattle.std.proofs.lemmas.Bool.{eq-eqb, eqb-true}
use Rattle.std.specs.FinMap.{get, remove}
use Rattle.std.specs.Prelude.{if◌then◌else◌}
use Rattle.dds_base.proofs.Names.{mod-mod-le}
use Rattle.dds_base.specs.Name.{Name, covers, overlaps}
use Rattle.dds_base.specs.declared.leaf.Leaf.{Leaf}
use Rattle.dds_brick_rows.specs.Take.{high_of, low_of, replaced}
use Rattle.dds_groups.specs.Leaves.{sibling}
use Rattle.dds_groups.specs.Names.{low_half, other_half}
use Rattle.dds_law_own.proofs.Changes.{served}
use Rattle.dds_law_own.proofs.Disjoint.{Disjoint}
use Rattle.dds_law_own.proofs.Halves.{over-high, over-low, over-other, over-whole}
use Rattle.dds_maps.specs.Own.{own_leaf, whole}
use Rattle.dds_orders.proofs.Leased.{In}
use Rattle.dds_orders.proofs.Over.{meets-over}
use Rattle.dds_parents.proofs.Served.{CoveredBy, halves-are, left-is, put-is}
use Rattle.dds_states.specs.declared.brick_state.OpenOrder.{OpenOrder}
use Rattle.dds_states.specs.declared.brick_state.Task.TheVariants.{Join, Split}
use Rattle.dds_trie.specs.Trie.{LeafMap, or_else, put}

-- Leaves over a spot: a spot is a name that is at least as deep as those over it. What changes leaves puts over a spot what was over it,
-- or what came in the place of that.

pub record IsOver (m : LeafMap) (spot : Name) (leaf : Leaf) : Type 0 where
  pub name : Name
  pub there : get m name ≡ Some leaf
  pub over : In name spot

-- names over one spot overlap
pub over-both : (a b spot : Name) → In a spot → In b spot → overlaps a b ≡ true
over-both a b spot h k = meets-over spot a b h.deep h.meets k.meets

same-some : (q : Option Leaf) (a b : Leaf) → q ≡ Some a → q ≡ Some b → a ≡ b
same-some q a b e f = let g : Some a ≡ Some b = sym e ∙ f in cc

-- so of one brick's leaves there is one over a spot
pub one-over : (m : LeafMap) (spot : Name) (a b : Leaf) → Disjoint m → IsOver m spot a → IsOver m spot b → a ≡ b
one-over m spot a b d h k =
    let is : h.name ≡ k.name = d h.name k.name (ap some h.there) (ap some k.there) (over-both h.name k.name spot h.over k.over) in
    same-some (get m h.name) a b h.there (ap (get m) is ∙ k.there)
  where
    some : Option Leaf → Bool
    some None = false
    some (Some l) = true

-- a key is a spot, as deep as one likes
pub in-covers : (n : Name) (key deep : ℕ) → n.depth ≤ deep → covers n key ≡ true → In n (record { bits = key; depth = deep })
in-covers n key deep le h =
    let m : min deep n.depth ≡ n.depth = omega (arith, le) in
    let self : n.depth ≤ n.depth = omega arith in
    let is : key % 2 ^ n.depth ≡ n.bits = eqb-true (key % 2 ^ n.depth) n.bits h in
    let same : key % 2 ^ n.depth ≡ n.bits % 2 ^ n.depth = sym (mod-mod-le key n.depth n.depth self) ∙ ap (λ x. x % 2 ^ n.depth) is in
    record {
      meets = subst (λ i. (key % 2 ^ i == n.bits % 2 ^ i) ≡ true) (sym m) (eq-eqb (key % 2 ^ n.depth) (n.bits % 2 ^ n.depth) same);
      deep = le;
    }

pub covers-over : (m : LeafMap) (key deep : ℕ) (leaf : Leaf) (h : CoveredBy m key leaf) → h.name.depth ≤ deep
    → IsOver m (record { bits = key; depth = deep }) leaf
covers-over m key deep leaf h le = record { name = h.name; there = h.there; over = in-covers h.name key deep le h.over }

-- a leaf is replaced: what is over a spot was over it, or is of the list of the leaf that came in the place of another one
pub data Was (m : LeafMap) (spot : Name) (mine leaf new : Leaf) : Type 0 where
  itself : IsOver m spot new → Was m spot mine leaf new
  in_place : IsOver m spot mine → new.list ≡ leaf.list → Was m spot mine leaf new

own-if : (m : LeafMap) (mine : Leaf) (n : Name) (x : Option Leaf) (c : Bool) → get m n ≡ x → or_else x (if c then None else get m (whole n)) ≡ Some mine
    → (get m n ≡ Some mine) ⊎ (get m (whole n) ≡ Some mine)
own-if m mine n (Some l) c e h = inl (e ∙ h)
own-if m mine n None true e h = cc
own-if m mine n None false e h = inr h

own-at : (m : LeafMap) (mine : Leaf) (n : Name) → own_leaf m n ≡ Some mine → (get m n ≡ Some mine) ⊎ (get m (whole n) ≡ Some mine)
own-at m mine n h = own-if m mine n (get m n) (n.depth == 0) refl h

in-whole : (n spot : Name) → In n spot → In (whole n) spot
in-whole n spot h = let le = h.deep in record { meets = over-whole spot n h.meets; deep = omega (arith, le) }

in-other : (n spot : Name) → In (other_half n) spot → In (whole n) spot
in-other n spot h = let le = h.deep in record { meets = over-other spot n h.meets; deep = omega (arith, le) }

replaced-if : (c : Bool) (m k : LeafMap) (q : Name) (new : Leaf) → get (if c then m else k) q ≡ Some new → (get m q ≡ Some new) ⊎ (get k q ≡ Some new)
replaced-if true m k q new h = inl h
replaced-if false m k q new h = inr h

list-of : (leaf new : Leaf) → record leaf { name = new.name } ≡ new → new.list ≡ leaf.list
list-of leaf new e = sym (ap (λ (l : Leaf). l.list) e)

module _ (m : LeafMap) (keyed : (n : Name) (l : Leaf) → get m n ≡ Some l → l.name ≡ n) (spot : Name) (new : Leaf) where
  stood : (mine leaf : Leaf) (q : Name) → In q spot → get m q ≡ Some new → Was m spot mine leaf new
  stood mine leaf q over there = itself (record { name = q; there = there; over = over })

  in-half : (mine leaf : Leaf) (q n : Name) → get m n ≡ Some mine → In n spot → record leaf { name = new.name } ≡ new → Was m spot mine leaf new
  in-half mine leaf q n there over e = in_place (record { name = n; there = there; over = over }) (list-of leaf new e)

  replaced-put : (mine leaf : Leaf) → (get m leaf.name ≡ Some mine) ⊎ (get m (whole leaf.name) ≡ Some mine) → (h : IsOver (put m leaf) spot new)
      → Was m spot mine leaf new
  replaced-put mine leaf at h = elim (put-is m leaf new h.name h.there) [
    | inl k ↦
        let over : In leaf.name spot = subst (λ n. In n spot) k.0 h.over in
        let same : record leaf { name = new.name } ≡ new = subst (λ (l : Leaf). record leaf { name = l.name } ≡ l) (sym k.1) refl in
        elim at [
          | inl e ↦ in-half mine leaf h.name leaf.name e over same
          | inr e ↦ in-half mine leaf h.name (whole leaf.name) e (in-whole leaf.name spot over) same
        ]
    | inr k ↦ stood mine leaf h.name h.over k
  ]

  replaced-halves : (mine leaf : Leaf) → get m (whole leaf.name) ≡ Some mine
      → (h : IsOver (put (put (remove m mine.name) (low_of leaf)) (high_of leaf)) spot new) → Was m spot mine leaf new
  replaced-halves mine leaf at h = elim (halves-are m mine.name leaf new h.name h.there) [
    | inl k ↦ elim k.is [
      | inl e ↦ in-half mine leaf h.name (whole leaf.name) at (in-whole leaf.name spot (subst (λ n. In n spot) e h.over)) k.same
      | inr e ↦ in-half mine leaf h.name (whole leaf.name) at (in-other leaf.name spot (subst (λ n. In n spot) e h.over)) k.same
    ]
    | inr k ↦ stood mine leaf h.name h.over k
  ]

  replaced-by : (mine leaf : Leaf) (c : Bool) → (mine.name.depth == leaf.name.depth) ≡ c
      → (get m leaf.name ≡ Some mine) ⊎ (get m (whole leaf.name) ≡ Some mine)
      → IsOver (if c then put m leaf else put (put (remove m mine.name) (low_of leaf)) (high_of leaf)) spot new → Was m spot mine leaf new
  replaced-by mine leaf true e at h = replaced-put mine leaf at h
  replaced-by mine leaf false e (inl at) h =
      let same = eq-eqb mine.name.depth leaf.name.depth (ap (λ (n : Name). n.depth) (keyed leaf.name mine at)) in
      let no : true ≡ false = sym same ∙ e in cc
  replaced-by mine leaf false e (inr at) h = replaced-halves mine leaf at h

  pub replaced-was : (mine leaf : Leaf) → own_leaf m leaf.name ≡ Some mine → IsOver (replaced m mine leaf) spot new → Was m spot mine leaf new
  replaced-was mine leaf there h = replaced-by mine leaf (mine.name.depth == leaf.name.depth) refl (own-at m mine leaf.name there) h

  -- an order's leaf is served: a split's in the place of the order's own, a join's where there was none
  pub split-was : (o : OpenOrder) (mine made : Leaf) → made.name ≡ low_half o.name → get m o.name ≡ Some mine → IsOver (served m o made Split) spot new
      → Was m spot mine made new
  split-was o mine made name there h = elim (put-is (put (remove m o.name) made) (sibling made) new h.name h.there) [
    | inl k ↦
        let over : In (other_half (low_half o.name)) spot = subst (λ n. In (other_half n) spot) name (subst (λ n. In n spot) k.0 h.over) in
        let le = over.deep in
        in-half mine made h.name o.name there (record { meets = over-high spot o.name over.meets; deep = omega (arith, le) })
        (subst (λ (l : Leaf). record made { name = l.name } ≡ l) (sym k.1) refl)
    | inr k ↦ elim (put-is (remove m o.name) made new h.name k) [
      | inl j ↦
          let over : In (low_half o.name) spot = subst (λ n. In n spot) (j.0 ∙ name) h.over in
          let le = over.deep in
          in-half mine made h.name o.name there (record { meets = over-low spot o.name over.meets; deep = omega (arith, le) })
          (subst (λ (l : Leaf). record made { name = l.name } ≡ l) (sym j.1) refl)
      | inr j ↦ stood mine made h.name h.over (left-is m o.name h.name new j)
    ]
  ]

  pub join-was : (o : OpenOrder) (made : Leaf) (via : ℕ) → IsOver (served m o made (Join via)) spot new
      → IsOver m spot new ⊎ (In made.name spot × (new ≡ made))
  join-was o made via h = elim (put-is m made new h.name h.there) [
    | inl k ↦ inr (subst (λ n. In n spot) k.0 h.over, k.1)
    | inr k ↦ inl (record { name = h.name; there = k; over = h.over })
  ]
