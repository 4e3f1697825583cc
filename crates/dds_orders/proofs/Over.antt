use Rattle.std.proofs.Common.{◌≡◌, ℕ, ◌-◌, ◌%◌, ◌^◌, ◌<◌, ◌≤◌, ◌==◌, ◌&&◌, ◌⊎◌, inl, inr, Bool, true, false, not, cond, min, Option, Some, None}
use Rattle.std.proofs.Common.{refl, sym, ap, ◌∙◌, subst, arith}
use Rattle.std.proofs.Math.Nat.{mod-eq_of_lt, mod-lt}
use Rattle.std.proofs.lemmas.Nat.{pow_pos}
use Rattle.std.proofs.lemmas.Bool.{and_from, and_parts, both_ways, cases_Bool, cases_lt, eq-eqb, eqb-true, ne_eqb}
use Rattle.std.proofs.lemmas.Bool.Decides.{nat_tests}
use Rattle.std.specs.FinMap.{get, remove}
use Rattle.std.specs.Prelude.{is_some, nat_le, if◌then◌else◌}
use Rattle.dds_base.proofs.Names.{mod-mod-le}
use Rattle.dds_base.specs.Name.{Name, covers, overlaps}
use Rattle.dds_base.specs.declared.leaf.Leaf.{Leaf}
use Rattle.dds_brick_rows.specs.Take.{high_of, is_low, low_of, replaced}
use Rattle.dds_groups.specs.Leaves.{sibling}
use Rattle.dds_groups.specs.Names.{other_half}
use Rattle.dds_law_own.proofs.Disjoint.{Disjoint, Has, Replaces, Stands, before, half, halved, has-put, has-removed, same_name, stands}
use Rattle.dds_law_own.proofs.Halves.{over-other, over-whole, overlap-sym, whole-few}
use Rattle.dds_maps.specs.Own.{whole}
use Rattle.dds_trie.proofs.Cuts.{get-cut, get-with, get-without}
use Rattle.dds_trie.specs.Trie.{LeafMap, cut, is_under, put}

-- A name over leaves of a map: each leaf that has a key in common with it is at least as deep, and there is one. Leaves that are
-- replaced by others of their names, or by both halves, keep it so.

pub record LiesIn (m : LeafMap) (top q : Name) : Type 0 where
  pub there : Has m q
  pub meets : overlaps q top ≡ true
  pub deep : top.depth ≤ q.depth

-- a name is another one, or all its keys are that one's
abbrev pub Within : Name → Name → Type 0
Within top q = (q ≡ top) ⊎ (is_under top q ≡ true)

pub record IsOver (m : LeafMap) (top : Name) : Type 0 where
  pub all : (q : Name) → Has m q → overlaps q top ≡ true → top.depth ≤ q.depth
  pub under : (q : Name) → Has m q → overlaps q top ≡ true → Within top q
  pub one : Name
  pub lies : LiesIn m top one

-- names that overlap
agree : (a b : Name) (j : ℕ) → j ≤ a.depth → j ≤ b.depth → overlaps a b ≡ true → a.bits % 2 ^ j ≡ b.bits % 2 ^ j
agree a b j ja jb h =
    let k = min a.depth b.depth in
    let le : j ≤ k = omega (arith, ja, jb) in
    sym (mod-mod-le a.bits j k le) ∙ ap (λ x. x % 2 ^ j) (eqb-true (a.bits % 2 ^ k) (b.bits % 2 ^ k) h) ∙ mod-mod-le b.bits j k le

agreed : (a b : Name) (j : ℕ) → min a.depth b.depth ≡ j → a.bits % 2 ^ j ≡ b.bits % 2 ^ j → overlaps a b ≡ true
agreed a b j e h = subst (λ i. (a.bits % 2 ^ i == b.bits % 2 ^ i) ≡ true) (sym e) (eq-eqb (a.bits % 2 ^ j) (b.bits % 2 ^ j) h)

pub overlaps-self : (n : Name) → overlaps n n ≡ true
overlaps-self n = eq-eqb _ _ refl

-- what lies in a name overlaps what the name does where that is no deeper than the name, and only that
pub lies-meets : (q top n : Name) → top.depth ≤ q.depth → n.depth ≤ top.depth → overlaps q top ≡ true → overlaps top n ≡ true → overlaps q n ≡ true
lies-meets q top n deep low h k =
    let jq : n.depth ≤ q.depth = omega (arith, deep, low) in
    let jn : n.depth ≤ n.depth = omega arith in
    agreed q n n.depth (omega (arith, jq)) (agree q top n.depth jq low h ∙ agree top n n.depth low jn k)

pub meets-over : (q top n : Name) → top.depth ≤ q.depth → overlaps q top ≡ true → overlaps q n ≡ true → overlaps top n ≡ true
meets-over q top n deep h k =
    let j = min top.depth n.depth in
    let jt : j ≤ top.depth = omega arith in
    let jn : j ≤ n.depth = omega arith in
    let jq : j ≤ q.depth = omega (arith, jt, deep) in
    agreed top n j refl (sym (agree q top j jq jt h) ∙ agree q n j jq jn k)

under-from : (top q : Name) → top.depth ≤ q.depth → q.bits % 2 ^ top.depth ≡ top.bits → is_under top q ≡ true
under-from top q deep e =
    and_from (nat_le top.depth q.depth) (covers top q.bits) (grind (arith, nat_tests, deep)) (eq-eqb (q.bits % 2 ^ top.depth) top.bits e)

-- what lies under a name without more bits than its depth is within what that name is within
within-over : (q w top : Name) → w.bits < 2 ^ w.depth → w.depth ≤ q.depth → overlaps q w ≡ true → Within top w → is_under top q ≡ true
within-over q w top few deep h (inl is) =
    let self : w.depth ≤ w.depth = omega arith in
    subst (λ n. is_under n q ≡ true) is (under-from w q deep (agree q w w.depth deep self h ∙ mod-eq_of_lt few))
within-over q w top few deep h (inr u) =
    let p = and_parts (nat_le top.depth w.depth) (covers top w.bits) u in
    let low : top.depth ≤ w.depth = grind (arith, nat_tests, p.0) in
    let e : w.bits % 2 ^ top.depth ≡ top.bits = eqb-true (w.bits % 2 ^ top.depth) top.bits p.1 in
    let lower : top.depth ≤ q.depth = omega (arith, low, deep) in
    under-from top q lower (agree q w top.depth lower low h ∙ e)

-- a key of a name that is within another one
pub within-covers : (top q : Name) (key : ℕ) → Within top q → covers q key ≡ true → covers top key ≡ true
within-covers top q key (inl is) h = subst (λ n. covers n key ≡ true) is h
within-covers top q key (inr u) h =
    let p = and_parts (nat_le top.depth q.depth) (covers top q.bits) u in
    let low : top.depth ≤ q.depth = grind (arith, nat_tests, p.0) in
    let e : q.bits % 2 ^ top.depth ≡ top.bits = eqb-true (q.bits % 2 ^ top.depth) top.bits p.1 in
    let k : key % 2 ^ q.depth ≡ q.bits = eqb-true (key % 2 ^ q.depth) q.bits h in
    eq-eqb (key % 2 ^ top.depth) top.bits (sym (mod-mod-le key top.depth q.depth low) ∙ ap (λ x. x % 2 ^ top.depth) k ∙ e)

pub under-meets : (top q : Name) → is_under top q ≡ true → overlaps q top ≡ true
under-meets top q h =
    let p = and_parts (nat_le top.depth q.depth) (covers top q.bits) h in
    let deep : top.depth ≤ q.depth = grind (arith, nat_tests, p.0) in
    let e : q.bits % 2 ^ top.depth ≡ top.bits = eqb-true (q.bits % 2 ^ top.depth) top.bits p.1 in
    let self : top.depth ≤ top.depth = omega arith in
    agreed q top top.depth (omega (arith, deep)) (sym (mod-mod-le q.bits top.depth top.depth self) ∙ ap (λ x. x % 2 ^ top.depth) e)

-- which leaves are there after one is put or removed
pub not-under : (top q : Name) → overlaps q top ≡ false → is_under top q ≡ false
not-under top q e = elim (cases_Bool (is_under top q)) [
  | inl h ↦ absurd (both_ways (overlaps q top) e (under-meets top q h))
  | inr h ↦ h
]

pub kept-if : (c u : Bool) (leaf : Leaf) (x : Option Leaf) → u ≡ false → is_some x ≡ true → is_some (cond c (Some leaf) (cond (not u) x None)) ≡ true
kept-if true u leaf x e h = refl
kept-if false true leaf x e h = cc
kept-if false false leaf x e h = h

pub has-with : (m : LeafMap) (leaf : Leaf) (q : Name) (c u : Bool) → (q.bits == leaf.name.bits && q.depth == leaf.name.depth) ≡ c → is_under leaf.name q ≡ u
    → is_some (cond c (Some leaf) (cond (not u) (get m q) None)) ≡ true → Has (put m leaf) q
has-with m leaf q c u e f h =
    ap is_some (get-with (cut m leaf.name) leaf.name leaf q
    ∙ ap (λ x. cond (q.bits == leaf.name.bits && q.depth == leaf.name.depth) (Some leaf) x) (get-cut m leaf.name q)
    ∙ ap (λ t. cond t (Some leaf) (cond (not (is_under leaf.name q)) (get m q) None)) e ∙ ap (λ t. cond c (Some leaf) (cond (not t) (get m q) None)) f) ∙ h

pub has-beside : (m : LeafMap) (leaf : Leaf) (q : Name) → overlaps q leaf.name ≡ false → Has m q → Has (put m leaf) q
has-beside m leaf q e h =
    has-with m leaf q (q.bits == leaf.name.bits && q.depth == leaf.name.depth) (is_under leaf.name q) refl refl
    (kept-if (q.bits == leaf.name.bits && q.depth == leaf.name.depth) (is_under leaf.name q) leaf (get m q) (not-under leaf.name q e) h)

pub has-itself : (m : LeafMap) (leaf : Leaf) → Has (put m leaf) leaf.name
has-itself m leaf = has-with m leaf leaf.name true (is_under leaf.name leaf.name) (grind (arith, nat_tests)) refl refl

has-left-if : (c : Bool) (x : Option Leaf) → c ≡ false → is_some x ≡ true → is_some (cond c None x) ≡ true
has-left-if true x e h = cc
has-left-if false x e h = h

pub name-is : (a b : Name) → (a.bits == b.bits && a.depth == b.depth) ≡ true → a ≡ b
name-is a b e =
    let p = and_parts (a.bits == b.bits) (a.depth == b.depth) e in
    λ i. record { bits = eqb-true a.bits b.bits p.0 i; depth = eqb-true a.depth b.depth p.1 i }

pub has-left : (m : LeafMap) (n q : Name) → (q ≡ n → ⊥) → Has m q → Has (remove m n) q
has-left m n q ne h =
    ap is_some (get-without m n q)
    ∙ has-left-if (q.bits == n.bits && q.depth == n.depth) (get m q) (elim (cases_Bool (q.bits == n.bits && q.depth == n.depth)) [
      | inl e ↦ absurd (ne (name-is q n e))
      | inr e ↦ e
    ]) h

-- a leaf of the same name, or both halves
same-case : (m : LeafMap) (mine leaf : Leaf) (c : Bool) (q : Name) → c ≡ true → Has (put m leaf) q
    → Has (if c then put m leaf else put (put (remove m mine.name) (low_of leaf)) (high_of leaf)) q
same-case m mine leaf true q e h = h
same-case m mine leaf false q e h = cc

half-case : (m : LeafMap) (mine leaf : Leaf) (c : Bool) (q : Name) → c ≡ false → Has (put (put (remove m mine.name) (low_of leaf)) (high_of leaf)) q
    → Has (if c then put m leaf else put (put (remove m mine.name) (low_of leaf)) (high_of leaf)) q
half-case m mine leaf true q e h = cc
half-case m mine leaf false q e h = h

no-half : (c : Bool) (x y : Leaf) (q : Name) → overlaps q x.name ≡ false → overlaps q y.name ≡ false → overlaps q (if c then x else y).name ≡ false
no-half true x y q h k = h
no-half false x y q h k = k

false-if : (a b : Bool) → b ≡ false → (a ≡ true → b ≡ true) → a ≡ false
false-if true b e f = sym (f refl) ∙ e
false-if false b e f = refl

meets-or : (m : LeafMap) (q n : Name) → Disjoint m → Has m q → Has m n → (q ≡ n) ⊎ ((q ≡ n → ⊥) × (overlaps q n ≡ false))
meets-or m q n d h k = elim (cases_Bool (overlaps q n)) [
  | inl e ↦ inl (d q n h k e)
  | inr e ↦ inr (λ is. both_ways (overlaps q n) e (subst (λ x. overlaps q x ≡ true) is (overlaps-self q)), e)
]

deeper-of : (leaf : Leaf) (c : Bool) → (if c then sibling leaf else leaf).name.depth ≡ leaf.name.depth
deeper-of leaf true = refl
deeper-of leaf false = refl

-- the halves have the whole's bits
half-bits : (leaf : Leaf) (c : Bool) → overlaps (if c then sibling leaf else leaf).name (whole leaf.name) ≡ true
half-bits leaf true = over-other (other_half leaf.name) leaf.name (overlaps-self (other_half leaf.name))
half-bits leaf false = over-whole leaf.name leaf.name (overlaps-self leaf.name)

from-stands : (m : LeafMap) (mine leaf : Leaf) (top q : Name) → IsOver m top → overlaps q top ≡ true → Stands m mine leaf q → top.depth ≤ q.depth
from-stands m mine leaf top q h e (before there) = h.all q there e
from-stands m mine leaf top q h e (halved there same deep up) =
    let w = whole leaf.name in
    let low : top.depth ≤ leaf.name.depth - 1 = h.all w there (overlap-sym top w (up top (overlap-sym q top e))) in
    omega (arith, low, same)

under-stands : (m : LeafMap) (mine leaf : Leaf) (top q : Name) → IsOver m top → overlaps q top ≡ true → Stands m mine leaf q → Within top q
under-stands m mine leaf top q h e (before there) = h.under q there e
under-stands m mine leaf top q h e (halved there same deep up) =
    let w = whole leaf.name in
    let within = h.under w there (overlap-sym top w (up top (overlap-sym q top e))) in
    let over : leaf.name.depth - 1 ≤ q.depth = omega (arith, same) in
    inr (within-over q w top (whole-few leaf.name) over (up q (overlaps-self q)) within)

-- where the whole was the one that lies there, its high half does
high-lies : (m : LeafMap) (mine leaf : Leaf) (top : Name) → (mine.name.depth == leaf.name.depth) ≡ false → top.depth ≤ leaf.name.depth - 1
    → overlaps (whole leaf.name) top ≡ true → LiesIn (replaced m mine leaf) top (high_of leaf).name
high-lies m mine leaf top other low e =
    let c = is_low leaf.name in
    let q = (high_of leaf).name in
    let d = deeper-of leaf c in
    let w : overlaps q (whole leaf.name) ≡ true = half-bits leaf c in
    let over : (whole leaf.name).depth ≤ q.depth = omega (arith, d) in
    record {
      there = half-case m mine leaf (mine.name.depth == leaf.name.depth) q other (has-itself (put (remove m mine.name) (low_of leaf)) (high_of leaf));
      meets = lies-meets q (whole leaf.name) top over low w e;
      deep = omega (arith, low, d);
    }

beside-lies : (m : LeafMap) (mine leaf : Leaf) (top q : Name) → (mine.name.depth == leaf.name.depth) ≡ false → (q ≡ mine.name → ⊥)
    → overlaps q (whole leaf.name) ≡ false → LiesIn m top q → LiesIn (replaced m mine leaf) top q
beside-lies m mine leaf top q other ne apart h =
    let one = false-if (overlaps q leaf.name) (overlaps q (whole leaf.name)) apart (over-whole q leaf.name) in
    let two = false-if (overlaps q (other_half leaf.name)) (overlaps q (whole leaf.name)) apart (over-other q leaf.name) in
    record {
      there = half-case m mine leaf (mine.name.depth == leaf.name.depth) q other
          (has-beside (put (remove m mine.name) (low_of leaf)) (high_of leaf) q (no-half (is_low leaf.name) (sibling leaf) leaf q two one)
          (has-beside (remove m mine.name) (low_of leaf) q (no-half (is_low leaf.name) leaf (sibling leaf) q one two) (has-left m mine.name q ne h.there)));
      meets = h.meets;
      deep = h.deep;
    }

-- a leaf that isn't the replaced one stays
pub stays-replaced : (m : LeafMap) (mine leaf : Leaf) (q : Name) → Disjoint m → Replaces m mine leaf → Has m q → (q ≡ mine.name → ⊥)
    → Has (replaced m mine leaf) q
stays-replaced m mine leaf q d (same_name there is) h ne =
    elim (meets-or m q leaf.name d h there) [
      | inl i ↦ absurd (ne (i ∙ sym is))
      | inr i ↦ same-case m mine leaf (mine.name.depth == leaf.name.depth) q (eq-eqb mine.name.depth leaf.name.depth (ap (λ (n : Name). n.depth) is))
          (has-beside m leaf q i.1 h)
    ]
stays-replaced m mine leaf q d (half there is deep) h ne =
    let depth : mine.name.depth ≡ leaf.name.depth - 1 = ap (λ (n : Name). n.depth) is in
    let other = ne_eqb mine.name.depth leaf.name.depth (λ e. omega (arith, deep, e, depth)) in
    let self : q.depth ≤ q.depth = omega arith in
    elim (meets-or m q (whole leaf.name) d h there) [
      | inl i ↦ absurd (ne (i ∙ sym is))
      | inr i ↦ (beside-lies m mine leaf q q other ne i.1 (record { there = h; meets = overlaps-self q; deep = self })).there
    ]

pub over-replaced : (m : LeafMap) (mine leaf : Leaf) (top : Name) → Disjoint m → Replaces m mine leaf → IsOver m top → IsOver (replaced m mine leaf) top
over-replaced m mine leaf top d (same_name there is) h =
    let c = mine.name.depth == leaf.name.depth in
    let same : c ≡ true = eq-eqb mine.name.depth leaf.name.depth (ap (λ (n : Name). n.depth) is) in
    record {
      all = λ q k e. from-stands m mine leaf top q h e (stands m mine leaf q (same_name there is) k);
      under = λ q k e. under-stands m mine leaf top q h e (stands m mine leaf q (same_name there is) k);
      one = h.one;
      lies = record {
        there = elim (meets-or m h.one leaf.name d h.lies.there there) [
          | inl i ↦ same-case m mine leaf c h.one same (subst (Has (put m leaf)) (sym i) (has-itself m leaf))
          | inr i ↦ same-case m mine leaf c h.one same (has-beside m leaf h.one i.1 h.lies.there)
        ];
        meets = h.lies.meets;
        deep = h.lies.deep;
      };
    }
over-replaced m mine leaf top d (half there is deep) h =
    let all = (λ (q : Name) (k : Has (replaced m mine leaf) q) (e : overlaps q top ≡ true).
    from-stands m mine leaf top q h e (stands m mine leaf q (half there is deep) k)) in
    let under = (λ (q : Name) (k : Has (replaced m mine leaf) q) (e : overlaps q top ≡ true).
    under-stands m mine leaf top q h e (stands m mine leaf q (half there is deep) k)) in
    let depth : mine.name.depth ≡ leaf.name.depth - 1 = ap (λ (n : Name). n.depth) is in
    let other = ne_eqb mine.name.depth leaf.name.depth (λ e. omega (arith, deep, e, depth)) in
    elim (meets-or m h.one (whole leaf.name) d h.lies.there there) [
      | inl i ↦
          let low : top.depth ≤ leaf.name.depth - 1 = subst (λ (n : Name). top.depth ≤ n.depth) i h.lies.deep in
          let e : overlaps (whole leaf.name) top ≡ true = subst (λ n. overlaps n top ≡ true) i h.lies.meets in
          record { all = all; under = under; one = (high_of leaf).name; lies = high-lies m mine leaf top other low e }
      | inr i ↦ record { all = all; under = under; one = h.one; lies = beside-lies m mine leaf top h.one other (λ e. i.0 (e ∙ is)) i.1 h.lies }
    ]

-- a leaf by itself
pub over-leaf : (m : LeafMap) (n : Name) → Disjoint m → Has m n → IsOver m n
over-leaf m n d h =
    let self : n.depth ≤ n.depth = omega arith in
    record {
      all = λ q k e. subst (λ (x : Name). n.depth ≤ x.depth) (sym (d q n k h e)) self;
      under = λ q k e. inl (d q n k h e);
      one = n;
      lies = record { there = h; meets = overlaps-self n; deep = self };
    }

-- a leaf comes where no leaf overlaps it: it is within a name that it overlaps
put-deep : (m : LeafMap) (n top : Name) → ((q : Name) → Has m q → overlaps q n ≡ true → ⊥) → IsOver m top → overlaps n top ≡ true → top.depth ≤ n.depth
put-deep m n top none h e = elim (cases_lt n.depth top.depth) [
  | inl lt ↦ absurd (none h.one h.lies.there (lies-meets h.one top n h.lies.deep (omega (arith, lt)) h.lies.meets (overlap-sym n top e)))
  | inr le ↦ le
]

put-within : (m : LeafMap) (leaf : Leaf) (top : Name) → ((q : Name) → Has m q → overlaps q leaf.name ≡ true → ⊥) → IsOver m top
    → overlaps leaf.name top ≡ true → Within top leaf.name
put-within m leaf top none h e = elim (h.under h.one h.lies.there h.lies.meets) [
  | inl is ↦ absurd (none h.one h.lies.there (subst (λ n. overlaps n leaf.name ≡ true) (sym is) (overlap-sym leaf.name top e)))
  | inr u ↦
      let p = and_parts (nat_le top.depth h.one.depth) (covers top h.one.bits) u in
      let k : h.one.bits % 2 ^ top.depth ≡ top.bits = eqb-true (h.one.bits % 2 ^ top.depth) top.bits p.1 in
      let few : top.bits < 2 ^ top.depth = subst (λ x. x < 2 ^ top.depth) k (mod-lt h.one.bits (pow_pos top.depth)) in
      let deep = put-deep m leaf.name top none h e in
      let self : top.depth ≤ top.depth = omega arith in
      inr (under-from top leaf.name deep (agree leaf.name top top.depth deep self e ∙ mod-eq_of_lt few))
]

pub over-put : (m : LeafMap) (leaf : Leaf) (top : Name) → ((q : Name) → Has m q → overlaps q leaf.name ≡ true → ⊥) → IsOver m top → IsOver (put m leaf) top
over-put m leaf top none h =
    let apart = false-of (overlaps h.one leaf.name) (none h.one h.lies.there) in
    record {
      all = λ q k e. elim (has-put m leaf q k) [
        | inl i ↦ elim (cases_lt leaf.name.depth top.depth) [
          | inl lt ↦ absurd (none h.one h.lies.there
              (lies-meets h.one top leaf.name h.lies.deep (omega (arith, lt)) h.lies.meets
              (overlap-sym leaf.name top (subst (λ n. overlaps n top ≡ true) i e))))
          | inr le ↦ subst (λ (n : Name). top.depth ≤ n.depth) (sym i) le
        ]
        | inr i ↦ h.all q i.0 e
      ];
      under = λ q k e. elim (has-put m leaf q k) [
        | inl i ↦ subst (Within top) (sym i) (put-within m leaf top none h (subst (λ n. overlaps n top ≡ true) i e))
        | inr i ↦ h.under q i.0 e
      ];
      one = h.one;
      lies = record { there = has-beside m leaf h.one apart h.lies.there; meets = h.lies.meets; deep = h.lies.deep };
    }
  where
    false-of : (c : Bool) → (c ≡ true → ⊥) → c ≡ false
    false-of true f = absurd (f refl)
    false-of false f = refl

-- halves take the place of what overlapped their whole, which the name doesn't
pub over-halves : (m : LeafMap) (w : Name) (low high : Leaf) (top : Name) → ((q : Name) → overlaps q low.name ≡ true → overlaps q w ≡ true)
    → ((q : Name) → overlaps q high.name ≡ true → overlaps q w ≡ true) → overlaps top w ≡ false → IsOver m top
    → IsOver (put (put (remove m w) low) high) top
over-halves m w low high top below above apart h =
    let no = (λ (e : overlaps h.one w ≡ true). both_ways (overlaps top w) apart (meets-over h.one top w h.lies.deep h.lies.meets e)) in
    record {
      all = λ q k e. elim (has-put (put (remove m w) low) high q k) [
        | inl i ↦ absurd (both_ways (overlaps top w) apart (above top (overlap-sym high.name top (subst (λ n. overlaps n top ≡ true) i e))))
        | inr i ↦ elim (has-put (remove m w) low q i.0) [
          | inl j ↦ absurd (both_ways (overlaps top w) apart (below top (overlap-sym low.name top (subst (λ n. overlaps n top ≡ true) j e))))
          | inr j ↦ h.all q (has-removed m w q j.0).0 e
        ]
      ];
      under = λ q k e. elim (has-put (put (remove m w) low) high q k) [
        | inl i ↦ absurd (both_ways (overlaps top w) apart (above top (overlap-sym high.name top (subst (λ n. overlaps n top ≡ true) i e))))
        | inr i ↦ elim (has-put (remove m w) low q i.0) [
          | inl j ↦ absurd (both_ways (overlaps top w) apart (below top (overlap-sym low.name top (subst (λ n. overlaps n top ≡ true) j e))))
          | inr j ↦ h.under q (has-removed m w q j.0).0 e
        ]
      ];
      one = h.one;
      lies = record {
        there = has-beside (put (remove m w) low) high h.one (false-of (overlaps h.one high.name) (λ e. no (above h.one e)))
            (has-beside (remove m w) low h.one (false-of (overlaps h.one low.name) (λ e. no (below h.one e)))
            (has-left m w h.one (λ e. no (subst (λ n. overlaps h.one n ≡ true) e (overlaps-self h.one))) h.lies.there));
        meets = h.lies.meets;
        deep = h.lies.deep;
      };
    }
  where
    false-of : (c : Bool) → (c ≡ true → ⊥) → c ≡ false
    false-of true f = absurd (f refl)
    false-of false f = refl
