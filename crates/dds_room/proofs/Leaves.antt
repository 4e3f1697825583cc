use Rattle.std.proofs.Common.{◌≡◌, ℕ, ◌+◌, ◌%◌, ◌^◌, ◌<◌, ◌≤◌, ◌==◌, min, inl, inr, true, Some, refl, sym, ap, ◌∙◌, subst, arith}
use Rattle.std.proofs.Math.Nat.{mod-eq_of_lt}
use Rattle.std.proofs.lemmas.Bool.{eq-eqb, eqb-true}
use Rattle.std.specs.FinMap.{get, remove}
use Rattle.std.specs.Prelude.{is_some}
use Rattle.dds_base.proofs.Names.{mod-mod-le}
use Rattle.dds_base.specs.Name.{Name, covers, overlaps}
use Rattle.dds_base.specs.declared.leaf.Leaf.{Leaf}
use Rattle.dds_brick_rows.specs.Refusal.{is_join}
use Rattle.dds_groups.specs.Leaves.{sibling}
use Rattle.dds_groups.specs.Names.{low_half, other_half}
use Rattle.dds_law_leaf.proofs.Maps.{each-is}
use Rattle.dds_law_own.proofs.Changes.{own}
use Rattle.dds_law_own.proofs.Disjoint.{Has, Stands, before, halved, has-put, has-removed, replaces, stands}
use Rattle.dds_law_own.proofs.Halves.{over-high, over-low, whole-few}
use Rattle.dds_law_own.proofs.Owned.{made_name}
use Rattle.dds_law_own.proofs.Parted.{IsBoth}
use Rattle.dds_maps.specs.Own.{whole}
use Rattle.dds_orders.proofs.Standing.{keyed}
use Rattle.dds_pairs.proofs.NameKeeps.{keyed-at}
use Rattle.dds_pairs.proofs.Names.{Fit, IsFit}
use Rattle.dds_parents.proofs.SplitLeaves.{SplitsIn}
use Rattle.dds_pending.proofs.Leads.{Leads, ends, installs, rests, splits, takes_it}
use Rattle.dds_pending.proofs.OrderLeaves.{served_as}
use Rattle.dds_script.specs.Ranges.{IsName}
use Rattle.dds_states.specs.declared.brick_state.BrickState.{BrickState}
use Rattle.dds_states.specs.declared.brick_state.OpenOrder.{OpenOrder}
use Rattle.dds_states.specs.declared.brick_state.Task.{Task}
use Rattle.dds_states.specs.declared.brick_state.Task.TheVariants.{Join, Split}
use Rattle.dds_trie.specs.Trie.{LeafMap, put}

-- Each leaf of a brick after a turn lies within one that the brick had, or is the one that its own join made.

pub data From (s : BrickState) (q : Name) : Type 0 where
  within : (top : Name) → Has s.leaves top → ((key : ℕ) → covers q key ≡ true → covers top key ≡ true) → From s q
  joined : (o : OpenOrder) → s.order ≡ Some o → is_join o.task ≡ true → q ≡ o.name → From s q

-- a name that overlaps only what another one does covers no key that that one doesn't
up-covers : (q w : Name) (key : ℕ) → w.depth ≤ q.depth → w.bits < 2 ^ w.depth → ((n : Name) → overlaps n q ≡ true → overlaps n w ≡ true)
    → covers q key ≡ true → covers w key ≡ true
up-covers q w key deep few up over =
    let x : Name = record { bits = key; depth = q.depth } in
    let is : key % 2 ^ q.depth ≡ q.bits = eqb-true (key % 2 ^ q.depth) q.bits over in
    let one : min q.depth q.depth ≡ q.depth = omega arith in
    let two : min q.depth w.depth ≡ w.depth = omega (arith, deep) in
    let self : q.depth ≤ q.depth = omega arith in
    let bits : key % 2 ^ q.depth ≡ q.bits % 2 ^ q.depth =
    sym (mod-mod-le key q.depth q.depth self) ∙ ap (λ i. i % 2 ^ q.depth) is in
    let meets : overlaps x q ≡ true =
    subst (λ j. (key % 2 ^ j == q.bits % 2 ^ j) ≡ true) (sym one) (eq-eqb (key % 2 ^ q.depth) (q.bits % 2 ^ q.depth) bits) in
    let there : (key % 2 ^ w.depth == w.bits % 2 ^ w.depth) ≡ true = subst (λ j. (key % 2 ^ j == w.bits % 2 ^ j) ≡ true) two (up x meets) in
    eq-eqb (key % 2 ^ w.depth) w.bits (eqb-true (key % 2 ^ w.depth) (w.bits % 2 ^ w.depth) there ∙ mod-eq_of_lt few)

from-stands : (s : BrickState) (mine leaf : Leaf) (q : Name) → Stands s.leaves mine leaf q → From s q
from-stands s mine leaf q (before there) = within q there (λ key over. over)
from-stands s mine leaf q (halved there same deep up) =
    within (whole leaf.name) there
    (λ key over. up-covers q (whole leaf.name) key (omega (arith, same)) (whole-few leaf.name) up over)

from-halves : (s : BrickState) (w : Name) (made : Leaf) (q : Name) → made.name ≡ low_half w → Has s.leaves w → w.bits < 2 ^ w.depth
    → Has (put (put (remove s.leaves w) made) (sibling made)) q → From s q
from-halves s w made q is there few h = elim (has-put (put (remove s.leaves w) made) (sibling made) q h) [
  | inl e ↦
      let high : q ≡ other_half (low_half w) = e ∙ ap other_half is in
      let deep : q.depth ≡ w.depth + 1 = ap (λ (n : Name). n.depth) high in
      within w there (λ key over. up-covers q w key (omega (arith, deep)) few (λ n k. over-high n w (subst (λ x. overlaps n x ≡ true) high k)) over)
  | inr i ↦ elim (has-put (remove s.leaves w) made q i.0) [
    | inl e ↦
        let low : q ≡ low_half w = e ∙ is in
        let deep : q.depth ≡ w.depth + 1 = ap (λ (n : Name). n.depth) low in
        within w there (λ key over. up-covers q w key (omega (arith, deep)) few (λ n k. over-low n w (subst (λ x. overlaps n x ≡ true) low k)) over)
    | inr j ↦ (let old = has-removed s.leaves w q j.0 in within q old.0 (λ key over. over))
  ]
]

few-bits : (me : ℕ) (s : BrickState) (name : Name) (leaf : Leaf) → IsBoth me (own s) → Fit s → get s.leaves name ≡ Some leaf → name.bits < 2 ^ name.depth
few-bits me s name leaf both fit there =
    let its : IsName leaf.name = each-is IsFit (get s.leaves name) leaf there (fit.is.0 name) in
    subst (λ (n : Name). n.bits < 2 ^ n.depth) (keyed-at me s both name leaf there) its.bits

from-served : (me : ℕ) (s : BrickState) (o : OpenOrder) (made : Leaf) (t : Task) (q : Name) → o.task ≡ t → s.order ≡ Some o
    → made.name ≡ made_name o.name t → IsBoth me (own s) → Fit s → SplitsIn s.leaves s.order → Has (served_as s.leaves o.name made t) q → From s q
from-served me s o made (Join via) q t e is both fit split h = elim (has-put s.leaves made q h) [
  | inl i ↦ joined o e (ap is_join t) (i ∙ is)
  | inr i ↦ within q i.0 (λ key over. over)
]
from-served me s o made Split q t e is both fit split h =
    let it = split o e (ap is_join t) in
    from-halves s o.name made q is (ap is_some it.there) (few-bits me s o.name it.leaf both fit it.there) h

pub leads-from : (me : ℕ) (s : BrickState) (k : LeafMap) (q : Name) → IsBoth me (own s) → Fit s → SplitsIn s.leaves s.order → Leads s k → Has k q → From s q
leads-from me s k q both fit split (rests e) h = within q (subst (λ m. Has m q) e h) (λ key over. over)
leads-from me s k q both fit split (takes_it mine leaf may e) h =
    from-stands s mine leaf q (stands s.leaves mine leaf q (replaces s.leaves mine leaf (keyed me (own s) mine both.0) may.there) (subst (λ m. Has m q) e h))
leads-from me s k q both fit split (installs mine leaf from may e) h =
    from-stands s mine leaf q (stands s.leaves mine leaf q (replaces s.leaves mine leaf (keyed me (own s) mine both.0) may.there) (subst (λ m. Has m q) e h))
leads-from me s k q both fit split (ends o made there name e) h =
    from-served me s o made o.task q refl there name both fit split (subst (λ m. Has m q) e h)
leads-from me s k q both fit split (splits at leaf made there free name e) h =
    let is : leaf.name ≡ at = keyed-at me s both at leaf there in
    let its : get s.leaves leaf.name ≡ Some leaf = ap (get s.leaves) is ∙ there in
    from-halves s leaf.name made q name (ap is_some its) (few-bits me s leaf.name leaf both fit its) (subst (λ m. Has m q) e h)
