use Rattle.std.proofs.Common.{◌≡◌, ℕ, ◌+◌, ◌-◌, ◌^◌, ◌<◌, ◌≤◌, ◌⊎◌, inl, inr, true, false, Option, Some, None, refl, sym, ap, ◌∙◌, subst, arith}
use Rattle.std.proofs.lemmas.Bool.{both_ways}
use Rattle.std.specs.FinMap.{get, keys, remove}
use Rattle.std.specs.List.{list_any}
use Rattle.std.specs.Prelude.{is_some}
use Rattle.dds_base.specs.BrickList.{has}
use Rattle.dds_base.specs.Name.{Name, overlaps}
use Rattle.dds_base.specs.declared.leaf.Leaf.{Leaf}
use Rattle.dds_brick_rows.specs.Refusal.{is_join}
use Rattle.dds_brick_rows.specs.Take.{replaced}
use Rattle.dds_groups.specs.Leaves.{sibling}
use Rattle.dds_groups.specs.Names.{low_half, other_half}
use Rattle.dds_maps.specs.Own.{own_leaf, whole}
use Rattle.dds_states.specs.declared.brick_state.OpenOrder.{OpenOrder}
use Rattle.dds_states.specs.declared.brick_state.Task.{Task}
use Rattle.dds_states.specs.declared.brick_state.Task.TheVariants.{Join, Split}
use Rattle.dds_trie.proofs.Overlaps.{overlaps-any}
use Rattle.dds_trie.specs.Trie.{LeafMap, OverlapsSome, put}
use Rattle.dds_world.specs.Groups as world
use Rattle.dds_law_own.proofs.Changes.{Change, IsNewJoin, IsNewSplit, Own, closes, copies, drops, fixes, gives, installs, joins, learns, makes, pends}
use Rattle.dds_law_own.proofs.Changes.{releases, served, serves, splits, takes, waits}
use Rattle.dds_law_own.proofs.Disjoint.{Covered, Disjoint, Has, Replaces, Stands, before, disjoint-halves, disjoint-put, disjoint-removed, disjoint-replaced}
use Rattle.dds_law_own.proofs.Disjoint.{halved, has-removed, replaces, stands}
use Rattle.dds_law_own.proofs.Halves.{halves-apart, high-few, low-few, over-high, over-low, overlap-sym, overlap-under, whole-few}
use Rattle.dds_law_own.proofs.Lists.{Each, each-is}
use Rattle.dds_law_own.proofs.Owned.{IsOwn, IsOrderly, Named, made_name, orderly, own-kept}

-- No two leaves of a brick overlap. An open join overlaps none of them; what an open split overlaps is its leaf, or lies under it
-- as halves of leaves that it was replaced by.

abbrev pub Below : Name → Name → Type 0
Below w q = (q ≡ w) ⊎ ((w.bits < 2 ^ w.depth) × (w.depth + 1 ≤ q.depth))

abbrev pub OrderParted : LeafMap → Option OpenOrder → Type 0
OrderParted m None = Unit {0}
OrderParted m (Some o) = (q : Name) → Has m q → overlaps q o.name ≡ true → (is_join o.task ≡ false) × Below o.name q

pub record IsParted (x : Own) : Type 0 where
  pub leaves : Disjoint x.leaves
  pub order : OrderParted x.leaves x.order

order-is : (m : LeafMap) (q : Option OpenOrder) (o : OpenOrder) → q ≡ Some o → OrderParted m q → OrderParted m (Some o)
order-is m None o e h = cc
order-is m (Some x) o e h = let is : x ≡ o = cc in subst (λ (y : OpenOrder). OrderParted m (Some y)) is h

-- a leaf is replaced
keyed : (me : ℕ) (x : Own) (mine : Leaf) → IsOwn me x → (n : Name) → get x.leaves n ≡ Some mine → mine.name ≡ n
keyed me x mine h n e = (each-is (Named me n) (get x.leaves n) mine e (h.leaves n)).0

replaced-one : (m : LeafMap) (mine leaf : Leaf) (o : OpenOrder) (n : Name) → OrderParted m (Some o) → overlaps n o.name ≡ true → Stands m mine leaf n
    → (is_join o.task ≡ false) × Below o.name n
replaced-one m mine leaf o n h e (before k) = h n k e
replaced-one m mine leaf o n h e (halved k depth deep up) =
    let w = whole leaf.name in
    let old = h w k (overlap-sym o.name w (up o.name (overlap-sym n o.name e))) in (
      old.0,
      elim old.1 [
        | inl is ↦ (let d : o.name.depth ≡ leaf.name.depth - 1 = ap (λ (i : Name). i.depth) (sym is) in
            inr (subst (λ (i : Name). i.bits < 2 ^ i.depth) is (whole-few leaf.name), omega (arith, d, depth, deep)))
        | inr low ↦ (let below : o.name.depth + 1 ≤ leaf.name.depth - 1 = low.1 in inr (low.0, omega (arith, below, depth, deep)))
      ],
    )

order-replaced : (m : LeafMap) (mine leaf : Leaf) (q : Option OpenOrder) → Replaces m mine leaf → OrderParted m q → OrderParted (replaced m mine leaf) q
order-replaced m mine leaf None r h = tt
order-replaced m mine leaf (Some o) r h = λ n there e. replaced-one m mine leaf o n h e (stands m mine leaf n r there)

replaced-parted : (me : ℕ) (x : Own) (mine leaf : Leaf) → IsOwn me x → IsParted x → own_leaf x.leaves leaf.name ≡ Some mine
    → IsParted (record x { leaves = replaced x.leaves mine leaf })
replaced-parted me x mine leaf h p there =
    let r = replaces x.leaves mine leaf (keyed me x mine h) there in
    record { leaves = disjoint-replaced x.leaves mine leaf p.leaves r; order = order-replaced x.leaves mine leaf x.order r p.order }

-- an order begins
join-parted : (x : Own) (o : OpenOrder) → IsNewJoin x o → OrderParted x.leaves (Some o)
join-parted x o n q there e =
    let some : OverlapsSome x.leaves o.name = record { other = q; bound = there; overlaps = e } in
    let is : true ≡ list_any (λ other. overlaps other o.name) (keys x.leaves) = overlaps-any x.leaves o.name true (λ t. some, λ t. refl) in
    absurd (both_ways (list_any (λ other. overlaps other o.name) (keys x.leaves)) n.apart (sym is))

split-parted : (me : ℕ) (x : Own) (o : OpenOrder) (leaf : Leaf) → IsOwn me x → IsParted x → IsNewSplit x o leaf → OrderParted x.leaves (Some o)
split-parted me x o leaf h p n q there e =
    let at : leaf.name ≡ n.at = keyed me x leaf h n.at n.there in
    let named : Has x.leaves o.name = subst (Has x.leaves) (sym (n.name ∙ at)) (ap is_some n.there) in
    (ap is_join n.task, inl (p.leaves q o.name there named e))

-- an order ends: the halves of a name take the place of what overlapped it
covered : (m : LeafMap) (w n : Name) → ((q : Name) → Has m q → overlaps q w ≡ true → Below w q) → ((q : Name) → overlaps q n ≡ true → overlaps q w ≡ true)
    → (w.bits < 2 ^ w.depth → n.bits < 2 ^ n.depth) → n.depth ≡ w.depth + 1 → Covered (remove m w) n
covered m w n h up few deep q there k =
    let old = has-removed m w q there in
    elim (h q old.0 (up q k)) [
      | inl i ↦ absurd (old.1 i)
      | inr i ↦ (let long = i.1 in overlap-under n q (few i.0) (omega (arith, long, deep)) k)
    ]

halves-parted : (m : LeafMap) (w : Name) (made : Leaf) → made.name ≡ low_half w → Disjoint m
    → ((q : Name) → Has m q → overlaps q w ≡ true → Below w q) → Disjoint (put (put (remove m w) made) (sibling made))
halves-parted m w made is d h =
    let low = covered m w (low_half w) h (λ q k. over-low q w k) (λ f. low-few w f) refl in
    let high = covered m w (other_half (low_half w)) h (λ q k. over-high q w k) (λ f. high-few w f) refl in
    let deep : 1 ≤ w.depth + 1 = omega arith in
    disjoint-halves (remove m w) made (sibling made) (disjoint-removed m w d) (subst (Covered (remove m w)) (sym is) low)
    (subst (λ n. Covered (remove m w) (other_half n)) (sym is) high)
    (subst (λ n. overlaps n (other_half n) ≡ false) (sym is) (halves-apart (low_half w) deep))

served-parted : (m : LeafMap) (o : OpenOrder) (made : Leaf) (t : Task) → o.task ≡ t → made.name ≡ made_name o.name t → Disjoint m → OrderParted m (Some o)
    → Disjoint (served m o made t)
served-parted m o made (Join via) e is d h =
    disjoint-put m made d (λ q there k. absurd (both_ways (is_join o.task) (h q there (subst (λ n. overlaps q n ≡ true) is k)).0 (ap is_join e)))
served-parted m o made Split e is d h = halves-parted m o.name made is d (λ q there k. (h q there k).1)

-- each change
abbrev pub IsBoth : ℕ → Own → Type 0
IsBoth me x = IsOwn me x × IsParted x

parted-kept : (me : ℕ) (x y : Own) → Change x y → IsOwn me x → IsParted x → IsParted y
parted-kept me x _ (takes mine leaf may) h p = replaced-parted me x mine leaf h p may.there
parted-kept me x _ (installs mine leaf from may) h p = replaced-parted me x mine leaf h p may.there
parted-kept me x _ (gives name leaf holder there free unknown) h p = record { leaves = p.leaves; order = p.order }
parted-kept me x _ (releases name holder) h p = record { leaves = p.leaves; order = p.order }
parted-kept me x _ (learns y below ne) h p = record { leaves = p.leaves; order = p.order }
parted-kept me x _ (pends q may) h p = record { leaves = p.leaves; order = p.order }
parted-kept me x _ (drops txn) h p = record { leaves = p.leaves; order = p.order }
parted-kept me x _ (joins o n) h p = record { leaves = p.leaves; order = join-parted x o n }
parted-kept me x _ (splits o leaf n) h p = record { leaves = p.leaves; order = split-parted me x o leaf h p n }
parted-kept me x _ (waits o granted waiting copied e) h p = record { leaves = p.leaves; order = order-is x.leaves x.order o e p.order }
parted-kept me x _ (fixes o leaf asked waiting e may) h p = record { leaves = p.leaves; order = order-is x.leaves x.order o e p.order }
parted-kept me x _ (copies o source e) h p = record { leaves = p.leaves; order = order-is x.leaves x.order o e p.order }
parted-kept me x _ (makes o made waiting e may) h p = record { leaves = p.leaves; order = order-is x.leaves x.order o e p.order }
parted-kept me x _ (closes o e) h p = record { leaves = p.leaves; order = tt }
parted-kept me x _ (serves o made e phase) h p =
    let it : IsOrderly me o = orderly me x.order o e h.order in
    let name = subst (λ i. Each (λ (l : Leaf). (l.name ≡ made_name o.name o.task) × (has l.list me ≡ true)) (world.made_leaf i)) phase it.made in
    record { leaves = served-parted x.leaves o made o.task refl name.0 p.leaves (order-is x.leaves x.order o e p.order); order = tt }

pub both-kept : (me : ℕ) (x y : Own) → Change x y → IsBoth me x → IsBoth me y
both-kept me x y c h = (own-kept me x y c h.0, parted-kept me x y c h.0 h.1)
